-- The statements of the operations of document 02 leave no choice (specs/Complete): `drawing_pinned`, `conversion_pinned`, `frame_pinned`,
-- `desk_start_pinned`, `desk_write_pinned`, `desk_read_pinned`, `desk_interrupt_pinned`.
use mathlib.Core.Path.{◌≡◌, sym, ◌∙◌}
use mathlib.Core.Logic.{⊎_elim, ◌↔◌, ◌⊎◌}
use mathlib.Core.List.{List}
use Prim.Native.Nat.{ℕ, ◌<◌}
use native.Mathlib.Omega.{arith}
use native.Mathlib.Decide.{ℕ_discrete}
use native.Mathlib.Nat.{div-add-mod'}
use lib.ListN.{length, set, length-set}
use Rattle.meaning.specs.declared.Letter.{Letter}
use Rattle.session_meaning.specs.declared.Desk.{Desk}
use Rattle.meaning.specs.Accepted.{Accepted}
use Rattle.meaning.specs.Station.{file_states}
use Rattle.c_layout.specs.declared.FlatRefusal.{FlatRefusal}
use Rattle.c_layout.specs.declared.FlatYesNo.{FlatYesNo}
use Rattle.c_layout.specs.declared.FlatFilled.{FlatFilled}
use Rattle.demands.specs.Words.{situation}
use Rattle.demands.specs.Demand1.{requested, refused, Is}
use Rattle.demands.specs.Item01.{NoTrain, DrawingCause, Marked}
use Rattle.file_meaning.specs.Converter.{byte_of}
use Rattle.demands.specs.Item05.{Converts, ConversionCause}
use Rattle.demands.specs.Item10.{Stores, Command}
use Rattle.demands.specs.Complete.{DrawingPinned, ConversionPinned, DeskStartPinned, DeskWritePinned, DeskReadPinned, DeskInterruptPinned, FramePinned}
use Rattle.demands.proofs.Words.{filled_one, says_one}
use Rattle.demands.proofs.Item11.{one_walk}
use Rattle.demands.proofs.OneCause.{is_one, neither_below, file_cause_one, call_cause_one, no_call_cause, short_cause_one, no_short_cause}

-- ---- Item 1
abbrev no_train : List ℕ → ℕ → ℕ → FlatRefusal → Type 0
no_train file i j q = (NoTrain (situation file) i ⊎ NoTrain (situation file) j) × Is q 12 0

no_drawing_cause : (file : List ℕ) (i j : ℕ) (first second : List ℕ) (r : FlatYesNo) (q : FlatRefusal) → Accepted file
    → Marked (situation file) i j first second r → DrawingCause file i j q → ⊥
no_drawing_cause file i j first second r q a m c = no_call_cause file 10 0 (no_train file i j) q a m.none_open (λ w. ⊎_elim m.trains.0 m.trains.1 w.0) c

pub drawing_pinned : DrawingPinned
drawing_pinned file i j first second r r' (requested z (a, m)) (requested z' (b, k)) =
    grind (arith, says_one r.yes r'.yes m.said k.said)
drawing_pinned file i j first second r r' (requested z (a, m)) (refused n c y) = absurd (no_drawing_cause file i j first second r _ a m c)
drawing_pinned file i j first second r r' (refused n c y) (requested z (a, m)) = absurd (no_drawing_cause file i j first second r' _ a m c)
drawing_pinned file i j first second r r' (refused n c y) (refused n' c' y') =
    grind (arith, call_cause_one file 10 0 (no_train file i j) r.refusal r'.refusal (λ w v. is_one w.1 v.1) c c')

-- ---- Item 5
conversion_cause_one : (x : Letter) (file : List ℕ) (room : ℕ) (q q' : FlatRefusal) → ConversionCause x file room q → ConversionCause x file room q' → q ≡ q'
conversion_cause_one x file room q q' c d = grind (arith, file_cause_one file q q', neither_below)

no_conversion_cause : (x : Letter) (file buffer left : List ℕ) (r : FlatFilled) (q : FlatRefusal) → Converts x file buffer left r
    → ConversionCause x file (length buffer) q → ⊥
no_conversion_cause x file buffer left r q w c = grind (arith, length-set file 0 (byte_of x))

converts_one : (x : Letter) (file buffer left left' : List ℕ) (r r' : FlatFilled) → Converts x file buffer left r → Converts x file buffer left' r' → left ≡ left'
converts_one x file buffer left left' r r' w v = filled_one (set file 0 (byte_of x)) buffer left left' w.filled v.filled

pub conversion_pinned : ConversionPinned
conversion_pinned x file buffer (r, left) (r', left') (requested z w) (requested z' v) = grind (arith, converts_one x file buffer left left' r r' w v)
conversion_pinned x file buffer (r, left) (r', left') (requested z w) (refused n c u) = absurd (no_conversion_cause x file buffer left r _ w c)
conversion_pinned x file buffer (r, left) (r', left') (refused n c u) (requested z w) = absurd (no_conversion_cause x file buffer left' r' _ w c)
conversion_pinned x file buffer (r, left) (r', left') (refused n c u) (refused n' c' u') = grind (arith, conversion_cause_one x file (length buffer) r.refusal r'.refusal c c')

-- ---- Item 10
pub desk_start_pinned : DeskStartPinned
desk_start_pinned file r r' (requested z (a, v)) (requested z' (a', w)) =
    grind arith
desk_start_pinned file r r' (requested z (a, v)) (refused n c u) = absurd (c.0 a)
desk_start_pinned file r r' (refused n c u) (requested z (a, v)) = absurd (c.0 a)
desk_start_pinned file r r' (refused n c u) (refused n' c' u') = grind (arith, file_cause_one file r.refusal r'.refusal c.1 c'.1)

stores_one : (at address byte x y z : ℕ) → Stores at address byte x y → Stores at address byte x z → y ≡ z
stores_one at address byte x y z v w = grind (arith, ℕ_discrete address at)

command_one : (d e f : Desk) (address byte : ℕ) → Command d e address byte → Command d f address byte → (e.status ≡ f.status) × (e.element_state ≡ f.element_state)
command_one d e f address byte c k = grind (arith, div-add-mod' e.status 2, div-add-mod' f.status 2)

pub desk_write_pinned : DeskWritePinned
desk_write_pinned d address byte r r' w v = grind (arith, stores_one, command_one)

pub desk_read_pinned : DeskReadPinned
desk_read_pinned d address r r' w v = grind arith

pub desk_interrupt_pinned : DeskInterruptPinned
desk_interrupt_pinned d r r' w v = says_one r r' w v

-- ---- Item 11
pub frame_pinned : FramePinned
frame_pinned file n buffer (q, left) (q', left') (requested z (a, few, v, room)) (requested z' (a', few', w, room')) =
    grind (arith, one_walk (file_states (situation file)) v.frame w.frame v.walk w.walk n, filled_one)
frame_pinned file n buffer (q, left) (q', left') (requested z (a, few, v, room)) (refused k c u) = absurd (no_short_cause file 11 12 (length buffer < (situation file).header.elements) q' a few (λ h. omega (arith, h)) c)
frame_pinned file n buffer (q, left) (q', left') (refused k c u) (requested z (a, few, v, room)) = absurd (no_short_cause file 11 12 (length buffer < (situation file).header.elements) q a few (λ h. omega (arith, h)) c)
frame_pinned file n buffer (q, left) (q', left') (refused k c u) (refused k' c' u') = grind (arith, short_cause_one file 11 12 (length buffer < (situation file).header.elements) q q' c c')
