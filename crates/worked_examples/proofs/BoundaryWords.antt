-- Boundaries of words that statements are made of and that do not compute (demands/specs/Words, Demand1, OfVerdict), and the numbers of the causes. All rows are
-- ours.
use Rattle.std.specs.Prelude.{◌≡◌, refl, Result, Err, List, [], ◌∷◌, ◌++◌, ℕ, length, drop}
use native.Mathlib.Omega.{arith}
use Rattle.meaning.specs.declared.Situation.{Situation}
use Rattle.meaning.specs.declared.Refusal.{Refusal}
use Rattle.meaning.specs.declared.Output.{Output}
use Rattle.meaning.specs.File.{refusal}
use Rattle.route_meaning.specs.Routes.{Route}
use Rattle.meaning.specs.Key.{KeyIs}
use Rattle.meaning.specs.declared.Cause.TheVariants as cause
use Rattle.meaning.specs.Refusals.{number_of}
use Rattle.basics.specs.Lists.{Once}
use Rattle.demands.specs.Words.{Filled}
use Rattle.demands.specs.Demand1.{Answer, requested, refused}
use Rattle.demands.specs.Laws.{OneOfEleven}
use Rattle.demands.specs.Item07.{Proper, Describes}
use Rattle.demands.specs.OfVerdict.{Shows}
use Rattle.worked_examples.proofs.Boundary.{◌is◌, Hold}

-- ---- lent memory
-- "Lent memory past what an operation writes keeps its content": two entries of three are written, and there is one list of which that holds.
filled : Filled (1 ∷ 2 ∷ []) (7 ∷ 8 ∷ 9 ∷ []) (1 ∷ 2 ∷ 9 ∷ [])
filled = record { fits = omega arith; is = refl }

filled_only : (l : List ℕ) → Filled (1 ∷ 2 ∷ []) (7 ∷ 8 ∷ 9 ∷ []) l → l ≡ 1 ∷ 2 ∷ 9 ∷ []
filled_only l f = f.is

filled_all : Filled (1 ∷ 2 ∷ []) (7 ∷ 8 ∷ []) (1 ∷ 2 ∷ [])
filled_all = record { fits = omega arith; is = refl }

filled_too_long : (l : List ℕ) → Filled (1 ∷ 2 ∷ []) (7 ∷ []) l → ⊥
filled_too_long l f = grind (arith, f.fits)

-- ---- paths
-- "Neither path has a section twice": no verdict shows 1, 2, 1, wherever it begins.
once : Once {A = ℕ} (1 ∷ 2 ∷ 3 ∷ [])
once = grind arith

not_once : Once {A = ℕ} (1 ∷ 2 ∷ 1 ∷ []) → ⊥
not_once o = grind (arith, o)

twice : (p list : List ℕ) → length p ≡ 3 → 1 ∷ 2 ∷ 1 ∷ [] ≡ p ++ drop (length p) list → Once p → ⊥
twice [] list n e o = grind (arith, n)
twice (a ∷ []) list n e o = grind (arith, n)
twice (a ∷ b ∷ []) list n e o = grind (arith, n)
twice (a ∷ b ∷ c ∷ []) list n e o = grind (arith, e, o)
twice (a ∷ b ∷ c ∷ d ∷ p) list n e o = grind (arith, n)

not_shown_twice : (s : Situation) (σ : List ℕ) (t k : ℕ) (list : List ℕ) → Shows s σ t k 3 list (1 ∷ 2 ∷ 1 ∷ []) → ⊥
not_shown_twice s σ t k list h = twice h.path list h.counted h.filled.is h.once

-- ---- answers
-- An answer asks for what was requested where the number is 0, and only there; for the cause and the memory as it was, where it is not.
record Given : Type 0 where

abbrev Answered : ℕ → Type 0 → Type 0 → Type 0 → Type 0
Answered number = Answer (record { number = number; line = 0 })

requested_0 : Answered 0 Given ⊥ ⊥
requested_0 = requested refl (record {})

refused_1 : Answered 1 ⊥ Given Given
refused_1 = refused (omega arith) (record {}) (record {})

no_refused_0 : Answered 0 ⊥ Given Given → ⊥
no_refused_0 (requested e r) = r
no_refused_0 (refused n c u) = grind (arith, n)

no_requested_1 : Answered 1 Given ⊥ Given → ⊥
no_requested_1 (requested e r) = grind (arith, e)
no_requested_1 (refused n c u) = c

no_unchanged_left_out : Answered 1 Given Given ⊥ → ⊥
no_unchanged_left_out (requested e r) = grind (arith, e)
no_unchanged_left_out (refused n c u) = u

-- "One of eleven numbered refusals with a line number" of the file, here of two lines: 1 and 11 are such, 0 and 12 are not; lines 0 and 2 are, line 3 is not.
abbrev Of : ℕ → ℕ → Type 0
Of number line = OneOfEleven 2 (record { number = number; line = line })

first_and_last : Of 1 0 × Of 11 2
first_and_last = ((omega arith, omega arith, omega arith), (omega arith, omega arith, omega arith))

none_outside : (Of 0 0 → ⊥) × (Of 12 0 → ⊥) × (Of 1 3 → ⊥)
none_outside = (λ w. omega (arith, w.0), λ w. omega (arith, w.1), λ w. omega (arith, w.2))

-- The longest key has a V line and 512 sections in each path, which is 22,550 bytes: a buffer of a byte less is refused, and one of so many is not.
key_refused : (file buffer buffer' : List ℕ) (r : Result Output Refusal) → KeyIs file buffer buffer' r → length buffer ≡ 22549 → r ≡ Err (refusal 9 0)
key_refused file buffer buffer' r k n = (k.too_short (omega (arith, n))).0

key_fits : (file buffer buffer' : List ℕ) (r : Result Output Refusal) → KeyIs file buffer buffer' r → length buffer ≡ 22550 → r ≡ Err (refusal 9 0) → ⊥
key_fits file buffer buffer' r k n e = let (text, _, ok, _) = k.written (omega (arith, n)) in grind (arith, e, ok)

-- ---- routes
-- "0 to 64 routes .., 2 to 32 sections and 0 to 16 turnouts a route" (Item 7): what an accepted route file holds.
route_of_1 : (s : Situation) (r : Route) → Proper s r → length r.sections ≡ 1 → ⊥
route_of_1 s r p n = omega (arith, p.sections, n)

route_of_33 : (s : Situation) (r : Route) → Proper s r → length r.sections ≡ 33 → ⊥
route_of_33 s r p n = omega (arith, p.sections, n)

route_of_17_turnouts : (s : Situation) (r : Route) → Proper s r → length r.wants ≡ 17 → ⊥
route_of_17_turnouts s r p n = omega (arith, p.turnouts, n)

routes_65 : (s : Situation) (file : List ℕ) (rs : List Route) → Describes s file rs → length rs ≡ 65 → ⊥
routes_65 s file rs d n = omega (arith, d.few, n)

-- ---- causes
-- 1 to 8 by "whoever drew the file", 9 to 11 by "whoever calls", then those of 02, in the order in which it gives them.
named : List (ℕ × ℕ)
named =
    (number_of cause.FileLength is 1)
    ∷ (number_of cause.LineForm is 2)
    ∷ (number_of cause.HeaderRange is 3)
    ∷ (number_of cause.LineCount is 4)
    ∷ (number_of cause.SectionRange is 5)
    ∷ (number_of cause.StateRange is 6)
    ∷ (number_of cause.SectionTwice is 7)
    ∷ (number_of cause.PairTwice is 8)
    ∷ (number_of cause.BufferShort is 9)
    ∷ (number_of cause.ElementOpen is 10)
    ∷ (number_of cause.TooManyOpen is 11)
    ∷ (number_of cause.NoTrain is 12)
    ∷ (number_of cause.TrainLong is 13)
    ∷ (number_of cause.RouteLine is 14)
    ∷ (number_of cause.RouteStep is 15)
    ∷ (number_of cause.LogForm is 16)
    ∷ (number_of cause.LogSequence is 17)
    ∷ (number_of cause.MarkRange is 18)
    ∷ (number_of cause.TooManyMarks is 19)
    ∷ (number_of cause.DeskAddress is 20)
    ∷ (number_of cause.PlacementRange is 21)
    ∷ []

named_hold : Hold named
unfolding named
named_hold = refl
