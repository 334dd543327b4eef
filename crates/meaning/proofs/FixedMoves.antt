-- Where each element permits fewer moves in one state than in another, so does the situation (`moves_fewer`).
-- The fixed moves are those that the file's states permit: there an open element permits nothing, and forbids what it stands over. A setting permits
-- these, and what open elements stand over and no element forbids (`fixed_and_open`); so where two trains meet by the fixed moves alone no setting
-- is safe (`none_by_fixed`). Only `moves_fewer` and `fixed_and_open` go by what `moves` is.
use native.Mathlib.Omega.{arith}
use mathlib.Core.Path.{◌≡◌, refl, sym, ap, ap₂, ◌∙◌}
use mathlib.Core.Logic.{⊎_elim}
use mathlib.Core.Bool.{Bool, true, false, not, ◌&&◌, ◌||◌, false≢true}
use mathlib.Core.List.{List, [], ◌∷◌, ◌++◌, map}
use mathlib.Mathlib.Data.Bool.Basic.{or_inl, or_inr, and_intro}
use mathlib.Mathlib.Data.Bool.Basic.{or-eq-false-eq-eq-false-and-eq-false as neither}
use Prim.Native.Nat.{ℕ}
use lib.Dec.{eqb}
use borrow.Author.Tests.{eqb-true}
use Rattle.meaning.specs.declared.Move.{Move}
use Rattle.meaning.specs.declared.Kind.{Kind}
use Rattle.meaning.specs.declared.Element.{Element}
use Rattle.meaning.specs.declared.Situation.{Situation}
use Rattle.meaning.specs.Station.{elements_of, file_states, moves_of, permitted, pairs_over, forbids, forbidden, agreed_moves, moves}
use Rattle.meaning.specs.Verdict.{safe}
use Rattle.meaning.specs.Settings.{keeps, is_setting, safe_settings}
use Rattle.basics.proofs.Tests.{or_cases, and_both}
use Rattle.meaning.proofs.Elements.{open_permits_nothing}
use Rattle.meaning.proofs.Reach.{permitted-append}
use Rattle.meaning.proofs.Agreed.{over, over_cases, agreed_over}
use Rattle.meaning.proofs.Fewer.{Fewer, safe_fewer}
use Rattle.meaning.proofs.Chosen.{none_listed}

-- ---- element by element
-- Each element permits fewer moves in its state of σ than in its state of τ.
abbrev pub EachFewer : List Element → List ℕ → List ℕ → Type 0
EachFewer [] σ τ = Unit {0}
EachFewer (e ∷ es) [] τ = Unit {0}
EachFewer (e ∷ es) (x ∷ σ) [] = ⊥
EachFewer (e ∷ es) (x ∷ σ) (y ∷ τ) = Fewer (moves_of e.kind x) (moves_of e.kind y) × EachFewer es σ τ

append_fewer : (ms ms' ns ns' : List Move) → Fewer ms ms' → Fewer ns ns' → Fewer (ms ++ ns) (ms' ++ ns')
append_fewer ms ms' ns ns' f g a b h = grind (arith, permitted-append)

-- What an element forbids in a state it forbids in one that permits fewer moves.
forbids_more : (k : Kind) (x y a b : ℕ) → Fewer (moves_of k x) (moves_of k y) → forbids k y a b ≡ true → forbids k x a b ≡ true
forbids_more k x y a b f h = grind arith

none_fewer : (es : List Element) (τ : List ℕ) → EachFewer es [] τ
none_fewer [] τ = tt
none_fewer (e ∷ es) τ = tt

open_fewer : (k : Kind) (y : ℕ) → Fewer (moves_of k 0) (moves_of k y)
open_fewer k y a b p = absurd (false≢true (sym (ap (λ (ms : List Move). permitted ms a b) (open_permits_nothing k)) ∙ p))

forbidden_more : (es : List Element) (σ τ : List ℕ) → EachFewer es σ τ → (a b : ℕ) → forbidden es τ a b ≡ true → forbidden es σ a b ≡ true
unfolding forbidden
forbidden_more [] σ τ f a b h = h
forbidden_more (e ∷ es) [] [] f a b h = h
forbidden_more (e ∷ es) [] (y ∷ τ) f a b h =
    ⊎_elim
    (λ p. or_inl (forbids e.kind 0 a b) (forbidden es [] a b) (forbids_more e.kind 0 y a b (open_fewer e.kind y) p))
    (λ p. or_inr (forbids e.kind 0 a b) (forbidden es [] a b) (forbidden_more es [] τ (none_fewer es τ) a b p))
    (or_cases (forbids e.kind y a b) (forbidden es τ a b) h)
forbidden_more (e ∷ es) (x ∷ σ) [] f a b h = absurd f
forbidden_more (e ∷ es) (x ∷ σ) (y ∷ τ) f a b h =
    ⊎_elim
    (λ p. or_inl (forbids e.kind x a b) (forbidden es σ a b) (forbids_more e.kind x y a b f.0 p))
    (λ p. or_inr (forbids e.kind x a b) (forbidden es σ a b) (forbidden_more es σ τ f.1 a b p))
    (or_cases (forbids e.kind y a b) (forbidden es τ a b) h)

agreed_fewer : (es : List Element) (σ τ : List ℕ) → EachFewer es σ τ → Fewer (agreed_moves es σ) (agreed_moves es τ)
agreed_fewer es σ τ f a b p = grind (arith, agreed_over, forbidden_more)

-- Where each element permits fewer moves, the situation does.
pub moves_fewer : (s : Situation) (σ τ : List ℕ) → EachFewer (elements_of s) σ τ → Fewer (moves s σ) (moves s τ)
unfolding moves
moves_fewer s σ τ f = grind (arith, agreed_fewer, append_fewer)

-- ---- fixed and open moves
-- Some open element stands over a pair.
unfoldable pub open_over : List Element → ℕ → ℕ → Bool
open_over [] a b = false
open_over (e ∷ es) a b = (eqb e.state 0 && permitted (pairs_over e.kind) a b) || open_over es a b

open_over_lem : (es : List Element) (a b : ℕ) → open_over es a b ≡ true → over es a b ≡ true
unfolding open_over
open_over_lem [] a b h = h
open_over_lem (e ∷ es) a b h =
    let here = permitted (pairs_over e.kind) a b in
    over_cases e es a b
    ∙ ⊎_elim
    (λ p. or_inl here (over es a b) (and_both (eqb e.state 0) here p).1)
    (λ p. or_inr here (over es a b) (open_over_lem es a b p))
    (or_cases (eqb e.state 0 && here) (open_over es a b) h)

-- In the file's states an open element forbids what it stands over.
open_forbids : (es : List Element) (a b : ℕ) → open_over es a b ≡ true → forbidden es (map (λ (e : Element). e.state) es) a b ≡ true
unfolding open_over forbidden
open_forbids [] a b h = h
open_forbids (e ∷ es) a b h =
    let here = permitted (pairs_over e.kind) a b in
    let rest = forbidden es (map (λ (e : Element). e.state) es) a b in
    ⊎_elim
    (λ p. let w = and_both (eqb e.state 0) here p in
    or_inl (forbids e.kind e.state a b) rest
    (and_intro w.1 (ap (λ (x : ℕ). not (permitted (moves_of e.kind x) a b)) (eqb-true e.state 0 w.0)
    ∙ ap (λ (ms : List Move). not (permitted ms a b)) (open_permits_nothing e.kind))))
    (λ p. or_inr (forbids e.kind e.state a b) rest (open_forbids es a b p))
    (or_cases (eqb e.state 0 && here) (open_over es a b) h)

-- Over any other pair a setting forbids what the file's states forbid.
state_forbids : (k : Kind) (f x a b : ℕ) → keeps f x ≡ true → (eqb f 0 && permitted (pairs_over k) a b) ≡ false → forbids k x a b ≡ forbids k f a b
state_forbids k f x a b h h2 = grind arith

fixed_forbid : (es : List Element) (σ : List ℕ) (a b : ℕ) → is_setting (map (λ (e : Element). e.state) es) σ ≡ true → open_over es a b ≡ false
    → forbidden es σ a b ≡ forbidden es (map (λ (e : Element). e.state) es) a b
unfolding open_over forbidden is_setting
fixed_forbid [] σ a b h none = refl
fixed_forbid (e ∷ es) [] a b h none = absurd (false≢true h)
fixed_forbid (e ∷ es) (x ∷ σ) a b h none =
    let w = and_both (keeps e.state x) (is_setting (map (λ (e : Element). e.state) es) σ) h in
    let n = (neither (eqb e.state 0 && permitted (pairs_over e.kind) a b) (open_over es a b)).0 none in
    ap₂ ◌||◌ (state_forbids e.kind e.state x a b w.0 n.0) (fixed_forbid es σ a b w.1 n.1)

-- Under a setting a move is permitted where it is a fixed one, or an open element stands over it and none forbids it. THE LAW THAT GOES BY WHAT
-- `moves` IS.
pub fixed_and_open : (s : Situation) (σ : List ℕ) (a b : ℕ) → is_setting (file_states s) σ ≡ true
    → permitted (moves s σ) a b
    ≡ (permitted (moves s (file_states s)) a b || (open_over (elements_of s) a b && not (forbidden (elements_of s) σ a b)))
unfolding moves file_states
fixed_and_open s σ a b h = grind (arith, agreed_over, fixed_forbid, open_forbids, open_over_lem, permitted-append)

-- A setting takes no fixed move away.
pub fixed_fewer : (s : Situation) (σ : List ℕ) → is_setting (file_states s) σ ≡ true → Fewer (moves s (file_states s)) (moves s σ)
fixed_fewer s σ h a b p = grind (arith, fixed_and_open)

-- ---- no safe setting
-- Where the fixed moves alone are not safe, no setting is.
pub none_safe : (s : Situation) → safe s (file_states s) ≡ false → (σ : List ℕ) → is_setting (file_states s) σ ≡ true → safe s σ ≡ false
none_safe s d σ h = grind (arith, fixed_fewer, safe_fewer)

-- Where the fixed moves alone are not safe, no safe setting is listed.
pub none_by_fixed : (s : Situation) → safe s (file_states s) ≡ false → safe_settings s ≡ []
none_by_fixed s d = none_listed s (none_safe s d)
