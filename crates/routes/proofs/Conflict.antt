-- The conflict of two routes as lines come in: what a section more (`conflict_section`) and a W line more (`conflict_want`) add to it, and the
-- byte of two routes by the bit of the later one (`pair_before`, `pair_after`, `pair_self`).
use mathlib.Core.Path.{◌≡◌, refl, sym, ap, ap₂, ◌∙◌}
use mathlib.Core.Bool.{Bool, true, false, not, ◌&&◌, ◌||◌, cond, or_assoc}
use mathlib.Core.List.{List, [], ◌∷◌, ◌++◌}
use mathlib.Mathlib.Data.Bool.Basic.{or_inl, or_inr, and_intro}
use Prim.Native.Nat.{ℕ, ◌+◌, ◌-◌, ◌≤◌, ◌<◌}
use native.Mathlib.Decide.{ℕ_discrete}
use native.Mathlib.Omega.{arith}
use mir.Val.{bool_byte}
use lib.Dec.{eqb}
use lib.ListN.{get_or}
use borrow.Author.Tests.{eq-eqb, ne_eqb}
use Rattle.meaning.specs.Paths.{mem}
use Rattle.route_meaning.specs.Routes.{
  Want,
  Route,
  no_route,
  share_section,
  wanted_else,
  disagree,
  conflict,
  wanted,
  route_at,
  pair_byte,
}
use Rattle.basics.proofs.Tests.{or_swap}
use Rattle.route_meaning.proofs.Conflicts.{byte_symmetric, byte_self}
use Rattle.bits.specs.Bits.{bit}
use Rattle.bits.proofs.Bits.{shift_mask}
use Rattle.routes.specs.declared.RouteWords.{RouteWords}
use Rattle.routes.specs.Sets.{Held, add_section, add_want}

-- ---- one line more
share_more : (xs ys : List ℕ) (a : ℕ) → share_section (xs ++ (a ∷ [])) ys ≡ (mem a ys || share_section xs ys)
share_more [] ys a = refl
share_more (x ∷ xs) ys a = rw (share_more xs ys a) (or_swap (mem x ys) (mem a ys) (share_section xs ys))

disagree_more : (ws vs : List Want) (w : Want) → disagree (ws ++ (w ∷ [])) vs ≡ (wanted_else w.element w.state vs || disagree ws vs)
disagree_more [] vs w = refl
disagree_more (v ∷ ws) vs w =
    rw (disagree_more ws vs w)
    (or_swap (wanted_else v.element v.state vs) (wanted_else w.element w.state vs) (disagree ws vs))

pub conflict_section : (a : ℕ) (r q : Route) → conflict (add_section a r) q ≡ (mem a q.sections || conflict r q)
unfolding conflict
conflict_section a r q = rw (share_more r.sections q.sections a) (or_assoc (mem a q.sections) _ _)

-- Wanted in another of two states.
else_other : (e x : ℕ) (ws : List Want) → 1 ≤ x → x ≤ 2 → ((e y : ℕ) → wanted e y ws ≡ true → (1 ≤ y) × (y ≤ 2))
    → wanted_else e x ws ≡ wanted e (3 - x) ws
else_other e x [] low high two = refl
else_other e x (w ∷ ws) low high two =
    ap₂ ◌||◌ (ap (λ (t : Bool). eqb e w.element && t) (go (ℕ_discrete x w.state)))
    (else_other e x ws low high (λ d y h. two d y (or_inr (eqb d w.element && eqb y w.state) (wanted d y ws) h)))
  where
    is : (1 ≤ w.state) × (w.state ≤ 2)
    is =
        two w.element w.state
        (or_inl (eqb w.element w.element && eqb w.state w.state) (wanted w.element w.state ws)
        (and_intro (eq-eqb w.element w.element refl) (eq-eqb w.state w.state refl)))

    go : Dec (x ≡ w.state) → not (eqb x w.state) ≡ eqb (3 - x) w.state
    go (yes h) = ap not (eq-eqb x w.state h) ∙ sym (ne_eqb (3 - x) w.state (λ z. omega (arith, is.0, is.1, low, high, h, z)))
    go (no h) = ap not (ne_eqb x w.state h) ∙ sym (eq-eqb (3 - x) w.state (omega (arith, is.0, is.1, low, high, h)))

pub conflict_want : (e x : ℕ) (r q : Route) → 1 ≤ x → x ≤ 2 → ((e y : ℕ) → wanted e y q.wants ≡ true → (1 ≤ y) × (y ≤ 2))
    → conflict (add_want e x r) q ≡ (wanted e (3 - x) q.wants || conflict r q)
unfolding conflict
conflict_want e x r q low high two =
    rw (disagree_more r.wants q.wants (record { element = e; state = x }), else_other e x q.wants low high two)
    (or_swap (share_section r.sections q.sections) (wanted e (3 - x) q.wants) (disagree r.wants q.wants))

-- A conflict goes by sections and W lines alone, and a route that has neither has none.
pub conflict_parts : (r r' q q' : Route) → r.sections ≡ r'.sections → r.wants ≡ r'.wants → q.sections ≡ q'.sections → q.wants ≡ q'.wants
    → conflict r q ≡ conflict r' q'
unfolding conflict
conflict_parts r r' q q' a b c d = rw (a, b, c, d)

pub conflict_none : (q : Route) → conflict no_route q ≡ false
unfolding conflict
conflict_none q = refl

-- ---- the byte
pub byte_is : (t : Bool) → bool_byte t ≡ cond t 1 0
byte_is true = refl
byte_is false = refl

module _ {words : RouteWords} {rs : List Route} (held : Held words rs) where
  here : (k : ℕ) → get_or rs k no_route ≡ route_at rs (k + 1)
  here k = let e : k ≡ k + 1 - 1 = omega arith in ap (λ (x : ℕ). get_or rs x no_route) e

  -- Of a route with an earlier one.
  pub pair_before : (a b : ℕ) → b < a → a < 64 → cond (bit (get_or words.conflicts a 0) b) 1 0 ≡ pair_byte rs (a + 1) (b + 1)
  unfolding pair_byte
  pair_before a b low high = rw (ne_eqb (a + 1) (b + 1) (λ z. omega (arith, z, low)), held.conflicts b a low high, here a, here b)

  -- Of one with a later one.
  pub pair_after : (a b : ℕ) → a < b → b < 64 → cond (bit (get_or words.conflicts b 0) a) 1 0 ≡ pair_byte rs (a + 1) (b + 1)
  pair_after a b low high = pair_before b a low high ∙ byte_symmetric rs (b + 1) (a + 1)

  -- Of one with itself.
  pub pair_self : (a b : ℕ) → a ≡ b → 0 ≡ pair_byte rs (a + 1) (b + 1)
  pair_self a b e = rw e (sym (byte_self rs (b + 1)))

-- The ways out of `RouteWords::byte`.
pub ruleset bytes = (shift_mask, byte_is, pair_before, pair_after, pair_self)
