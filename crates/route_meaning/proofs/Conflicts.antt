-- The table of conflicts: `conflict` is what the request says (`conflict_exact`), the byte of a pair is 1 just where two different routes
-- conflict (`byte_exact`), the table is symmetric with zeros on its diagonal, and each byte stands at its place (`table_byte`).
use mathlib.Core.Path.{◌≡◌, refl, sym, ap, ◌∙◌}
use mathlib.Core.Logic.{◌⊎◌, inl, inr, ⊎_elim, ◌↔◌}
use mathlib.Core.Bool.{Bool, true, not, ◌&&◌, cond, false≢true}
use mathlib.Core.List.{List, [], ◌∷◌, ◌++◌}
use mathlib.Mathlib.Data.Bool.Basic.{or_inl, or_inr, and_intro}
use Prim.Native.Nat.{ℕ, ◌+◌, ◌*◌, ◌-◌, ◌/◌, ◌%◌, ◌≤◌, ◌<◌}
use native.Mathlib.Nat.{mul-le-mul_right, suc-mul}
use Rattle.std.proofs.lemmas.Nat.{mod-mul-add}
use native.Mathlib.Omega.{arith}
use lib.Dec.{eqb}
use lib.ListN.{length, get_or, drop, get_or-append}
use lib.Seq.{drop_at}
use borrow.Author.Tests.{eqb-true, eqb-false, eq-eqb, ne_eqb, not-true}
use Rattle.basics.specs.Lists.{In}
use Rattle.meaning.specs.Paths.{mem}
use Rattle.meaning.specs.File.{reading}
use Rattle.route_meaning.specs.Routes.{Want, Route, share_section, wanted_else, disagree, conflict, Shares, Disagree, wanted, route_at, pair_byte, table_of, routes_read, routes_refusal, after_routes}
use Rattle.basics.proofs.Tests.{or_cases, and_both, same_test}
use Rattle.meaning.proofs.Reach.{member}
use Rattle.basics.proofs.Lists.{list_of-length, list_of_get}

-- ---- sections
share-found : (xs ys : List ℕ) → share_section xs ys ≡ true → (a : ℕ) × In a xs × In a ys
share-found [] ys h = absurd (false≢true h)
share-found (x ∷ xs) ys h =
    ⊎_elim (λ e. (x, inl refl, (member x ys).0 e)) (λ e. let w = share-found xs ys e in (w.0, inr w.1, w.2)) (or_cases (mem x ys) (share_section xs ys) h)

found-share : (xs ys : List ℕ) (a : ℕ) → In a xs → In a ys → share_section xs ys ≡ true
found-share [] ys a h k = absurd h
found-share (x ∷ xs) ys a h k = grind (arith, member x ys, found-share xs ys a)

-- ---- W lines
pub wanted_cases : (e x : ℕ) (w : Want) (ws : List Want) → wanted e x (w ∷ ws) ≡ true → ((e ≡ w.element) × (x ≡ w.state)) ⊎ (wanted e x ws ≡ true)
wanted_cases e x w ws h = grind arith

-- Where `wanted_else` passes, some W line of the list wants the element in another state than x.
else_found : (e x : ℕ) (ws : List Want) → wanted_else e x ws ≡ true → (w : Want) × In w ws × (e ≡ w.element) × (x ≡ w.state → ⊥)
else_found e x [] h = absurd (false≢true h)
else_found e x (w ∷ ws) h =
    ⊎_elim
    (λ t.
    let b = and_both (eqb e w.element) (not (eqb x w.state)) t in
    (w, inl refl, eqb-true e w.element b.0, eqb-false x w.state (not-true (eqb x w.state) b.1)))
    (λ t. let r = else_found e x ws t in (r.0, inr r.1, r.2, r.3))
    (or_cases (eqb e w.element && not (eqb x w.state)) (wanted_else e x ws) h)

found_else : (e x : ℕ) (ws : List Want) (w : Want) → In w ws → e ≡ w.element → (x ≡ w.state → ⊥) → wanted_else e x ws ≡ true
found_else e x [] w i p n = absurd i
found_else e x (v ∷ ws) w i p n = grind (arith, found_else e x ws w)

disagree-found : (ws vs : List Want) → disagree ws vs ≡ true
    → (v : Want) × (w : Want) × In v ws × In w vs × (v.element ≡ w.element) × (v.state ≡ w.state → ⊥)
disagree-found [] vs h = absurd (false≢true h)
disagree-found (v ∷ ws) vs h =
    ⊎_elim
    (λ t. let r = else_found v.element v.state vs t in (v, r.0, inl refl, r.1, r.2, r.3))
    (λ t. let r = disagree-found ws vs t in (r.0, r.1, inr r.2, r.3, r.4, r.5))
    (or_cases (wanted_else v.element v.state vs) (disagree ws vs) h)

found-disagree : (ws vs : List Want) (v w : Want) → In v ws → In w vs → v.element ≡ w.element → (v.state ≡ w.state → ⊥) → disagree ws vs ≡ true
found-disagree [] vs v w i j p n = absurd i
found-disagree (u ∷ ws) vs v w i j p n = grind (arith, found_else, found-disagree ws vs v w)

-- ---- conflict
-- "Two different routes conflict exactly when they share a section or some W line of one and some W line of the other want one turnout in
-- different states."
pub conflict_exact : (r q : Route) → (conflict r q ≡ true) ↔ (Shares r q ⊎ Disagree r q)
unfolding conflict
conflict_exact r q = grind (arith, disagree-found, found-disagree, found-share, share-found)

-- A conflict goes both ways.
conflict_back : (r q : Route) → conflict r q ≡ true → conflict q r ≡ true
conflict_back r q h = grind (arith, conflict_exact)

conflict_symmetric : (r q : Route) → conflict r q ≡ conflict q r
conflict_symmetric r q = same_test (conflict r q) (conflict q r) (conflict_back r q) (conflict_back q r)

-- ---- the byte of a pair
-- The byte of a pair is 1 exactly where the two numbers differ and their routes share a section or want one turnout in different states.
pub byte_exact : (rs : List Route) (a b : ℕ)
    → (pair_byte rs a b ≡ 1) ↔ ((a ≡ b → ⊥) × (Shares (route_at rs a) (route_at rs b) ⊎ Disagree (route_at rs a) (route_at rs b)))
unfolding pair_byte
byte_exact rs a b = grind (arith, conflict_exact)

-- The byte of any other pair is 0.
pub byte-zero : (rs : List Route) (a b : ℕ) → (pair_byte rs a b ≡ 1 → ⊥) → pair_byte rs a b ≡ 0
unfolding pair_byte
byte-zero rs a b n = grind arith

-- The table is symmetric.
pub byte_symmetric : (rs : List Route) (a b : ℕ) → pair_byte rs a b ≡ pair_byte rs b a
unfolding pair_byte
byte_symmetric rs a b = grind (arith, conflict_symmetric)

-- "0 .. for a route with itself".
pub byte_self : (rs : List Route) (a : ℕ) → pair_byte rs a a ≡ 0
unfolding pair_byte
byte_self rs a = ap (λ (t : Bool). cond (not t && conflict (route_at rs a) (route_at rs a)) 1 0) (eq-eqb a a refl)

-- ---- the table
-- "One byte for each ordered pair."
pub table_length : (rs : List Route) → length (table_of rs) ≡ length rs * length rs
unfolding table_of
table_length rs = list_of-length (length rs * length rs) (λ k. pair_byte rs (k / length rs + 1) (k % length rs + 1))

pub place_inside : (n i j : ℕ) → i < n → j < n → i * n + j < n * n
place_inside n i j h l = omega (arith, mul-le-mul_right n h, suc-mul i n)

-- The byte of the ordered pair (a, b) stands "at place (a - 1) × routes + b - 1 counted from 0".
table_byte : (rs : List Route) (a b : ℕ) → 1 ≤ a → a ≤ length rs → 1 ≤ b → b ≤ length rs
    → get_or (table_of rs) ((a - 1) * length rs + (b - 1)) 0 ≡ pair_byte rs a b
unfolding table_of
table_byte rs a b la ha lb hb = grind (arith, list_of_get, mod-mul-add, place_inside)

-- What the table holds afterwards, where nothing is refused: the byte of (a, b) at its place, and behind the table what it held.
module _ (file routes table : List ℕ) (accepted : (routes_refusal file routes (length table)).number ≡ 0) where
  abbrev its : List Route
  its = (routes_read (reading file).situation routes).routes

  filled : after_routes file routes table ≡ table_of its ++ drop (length its * length its) table
  unfolding after_routes
  filled = grind arith

  pub after-byte : (a b : ℕ) → 1 ≤ a → a ≤ length its → 1 ≤ b → b ≤ length its
      → get_or (after_routes file routes table) ((a - 1) * length its + (b - 1)) 0 ≡ pair_byte its a b
  after-byte a b la ha lb hb = grind (arith, filled, get_or-append, table_byte, table_length)

  pub after_rest : drop (length its * length its) (after_routes file routes table) ≡ drop (length its * length its) table
  after_rest = grind (arith, drop_at, filled, table_length)

-- After a refusal the table is as it was.
pub after-refused : (file routes table : List ℕ) → ((routes_refusal file routes (length table)).number ≡ 0 → ⊥) → after_routes file routes table ≡ table
unfolding after_routes
after-refused file routes table some = grind arith
