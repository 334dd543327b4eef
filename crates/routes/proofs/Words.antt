-- The words of the routes: of none (`held_start`), and what an R line, a K line and a W line make of them (`held_begun`, `held_passed`,
-- `held_wanted`).
use mathlib.Core.Path.{◌≡◌, refl, sym, ap, ◌∙◌}
use mathlib.Core.Logic.{⊎_elim}
use mathlib.Core.Bool.{Bool, true, false, not, ◌&&◌, ◌||◌, or_comm, and-true, and-false, false≢true}
use mathlib.Core.List.{List, [], ◌∷◌, ◌++◌}
use Prim.Native.Nat.{ℕ, zero, suc, ◌-◌, ◌^◌, ◌≤◌, ◌<◌}
use native.Mathlib.Decide.{ℕ_discrete}
use native.Mathlib.Omega.{arith}
use mir.Val.{bool_byte}
use lib.Dec.{eqb}
use lib.Bits.{bit_or}
use lib.ListN.{length, get_or, set, replicate, get_or-eq_default, get_or-replicate}
use lib.Seq.{get_or-append_seam, get_or-set_same, get_or-set_other}
use borrow.Author.Tests.{eqb-true, eq-eqb, ne_eqb}
use Rattle.meaning.specs.Paths.{mem}
use Rattle.route_meaning.specs.Routes.{Want, Route, no_route, wanted, conflict}
use Rattle.meaning.proofs.Reach.{mem_snoc}
use Rattle.basics.proofs.Lists.{replicate_get}
use Rattle.basics.proofs.Tests.{or_cases, and_both}
use Rattle.bits.specs.Bits.{bit}
use Rattle.bits.proofs.Bits.{bit-zero, bit_or_lem, bit-pow}
use Rattle.routes.specs.declared.RouteWords.{RouteWords}
use Rattle.routes.specs.Sets.{Held, add_section, add_want, to_last, state_of, want_word}
use Rattle.routes.proofs.Conflict.{conflict_section, conflict_want, conflict_parts, conflict_none}

-- ---- the last route
pub to_last-length : (f : Route → Route) (rs : List Route) → length (to_last f rs) ≡ length rs
to_last-length f [] = refl
to_last-length f (r ∷ []) = refl
to_last-length f (r ∷ q ∷ rs) = ap suc (to_last-length f (q ∷ rs))

to_last_here : (f : Route → Route) (rs : List Route) (d : Route) (k : ℕ) → suc k ≡ length rs → get_or (to_last f rs) k d ≡ f (get_or rs k d)
to_last_here f [] d k e = absurd (omega arith)
to_last_here f (r ∷ []) d zero e = refl
to_last_here f (r ∷ []) d (suc k) e = absurd (omega arith)
to_last_here f (r ∷ q ∷ rs) d zero e = absurd (omega arith)
to_last_here f (r ∷ q ∷ rs) d (suc k) e = to_last_here f (q ∷ rs) d k (omega arith)

to_last_other : (f : Route → Route) (rs : List Route) (d : Route) (k : ℕ) → (suc k ≡ length rs → ⊥) → get_or (to_last f rs) k d ≡ get_or rs k d
to_last_other f [] d k n = refl
to_last_other f (r ∷ []) d zero n = absurd (n refl)
to_last_other f (r ∷ []) d (suc k) n = refl
to_last_other f (r ∷ q ∷ rs) d zero n = refl
to_last_other f (r ∷ q ∷ rs) d (suc k) n = to_last_other f (q ∷ rs) d k (λ e. n (ap suc e))

snoc_other : (rs : List Route) (r d : Route) (k : ℕ) → (k ≡ length rs → ⊥) → get_or (rs ++ (r ∷ [])) k d ≡ get_or rs k d
snoc_other [] r d zero n = absurd (n refl)
snoc_other [] r d (suc k) n = refl
snoc_other (q ∷ rs) r d zero n = refl
snoc_other (q ∷ rs) r d (suc k) n = snoc_other rs r d k (λ e. n (ap suc e))

snoc_here : (rs : List Route) (r d : Route) (k : ℕ) → k ≡ length rs → get_or (rs ++ (r ∷ [])) k d ≡ r
snoc_here rs r d k e = ap (λ (x : ℕ). get_or (rs ++ (r ∷ [])) x d) e ∙ get_or-append_seam rs r [] d

wanted_snoc : (e x : ℕ) (w : Want) (ws : List Want) → wanted e x (ws ++ (w ∷ [])) ≡ ((eqb e w.element && eqb x w.state) || wanted e x ws)
wanted_snoc e x w [] = refl
wanted_snoc e x w (v ∷ ws) = grind (arith, wanted_snoc e x w ws)

-- ---- the words
-- A word to which another is joined.
bit_joined : (xs : List ℕ) (i v : ℕ) → i < length xs → (j t : ℕ)
    → bit (get_or (set xs i (bit_or (get_or xs i 0) v)) j 0) t ≡ ((eqb j i && bit v t) || bit (get_or xs j 0) t)
bit_joined xs i v room j t = elim (ℕ_discrete j i) [
  | yes e ↦ rw (e, get_or-set_same xs i (bit_or (get_or xs i 0) v) 0 room, eq-eqb i i refl)
      (bit_or_lem (get_or xs i 0) v t ∙ or_comm (bit (get_or xs i 0) t) (bit v t))
  | no n ↦ rw (get_or-set_other xs i j (bit_or (get_or xs i 0) v) 0 n, ne_eqb j i n)
]

-- No route.
pub held_start : (words : RouteWords) → words.sections ≡ replicate 512 0 → words.wants ≡ replicate 256 (replicate {A = ℕ} 2 0)
    → words.conflicts ≡ replicate 64 0 → Held words []
held_start words sections wants conflicts =
    record {
      sections = λ a k la ha h. rw sections (none 512 (a - 1) k);
      wants = λ x e k lx hx le he h. rw (wants, get_or-replicate 256 (e - 1) (replicate {A = ℕ} 2 0) [] (omega arith)) (none 2 (x - 1) k);
      conflicts = λ j k l h. rw conflicts (none 64 k j ∙ sym (conflict_none no_route));
      states = λ k e x h. absurd (false≢true h);
    }
  where
    none : (n i k : ℕ) → bit (get_or (replicate n 0) i 0) k ≡ false
    none n i k = ap (λ (w : ℕ). bit w k) (replicate_get n i 0) ∙ bit-zero k

-- An R line begins a route that nothing is known of.
pub held_begun : {words : RouteWords} {rs : List Route} (e : ℕ) → Held words rs
    → Held words (rs ++ (record { signal = e; sections = []; wants = [] } ∷ []))
held_begun {rs = rs} e held =
    record {
      sections = λ a k la ha h. held.sections a k la ha h ∙ ap (mem a) (same (λ (r : Route). r.sections) refl k);
      wants = λ x a k lx hx la ha h. held.wants x a k lx hx la ha h ∙ ap (wanted a x) (same (λ (r : Route). r.wants) refl k);
      conflicts = λ j k l h.
          held.conflicts j k l h
          ∙ conflict_parts _ _ _ _ (same (λ (r : Route). r.sections) refl k) (same (λ (r : Route). r.wants) refl k)
          (same (λ (r : Route). r.sections) refl j) (same (λ (r : Route). r.wants) refl j);
      states = λ k d x h. held.states k d x (rw (← same (λ (r : Route). r.wants) refl k) at h);
    }
  where
    new : Route
    new = record { signal = e; sections = []; wants = [] }

    same : {A : Type 0} (part : Route → A) → part no_route ≡ part new → (k : ℕ) → part (get_or rs k no_route) ≡ part (get_or (rs ++ (new ∷ [])) k no_route)
    same part none k = elim (ℕ_discrete k (length rs)) [
      | yes h ↦ ap part (get_or-eq_default rs no_route (omega (arith, h))) ∙ none ∙ sym (ap part (snoc_here rs new no_route k h))
      | no h ↦ sym (ap part (snoc_other rs new no_route k h))
    ]

-- Route k is joined to the words of some sections and of some elements in a state, and the routes of a word to its conflicts.
record Joins (words : RouteWords) (k : ℕ) (section : ℕ → Bool) (want : ℕ → ℕ → Bool) (others : ℕ → Bool) (u : RouteWords) : Type 0 where
  sections : (a t : ℕ) → 1 ≤ a → a ≤ 512
      → bit (get_or u.sections (a - 1) 0) t ≡ ((section a && eqb t k) || bit (get_or words.sections (a - 1) 0) t)
  wants : (x e t : ℕ) → 1 ≤ x → x ≤ 2 → 1 ≤ e → e ≤ 256
      → bit (want_word u e x) t ≡ ((want x e && eqb t k) || bit (want_word words e x) t)
  conflicts : (t j : ℕ) → bit (get_or u.conflicts t 0) j ≡ ((eqb t k && others j) || bit (get_or words.conflicts t 0) j)

-- A line that goes to the last route, k, and gives it these sections and wanted elements, and with them its conflicts with these routes.
module _ {words u : RouteWords} {rs : List Route} {k : ℕ} {section : ℕ → Bool} {want : ℕ → ℕ → Bool} {others : ℕ → Bool} (f : Route → Route)
    (held : Held words rs) (last : suc k ≡ length rs) (joins : Joins words k section want others u)
    (sections : (a : ℕ) → 1 ≤ a → (r : Route) → mem a (f r).sections ≡ (section a || mem a r.sections))
    (wants : (x e : ℕ) → (r : Route) → wanted e x (f r).wants ≡ (want x e || wanted e x r.wants)) (two : (x e : ℕ) → want x e ≡ true → (1 ≤ x) × (x ≤ 2))
    (conflicts : (j : ℕ) → j < 64 → (r : Route)
    → conflict (f r) (get_or rs j no_route) ≡ (others j || conflict r (get_or rs j no_route))) where
  here : (t : ℕ) → t ≡ k → get_or (to_last f rs) t no_route ≡ f (get_or rs t no_route)
  here t e = to_last_here f rs no_route t (omega (arith, e, last))

  away : (t : ℕ) → (t ≡ k → ⊥) → get_or (to_last f rs) t no_route ≡ get_or rs t no_route
  away t d = to_last_other f rs no_route t (λ z. d (omega (arith, z, last)))

  -- Conflicts of other routes with those before them stay.
  others_stay : (t j : ℕ) → j < t → (t ≡ k → ⊥)
      → conflict (get_or rs t no_route) (get_or rs j no_route) ≡ conflict (get_or rs t no_route) (get_or (to_last f rs) j no_route)
  others_stay t j l d = elim (ℕ_discrete j k) [
    | yes e ↦ rw (get_or-eq_default rs no_route {n = t} (omega (arith, l, d, e, last))) (conflict_none _ ∙ sym (conflict_none _))
    | no e ↦ rw (away j e)
  ]

  held_joined : Held u (to_last f rs)
  held_joined =
      record {
        sections = λ a t la ha h. joins.sections a t la ha ∙ elim (ℕ_discrete t k) [
          | yes e ↦ rw (eq-eqb t k e, and-true, held.sections a t la ha h, here t e) (sym (sections a la (get_or rs t no_route)))
          | no d ↦ rw (ne_eqb t k d, and-false, away t d) (held.sections a t la ha h)
        ];
        wants = λ x e t lx hx le he h. joins.wants x e t lx hx le he ∙ elim (ℕ_discrete t k) [
          | yes z ↦ rw (eq-eqb t k z, and-true, held.wants x e t lx hx le he h, here t z) (sym (wants x e (get_or rs t no_route)))
          | no d ↦ rw (ne_eqb t k d, and-false, away t d) (held.wants x e t lx hx le he h)
        ];
        conflicts = λ j t l h. joins.conflicts t j ∙ elim (ℕ_discrete t k) [
          | yes e ↦ rw (eq-eqb t k e, held.conflicts j t l h, here t e, away j (λ z. omega (arith, z, e, l)))
              (sym (conflicts j (omega (arith, l, h)) (get_or rs t no_route)))
          | no d ↦ rw (ne_eqb t k d, away t d) (held.conflicts j t l h ∙ others_stay t j l d)
        ];
        states = λ t e x h. elim (ℕ_discrete t k) [
          | yes z ↦ ⊎_elim (two x e) (held.states t e x) (or_cases (want x e) (wanted e x (get_or rs t no_route).wants)
              (sym (wants x e (get_or rs t no_route)) ∙ rw (here t z) at h))
          | no d ↦ held.states t e x (rw (away t d) at h)
        ];
      }

-- Two numbers from 1 are equal where those before them are.
same_before : (x a : ℕ) → 1 ≤ x → 1 ≤ a → eqb (x - 1) (a - 1) ≡ eqb x a
same_before x a lx la = elim (ℕ_discrete x a) [
  | yes e ↦ eq-eqb (x - 1) (a - 1) (omega (arith, e)) ∙ sym (eq-eqb x a e)
  | no d ↦ ne_eqb (x - 1) (a - 1) (λ z. d (omega (arith, z, lx, la))) ∙ sym (ne_eqb x a d)
]

-- The bit of route k, joined to a word.
bit_of_route : (xs : List ℕ) (i k v : ℕ) → i < length xs → v ≡ 2 ^ k → (j t : ℕ)
    → bit (get_or (set xs i (bit_or (get_or xs i 0) v)) j 0) t ≡ ((eqb j i && eqb t k) || bit (get_or xs j 0) t)
bit_of_route xs i k v room is j t = bit_joined xs i v room j t ∙ rw (is, bit-pow k t)

-- A K line.
pub held_passed : {words u : RouteWords} {rs : List Route} (k a v : ℕ) → length words.sections ≡ 512 → length words.conflicts ≡ 64 → k < 64
    → 1 ≤ a → a ≤ 512 → v ≡ 2 ^ k
    → u ≡ record {
      sections = set words.sections (a - 1) (bit_or (get_or words.sections (a - 1) 0) v);
      wants = words.wants;
      conflicts = set words.conflicts k (bit_or (get_or words.conflicts k 0) (get_or words.sections (a - 1) 0));
    }
    → Held words rs → suc k ≡ length rs → Held u (to_last (add_section a) rs)
held_passed {words} {u} {rs} k a v size few hk la ha ev eu held is =
    rw eu
    (held_joined {want = λ x e. false} (add_section a) held is
    (record {
      sections = λ x t lx hx. bit_of_route words.sections (a - 1) k v (omega (arith, size, ha)) ev (x - 1) t ∙ rw (same_before x a lx la);
      wants = λ x e t lx hx le he. refl;
      conflicts = λ t j. bit_joined words.conflicts k (get_or words.sections (a - 1) 0) (omega (arith, few, hk)) t j;
    })
    (λ x lx r. mem_snoc x a r.sections)
    (λ x e r. refl)
    (λ x e h. absurd (false≢true h))
    (λ j h r. conflict_section a r (get_or rs j no_route) ∙ rw (held.sections a j la ha h)))

-- The same of a word in row i.
bit_in_row : (xs : List (List ℕ)) (i j k v : ℕ) → i < length xs → j < length (get_or xs i []) → v ≡ 2 ^ k → (a b t : ℕ)
    → bit (get_or (get_or (set xs i (set (get_or xs i []) j (bit_or (get_or (get_or xs i []) j 0) v))) a []) b 0) t
    ≡ (((eqb a i && eqb b j) && eqb t k) || bit (get_or (get_or xs a []) b 0) t)
bit_in_row xs i j k v room place is a b t = elim (ℕ_discrete a i) [
  | yes e ↦ rw (e, get_or-set_same xs i _ [] room, eq-eqb i i refl) (bit_of_route (get_or xs i []) j k v place is b t)
  | no n ↦ rw (get_or-set_other xs i a _ [] n, ne_eqb a i n)
]

-- The state of a turnout, and the places of the words of this state and of the other.
pub places : (d : Bool) → (1 ≤ state_of d) × (state_of d ≤ 2) × (bool_byte d ≡ state_of d - 1) × (bool_byte (not d) ≡ 3 - state_of d - 1)
places true = (omega arith, omega arith, refl, refl)
places false = (omega arith, omega arith, refl, refl)

-- A W line.
pub held_wanted : {words u : RouteWords} {rs : List Route} (k e₀ v : ℕ) (d : Bool) → length words.wants ≡ 256 → length words.conflicts ≡ 64
    → bool_byte d < length (get_or words.wants (e₀ - 1) []) → k < 64 → 1 ≤ e₀ → e₀ ≤ 256 → v ≡ 2 ^ k
    → let row = get_or words.wants (e₀ - 1) [] in
    u ≡ record {
      sections = words.sections;
      wants = set words.wants (e₀ - 1) (set row (bool_byte d) (bit_or (get_or row (bool_byte d) 0) v));
      conflicts = set words.conflicts k (bit_or (get_or words.conflicts k 0) (get_or row (bool_byte (not d)) 0));
    }
    → Held words rs → suc k ≡ length rs → Held u (to_last (add_want e₀ (state_of d)) rs)
held_wanted {words} {u} {rs} k e₀ v d rows few place hk le₀ he₀ ev eu held is =
    let p = places d in
    rw eu
    (held_joined {section = λ a. false} (add_want e₀ (state_of d)) held is
    (record {
      sections = λ a t la ha. refl;
      wants = λ x e t lx hx le he.
          bit_in_row words.wants (e₀ - 1) (bool_byte d) k v (omega (arith, rows, he₀)) place ev (e - 1) (x - 1) t
          ∙ rw (same_before e e₀ le le₀, p.2, same_before x (state_of d) lx p.0);
      conflicts = λ t j. bit_joined words.conflicts k _ (omega (arith, few, hk)) t j;
    })
    (λ x lx r. refl)
    (λ x e r. wanted_snoc e x (record { element = e₀; state = state_of d }) r.wants)
    (λ x e h. let z : x ≡ state_of d = eqb-true x _ (and_both (eqb e e₀) (eqb x (state_of d)) h).1 in omega (arith, z, p.0, p.1))
    (λ j h r.
    conflict_want e₀ (state_of d) r (get_or rs j no_route) p.0 p.1 (held.states j)
    ∙ rw (p.3, held.wants (3 - state_of d) e₀ j (omega (arith, p.1)) (omega (arith, p.0)) le₀ he₀ h)))
