-- A route file is the text of at most one list of routes: `describes_one`.
use mathlib.Core.Path.{◌≡◌, refl, sym, ap, ◌∙◌}
use mathlib.Core.Logic.{inl, inr}
use mathlib.Core.List.{List, [], ◌∷◌, ◌++◌, append_assoc}
use Prim.Native.Nat.{ℕ, suc, ◌+◌, ◌-◌, ◌≤◌, ◌<◌}
use native.Mathlib.Omega.{arith}
use lib.Dec.{ltb}
use lib.ListN.{length, get_or}
use lib.Seq.{take-append_seam, drop-append_seam}
use Rattle.meaning.specs.declared.Situation.{Situation}
use Rattle.meaning.specs.File.{Limits, situation_of}
use Rattle.meaning.specs.Accepted.{Accepted}
use Rattle.meaning.specs.Columns.{old, row_text, rows_of}
use Rattle.route_meaning.specs.Routes.{Want, Route, routes_text, IsSignal, IsTurnout, no_route}
use Rattle.meaning.proofs.Columns.{Suits, row-length, holds_row}
use Rattle.basics.proofs.Holds.{holds_behind}
use Rattle.basics.specs.Lists.{In}
use Rattle.demands.specs.Words.{situation}
use Rattle.demands.specs.Item07.{Proper, Describes}
use Rattle.demands.proofs.Words.{few_elements}

-- ---- bytes
-- Two texts that begin with as many bytes.
parted : (a b c d : List ℕ) → length a ≡ length b → a ++ c ≡ b ++ d → (a ≡ b) × (c ≡ d)
parted a b c d n e = (
  sym (take-append_seam a c) ∙ rw (n, e) (take-append_seam b d),
  sym (drop-append_seam a c) ∙ rw (n, e) (drop-append_seam b d),
)

-- Two rows that are one have the same numbers.
record Suit (n a b c d : ℕ) : Type 0 where
  first : Suits (ltb 0 n) a
  second : Suits (ltb 1 n) b
  third : Suits (ltb 2 n) c
  fourth : Suits (ltb 3 n) d

row_one : (letter n a b c d a' b' c' d' : ℕ) → Suit n a b c d → Suit n a' b' c' d' → row_text letter n a b c d ≡ row_text letter n a' b' c' d'
    → (a ≡ a') × (b ≡ b') × (c ≡ c') × (d ≡ d')
row_one letter n a b c d a' b' c' d' s t e =
    let row = row_text letter n a b c d in
    let x = holds_row old row 0 letter n a b c d s.first s.second s.third s.fourth (holds_behind [] row) in
    let y = holds_row old row 0 letter n a' b' c' d' t.first t.second t.third t.fourth (rw (← e) (holds_behind [] row)) in
    (sym x.1 ∙ y.1, sym x.2 ∙ y.2, sym x.3 ∙ y.3, sym x.4 ∙ y.4)

-- The lines of as many entries, with more behind them.
lines_one : {A : Type 0} (line : A → List ℕ) (Fits : A → Type 0) → ((x : A) → length (line x) ≡ 22)
    → ((x y : A) → Fits x → Fits y → line x ≡ line y → x ≡ y) → (l m : List A) → length l ≡ length m → ((x : A) → In x l → Fits x)
    → ((x : A) → In x m → Fits x) → (u v : List ℕ) → rows_of line l ++ u ≡ rows_of line m ++ v → (l ≡ m) × (u ≡ v)
lines_one line Fits size one [] [] n f g u v e = (refl, e)
lines_one line Fits size one [] (y ∷ m) n f g u v e = absurd (omega arith)
lines_one line Fits size one (x ∷ l) [] n f g u v e = absurd (omega arith)
lines_one line Fits size one (x ∷ l) (y ∷ m) n f g u v e =
    let p = parted (line x) (line y) (rows_of line l ++ u) (rows_of line m ++ v) (size x ∙ sym (size y))
    (sym (append_assoc (line x) (rows_of line l) u) ∙ e ∙ append_assoc (line y) (rows_of line m) v) in
    let q = lines_one line Fits size one l m (omega (arith, n)) (λ z i. f z (inr i)) (λ z i. g z (inr i)) u v p.1 in
    let head : x ≡ y = one x y (f x (inl refl)) (g y (inl refl)) p.0 in
    (λ i. head i ∷ q.0 i, q.1)

-- ---- the text
module _ (s : Situation) (limits : Limits s.header) where
  signal_small : (e : ℕ) → IsSignal s e → e ≤ 99999
  signal_small e w = omega (arith, w.1, few_elements s, limits.elements)

  turnout_small : (e : ℕ) → IsTurnout s e → e ≤ 99999
  turnout_small e w = omega (arith, w.1, few_elements s, limits.elements)

  abbrev Each : List Route → Type 0
  Each rs = (k : ℕ) → k < length rs → Proper s (get_or rs k no_route)

  abbrev k_row : ℕ → List ℕ
  k_row a = row_text 75 1 a 0 0 0

  abbrev w_row : Want → List ℕ
  w_row w = row_text 87 2 w.element w.state 0 0

  k_one : (a b : ℕ) → a ≤ 99999 → b ≤ 99999 → k_row a ≡ k_row b → a ≡ b
  k_one a b f g e = grind (arith, row_one 75 1 a 0 0 0 b 0 0 0)

  abbrev Small : Want → Type 0
  Small w = (w.element ≤ 99999) × (w.state ≤ 99999)

  w_one : (v w : Want) → Small v → Small w → w_row v ≡ w_row w → v ≡ w
  w_one v w f g e = grind (arith, row_one 87 2 v.element v.state 0 0 w.element w.state 0 0)

  small_sections : {r : Route} → Proper s r → (a : ℕ) → In a r.sections → a ≤ 99999
  small_sections p a i = omega (arith, p.inside a i, limits.sections)

  small_wants : {r : Route} → Proper s r → (w : Want) → In w r.wants → Small w
  small_wants p w i = let x = p.wants w i in (turnout_small w.element x.0, omega (arith, x.2))

  abbrev head : ℕ → Route → List ℕ
  head n r = row_text 82 4 n r.signal (length r.sections) (length r.wants)

  head_one : (n : ℕ) (r q : Route) → n ≤ 99999 → Proper s r → Proper s q → head n r ≡ head n q
      → (r.signal ≡ q.signal) × (length r.sections ≡ length q.sections) × (length r.wants ≡ length q.wants)
  head_one n r q few p o e =
      grind (
        arith,
        signal_small r.signal p.signal,
        signal_small q.signal o.signal,
        row_one 82 4 n r.signal (length r.sections) (length r.wants) n q.signal (length q.sections) (length q.wants),
      )

  none_one : (n : ℕ) (r : Route) (rs : List Route) → [] ≡ routes_text n (r ∷ rs) → ⊥
  unfolding routes_text row_text
  none_one n r rs e = omega (arith, ap length e)

  text_one : (n : ℕ) (rs rs' : List Route) → n + length rs ≤ 99999 → Each rs → Each rs' → routes_text n rs ≡ routes_text n rs' → rs ≡ rs'
  unfolding routes_text
  text_one n [] [] few f g e = refl
  text_one n [] (q ∷ qs) few f g e = absurd (none_one n q qs e)
  text_one n (r ∷ rs) [] few f g e = absurd (none_one n r rs (sym e))
  text_one n (r ∷ rs) (q ∷ qs) few f g e =
      let a = f 0 (omega arith) in
      let b = g 0 (omega arith) in
      let x = parted (head n r) (head n q) _ _ (row-length 82 4 n _ _ _ ∙ sym (row-length 82 4 n _ _ _)) e in
      let y = head_one n r q (omega (arith, few)) a b x.0 in
      let k = lines_one k_row (λ a. a ≤ 99999) (λ a. row-length 75 1 a 0 0 0) k_one r.sections q.sections y.1 (small_sections a) (small_sections b) _ _ x.1 in
      let w = lines_one w_row Small (λ w. row-length 87 2 w.element w.state 0 0) w_one r.wants q.wants y.2 (small_wants a) (small_wants b) _ _ k.1 in
      let t = text_one (n + 1) rs qs (omega (arith, few)) (λ k l. f (suc k) (omega (arith, l))) (λ k l. g (suc k) (omega (arith, l))) w.1 in
      λ i. record { signal = y.0 i; sections = k.0 i; wants = w.0 i } ∷ t i

pub describes_one : (station file : List ℕ) (rs rs' : List Route) → Accepted station → Describes (situation station) file rs
    → Describes (situation station) file rs' → rs ≡ rs'
unfolding situation situation_of
describes_one station file rs rs' a d d' =
    text_one (situation station) a.limits 1 rs rs' (omega (arith, d.few)) (each d) (each d') (sym d.text ∙ d'.text)
  where
    each : {rs : List Route} → Describes (situation station) file rs → (k : ℕ) → k < length rs → Proper (situation station) (get_or rs k no_route)
    each {rs} d k l = let e : suc k - 1 ≡ k = omega arith in rw e at (d.proper (suc k) (omega arith, omega (arith, l)))
