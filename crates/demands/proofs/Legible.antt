-- Every number of a key has at most five digits, so that its lines are read back: of a verdict, of a settings question, of a refusal.
use mathlib.Core.Path.{◌≡◌, refl, sym, subst}
use mathlib.Core.Bool.{Bool, true, cond, false≢true}
use mathlib.Core.List.{List, [], ◌∷◌, ◌++◌, append-nil, append_assoc}
use Prim.Native.Nat.{ℕ, zero, suc, ◌+◌, ◌*◌, ◌≤◌, ◌<◌}
use native.Mathlib.Omega.{arith}
use lib.Dec.{ltb}
use lib.ListN.{length, get_or}
use lib.Pow.{pow_mono}
use Rattle.std.specs.Prelude.{Option, Some, None}
use Rattle.meaning.specs.declared.Choice.{Choice}
use Rattle.meaning.specs.declared.Element.{Element}
use Rattle.meaning.specs.declared.Kind.{Kind}
use Rattle.meaning.specs.declared.Situation.{Situation}
use Rattle.meaning.specs.declared.Verdict as defined
use Rattle.meaning.specs.declared.Verdict.TheVariants as found
use Rattle.meaning.specs.Station.{elements_of, file_states}
use Rattle.meaning.specs.Paths.{mem}
use Rattle.meaning.specs.Verdict.{verdict, shows}
use Rattle.meaning.specs.Settings.{keeps, is_setting, proceeds, proceeds_in, proceed_count, keep, safe_settings, chosen, reply}
use Rattle.meaning.specs.declared.Field.TheVariants.{Blank, Number}
use Rattle.meaning.specs.Columns.{old, field_at, row_text}
use Rattle.meaning.specs.File.{Limits, situation_of}
use Rattle.meaning.specs.Key.{path_lines, element_lines, IsVerdictKey, question_key}
use Rattle.basics.proofs.Tests.{and_both}
use Rattle.meaning.proofs.Reach.{mem_head, mem_tail}
use Rattle.meaning.specs.Inside.{in_station}
use Rattle.meaning.proofs.Inside.{reach_inside, path_inside}
use Rattle.meaning.proofs.Danger as danger
use Rattle.meaning.proofs.MoveCount.{counts_fit}
use Rattle.meaning.proofs.Settings.{setting_length, settings-length}
use Rattle.meaning.proofs.Chosen.{chosen-best}
use Rattle.basics.proofs.Holds.{holds_behind}
use Rattle.meaning.proofs.Columns.{row_held, cell_read}
use Rattle.c_layout.specs.declared.FlatRefusal.{FlatRefusal}
use Rattle.demands.specs.Words.{situation, AtMostOpen}
use Rattle.demands.specs.Demand1.{CallCause}
use Rattle.demands.specs.Laws.{Legible, LegibleLines, none, next}
use Rattle.demands.proofs.Words.{few_states}

-- ---- lines
of_four : (P : ℕ → Type 0) → P 0 → P 1 → P 2 → P 3 → (j : ℕ) → j < 4 → P j
of_four P h h2 h3 h4 j h5 = grind arith

row_legible : (letter filled a b c d : ℕ) → a ≤ 99999 → b ≤ 99999 → c ≤ 99999 → d ≤ 99999 → Legible (row_text letter filled a b c d)
row_legible letter filled a b c d la lb lc ld =
    let row = row_text letter filled a b c d in
    let h = row_held row 0 letter filled a b c d (holds_behind [] row) in
    record {
      letter = letter;
      filled = filled;
      numbers = λ j. get_or (a ∷ b ∷ c ∷ d ∷ []) j 0;
      printed = refl;
      fits = of_four (λ j. get_or (a ∷ b ∷ c ∷ d ∷ []) j 0 ≤ 99999) la lb lc ld;
      read_back = of_four (λ j. field_at old row (j * 5 + 1) ≡ cond (ltb j filled) (Number (get_or (a ∷ b ∷ c ∷ d ∷ []) j 0)) Blank)
          (cell_read old row 1 (ltb 0 filled) a la h.first)
          (cell_read old row 6 (ltb 1 filled) b lb h.second)
          (cell_read old row 11 (ltb 2 filled) c lc h.third)
          (cell_read old row 16 (ltb 3 filled) d ld h.fourth);
    }

one_legible : (l : List ℕ) → Legible l → LegibleLines l
one_legible l h = subst LegibleLines (append-nil l) (next l [] h none)

lines_legible : (l m : List ℕ) → LegibleLines l → LegibleLines m → LegibleLines (l ++ m)
lines_legible l m none k = k
lines_legible l m (next line rest h r) k = subst LegibleLines (sym (append_assoc line rest m)) (next line (rest ++ m) h (lines_legible rest m r k))

paths_legible : (letter t : ℕ) (p : List ℕ) → t ≤ 99999 → ((a : ℕ) → mem a p ≡ true → a ≤ 99999) → LegibleLines (path_lines letter t p)
unfolding path_lines
paths_legible letter t [] l h = none
paths_legible letter t (a ∷ p) l h =
    next (row_text letter 2 t a 0 0) (path_lines letter t p) (row_legible letter 2 t a 0 0 l (h a (mem_head a p)) (omega arith) (omega arith))
    (paths_legible letter t p l (λ b i. h b (mem_tail b a p i)))

elements_legible : (e : ℕ) (σ : List ℕ) → e + length σ ≤ 99999 → ((i : ℕ) → get_or σ i 0 ≤ 2) → LegibleLines (element_lines e σ)
unfolding element_lines
elements_legible e [] l h = none
elements_legible e (x ∷ σ) l h =
    let few : x ≤ 2 = h 0 in
    next (row_text 69 2 e x 0 0) (element_lines (e + 1) σ) (row_legible 69 2 e x 0 0 (omega arith) (omega arith) (omega arith) (omega arith))
    (elements_legible (e + 1) σ (omega arith) (λ i. h (suc i)))

-- ---- the numbers of a situation
module _ (s : Situation) (inside : in_station s ≡ true) (limits : Limits s.header) where
  path_fits : (σ : List ℕ) (t k : ℕ) (p : List ℕ) → shows s σ t k p ≡ true → (a : ℕ) → mem a p ≡ true → a ≤ 99999
  unfolding shows
  path_fits σ t k p h a i = grind (arith, path_inside)

  pub verdict_legible : (σ text : List ℕ) (w : defined.Verdict) → verdict s σ ≡ w → IsVerdictKey s σ w text → LegibleLines text
  verdict_legible σ text (found.Safe c) e k =
      let f = rw e at (counts_fit s limits σ) in
      subst LegibleLines (sym k) (one_legible _ (row_legible 86 3 0 c.entries c.looks 0 (omega arith) f.0 f.1 (omega arith)))
  verdict_legible σ text (found.Dangerous m c) e (p, q, hp, hq, k) =
      let f = rw e at (counts_fit s limits σ) in
      let n = danger.verdict_names s inside σ m c e in
      let at = reach_inside s inside σ m.first.0 m.section.0 (danger.leads-reach s σ m.first.0 m.section.0 n.first_ends.0 n.first_ends.1) in
      let first : m.first.0 ≤ 99999 = omega arith in
      let second : m.second.0 ≤ 99999 = omega arith in
      subst LegibleLines (sym k)
      (next (row_text 86 4 1 c.entries c.looks m.section.0) _
      (row_legible 86 4 1 c.entries c.looks m.section.0 (omega arith) f.0 f.1 (omega arith))
      (lines_legible (path_lines 65 m.first.0 p) (path_lines 66 m.second.0 q)
      (paths_legible 65 m.first.0 p first (path_fits σ m.first.0 m.section.0 p hp))
      (paths_legible 66 m.second.0 q second (path_fits σ m.second.0 m.section.0 q hq))))

-- ---- the numbers of a reply
keep_few : (f : List ℕ → Bool) (l : List (List ℕ)) → length (keep f l) ≤ length l
unfolding keep
keep_few f [] = omega arith
keep_few f (σ ∷ l) = grind (arith, keep_few f l)

proceeds_one : (k : Kind) (f x : ℕ) → proceeds k f x ≤ 1
proceeds_one k f x = grind arith

proceeds_few : (es : List Element) (σ : List ℕ) → proceeds_in es σ ≤ length σ
unfolding proceeds_in
proceeds_few [] σ = omega arith
proceeds_few (e ∷ es) [] = omega arith
proceeds_few (e ∷ es) (x ∷ σ) = omega (arith, proceeds_one e.kind e.state x, proceeds_few es σ)

kept_few : (f x : ℕ) → keeps f x ≡ true → f ≤ 2 → x ≤ 2
kept_few f x h h2 = grind arith

setting_few : (fs σ : List ℕ) → is_setting fs σ ≡ true → ((i : ℕ) → get_or fs i 0 ≤ 2) → (i : ℕ) → get_or σ i 0 ≤ 2
unfolding is_setting
setting_few [] [] h l i = omega arith
setting_few [] (x ∷ σ) h l i = absurd (false≢true h)
setting_few (f ∷ fs) [] h l i = absurd (false≢true h)
setting_few (f ∷ fs) (x ∷ σ) h l zero = kept_few f x (and_both (keeps f x) (is_setting fs σ) h).0 (l 0)
setting_few (f ∷ fs) (x ∷ σ) h l (suc i) = setting_few fs σ (and_both (keeps f x) (is_setting fs σ) h).1 (λ j. l (suc j)) i

module _ (s : Situation) (limits : Limits s.header) (lengths : length (file_states s) ≡ s.header.elements)
    (states : (i : ℕ) → get_or (file_states s) i 0 ≤ 2) (few : AtMostOpen 12 s) where
  number_fits : length (safe_settings s) ≤ 99999
  unfolding safe_settings
  number_fits = grind (arith, keep_few, pow_mono, settings-length)

  counted : proceed_count s (chosen s) ≤ length (chosen s)
  unfolding proceed_count
  counted = proceeds_few (elements_of s) (chosen s)

  pub question_legible : (text : List ℕ) (a : Option Choice) → reply s ≡ a → text ≡ question_key a (chosen s) → LegibleLines text
  question_legible text None e k = grind (arith, one_legible, row_legible)
  question_legible text (Some c) e k =
      let w = chosen-best s c e in
      let size = setting_length (file_states s) (chosen s) w.chosen_setting in
      subst LegibleLines (sym k)
      (next (row_text 81 3 1 c.safe c.proceed 0) (element_lines 1 (chosen s))
      (row_legible 81 3 1 c.safe c.proceed 0 (omega arith) (rw w.number number_fits)
      (omega (arith, w.proceed_count_lem, counted, size, limits.elements)) (omega arith))
      (elements_legible 1 (chosen s) (omega arith) (setting_few (file_states s) (chosen s) w.chosen_setting states)))

-- ---- the numbers of a refusal
refusal-fits : (file : List ℕ) (number m : ℕ) (q : FlatRefusal) → CallCause file number m (λ p. ⊥) q → q.line ≤ 99999
unfolding situation situation_of
refusal-fits file number m q h = grind (arith, few_states (situation file))

pub refusal_legible : (file : List ℕ) (number m : ℕ) (q : FlatRefusal) → q.number ≤ 11 → CallCause file number m (λ p. ⊥) q
    → LegibleLines (row_text 82 2 q.number q.line 0 0)
refusal_legible file number m q l c =
    one_legible _ (row_legible 82 2 q.number q.line 0 0 (omega arith) (refusal-fits file number m q c) (omega arith) (omega arith))
