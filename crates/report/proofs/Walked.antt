-- What the walk has after a list, and so what is answered and stored, in terms of the list alone (`answers`, `afters`).
use Rattle.std.proofs.Common.{◌≡◌, ℕ, suc, ◌+◌, ◌*◌, ◌%◌, ◌^◌, ◌<◌, ◌≤◌, Bool, true, false, cond, eqb, ltb, List, [], ◌∷◌, ◌++◌, map, length, take, drop, set, sym, refl, ap, ◌∙◌, append_assoc, append-nil, add-zero, zero-add, add-one, arith, length-set, take-suc-set, ltb-false, ltb-true, le-ltb, lt-ltb, ne_eqb, eqb-true}
use native.Mathlib.Nat.{min-eq_left}
use lib.ListN.{length-replicate}
use Rattle.std.specs.Prelude.{Option, Some, None}
use Rattle.session_meaning.specs.declared.Mark.{Mark}
use Rattle.meaning.specs.File.{refusal, unless_refused}
use Rattle.session_meaning.specs.Report.{
  right_mark,
  first_wrong_mark,
  marks_refusal,
  sum_of,
  totals,
  session_text,
  report_text,
  report_length,
  report_refusal,
  report_answer,
  after_report,
}
use Rattle.session_meaning.proofs.Marks.{AllRight, none_wrong, right_ranges}
use Rattle.sorting.specs.Sorted.{sorted}
use Rattle.report.specs.declared.Sums.{Sums}
use Rattle.report.specs.declared.Gathered.{Gathered}
use Rattle.report.specs.Gathering.{
  Begun,
  key_of,
  total_at,
  joined,
  wrong_after,
  sums_with,
  both,
  with_one,
  with_all,
  nothing,
  no_keys_of,
  unless_wrong,
  answer_by,
  text_by,
  after_by,
  total_keys,
  answer_of,
  after_of,
}
use Rattle.report.proofs.Totals.{keyed, keyed_begun, keys_totals, keys_length}

-- ---- one record more, where there is room, and where there is none
abbrev roomy : Gathered → Mark → Gathered
roomy g m =
    record {
      sums = record {
        seen = g.sums.seen + 1;
        wrong = wrong_after g.sums.wrong g.sums.seen m;
        gained = (g.sums.gained + m.gained) % 2 ^ 32;
        possible = (g.sums.possible + m.possible) % 2 ^ 32;
      };
      keys = set g.keys g.sums.seen (key_of g.sums.seen m);
    }

abbrev full : Sums → Sums
full s = record { seen = 1000; wrong = s.wrong; gained = s.gained; possible = s.possible }

one_roomy : (g : Gathered) (m : Mark) → g.sums.seen < 999 → with_one g m ≡ roomy g m
unfolding sums_with
one_roomy g m l =
    (λ j. record {
      sums = cond (lt-ltb g.sums.seen 999 l j) (roomy g m).sums (full g.sums);
      keys = (let k = min-eq_left {n = g.sums.seen} {m = 999} (omega (arith, l)) j in set g.keys k (key_of k m));
    })

one_full : (g : Gathered) (m : Mark) → 999 ≤ g.sums.seen → (with_one g m).sums.seen ≡ 1000
unfolding sums_with
one_full g m l = ap (λ (b : Bool). (cond b (roomy g m).sums (full g.sums)).seen) (le-ltb g.sums.seen 999 l)

-- ---- the first wrong record
-- The place of the first wrong record, where there is one, from the number that is 0 where there is none.
abbrev found : ℕ → Option ℕ
found n = cond (eqb n 0) None (Some n)

none_found : (n : ℕ) → found n ≡ None → n ≡ 0
none_found n e = go (eqb n 0) refl e
  where
    go : (t : Bool) → eqb n 0 ≡ t → cond t None (Some n) ≡ None → n ≡ 0
    go true h f = eqb-true n 0 h
    go false h f = cc

-- The one of the earlier records, or else the later one.
abbrev first_of : Option ℕ → ℕ → Option ℕ
first_of None n = found n
first_of (Some k) n = Some k

wrong_case : (wrong : Option ℕ) (m : Mark) (before n : ℕ)
    → first_of (wrong_after wrong before m) n ≡ first_of wrong (cond (right_mark m) n (before + 1))
wrong_case (Some k) m before n = refl
wrong_case None m before n = go (right_mark m)
  where
    go : (b : Bool) → first_of (cond b None (Some (before + 1))) n ≡ found (cond b n (before + 1))
    go true = refl
    go false = rw (ne_eqb (before + 1) 0 (λ e. absurd (omega (arith, e))))

wrong_none : (wrong : Option ℕ) → wrong ≡ first_of wrong 0
wrong_none None = refl
wrong_none (Some k) = refl

-- ---- a list that fits
seen-fits : (l : List Mark) (g : Gathered) → g.sums.seen + length l ≤ 999 → (with_all l g).sums.seen ≡ g.sums.seen + length l
unfolding with_all
seen-fits [] g h = sym (add-zero g.sums.seen)
seen-fits (m ∷ l) g h =
    let e = one_roomy g m (omega (arith, h)) in
    ap (λ (k : Gathered). (with_all l k).sums.seen) e ∙ seen-fits l (roomy g m) (omega (arith, h)) ∙ omega arith

keys_fits : (l : List Mark) (g : Gathered) → length g.keys ≡ 1000 → g.sums.seen + length l ≤ 999
    → take (g.sums.seen + length l) (with_all l g).keys ≡ take g.sums.seen g.keys ++ keyed g.sums.seen l
unfolding with_all
keys_fits [] g n h = ap (λ (k : ℕ). take k g.keys) (add-zero g.sums.seen) ∙ sym (append-nil (take g.sums.seen g.keys))
keys_fits (m ∷ l) g n h =
    let e = one_roomy g m (omega (arith, h)) in
    let within : g.sums.seen < length g.keys = omega (arith, n, h) in
    let counts : g.sums.seen + suc (length l) ≡ (g.sums.seen + 1) + length l = omega arith in
    (λ j. take (counts j) (with_all l (e j)).keys)
    ∙ keys_fits l (roomy g m) (length-set g.keys g.sums.seen (key_of g.sums.seen m) ∙ n) (omega (arith, h))
    ∙ ap (λ (k : ℕ). take k (set g.keys g.sums.seen (key_of g.sums.seen m)) ++ keyed (g.sums.seen + 1) l) (add-one g.sums.seen)
    ∙ ap (λ (k : List ℕ). k ++ keyed (g.sums.seen + 1) l) (take-suc-set g.keys g.sums.seen (key_of g.sums.seen m) within)
    ∙ append_assoc (take g.sums.seen g.keys) (key_of g.sums.seen m ∷ []) (keyed (g.sums.seen + 1) l)

wrong_fits : (l : List Mark) (g : Gathered) → g.sums.seen + length l ≤ 999
    → (with_all l g).sums.wrong ≡ first_of g.sums.wrong (first_wrong_mark g.sums.seen l)
unfolding with_all first_wrong_mark
wrong_fits [] g h = wrong_none g.sums.wrong
wrong_fits (m ∷ l) g h =
    let seen = g.sums.seen in
    ap (λ (k : Gathered). (with_all l k).sums.wrong) (one_roomy g m (omega (arith, h)))
    ∙ wrong_fits l (roomy g m) (omega (arith, h))
    ∙ wrong_case g.sums.wrong m seen (first_wrong_mark (seen + 1) l)
    ∙ rw (add-one seen)

-- Sums that stay below 2 to the power 32 do not wrap.
no_wrap : (a x rest : ℕ) → a + (x + rest) < 4294967296 → (a + x) % 2 ^ 32 ≡ a + x
no_wrap a x rest h = omega arith

-- A sum of the walk, where it fits.
sum_fits : (part : Sums → ℕ) (f : Mark → ℕ) → ((g : Gathered) (m : Mark) → part (roomy g m).sums ≡ (part g.sums + f m) % 2 ^ 32)
    → (l : List Mark) (g : Gathered) → g.sums.seen + length l ≤ 999 → part g.sums + sum_of f l < 4294967296
    → part (with_all l g).sums ≡ part g.sums + sum_of f l
unfolding with_all sum_of
sum_fits part f adds [] g h k = sym (add-zero (part g.sums))
sum_fits part f adds (m ∷ l) g h k =
    let w = adds g m ∙ no_wrap (part g.sums) (f m) (sum_of f l) k in
    ap (λ (y : Gathered). part (with_all l y).sums) (one_roomy g m (omega (arith, h)))
    ∙ sum_fits part f adds l (roomy g m) (omega (arith, h)) (omega (arith, w, k))
    ∙ omega (arith, w)

-- ---- a list that does not
many_one : (b : Bool) (g : Gathered) (m : Mark) (k : ℕ) → ltb g.sums.seen 999 ≡ b → 999 < g.sums.seen + suc k
    → 999 < (with_one g m).sums.seen + k
many_one true g m k h l =
    let e : (with_one g m).sums.seen ≡ g.sums.seen + 1 = ap (λ (y : Gathered). y.sums.seen) (one_roomy g m (ltb-true g.sums.seen 999 h)) in
    omega (arith, e, l)
many_one false g m k h l =
    let e : (with_one g m).sums.seen ≡ 1000 = one_full g m (ltb-false g.sums.seen 999 h) in
    omega (arith, e)

seen_many : (l : List Mark) (g : Gathered) → 999 < g.sums.seen + length l → 999 < (with_all l g).sums.seen
unfolding with_all
seen_many [] g h = omega (arith, h)
seen_many (m ∷ l) g h = seen_many l (with_one g m) (many_one (ltb g.sums.seen 999) g m (length l) refl h)

-- The sum over right records of a number that is at most 100 in each.
sum_most : (f : Mark → ℕ) → ((m : Mark) → right_mark m ≡ true → f m ≤ 100) → (l : List Mark) → AllRight l → sum_of f l ≤ length l * 100
unfolding sum_of
sum_most f h [] a = omega arith
sum_most f h (m ∷ l) a = omega (arith, h m a.0, sum_most f h l a.1)

-- ---- the operation
module _ (l : List Mark) where
  abbrev none : Gathered
  none = both nothing no_keys_of

  abbrev g : Gathered
  g = with_all l none

  module _ (fits : length l ≤ 999) where
    g_seen : g.sums.seen ≡ length l
    g_seen = seen-fits l none (omega (arith, fits)) ∙ zero-add (length l)

    g_wrong : g.sums.wrong ≡ found (first_wrong_mark 0 l)
    g_wrong = wrong_fits l none (omega (arith, fits))

    g_keys : take g.sums.seen g.keys ≡ keyed 0 l
    g_keys =
        ap (λ (k : ℕ). take k g.keys) (seen-fits l none (omega (arith, fits)))
        ∙ keys_fits l none (length-replicate {A = ℕ} 1000 0) (omega (arith, fits))

    g_joined : total_keys g ≡ joined (sorted (keyed 0 l))
    unfolding total_keys
    g_joined = ap (λ (k : List ℕ). joined (sorted k)) g_keys

    module _ (a : AllRight l) where
      g_totals : map total_at (total_keys g) ≡ totals l
      g_totals = ap (map total_at) g_joined ∙ keys_totals l a fits

      g_length : length (total_keys g) ≡ length (totals l)
      g_length = ap length g_joined ∙ keys_length l a fits

      g_gained : g.sums.gained ≡ sum_of (λ m. m.gained) l
      g_gained =
          let most = sum_most (λ m. m.gained) (λ m r. let w = right_ranges m r in omega (arith, w.gained, w.possible)) l a in
          sum_fits (λ s. s.gained) (λ m. m.gained) (λ h m. refl) l none (omega (arith, fits)) (omega (arith, fits, most)) ∙ zero-add _

      g_possible : g.sums.possible ≡ sum_of (λ m. m.possible) l
      g_possible =
          let most = sum_most (λ m. m.possible) (λ m r. (right_ranges m r).possible) l a in
          sum_fits (λ s. s.possible) (λ m. m.possible) (λ h m. refl) l none (omega (arith, fits)) (omega (arith, fits, most)) ∙ zero-add _

      answer_right : (room : ℕ) (t : Bool) → ltb room (report_length l) ≡ t
          → answer_by (total_keys g) room ≡ unless_refused (cond t (refusal 9 0) (refusal 0 0)) (report_length l)
      unfolding answer_by report_length
      answer_right room true e = rw (g_length, e)
      answer_right room false e = rw (g_length, e)

      after-right : (b : List ℕ) (t : Bool) → ltb (length b) (report_length l) ≡ t
          → after_by (total_keys g) g.sums.gained g.sums.possible b
          ≡ cond (eqb (cond t (refusal 9 0) (refusal 0 0)).number 0) (report_text l ++ drop (report_length l) b) b
      unfolding after_by text_by report_length report_text session_text
      after-right b true e = rw (g_length, e)
      after-right b false e = rw (g_length, e, g_totals, g_gained, g_possible)

    few_seen : ltb 999 g.sums.seen ≡ false
    few_seen = le-ltb 999 g.sums.seen (omega (arith, g_seen, fits))

    by_wrong : {T : Type 0} (x : T) (f : ℕ → T) (t : Bool) → eqb (first_wrong_mark 0 l) 0 ≡ t
        → unless_wrong g.sums.wrong x f ≡ cond t x (f (first_wrong_mark 0 l))
    by_wrong x f true e = ap (λ (w : Option ℕ). unless_wrong w x f) g_wrong ∙ rw e
    by_wrong x f false e = ap (λ (w : Option ℕ). unless_wrong w x f) g_wrong ∙ rw e

    out_few : (room : ℕ) (b : List ℕ) (t : Bool) → eqb (first_wrong_mark 0 l) 0 ≡ t
        → (answer_of g room ≡ report_answer l room) × (after_of g b ≡ after_report l b)
    unfolding answer_of after_of report_answer after_report report_refusal marks_refusal
    out_few room b true e =
        let a = none_wrong 0 l (eqb-true (first_wrong_mark 0 l) 0 e) in
        let few = le-ltb 999 (length l) fits in (
          rw (few_seen, few, e) (by_wrong _ _ true e ∙ answer_right a room (ltb room (report_length l)) refl),
          rw (few_seen, few, e) (by_wrong _ _ true e ∙ after-right a b (ltb (length b) (report_length l)) refl),
        )
    out_few room b false e =
        let few = le-ltb 999 (length l) fits in (rw (few_seen, few, e) (by_wrong _ _ false e), rw (few_seen, few, e) (by_wrong _ _ false e))

  many_seen : 999 < length l → ltb 999 g.sums.seen ≡ true
  many_seen h = lt-ltb 999 g.sums.seen (seen_many l none (omega (arith, h)))

  out : (room : ℕ) (b : List ℕ) (t : Bool) → ltb 999 (length l) ≡ t → (answer_of g room ≡ report_answer l room) × (after_of g b ≡ after_report l b)
  unfolding answer_of after_of report_answer after_report report_refusal marks_refusal
  out room b true h = let many = many_seen (ltb-true 999 (length l) h) in (rw (many, h), rw (many, h))
  out room b false h = out_few (ltb-false 999 (length l) h) room b (eqb (first_wrong_mark 0 l) 0) refl

  -- The keys are in order by their places, where they are to be put in order.
  pub begun : Begun g
  begun few right =
      let fits : length l ≤ 999 = fits_by (ltb 999 (length l)) refl in
      rw (g_keys fits) (keyed_begun 0 l (omega (arith, fits)) (none_wrong 0 l (none_found _ (sym (g_wrong fits) ∙ right))))
    where
      fits_by : (t : Bool) → ltb 999 (length l) ≡ t → length l ≤ 999
      fits_by true h = absurd (omega (arith, few, seen_many l none (omega (arith, ltb-true 999 (length l) h))))
      fits_by false h = ltb-false 999 (length l) h

  pub answers : (room : ℕ) → answer_of g room ≡ report_answer l room
  answers room = (out room [] (ltb 999 (length l)) refl).0

  pub afters : (b : List ℕ) → after_of g b ≡ after_report l b
  afters b = (out 0 b (ltb 999 (length l)) refl).1
