-- Mark records: what a right one is, and the first wrong one of a list.
use mathlib.Core.Path.{◌≡◌, refl, ap, ◌∙◌}
use mathlib.Core.Bool.{Bool, true, false, cond}
use mathlib.Core.List.{List, [], ◌∷◌, ◌++◌}
use Prim.Native.Nat.{ℕ, suc, ◌+◌, ◌≤◌}
use native.Mathlib.Omega.{arith}
use lib.ListN.{length}
use Rattle.session_meaning.specs.declared.Mark.{Mark}
use Rattle.session_meaning.specs.Report.{right_mark, first_wrong_mark}

-- ---- one record
pub record Ranges (m : Mark) : Type 0 where
  pub candidate : (1 ≤ m.candidate) × (m.candidate ≤ 9999)
  pub question : (1 ≤ m.question) × (m.question ≤ 99)
  pub gained : m.gained ≤ m.possible
  pub possible : m.possible ≤ 100

pub right_ranges : (m : Mark) → right_mark m ≡ true → Ranges m
unfolding right_mark
right_ranges m e = grind arith

pub ranges_right : (m : Mark) → Ranges m → right_mark m ≡ true
unfolding right_mark
ranges_right m r = grind arith

-- ---- the first wrong one
abbrev pub AllRight : List Mark → Type 0
AllRight [] = Unit {0}
AllRight (m ∷ l) = (right_mark m ≡ true) × AllRight l

pub none_wrong : (i : ℕ) (l : List Mark) → first_wrong_mark i l ≡ 0 → AllRight l
unfolding first_wrong_mark
none_wrong i [] e = tt
none_wrong i (m ∷ l) e = go (right_mark m) refl e (λ f. none_wrong (suc i) l f)
  where
    go : (t : Bool) → right_mark m ≡ t → cond t (first_wrong_mark (suc i) l) (suc i) ≡ 0 → (first_wrong_mark (suc i) l ≡ 0 → AllRight l) → AllRight (m ∷ l)
    go true h f rest = (h, rest f)
    go false h f rest = absurd (omega arith)

-- The first wrong record, with those before it and those after it.
pub record Wrong (i : ℕ) (l : List Mark) : Type 0 where
  pub before : List Mark
  pub mark : Mark
  pub after : List Mark
  pub list : l ≡ before ++ mark ∷ after
  pub right : AllRight before
  pub wrong : right_mark mark ≡ false
  pub place : first_wrong_mark i l ≡ i + length before + 1

pub some_wrong : (i : ℕ) (l : List Mark) → (first_wrong_mark i l ≡ 0 → ⊥) → Wrong i l
unfolding first_wrong_mark
some_wrong i [] n = absurd (n refl)
some_wrong i (m ∷ l) n = go (right_mark m) refl (λ h. some_wrong (suc i) l h)
  where
    go : (t : Bool) → right_mark m ≡ t → ((first_wrong_mark (suc i) l ≡ 0 → ⊥) → Wrong (suc i) l) → Wrong i (m ∷ l)
    go false h rest =
        let e : cond (right_mark m) (first_wrong_mark (suc i) l) (suc i) ≡ suc i = ap (λ (t : Bool). cond t (first_wrong_mark (suc i) l) (suc i)) h in
        record { before = []; mark = m; after = l; list = refl; right = tt; wrong = h; place = e ∙ omega arith }
    go true h rest =
        let e : cond (right_mark m) (first_wrong_mark (suc i) l) (suc i) ≡ first_wrong_mark (suc i) l = ap (λ (t : Bool). cond t (first_wrong_mark (suc i) l) (suc i)) h in
        let w = rest (λ f. n (e ∙ f)) in
        record {
          before = m ∷ w.before;
          mark = w.mark;
          after = w.after;
          list = ap (λ (k : List Mark). m ∷ k) w.list;
          right = (h, w.right);
          wrong = w.wrong;
          place = e ∙ w.place ∙ omega arith;
        }
