-- A turn of the loop over the lines of a part: one more is read.
use mathlib.Core.Path.{◌≡◌, ap, subst, ◌∙◌}
use mathlib.Core.List.{List}
use Prim.Native.Nat.{ℕ, ◌+◌, ◌-◌, ◌≤◌, ◌<◌}
use native.Mathlib.Omega.{arith}
use lib.ListN.{set, replicate}
use Rattle.std.specs.Prelude.{Ok}
use Rattle.meaning.specs.declared.Header.{Header}
use Rattle.meaning.specs.declared.Line.{Line}
use Rattle.basics.specs.Lists.{list_of, pad_to}
use Rattle.meaning.specs.File.{refusal}
use Rattle.line_checks.specs.declared.Seen.{Seen}
use Rattle.line_checks.specs.Causes.{Checked, Passed, Refuses}
use Rattle.line_checks.proofs.Steps.{Turn, turned, passed_at, refuses_first}
use Rattle.reader.specs.Reader.{IsPart, PartRead}
use Rattle.reader.proofs.Steps.{fill_start, fill_more}

module _ {T : Type 0} (h : Header) (lines : ℕ → Line) (first n room : ℕ) (none : T) (value : Line → T) where
  -- The first k lines have passed, and xs has their values.
  abbrev pub Taken : ℕ → Seen → List T → Type 0
  Taken k seen xs = (k ≤ n) × Passed h lines (first - 1 + k) seen × (xs ≡ pad_to room none (list_of k (λ j. value (lines (first + j)))))

  pub taken_none : {t : Seen} → Passed h lines (first - 1) t → Taken 0 t (replicate room none)
  taken_none p =
      let start : first - 1 ≡ first - 1 + 0 = omega arith in
      (omega arith, passed_at h lines start p, fill_start room none (λ j. value (lines (first + j))))

  module _ (part : IsPart h first n) (k : ℕ) (few : k < n) {l : Line} (is : l ≡ lines (first + k)) {u v : Seen} {q : ℕ}
      (c : Checked h.sections l u v q) {xs : List T} (t : Taken k u xs) where
    turn : Turn h lines (first - 1 + k) (first + k) l v q
    turn =
        turned h lines (first - 1 + k) (first + k) (omega (arith, part.low)) (omega (arith, part.within, part.low)) l is c t.1

    -- The next has no cause.
    pub taken_more : n ≤ room → q ≡ 0 → {x : T} → x ≡ value l → Taken (k + 1) v (set xs k x)
    taken_more fits z {x} e =
        let next : first - 1 + k + 1 ≡ first - 1 + (k + 1) = omega arith in (
          omega arith,
          passed_at h lines next (turn.passes z),
          fill_more room none (λ j. value (lines (first + j))) xs k x (omega arith) (e ∙ ap value is) t.2,
        )

    -- It has one.
    pub taken_refused : (q ≡ 0 → ⊥) → Refuses h lines (refusal q (first + k + 1))
    taken_refused z = refuses_first h lines z (turn.refuses z)

  -- All have passed.
  pub taken_all : {k : ℕ} {u : Seen} {xs : List T} → k ≡ n → Taken k u xs → PartRead h lines first n room none value u (Ok xs)
  taken_all {u = u} {xs = xs} e t =
      let last = subst (λ (i : ℕ). Taken i u xs) e t in (last.1, last.2)
