-- Two verdicts on files of one reading, from path lists of the same lengths, are the same, shown paths aside (`verdicts_same`). And a refusal's verdict, of
-- which all other fields are 0.
use mathlib.Core.Path.{◌≡◌, refl, ap, ◌∙◌}
use mathlib.Core.Bool.{Bool, true, false}
use mathlib.Core.List.{List}
use Prim.Native.Nat.{ℕ}
use native.Mathlib.Omega.{arith}
use lib.Dec.{eqb}
use lib.ListN.{length}
use Rattle.std.specs.Prelude.{Result, Err}
use Rattle.meaning.specs.declared.Situation.{Situation}
use Rattle.meaning.specs.declared.Refusal.{Refusal}
use Rattle.meaning.specs.declared.Verdict.{Verdict}
use Rattle.meaning.specs.declared.ShownVerdict.{ShownVerdict}
use Rattle.meaning.specs.File.{reading}
use Rattle.meaning.specs.Operations.{verdict_refusal, Answers, VerdictIs}
use Rattle.c_layout.specs.Flat.{flat_verdict}
use Rattle.c_layout.specs.declared.FlatRefusal.{FlatRefusal}
use Rattle.c_layout.specs.declared.FlatVerdict.{FlatVerdict}
use Rattle.demands.specs.Words.{SameVerdict}
use Rattle.demands.specs.OfVerdict.{NoVerdict}

abbrev pub no_verdict : FlatRefusal → FlatVerdict
no_verdict q =
    record {
      refusal = q;
      dangerous = 0;
      first_train = 0;
      second_train = 0;
      meeting = 0;
      entries = 0;
      looks = 0;
      first_length = 0;
      second_length = 0;
    }

pub no_verdict_of : {r : FlatVerdict} → NoVerdict r → r ≡ no_verdict r.refusal
no_verdict_of n = grind arith

module _ (first second first' second' third fourth third' fourth' : List ℕ) (v v' : Result ShownVerdict Refusal) where
  -- Two answers of one verdict.
  one_verdict : (s : Situation) (σ : List ℕ) (w : Verdict) → Answers s σ w first second first' second' v → Answers s σ w third fourth third' fourth' v'
      → SameVerdict (flat_verdict v) (flat_verdict v')
  one_verdict s σ w h k = grind arith

one_refusal : (v v' : Result ShownVerdict Refusal) (q : Refusal) → v ≡ Err q → v' ≡ Err q → SameVerdict (flat_verdict v) (flat_verdict v')
one_refusal v v' q h k = grind arith

pub verdicts_same : (file text first second first' second' third fourth third' fourth' : List ℕ) (v v' : Result ShownVerdict Refusal)
    → reading text ≡ reading file → length third ≡ length first → length fourth ≡ length second
    → VerdictIs file first second first' second' v → VerdictIs text third fourth third' fourth' v' → SameVerdict (flat_verdict v) (flat_verdict v')
unfolding verdict_refusal
verdicts_same file text first second first' second' third fourth third' fourth' v v' same n m w other = go (eqb q.number 0) refl
  where
    q : Refusal
    q = verdict_refusal file (length first) (length second)

    refusals : verdict_refusal text (length third) (length fourth) ≡ q
    refusals = rw (same, n, m)

    go : (t : Bool) → eqb q.number 0 ≡ t → SameVerdict (flat_verdict v) (flat_verdict v')
    go true t =
        one_verdict first second first' second' third fourth third' fourth' v v' _ _ _ (w.answers t) (rw same at (other.answers (rw refusals t)))
    go false t = one_refusal v v' q (w.refuses t).0 ((other.refuses (rw refusals t)).0 ∙ ap Err refusals)
