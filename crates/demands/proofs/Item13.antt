-- Item 13 holds of any operation with the contract of `judge_verdict` and `judge_settings`: files of one situation are read alike, and the questions go by what is
-- read. And what Item 13 says of fields and of the writer.
use mathlib.Core.Path.{◌≡◌, refl, ◌∙◌}
use mathlib.Core.Logic.{inl}
use mathlib.Core.List.{List}
use Prim.Native.Nat.{ℕ}
use lib.ListN.{length}
use Rattle.std.specs.Prelude.{Result}
use Rattle.meaning.specs.declared.Refusal.{Refusal}
use Rattle.meaning.specs.declared.ShownVerdict.{ShownVerdict}
use Rattle.meaning.specs.File.{reading, write_refusal, after_writing}
use Rattle.meaning.specs.Operations.{VerdictIs, verdict_refusal, settings_refusal, settings_answer, after_settings}
use Rattle.meaning.proofs.Padded.{padded_exactly}
use Rattle.c_layout.specs.declared.FlatRefusal.{FlatRefusal}
use Rattle.c_layout.specs.declared.FlatSituation.{FlatSituation}
use Rattle.c_layout.specs.declared.FlatVerdict.{FlatVerdict}
use Rattle.c_layout.specs.declared.FlatReply.{FlatReply}
use Rattle.c_layout.specs.Flat.{flat_refusal, situation_from_c, flat_verdict, flat_reply}
use Rattle.demands.specs.Words.{SameStation}
use Rattle.demands.specs.OfVerdict.{Item13Verdict}
use Rattle.demands.specs.OfSettings.{Item13Settings}
use Rattle.demands.specs.Laws.{PaddedFields, OldFormComesBack, SameForOldForm}
use Rattle.demands.proofs.OneText.{same_reading}
use Rattle.demands.proofs.Laws.{padded_too}
use Rattle.demands.proofs.Verdicts.{verdicts_same}
use Rattle.demands.proofs.VerdictExactly.{verdict_exactly}
use Rattle.demands.proofs.Demand1.{demand_1_verdict, demand_1_settings}
use Rattle.demands.proofs.Demand2.{demand_2_write}

-- Files of one situation are read alike.
read_alike : (file text : List ℕ) → SameStation file text → reading text ≡ reading file
read_alike file text w = same_reading file text w.0 w.1 w.2

-- ---- the reader and the writer
pub padded_fields : PaddedFields
padded_fields file = padded_exactly file

pub old_form_comes_back : OldFormComesBack
old_form_comes_back values buffer buffer' q d file a o e room =
    padded_too values buffer buffer' q d file file a e room
    (a, o, refl, refl, λ n. inl refl)

-- ---- the questions
same_contract : (file text first second first' second' : List ℕ) (a : Result ShownVerdict Refusal) → reading text ≡ reading file
    → VerdictIs file first second first' second' a → VerdictIs text first second first' second' a
unfolding verdict_refusal
same_contract file text first second first' second' a e c =
    record { refuses = λ h. rw e (c.refuses (rw (← e) h)); answers = λ h. rw e (c.answers (rw (← e) h)) }

pub item_13_verdict : (file first second first' second' : List ℕ) (r : FlatVerdict) (a : Result ShownVerdict Refusal)
    → VerdictIs file first second first' second' a → r ≡ flat_verdict a → Item13Verdict file first second first' second' r
item_13_verdict file first second first' second' r a contract e text w =
    demand_1_verdict text first second first' second' r a (same_contract file text first second first' second' a (read_alike file text w) contract) e

pub same_for_old_form : SameForOldForm
same_for_old_form file text w first second first' second' third fourth third' fourth' r r' n m d d' =
    let g = (verdict_exactly file first second first' second' r).0 d in
    let h = (verdict_exactly text third fourth third' fourth' r').0 d' in
    rw (g.2, h.2) (verdicts_same file text first second first' second' third fourth third' fourth' g.0 h.0 (read_alike file text w) n m g.1 h.1)

pub item_13_settings : (file buffer buffer' : List ℕ) (r : FlatReply) → r ≡ flat_reply (settings_answer file (length buffer))
    → buffer' ≡ after_settings file buffer → Item13Settings file buffer buffer' r
unfolding settings_answer after_settings settings_refusal
item_13_settings file buffer buffer' r answer left text w =
    let e = read_alike file text w in demand_1_settings text buffer buffer' r (answer ∙ rw e) (left ∙ rw e)
