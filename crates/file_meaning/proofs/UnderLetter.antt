-- Nothing but the reader and the writer goes by the letter: a situation under the other letter has the same verdict (`same_verdict`), shows the
-- same paths (`same_shows`) and has the same settings (`same_reply`, `same_chosen`). So two files that are read alike but for the letter get the
-- same answers (`refusals_carried`, `verdict_carried`, `settings_carried`).
use native.Mathlib.Omega.{arith}
use mathlib.Core.Path.{◌≡◌, ap, ◌∙◌}
use mathlib.Core.Bool.{not, ◌&&◌}
use mathlib.Core.List.{List}
use Prim.Native.Nat.{ℕ, ◌-◌}
use lib.ListN.{length}
use Rattle.std.specs.Prelude.{Result}
use Rattle.meaning.specs.declared.Letter.{Letter}
use Rattle.meaning.specs.declared.Situation.{Situation}
use Rattle.meaning.specs.declared.Verdict.{Verdict}
use Rattle.meaning.specs.declared.ShownVerdict.{ShownVerdict}
use Rattle.meaning.specs.declared.Refusal.{Refusal}
use Rattle.meaning.specs.Station.{moves, file_states, trains_of, standing}
use Rattle.meaning.specs.Paths.{mem, reach, path_to, once}
use Rattle.basics.specs.Numbers.{found, lowest}
use Rattle.meaning.specs.Verdict.{in_reach, shared_section, earlier_train, dangerous, later_train, verdict_for, verdict, shows}
use Rattle.meaning.specs.Settings.{settings, keep, safe_settings, proceed_count, choose, chosen, reply_of, reply}
use Rattle.meaning.specs.File.{reading}
use Rattle.meaning.specs.Operations.{call_refusal, verdict_refusal, Shows, Answers, VerdictIs, settings_refusal, settings_answer, after_settings}
use Rattle.meaning.specs.declared.Header.{Header}

-- ---- what a letter says of a situation
abbrev pub header_under : Letter → Header → Header
header_under x h = record { letter = x; sections = h.sections; plain = h.plain; elements = h.elements; trains = h.trains }

-- The situation as a file with the letter x has it: nothing but the letter is another.
abbrev pub situation_under : Letter → Situation → Situation
situation_under x s = record { header = header_under x s.header; plain = s.plain; elements = s.elements; trains = s.trains }

-- ---- a situation under a letter
module _ (x : Letter) (s : Situation) where
  pub same_standing : (t : ℕ) → standing (situation_under x s) t ≡ standing s t
  unfolding standing trains_of
  same_standing t = grind arith

  same_reach : (σ : List ℕ) (t k : ℕ) → in_reach (situation_under x s) σ t k ≡ in_reach s σ t k
  unfolding in_reach
  same_reach σ t k = λ i. mem k (reach (moves s σ) (same_standing t i))

  same_shared : (σ : List ℕ) (a b : ℕ) → shared_section (situation_under x s) σ a b ≡ shared_section s σ a b
  unfolding shared_section
  same_shared σ a b = λ i. lowest s.header.sections (λ k. same_reach σ a k i && same_reach σ b k i)

  same_earlier : (σ : List ℕ) (j : ℕ) → earlier_train (situation_under x s) σ j ≡ earlier_train s σ j
  unfolding earlier_train
  same_earlier σ j = λ i. lowest (j - 1) (λ a. found (same_shared σ a j i))

  same_dangerous : (σ : List ℕ) (m : ℕ) → dangerous (situation_under x s) σ m ≡ dangerous s σ m
  unfolding dangerous
  same_dangerous σ m = λ i. found (lowest m (λ j. found (same_earlier σ j i)))

  same_later : (σ : List ℕ) → later_train (situation_under x s) σ ≡ later_train s σ
  unfolding later_train
  same_later σ = λ i. lowest s.header.trains (λ m. same_dangerous σ m i)

  same_for : (σ : List ℕ) (j : ℕ) → verdict_for (situation_under x s) σ j ≡ verdict_for s σ j
  unfolding verdict_for
  same_for σ j = grind arith

  pub same_verdict : (σ : List ℕ) → verdict (situation_under x s) σ ≡ verdict s σ
  unfolding verdict
  same_verdict σ = λ i. same_for σ (same_later σ i) i

  pub same_shows : (σ : List ℕ) (t k : ℕ) (p : List ℕ) → shows (situation_under x s) σ t k p ≡ shows s σ t k p
  unfolding shows
  same_shows σ t k p = λ i. path_to (moves s σ) (same_standing t i) k p && once p

  same_safe : safe_settings (situation_under x s) ≡ safe_settings s
  unfolding safe_settings
  same_safe = λ i. keep (λ σ. not (same_dangerous σ s.header.trains i)) (settings (file_states s))

  pub same_chosen : chosen (situation_under x s) ≡ chosen s
  unfolding chosen
  same_chosen = λ i. choose (proceed_count s) (same_safe i)

  pub same_reply : reply (situation_under x s) ≡ reply s
  unfolding reply
  same_reply = λ i. reply_of (length (same_safe i)) (proceed_count s (same_chosen i))

-- ---- two files
-- The answers to f and to g, which are read alike but for the letter.
pub record Alike (x : Letter) (f g : List ℕ) : Type 0 where
  pub refusal : (reading g).refusal ≡ (reading f).refusal
  pub situation : (reading g).situation ≡ situation_under x (reading f).situation

module _ (x : Letter) (f g : List ℕ) (alike : Alike x f g) where
  pub refusals_carried : (n m : ℕ) → verdict_refusal g n m ≡ verdict_refusal f n m
  unfolding verdict_refusal call_refusal file_states
  refusals_carried n m = rw (alike.refusal, alike.situation)

  settings-refused : (n : ℕ) → settings_refusal g n ≡ settings_refusal f n
  unfolding settings_refusal call_refusal file_states
  settings-refused n = rw (alike.refusal, alike.situation)

  reply_carried : reply (reading g).situation ≡ reply (reading f).situation
  reply_carried = ap reply alike.situation ∙ same_reply x (reading f).situation

  chosen_carried : chosen (reading g).situation ≡ chosen (reading f).situation
  chosen_carried = ap chosen alike.situation ∙ same_chosen x (reading f).situation

  -- The settings question has the same answer for both files, and leaves the same buffer.
  pub settings_carried : (n : ℕ) → settings_answer g n ≡ settings_answer f n
  unfolding settings_answer
  settings_carried n = rw (settings-refused n, reply_carried)

  pub after_settings_carried : (buffer : List ℕ) → after_settings g buffer ≡ after_settings f buffer
  unfolding after_settings
  after_settings_carried buffer = rw (settings-refused (length buffer), chosen_carried)

  -- What the verdict may answer and show for f, it may for g.
  module _ (first second first' second' : List ℕ) (r : Result ShownVerdict Refusal) where
    shows_carried : (σ : List ℕ) (t k n : ℕ) (list list' : List ℕ) → Shows (reading f).situation σ t k n list list'
        → Shows (situation_under x (reading f).situation) σ t k n list list'
    shows_carried σ t k n list list' w = grind (arith, same_shows)

    answers_carried : (σ : List ℕ) (v : Verdict) → Answers (reading f).situation σ v first second first' second' r
        → Answers (situation_under x (reading f).situation) σ v first second first' second' r
    answers_carried σ v h = grind (arith, shows_carried)

    pub verdict_carried : VerdictIs f first second first' second' r → VerdictIs g first second first' second' r
    unfolding file_states
    verdict_carried w = grind (arith, answers_carried, refusals_carried, same_verdict)
