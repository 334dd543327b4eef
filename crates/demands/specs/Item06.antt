-- Item 6 of document 02, can it be saved at all? `file` is handed over, and judge_can_be_safe answers r. "The opening question of each paper only
-- wants a yes or no, and may leave every signal open." No memory is lent.
use Rattle.std.specs.Prelude.{◌≡◌, ◌↔◌, List, ℕ, ◌+◌, ◌-◌, ◌/◌, ◌≤◌, length, take, get_or}
use Rattle.meaning.specs.declared.Move.{Move}
use Rattle.meaning.specs.declared.Turnout.{Turnout}
use Rattle.meaning.specs.declared.Kind.TheVariants as kind
use Rattle.meaning.specs.declared.Situation.{Situation}
use Rattle.meaning.specs.Station.{elements_of}
use Rattle.meaning.specs.Accepted.{Accepted}
use Rattle.meaning.specs.Parts.{IsOpen, kind_of_element}
use Rattle.meaning.specs.CanBeSafe.{open_turnouts}
use Rattle.c_layout.specs.declared.FlatRefusal.{FlatRefusal}
use Rattle.c_layout.specs.declared.FlatYesNo.{FlatYesNo}
use Rattle.demands.specs.Words.{situation, Says}
use Rattle.demands.specs.Reach.{SafeSetting}
use Rattle.demands.specs.Demand1.{Answer, Unless, Is, FileCause}

-- ---- the answer
-- "Some setting of all the open elements is safe, with no bound on the open signals", as demand 3 says it.
abbrev pub SomeSafe : Situation → Type 0
SomeSafe s = (σ : List ℕ) × SafeSetting s σ

-- ---- the refusals
-- How many turnouts of a file are open.
abbrev pub turnouts : List ℕ → ℕ
turnouts file = open_turnouts (elements_of (situation file))

-- Element e is the m-th open turnout.
abbrev pub TurnoutAt : Situation → ℕ → ℕ → Type 0
TurnoutAt s m e =
    IsOpen s e × (t : Turnout) × (kind_of_element s e ≡ kind.Turnout t) × (open_turnouts (take (e - 1) (elements_of s)) + 1 ≡ m)

-- "Refusal 11 here means thirteen or more open turnouts, with the line of the thirteenth." Elements stand below the S line and the P lines.
abbrev pub CanBeSafeCause : List ℕ → FlatRefusal → Type 0
CanBeSafeCause file q =
    let s : Situation = situation file in
    Unless (Accepted file) (FileCause file q) ((e : ℕ) × (13 ≤ turnouts file) × TurnoutAt s 13 e × Is q 11 (1 + s.header.plain + e))

-- What was requested, or a refusal, after which the other field is 0. "Where the full question also replies, the two agree" follows (`FullAgrees`, Laws),
-- and so does that turnouts alone are enough (`TurnoutsAlone`).
abbrev pub Item6 : List ℕ → FlatYesNo → Type 0
Item6 file r =
    Answer r.refusal
    (Accepted file × (turnouts file ≤ 12) × Says r.yes (SomeSafe (situation file))) (CanBeSafeCause file r.refusal) (r.yes ≡ 0)
