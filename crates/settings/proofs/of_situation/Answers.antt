-- Each way out is a refusal of the call, or what `try_settings` finds.
use Rattle.std.proofs.Common.{◌≡◌, sym, ap, ◌∙◌, length}
use Rattle.std.proofs.lemmas.Result.{err_from_is_err_and}
use Rattle.element_states.proofs.States.{states_length}
use Rattle.settings.proofs.Refusals.{Granted, few, enough}
use Rattle.settings.proofs.Answers.{refuses, replies_none, replies_chosen}
use Rattle.settings.proofs.of_situation.Goals as goal
use Rattle.settings.proofs.of_situation.Goals.{After-elements-states, In_ok-settings_call}

-- The slice has a state for each element.
size : (c : After-elements-states) → length c.elements-states.result.now ≡ c.args.s.now.situation.header.elements
size c = ap length c.elements-states.ensures.are ∙ states_length c.args.s.now.collected c.args.s.now.sound.limits

granted : (c : In_ok-settings_call) → Granted c.args.s.now.situation (length c.args.buffer.now)
granted c = sym (rw (ap length c.elements-states.ensures.are ∙ states_length c.args.s.now.collected c.args.s.now.sound.limits) at c.in_ok-settings_call.ensures)

pub returns-in_err-settings_call-clause-answer : goal.returns-in_err-settings_call-clause-answer
returns-in_err-settings_call-clause-answer c =
    let p = err_from_is_err_and c.from_residual.result c.from_residual.ensures.1 in
    let e = rw (size (goal.at.returns-in_err-settings_call-clause-answer c).After-elements-states) at c.in_err-settings_call.ensures in
    rw (p.1, p.2) (refuses _ _ (sym e)).0

pub returns-in_err-settings_call-clause-after : goal.returns-in_err-settings_call-clause-after
returns-in_err-settings_call-clause-after c =
    let e = rw (size (goal.at.returns-in_err-settings_call-clause-after c).After-elements-states) at c.in_err-settings_call.ensures in
    (refuses _ _ (sym e)).1

pub invariant_of-try_settings : goal.invariant_of-try_settings
invariant_of-try_settings c = record { few = few _ _ (granted (goal.at.invariant_of-try_settings c).In_ok-settings_call) }

pub returns-in-None-clause-answer : goal.returns-in-None-clause-answer
returns-in-None-clause-answer c = (replies_none _ _ (granted (goal.at.returns-in-None-clause-answer c).In_ok-settings_call) c.in-None.ensures).0

pub returns-in-None-clause-after : goal.returns-in-None-clause-after
returns-in-None-clause-after c = (replies_none _ _ (granted (goal.at.returns-in-None-clause-after c).In_ok-settings_call) c.in-None.ensures).1

pub put_setting-requires-clause-room : goal.put_setting-requires-clause-room
put_setting-requires-clause-room c =
    rw (size (goal.at.put_setting-requires-clause-room c).After-elements-states) (enough _ _ (granted (goal.at.put_setting-requires-clause-room c).In_ok-settings_call))

pub returns-in-Some-clause-answer : goal.returns-in-Some-clause-answer
returns-in-Some-clause-answer c =
    (replies_chosen _ _ (granted (goal.at.returns-in-Some-clause-answer c).In_ok-settings_call) c.in-Some.ensures).0

pub returns-in-Some-clause-after : goal.returns-in-Some-clause-after
returns-in-Some-clause-after c =
    c.put_setting.ensures
    ∙ rw c.elements-states.ensures.are (replies_chosen _ _ (granted (goal.at.returns-in-Some-clause-after c).In_ok-settings_call) c.in-Some.ensures).1
