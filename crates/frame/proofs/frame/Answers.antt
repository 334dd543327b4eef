-- A refused call leaves the buffer, and any other writes the setting at the frame's place.
use Rattle.std.proofs.Common.{◌≡◌, refl, sym, ap, ◌∙◌, length}
use Rattle.std.proofs.lemmas.Result.{err_from_is_err_and}
use Rattle.setting_order.proofs.Order.{frame_place}
use Rattle.element_states.proofs.States.{states_length}
use Rattle.settings.proofs.Refusals.{Granted, few, enough, refused_file, refused_call}
use Rattle.frame.proofs.Frames.{kept, written}
use Rattle.frame.proofs.frame.Goals as goal
use Rattle.frame.proofs.frame.Goals.{After-elements-states, In_ok-settings_call}

-- The slice has a state for each element.
size : (c : After-elements-states) → length c.elements-states.result.now ≡ c.in_ok-s.s.situation.header.elements
size c = ap length c.elements-states.ensures.are ∙ states_length c.in_ok-s.s.collected c.in_ok-s.s.sound.limits

granted : (c : In_ok-settings_call) → Granted c.in_ok-s.s.situation (length c.args.buffer.now)
granted c = sym (rw (ap length c.elements-states.ensures.are ∙ states_length c.in_ok-s.s.collected c.in_ok-s.s.sound.limits) at c.in_ok-settings_call.ensures)

pub returns-in_err-s-clause-refusal : goal.returns-in_err-s-clause-refusal
returns-in_err-s-clause-refusal c =
    let p = err_from_is_err_and c.from_residual.result c.from_residual.ensures.1 in
    rw (p.1, p.2) (kept _ c.args.n _ (refused_file _ _ c.in_err-s.ensures.refused)).0

pub returns-in_err-s-clause-after : goal.returns-in_err-s-clause-after
returns-in_err-s-clause-after c = (kept _ c.args.n _ (refused_file _ _ c.in_err-s.ensures.refused)).1

pub returns-in_err-settings_call-clause-refusal : goal.returns-in_err-settings_call-clause-refusal
returns-in_err-settings_call-clause-refusal c =
    let p = err_from_is_err_and c.from_residual-in_err-settings_call.result c.from_residual-in_err-settings_call.ensures.1 in
    let e = rw (size (goal.at.returns-in_err-settings_call-clause-refusal c).After-elements-states) at c.in_err-settings_call.ensures in
    rw (p.1, p.2) (kept _ c.args.n _ (refused_call _ _ c.in_ok-s.ensures.accepted (sym e))).0

pub returns-in_err-settings_call-clause-after : goal.returns-in_err-settings_call-clause-after
returns-in_err-settings_call-clause-after c =
    let e = rw (size (goal.at.returns-in_err-settings_call-clause-after c).After-elements-states) at c.in_err-settings_call.ensures in
    (kept _ c.args.n _ (refused_call _ _ c.in_ok-s.ensures.accepted (sym e))).1

pub frame_place-place-requires : goal.frame_place-place-requires
frame_place-place-requires c = rw c.open_count-opens.ensures (few _ _ (granted (goal.at.frame_place-place-requires c).In_ok-settings_call))

pub put_setting-requires-clause-room : goal.put_setting-requires-clause-room
put_setting-requires-clause-room c =
    rw (size (goal.at.put_setting-requires-clause-room c).After-elements-states) (enough _ _ (granted (goal.at.put_setting-requires-clause-room c).In_ok-settings_call))

pub put_setting-requires-clause-place : goal.put_setting-requires-clause-place
put_setting-requires-clause-place c =
    rw (c.elements-states.ensures.are, c.frame_place-place.ensures, c.open_count-opens.ensures)
    (refl, few _ _ (granted (goal.at.put_setting-requires-clause-place c).In_ok-settings_call), frame_place _ _)

pub returns-clause-refusal : goal.returns-clause-refusal
returns-clause-refusal c =
    (written _ c.args.n _ c.in_ok-s.ensures.accepted (granted (goal.at.returns-clause-refusal c).In_ok-settings_call) refl).0

pub returns-clause-after : goal.returns-clause-after
returns-clause-after c =
    c.put_setting.ensures
    ∙ rw c.elements-states.ensures.are
    (written _ c.args.n _ c.in_ok-s.ensures.accepted (granted (goal.at.returns-clause-after c).In_ok-settings_call) (rw c.open_count-opens.ensures at c.frame_place-place.ensures)).1
