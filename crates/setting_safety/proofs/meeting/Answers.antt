use Rattle.setting_safety.proofs.Meetings.{meeting_both}
use Rattle.setting_safety.proofs.meeting.Goals as goal

pub returns : goal.returns
returns c = meeting_both c.requires.noted c.over.ensures c.compared-2.ensures
