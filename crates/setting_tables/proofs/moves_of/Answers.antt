use Rattle.setting_tables.proofs.Opening.{signal_moves, turnout_moves}
use Rattle.setting_tables.proofs.moves_of.Goals as goal

pub returns-in-Signal : goal.returns-in-Signal
returns-in-Signal c = signal_moves c.in-Some.is c.in-Signal.is

pub returns-in-Turnout : goal.returns-in-Turnout
returns-in-Turnout c = turnout_moves c.in-Some.is c.in-Turnout.is
