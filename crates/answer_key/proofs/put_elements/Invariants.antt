-- k lines are stored, and the others behind them make the whole.
use Rattle.answer_key.proofs.Rows.{Stored, element_row}
use Rattle.answer_key.proofs.put_elements.Given as goal

abbrev pub invariant-loop-k : goal.invariant-loop-k
invariant-loop-k l = Stored element_row l.setting l.initial.key 1 l.key l.count l.k
