-- k lines are stored, and the others behind them make the whole.
use Rattle.answer_key.proofs.Rows.{Stored, path_row}
use Rattle.answer_key.proofs.put_path.Given as goal

abbrev pub invariant-loop-k : goal.invariant-loop-k
invariant-loop-k l = Stored (path_row l.letter l.t) l.path l.initial.key l.i l.key l.count l.k
