-- `report::written` meets its contract.
use Rattle.report.proofs.Ending.{many, one_wrong, all_right}
use Rattle.report.proofs.written.Goals as goal

pub returns-then-n-gt-MOST : goal.returns-then-n-gt-MOST
returns-then-n-gt-MOST c = let w = many c.args.g c.args.buffer.now c.if-n-gt-MOST.true in record { answer = w.0; after = w.1 }

pub returns-in-Some : goal.returns-in-Some
returns-in-Some c =
    let w = one_wrong c.args.g c.args.buffer.now c.if-n-gt-MOST.false c.in-Some.line c.in-Some.is in
    record { answer = w.0; after = w.1 }

pub returns : goal.returns
returns c =
    let p = c.put_report.ensures in
    let w = all_right c.args.g c.args.buffer.now c.if-n-gt-MOST.false c.in_default.is _ _ p.answer p.after in
    record { answer = w.0; after = w.1 }
