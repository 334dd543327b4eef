-- `report::put_report` meets its contract.
use Rattle.std.proofs.Common.{◌≡◌, ℕ, ◌-◌, List, length, drop, sym, ap, ◌∙◌, arith, length-drop, take_all}
use Rattle.sorting.specs.Sorted.{sorted}
use Rattle.report.specs.Gathering.{joined}
use Rattle.report.proofs.Ending.{end_short, end_written}
use Rattle.report.proofs.put_report.Goals as goal
use Rattle.report.proofs.put_report.Goals.{After-join-from}

-- The keys in order, joined from a place on.
module _ (c : After-join-from) where
  abbrev joint : List ℕ
  joint = joined (sorted c.args.keys.now)

  abbrev count : ℕ
  count = length c.join-from.new.keys - c.join-from.result

  part : drop c.join-from.result c.join-from.new.keys ≡ joint
  part = c.join-from.ensures.joined ∙ ap joined c.sort.ensures

  counted : length joint ≡ count
  counted = ap length (sym part) ∙ length-drop c.join-from.result c.join-from.new.keys

pub returns-then-buffer-length : goal.returns-then-buffer-length
returns-then-buffer-length c =
    let j = (goal.at.returns-then-buffer-length c).After-join-from in
    let a = c.args in
    let w = end_short (joint j) a.buffer.now (count j) a.gained a.possible (counted j) c.if-buffer-length.true in
    record { answer = w.0; after = w.1 }

pub returns : goal.returns
returns c =
    let j = (goal.at.returns c).After-join-from in
    let a = c.args in
    let whole = take_all (count j) _ (omega (arith, length-drop c.join-from.result c.join-from.new.keys)) ∙ part j in
    let w = end_written (joint j) a.buffer.now (count j) a.gained a.possible (counted j) (omega arith) _ _ _ whole c.put_totals.ensures
    c.put_row.ensures.text in
    record { answer = w.0; after = w.1 }
