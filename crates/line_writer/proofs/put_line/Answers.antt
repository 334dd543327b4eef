-- `line_writer::put_line` meets its contract: it stores the row of the line's kind, which fills at most four fields.
use Rattle.std.proofs.Common.{◌≡◌, sym, ap, ◌∙◌, refl, arith}
use Rattle.std.proofs.lemmas.List.Edits.{sets}
use Rattle.line_writer.proofs.Splice.{few_filled, line_stored, line_summed}
use Rattle.line_writer.proofs.put_line.Goals as goal

pub returns-in-0 : goal.returns-in-0
returns-in-0 c = record {
  text = c.put_row.ensures.text ∙ ap (sets _ _) (line_stored c.args.l c.record_kind-e.ensures (sym c.in-0.is));
  count = λ h. c.put_row.ensures.count ∙ line_summed c.args.l c.record_kind-e.ensures (sym c.in-0.is) h;
  few = c.put_row.ensures.few;
}

pub returns-in-1 : goal.returns-in-1
returns-in-1 c = record {
  text = c.put_row-in-1.ensures.text ∙ ap (sets _ _) (line_stored c.args.l c.record_kind-e.ensures (sym c.in-1.is));
  count = λ h. c.put_row-in-1.ensures.count ∙ line_summed c.args.l c.record_kind-e.ensures (sym c.in-1.is) h;
  few = c.put_row-in-1.ensures.few;
}

pub returns-in-2 : goal.returns-in-2
returns-in-2 c = record {
  text = c.put_row-in-2.ensures.text ∙ ap (sets _ _) (line_stored c.args.l c.record_kind-e.ensures (sym c.in-2.is));
  count = λ h. c.put_row-in-2.ensures.count ∙ line_summed c.args.l c.record_kind-e.ensures (sym c.in-2.is) h;
  few = c.put_row-in-2.ensures.few;
}

pub returns-in-3 : goal.returns-in-3
returns-in-3 c = record {
  text = c.put_row-in-3.ensures.text ∙ ap (sets _ _) (line_stored c.args.l c.record_kind-e.ensures (sym c.in-3.is));
  count = λ h. c.put_row-in-3.ensures.count ∙ line_summed c.args.l c.record_kind-e.ensures (sym c.in-3.is) h;
  few = c.put_row-in-3.ensures.few;
}

pub returns-in_default : goal.returns-in_default
returns-in_default c =
    let few = few_filled c.args.l.kind c.record_kind-e.ensures refl in
    let four : 4 ≡ c.record_kind-e.result.filled = omega arith in record {
      text = c.put_row-in_default.ensures.text ∙ ap (sets _ _) (line_stored c.args.l c.record_kind-e.ensures four);
      count = λ h. c.put_row-in_default.ensures.count ∙ line_summed c.args.l c.record_kind-e.ensures four h;
      few = c.put_row-in_default.ensures.few;
    }
