-- `reader::under` tests the first line, 2, 3 and 4 in this order, and reads the lines after it.
use mathlib.Core.Path.{sym, ◌∙◌}
use borrow.Author.Tests.{eq-eqb, ne_eqb}
use Rattle.meaning.specs.File.{refused, reading_under_in}
use Rattle.meaning.proofs.Refused.{answered_read}
use Rattle.reader.proofs.under.Goals as goal
use Rattle.reader.proofs.under.Goals.{Else-file-n}

pub returns-then-out_of_range : goal.returns-then-out_of_range
unfolding reading_under_in refused
returns-then-out_of_range c =
    sym (simp (ne_eqb _ _ c.requires, sym c.out_of_range.ensures ∙ c.if-out_of_range.true))

pub returns-then-file-n : goal.returns-then-file-n
unfolding reading_under_in refused
returns-then-file-n c =
    sym (simp (ne_eqb _ _ c.requires, sym c.out_of_range.ensures ∙ c.if-out_of_range.false, ne_eqb _ _ c.if-file-n.true))

pub returns : goal.returns
unfolding reading_under_in
returns c =
    c.read.ensures
    ∙ answered_read _ _
    ∙ (rw c.header_of.ensures
    (sym (simp (ne_eqb _ _ c.requires, sym c.out_of_range.ensures ∙ c.if-out_of_range.false, eq-eqb _ _ c.if-file-n.false))))
