-- M lines stored one after the other at the start of a buffer.
use Rattle.std.proofs.Common.{ℕ, List, map, refl}
use Rattle.session_meaning.specs.Report.{total_text, totals_text}
use Rattle.meaning.proofs.Columns.{row-length}
use Rattle.basics.proofs.Stored.{Lined}
use Rattle.report.specs.Gathering.{total_at}

abbrev pub line_at : ℕ → List ℕ
line_at x = total_text (total_at x)

abbrev pub lines_of : List ℕ → List ℕ
lines_of keys = totals_text (map total_at keys)

pub lined : Lined line_at lines_of
unfolding totals_text
lined =
    record {
      none = refl;
      next = λ x l. refl;
      size = λ x. let t = total_at x in row-length 77 3 t.candidate t.gained t.possible 0;
    }
