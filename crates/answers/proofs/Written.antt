-- C lines stored one after the other at the start of a buffer.
use mathlib.Core.Path.{refl}
use mathlib.Core.List.{List, map}
use Prim.Native.Nat.{ℕ}
use Rattle.session_meaning.specs.Answers.{answer_text, answers_text}
use Rattle.meaning.proofs.Columns.{row-length}
use Rattle.basics.proofs.Stored.{Lined}
use Rattle.answers.specs.Keys.{sent_of}

abbrev pub line_at : ℕ → List ℕ
line_at x = answer_text (sent_of x)

abbrev pub lines_of : List ℕ → List ℕ
lines_of keys = answers_text (map sent_of keys)

pub lined : Lined line_at lines_of
unfolding answers_text
lined =
    record {
      none = refl;
      next = λ x l. refl;
      size = λ x. let a = sent_of x in row-length 67 4 a.candidate a.question a.sequence a.answer;
    }
