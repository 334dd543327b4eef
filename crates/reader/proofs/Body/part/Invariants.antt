-- Before line k of the part those before it have passed, and the array has their values.
use Rattle.meaning.specs.File.{file_line}
use Rattle.reader.proofs.Loop.{Taken}
use Rattle.reader.proofs.Body.part.Given as goal

abbrev pub invariant-loop-k : goal.invariant-loop-k
invariant-loop-k g l = Taken l.self.header (file_line l.self.file.now l.self.header) l.first l.n g.row.N l.fn.none g.T.Entry.value l.k l.seen l.entries
