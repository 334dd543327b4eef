-- The situation whose parts are lent.
use Rattle.meaning.specs.declared.Situation.{Situation}
use Rattle.writer.specs.declared.InRange.{InRange}

abbrev pub situation_of : InRange → Situation
situation_of s = record { header = s.header; plain = s.plain.now; elements = s.elements.now; trains = s.trains.now }
