-- The numbers that sections have (01, "The station file": an S line has "sections, 1 to 512").
use Rattle.std.specs.Prelude.{◌≤◌}
use Rattle.meaning.specs.declared.Section.{Section}

-- The number is a section number of the largest station.
abbrev pub IsSection : Section → Type 0
IsSection a = (1 ≤ a.0) × (a.0 ≤ 512)
