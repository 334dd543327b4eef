-- What the code gives of a field that is to be filled, or not: its number, where the field is as its place asks.
use Rattle.std.specs.Prelude.{Bool, cond, ℕ, Option, Some, None}
use Rattle.meaning.specs.declared.Field.{Field}
use Rattle.meaning.specs.Columns.{fits, value_of}

abbrev pub cell_value : Bool → Field → Option ℕ
cell_value filled f = cond (fits filled f) (Some (value_of f)) None
