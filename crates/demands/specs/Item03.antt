-- Item 3 of document 02, signals on turnout legs, of the reader: "Refusal 8 remains for two signals, two turnouts, or a P line with any other line, another P
-- line included." Which moves are then permitted is `Agreed` (Reach), and the law of them stands with the verdict (OfVerdict).
use Rattle.std.specs.Prelude.{◌≡◌, List, ℕ, suc, ◌+◌}
use Rattle.meaning.specs.Accepted.{body_line}
use Rattle.c_layout.specs.declared.FlatReading.{FlatReading}
use Rattle.demands.specs.Demand1.{lines_to, Clash}

-- `file` is handed over, and the reader answers r: 8 comes with two such lines, the later at the line given. That an accepted file has none is
-- `apart` (Accepted); see `NoneClash` and `ClashingLines` (Laws).
abbrev pub Item3Read : List ℕ → FlatReading → Type 0
Item3Read file r = r.refusal.number ≡ 8 → (j : ℕ) × (r.refusal.line ≡ j + 2) × Clash (lines_to (body_line file) j) (body_line file (suc j))
