-- Rows at the places of a definition that no law of this crate fixes, by evaluation. A wrong edit is tried over its own crate alone, so they stand here;
-- the whole tables stand in crate `worked_examples`.
use Rattle.std.specs.Prelude.{◌≡◌, refl, Some, true, false, [], ◌∷◌, ◌++◌, map, ℕ, ◌+◌}
use native.Mathlib.Omega.{arith}
use Rattle.meaning.specs.declared.Move.{Move}
use Rattle.meaning.specs.declared.Situation.{Situation}
use Rattle.meaning.specs.declared.Choice.{Choice}
use Rattle.meaning.specs.Columns.{p_line, signal_line, turnout_line, t_line, s_line, u_line, record_kind_at, field_text, row_text}
use Rattle.meaning.specs.Station.{section}
use Rattle.meaning.specs.File.{excludes, pairs_of, refusal}
use Rattle.meaning.specs.Operations.{element_line}
use Rattle.meaning.specs.Key.{element_lines, refusal_key, question_key}

-- "S", "U", "P", "L", "D", and "T" of one to four sections.
letters :
    map (λ (k : ℕ). (record_kind_at k).letter)
    (s_line ∷ u_line ∷ p_line ∷ signal_line ∷ turnout_line ∷ t_line ∷ (t_line + 1) ∷ (t_line + 2) ∷ (t_line + 3) ∷ [])
    ≡ 83 ∷ 85 ∷ 80 ∷ 76 ∷ 68 ∷ 84 ∷ 84 ∷ 84 ∷ 84 ∷ []
unfolding record_kind_at
letters = refl

-- Refusal 8 "remains for two signals, two turnouts, or a P line with any other line, another P line included": a P line, a signal and a turnout,
-- each beside each.
excluded :
    map (λ (j : ℕ). map (excludes j) (p_line ∷ signal_line ∷ turnout_line ∷ [])) (p_line ∷ signal_line ∷ turnout_line ∷ [])
    ≡ (true ∷ true ∷ true ∷ []) ∷ (true ∷ true ∷ false ∷ []) ∷ (true ∷ false ∷ true ∷ []) ∷ []
excluded = refl

-- "A D line stands over four: stem to each leg and each leg to stem."
abbrev move : ℕ → ℕ → Move
move a b = record { from = section a; to = section b }

over_four : (a b c x : ℕ)
    → pairs_of (record { kind = turnout_line; first = a; second = b; third = c; fourth = x }) ≡ move a b ∷ move b a ∷ move a c ∷ move c a ∷ []
unfolding pairs_of
over_four a b c x = refl

-- The first element stands in the line after the first one and the P lines.
first_element : (s : Situation) → element_line s 1 ≡ s.header.plain + 2
first_element s = omega arith

-- An R line has two fields, and the first E line the number 1.
refused_line :
    refusal_key (refusal 13 3)
    ≡ 82 ∷ 32 ∷ 32 ∷ 32 ∷ 49 ∷ 51 ∷ 32 ∷ 32 ∷ 32 ∷ 32 ∷ 51 ∷ 32 ∷ 32 ∷ 32 ∷ 32 ∷ 32 ∷ 32 ∷ 32 ∷ 32 ∷ 32 ∷ 32 ∷ 10 ∷ []
unfolding row_text field_text
refused_line = refl

first_line : (c : Choice) (x : ℕ) → question_key (Some c) (x ∷ []) ≡ row_text 81 3 1 c.safe c.proceed 0 ++ (row_text 69 2 1 x 0 0 ++ [])
unfolding element_lines
first_line c x = refl
