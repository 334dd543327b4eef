-- The tests of a line's fields, each with its meaning from the table of record kinds, are the tests of `some_outside`, `once` and
-- `some_above2` on the fields that have the meaning asked for: one entry of the table at a time, and then past the table.
use mathlib.Core.Path.{◌≡◌, refl, sym}
use mathlib.Core.Bool.{Bool, true, false, not, ◌&&◌, ◌||◌, or-false}
use mathlib.Core.List.{List, [], ◌∷◌}
use Prim.Native.Nat.{ℕ, zero, suc}
use lib.Dec.{eqb, ltb}
use lib.ListN.{get_or}
use Rattle.std.specs.Prelude.{Option, None}
use Rattle.meaning.specs.declared.StationField.{StationField}
use Rattle.meaning.specs.declared.RecordKind.{RecordKind}
use Rattle.meaning.specs.declared.Line.{Line}
use Rattle.meaning.specs.Columns.{record_kind_at, select, having, section_field, state_field}
use Rattle.meaning.specs.Paths.{once}
use Rattle.meaning.specs.File.{some_outside, some_above2}

-- Field j has a meaning that passes a test, in an entry of the table.
abbrev pub means : RecordKind (Option StationField) → (Option StationField → Bool) → ℕ → Bool
means e m j = m (get_or e.meaning j None)

-- The fields whose meaning passes m, of a line of kind k.
abbrev fields : (Option StationField → Bool) → ℕ → ℕ → ℕ → ℕ → ℕ → List ℕ
fields m k a b c d = select m (record_kind_at k).meaning (a ∷ b ∷ c ∷ d ∷ [])

outside_of_kind : (n k a b c d : ℕ)
    → ((means (record_kind_at k) section_field 0 && (eqb a 0 || ltb n a))
    || ((means (record_kind_at k) section_field 1 && (eqb b 0 || ltb n b))
    || ((means (record_kind_at k) section_field 2 && (eqb c 0 || ltb n c)) || (means (record_kind_at k) section_field 3 && (eqb d 0 || ltb n d)))))
    ≡ some_outside n (fields section_field k a b c d)
unfolding record_kind_at
outside_of_kind n zero a b c d = refl
outside_of_kind n (suc zero) a b c d = refl
outside_of_kind n (suc (suc zero)) a b c d = refl
outside_of_kind n (suc (suc (suc zero))) a b c d = refl
outside_of_kind n (suc (suc (suc (suc zero)))) a b c d = refl
outside_of_kind n (suc (suc (suc (suc (suc zero))))) a b c d = refl
outside_of_kind n (suc (suc (suc (suc (suc (suc zero)))))) a b c d = refl
outside_of_kind n (suc (suc (suc (suc (suc (suc (suc zero))))))) a b c d = simp or-false
outside_of_kind n (suc (suc (suc (suc (suc (suc (suc (suc zero)))))))) a b c d = refl
outside_of_kind n (suc (suc (suc (suc (suc (suc (suc (suc (suc k))))))))) a b c d = refl

-- Two sections, three, and four.
two : (p : Bool) → (p || false) ≡ not (not (p || false) && true)
two true = refl
two false = refl

three : (p q r : Bool) → (p || ((q || r) || false)) ≡ not (not (p || (q || false)) && (not (r || false) && true))
three true q r = refl
three false true r = refl
three false false true = refl
three false false false = refl

four : (p q s r t u : Bool)
    → (p || ((q || r) || ((s || t) || u))) ≡ not (not (p || (q || (s || false))) && (not (r || (t || false)) && (not (u || false) && true)))
four true q s r t u = refl
four false true s r t u = refl
four false false true true t u = refl
four false false true false t u = refl
four false false false true t u = refl
four false false false false true u = refl
four false false false false false true = refl
four false false false false false false = refl

twice_of_kind : (k a b c d : ℕ)
    → ((means (record_kind_at k) section_field 1 && eqb a b)
    || ((means (record_kind_at k) section_field 2 && (eqb a c || eqb b c)) || (means (record_kind_at k) section_field 3 && ((eqb a d || eqb b d) || eqb c d))))
    ≡ not (once (fields section_field k a b c d))
unfolding record_kind_at
twice_of_kind zero a b c d = refl
twice_of_kind (suc zero) a b c d = two (eqb a b)
twice_of_kind (suc (suc zero)) a b c d = two (eqb a b)
twice_of_kind (suc (suc (suc zero))) a b c d = three (eqb a b) (eqb a c) (eqb b c)
twice_of_kind (suc (suc (suc (suc zero)))) a b c d = refl
twice_of_kind (suc (suc (suc (suc (suc zero))))) a b c d = two (eqb a b)
twice_of_kind (suc (suc (suc (suc (suc (suc zero)))))) a b c d = three (eqb a b) (eqb a c) (eqb b c)
twice_of_kind (suc (suc (suc (suc (suc (suc (suc zero))))))) a b c d = four (eqb a b) (eqb a c) (eqb a d) (eqb b c) (eqb b d) (eqb c d)
twice_of_kind (suc (suc (suc (suc (suc (suc (suc (suc zero)))))))) a b c d = refl
twice_of_kind (suc (suc (suc (suc (suc (suc (suc (suc (suc k))))))))) a b c d = refl

above_of_kind : (k a b c d : ℕ)
    → ((means (record_kind_at k) state_field 2 && ltb 2 c) || (means (record_kind_at k) state_field 3 && ltb 2 d)) ≡ some_above2 (fields state_field k a b c d)
unfolding record_kind_at
above_of_kind zero a b c d = refl
above_of_kind (suc zero) a b c d = refl
above_of_kind (suc (suc zero)) a b c d = refl
above_of_kind (suc (suc (suc zero))) a b c d = sym (or-false _)
above_of_kind (suc (suc (suc (suc zero)))) a b c d = refl
above_of_kind (suc (suc (suc (suc (suc zero))))) a b c d = refl
above_of_kind (suc (suc (suc (suc (suc (suc zero)))))) a b c d = refl
above_of_kind (suc (suc (suc (suc (suc (suc (suc zero))))))) a b c d = refl
above_of_kind (suc (suc (suc (suc (suc (suc (suc (suc zero)))))))) a b c d = refl
above_of_kind (suc (suc (suc (suc (suc (suc (suc (suc (suc k))))))))) a b c d = refl

module _ (l : Line) (e : RecordKind (Option StationField)) (is : e ≡ record_kind_at l.kind) where
  -- 5, on the fields that are sections.
  pub outside-fields : (n : ℕ)
      → ((means e section_field 0 && (eqb l.first 0 || ltb n l.first))
      || ((means e section_field 1 && (eqb l.second 0 || ltb n l.second))
      || ((means e section_field 2 && (eqb l.third 0 || ltb n l.third)) || (means e section_field 3 && (eqb l.fourth 0 || ltb n l.fourth)))))
      ≡ some_outside n (having section_field l)
  unfolding having
  outside-fields n = rw is (outside_of_kind n l.kind l.first l.second l.third l.fourth)

  -- 7, on the fields that are sections.
  pub twice_fields :
      ((means e section_field 1 && eqb l.first l.second)
      || ((means e section_field 2 && (eqb l.first l.third || eqb l.second l.third))
      || (means e section_field 3 && ((eqb l.first l.fourth || eqb l.second l.fourth) || eqb l.third l.fourth))))
      ≡ not (once (having section_field l))
  unfolding having
  twice_fields = rw is (twice_of_kind l.kind l.first l.second l.third l.fourth)

  -- 6, on the fields that are states.
  pub above_fields : ((means e state_field 2 && ltb 2 l.third) || (means e state_field 3 && ltb 2 l.fourth)) ≡ some_above2 (having state_field l)
  unfolding having
  above_fields = rw is (above_of_kind l.kind l.first l.second l.third l.fourth)
