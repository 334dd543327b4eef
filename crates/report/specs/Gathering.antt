-- A record as one number, what the walk has after some records, and what is made of it.
use Rattle.std.specs.Prelude.{Option, Some, None, Result, Ok, Err, ◌≡◌, ◌≤◌, ℕ, ◌+◌, ◌*◌, ◌/◌, ◌%◌, ◌^◌, min, Bool, false, cond, List, [], ◌∷◌, ◌++◌, map, length, take, drop, replicate, ◌==◌, nat_lt, slice_set}
use Rattle.session_meaning.specs.declared.Mark.{Mark}
use Rattle.meaning.specs.declared.Refusal.{Refusal}
use Rattle.meaning.specs.Columns.{row_text}
use Rattle.meaning.specs.File.{refusal}
use Rattle.session_meaning.specs.Report.{right_mark, Total, totals_text}
use Rattle.sorting.specs.Sorted.{RisingBy, sorted}
use Rattle.sorting.specs.Digits.{low}
use Rattle.report.specs.declared.Sums.{Sums}
use Rattle.report.specs.declared.Gathered.{Gathered}

-- ---- keys
-- Candidate, place, gained and possible, in 16, 10, 17 and 17 bits: keys are in order by candidate and place, and sums of 999 records have room.
abbrev pub key_of : ℕ → Mark → ℕ
key_of place m = ((m.candidate * 1024 + place) * 131072 + m.gained) * 131072 + m.possible

abbrev pub candidate_of : ℕ → ℕ
candidate_of x = x / 17592186044416

abbrev pub total_at : ℕ → Total
total_at x = record { candidate = candidate_of x; gained = x / 131072 % 131072; possible = x % 131072 }

-- A key before others: its sums go into the first where that one has its candidate.
unfoldable pub joined_one : ℕ → List ℕ → List ℕ
joined_one x [] = x ∷ []
joined_one x (y ∷ l) = cond (candidate_of y == candidate_of x) ((y + x % 17179869184) % 2 ^ 64 ∷ l) (x ∷ y ∷ l)

-- The first key, if there is one, has the candidate of x.
abbrev pub same_first : ℕ → List ℕ → Bool
same_first x [] = false
same_first x (y ∷ l) = candidate_of y == candidate_of x

-- Neighbours with one candidate in one key.
unfoldable pub joined : List ℕ → List ℕ
joined [] = []
joined (x ∷ l) = joined_one x (joined l)

-- ---- the walk
-- The place of the first wrong record, where the earlier ones gave `wrong`, and m stands after `before` others.
abbrev pub wrong_after : Option ℕ → ℕ → Mark → Option ℕ
wrong_after None before m = cond (right_mark m) None (Some (before + 1))
wrong_after (Some k) before m = Some k

-- One record more, in the sums.
unfoldable pub sums_with : Sums → Mark → Sums
sums_with s m =
    cond (nat_lt s.seen 999)
    (record {
      seen = s.seen + 1;
      wrong = wrong_after s.wrong s.seen m;
      gained = (s.gained + m.gained) % 2 ^ 32;
      possible = (s.possible + m.possible) % 2 ^ 32;
    })
    (record { seen = 1000; wrong = s.wrong; gained = s.gained; possible = s.possible })

abbrev pub both : Sums → List ℕ → Gathered
both s keys = record { sums = s; keys = keys }

-- One record more, in the sums and among the keys.
abbrev pub with_one : Gathered → Mark → Gathered
with_one g m = both (sums_with g.sums m) (slice_set g.keys (min g.sums.seen 999) (key_of (min g.sums.seen 999) m))

-- All records of a list, one after the other.
unfoldable pub with_all : List Mark → Gathered → Gathered
with_all [] g = g
with_all (m ∷ l) g = with_all l (with_one g m)

abbrev pub nothing : Sums
nothing = record { seen = 0; wrong = None; gained = 0; possible = 0 }

abbrev pub no_keys_of : List ℕ
no_keys_of = replicate 1000 0

-- The keys of what the walk has, where no record is wrong, are in order by their places as they are stored.
abbrev pub Begun : Gathered → Type 0
Begun g = g.sums.seen ≤ 999 → g.sums.wrong ≡ None → RisingBy (low 44) (take g.sums.seen g.keys)

-- ---- the report
-- A key for each candidate, in rising order.
unfoldable pub total_keys : Gathered → List ℕ
total_keys g = joined (sorted (take g.sums.seen g.keys))

-- The answer and the buffer afterwards, of the candidates' keys and the session's sums.
abbrev pub length_by : List ℕ → ℕ
length_by keys = (length keys + 1) * 22

unfoldable pub answer_by : List ℕ → ℕ → Result ℕ Refusal
answer_by keys room = cond (nat_lt room (length_by keys)) (Err (refusal 9 0)) (Ok (length_by keys))

unfoldable pub text_by : List ℕ → ℕ → ℕ → List ℕ
text_by keys gained possible = totals_text (map total_at keys) ++ row_text 90 2 gained possible 0 0

unfoldable pub after_by : List ℕ → ℕ → ℕ → List ℕ → List ℕ
after_by keys gained possible buffer =
    cond (nat_lt (length buffer) (length_by keys)) buffer (text_by keys gained possible ++ drop (length_by keys) buffer)

-- x, where no record is wrong, and else what f says of the place of the first one.
abbrev pub unless_wrong : {T : Type 0} → Option ℕ → T → (ℕ → T) → T
unless_wrong None x f = x
unless_wrong (Some k) x f = f k

-- The same, of what the walk has.
unfoldable pub answer_of : Gathered → ℕ → Result ℕ Refusal
answer_of g room =
    cond (nat_lt 999 g.sums.seen) (Err (refusal 19 0)) (unless_wrong g.sums.wrong (answer_by (total_keys g) room) (λ k. Err (refusal 18 k)))

unfoldable pub after_of : Gathered → List ℕ → List ℕ
after_of g buffer =
    cond (nat_lt 999 g.sums.seen) buffer
    (unless_wrong g.sums.wrong (after_by (total_keys g) g.sums.gained g.sums.possible buffer) (λ k. buffer))
