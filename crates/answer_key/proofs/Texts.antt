-- The texts that the helpers store at the start of the buffer: a single line, the lines of a danger, the lines of a chosen setting.
use mathlib.Core.Path.{◌≡◌, refl, sym, ap, ◌∙◌}
use mathlib.Core.List.{List, ◌++◌}
use Prim.Native.Nat.{ℕ, ◌+◌, ◌*◌, ◌≤◌}
use native.Mathlib.Omega.{arith}
use lib.ListN.{length, length-append}
use lib.Seq.{sets}
use Rattle.meaning.specs.declared.Counts.{Counts}
use Rattle.meaning.specs.declared.Meeting.{Meeting}
use Rattle.meaning.specs.declared.Refusal.{Refusal}
use Rattle.meaning.specs.declared.Output.{Output}
use Rattle.meaning.specs.Columns.{row_text}
use Rattle.meaning.specs.Digits.{byte_sum, row_sum, printed_sum, output_of}
use Rattle.meaning.specs.Key.{path_lines, element_lines, refusal_key, danger_key}
use Rattle.meaning.proofs.Digits.{printed_append, row_printed}
use Rattle.line_writer.proofs.Splice.{sets_append, row_output}
use Rattle.answer_key.specs.Lines.{Put, CountsFit}
use Rattle.meaning.proofs.Columns.{row-length}
use Rattle.answer_key.proofs.Rows.{path_row, element_row, path_lines_lem, element_lines_lem, lines_length}

-- A text with this length, and with so many digits in it.
given_back : (text : List ℕ) {n x : ℕ} → length text ≡ n → printed_sum text ≡ x → record { length = n; subtractions = x } ≡ output_of text
given_back text e f = rw (e, f) refl

-- A single line is stored.
pub put_line : (letter filled a b c d : ℕ) (start buffer : List ℕ) {x : ℕ} → byte_sum letter ≡ 0 → a ≤ 99999 → b ≤ 99999 → c ≤ 99999 → d ≤ 99999
    → buffer ≡ sets start 0 (row_text letter filled a b c d) → x ≡ row_sum filled a b c d
    → Put (row_text letter filled a b c d) start buffer (record { length = 22; subtractions = x })
put_line letter filled a b c d start buffer hl ha hb hc hd e sum =
    let n : length (row_text letter filled a b c d) ≡ 22 = row-length letter filled a b c d in
    record { stored = e; counted = row_output letter filled a b c d hl ha hb hc hd sum; fits = omega arith }

-- The line of a refusal is stored.
pub put_refused : (q : Refusal) {start buffer : List ℕ} {r : Output} → buffer ≡ sets start 0 (refusal_key q) → r ≡ output_of (refusal_key q)
    → Put (refusal_key q) start buffer r
put_refused q e sum = let n = row-length 82 2 q.number q.line 0 0 in record { stored = e; counted = sum; fits = omega (arith, n) }

-- What is said of a stored text holds of an equal text.
pub put_same : {text text' start buffer : List ℕ} {n : Output} → text' ≡ text → Put text start buffer n → Put text' start buffer n
put_same e p = rw e p

-- A path's lines are 22 bytes for each section, a setting's for each element.
path_length : (letter t : ℕ) (p : List ℕ) → length (path_lines letter t p) ≡ length p * 22
path_length letter t p =
    ap length (sym (path_lines_lem letter t 1 p)) ∙ lines_length (path_row letter t) (λ e a. row-length letter 2 t a 0 0) 1 p

element_length : (σ : List ℕ) → length (element_lines 1 σ) ≡ length σ * 22
element_length σ = ap length (sym (element_lines_lem 1 σ)) ∙ lines_length element_row (λ e x. row-length 69 2 e x 0 0) 1 σ

-- Lines stored behind a first line.
behind : (letter filled a b c d : ℕ) (rest start first buffer : List ℕ) → first ≡ sets start 0 (row_text letter filled a b c d)
    → buffer ≡ sets first 22 rest → buffer ≡ sets start 0 (row_text letter filled a b c d ++ rest)
behind letter filled a b c d rest start first buffer e f =
    let n : length (row_text letter filled a b c d) ≡ 22 = row-length letter filled a b c d in
    f ∙ rw e (sym (sets_append (row_text letter filled a b c d) rest start 0 ∙ rw n))

-- The V line, the A lines and the B lines of a danger.
pub put_danger : (m : Meeting) (c : Counts) (p q start b1 b2 b3 : List ℕ) (i j : ℕ) {x y z : ℕ} → length p ≡ i → length q ≡ j → i ≤ 512 → j ≤ 512
    → CountsFit c → m.section.0 ≤ 99999
    → b1 ≡ sets start 0 (row_text 86 4 1 c.entries c.looks m.section.0) → x ≡ row_sum 4 1 c.entries c.looks m.section.0
    → b2 ≡ sets b1 22 (path_lines 65 m.first.0 p) → y ≡ printed_sum (path_lines 65 m.first.0 p)
    → b3 ≡ sets b2 ((1 + i) * 22) (path_lines 66 m.second.0 q) → z ≡ printed_sum (path_lines 66 m.second.0 q)
    → Put (danger_key m c p q) start b3 (record { length = (1 + i + j) * 22; subtractions = x + y + z })
put_danger m c p q start b1 b2 b3 i j lp lq hp hq fit few e1 s1 e2 s2 e3 s3 =
    let first = path_lines 65 m.first.0 p in
    let second = path_lines 66 m.second.0 q in
    let n1 = path_length 65 m.first.0 p in
    let n2 = path_length 66 m.second.0 q in
    let at : (1 + i) * 22 ≡ 22 + length first = omega (arith, n1) in
    let n : length (danger_key m c p q) ≡ (1 + i + j) * 22 =
    simp length-append (omega (arith, n1, n2, row-length 86 4 1 c.entries c.looks m.section.0)) in
    let line = row_text 86 4 1 c.entries c.looks m.section.0 in
    let row = row_printed 86 4 1 c.entries c.looks m.section.0 refl (omega arith) fit.0 fit.1 few in
    record {
      stored =
          behind 86 4 1 c.entries c.looks m.section.0 (first ++ second) start b1 b3 e1
          (e3 ∙ rw (e2, at) (sym (sets_append first second b1 22)));
      counted = given_back (danger_key m c p q) n (omega (arith, row, s1, s2, s3, printed_append line (first ++ second), printed_append first second));
      fits = omega arith;
    }

-- The Q line and the E lines of a chosen setting.
pub put-chosen : (safe proceed : ℕ) (σ start b1 b2 : List ℕ) (n : ℕ) {x y : ℕ} → length σ ≡ n → n ≤ 256 → safe ≤ 99999 → proceed ≤ 99999
    → b1 ≡ sets start 0 (row_text 81 3 1 safe proceed 0) → x ≡ row_sum 3 1 safe proceed 0
    → b2 ≡ sets b1 22 (element_lines 1 σ) → y ≡ printed_sum (element_lines 1 σ)
    → Put (row_text 81 3 1 safe proceed 0 ++ element_lines 1 σ) start b2 (record { length = (1 + n) * 22; subtractions = x + y })
put-chosen safe proceed σ start b1 b2 n l h hs hp e1 s1 e2 s2 =
    let k : length (row_text 81 3 1 safe proceed 0 ++ element_lines 1 σ) ≡ (1 + n) * 22 =
    simp length-append (omega (arith, element_length σ, row-length 81 3 1 safe proceed 0)) in
    let line = row_text 81 3 1 safe proceed 0 in
    let row = row_printed 81 3 1 safe proceed 0 refl (omega arith) hs hp (omega arith) in
    record {
      stored = behind 81 3 1 safe proceed 0 (element_lines 1 σ) start b1 b2 e1 e2;
      counted = given_back (line ++ element_lines 1 σ) k (omega (arith, row, s1, s2, printed_append line (element_lines 1 σ)));
      fits = omega arith;
    }
