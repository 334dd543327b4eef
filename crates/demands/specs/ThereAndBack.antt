-- Item 5 of 02: "Where the letter changes, there and back gives the original bytes, and both files get the same verdict, shown paths aside. A file that already
-- has the wanted letter comes out as it went in." It holds of whatever the two operations answer and leave.
use Rattle.std.specs.Prelude.{◌≡◌, ◌↔◌, List, ℕ, ◌≤◌, length, take, get_or}
use Rattle.meaning.specs.declared.Letter.{Letter}
use Rattle.meaning.specs.Accepted.{Accepted}
use Rattle.file_meaning.specs.Converter.{byte_of}
use Rattle.c_layout.specs.declared.FlatFilled.{FlatFilled}
use Rattle.c_layout.specs.declared.FlatVerdict.{FlatVerdict}
use Rattle.c_layout.specs.declared.FlatReply.{FlatReply}
use Rattle.c_layout.specs.Flat.{no_refusal}
use Rattle.demands.specs.Words.{SameVerdict, Filled}
use Rattle.demands.specs.OfVerdict.{VerdictStatement}
use Rattle.demands.specs.OfSettings.{SettingsStatement}
use Rattle.demands.specs.Item05.{Item5}

-- The file begins with x: byte 83 is S, 85 is U.
abbrev pub Begins : Letter → List ℕ → Type 0
Begins x file = get_or file 0 0 ≡ byte_of x

-- ---- both files
-- "Both files get the same verdict", from lists of the same lengths; what may be shown for one may be shown for the other. And the same settings
-- reply, with the same setting.
pub record SameAnswers (file file' : List ℕ) : Type 0 where
  pub verdict : (first second first' second' third fourth third' fourth' : List ℕ) (r r' : FlatVerdict)
      → length third ≡ length first → length fourth ≡ length second
      → VerdictStatement file first second first' second' r → VerdictStatement file' third fourth third' fourth' r' → SameVerdict r r'
  pub shown : (first second first' second' : List ℕ) (r : FlatVerdict)
      → VerdictStatement file first second first' second' r ↔ VerdictStatement file' first second first' second' r
  pub settings : (buffer after after' : List ℕ) (r r' : FlatReply) → SettingsStatement file buffer after r → SettingsStatement file' buffer after' r'
      → (r ≡ r') × (after ≡ after')

-- ---- the bytes that come out
abbrev pub out : List ℕ → List ℕ → List ℕ
out file buffer' = take (length file) buffer'

-- What holds of the bytes that come out.
pub record ComesOut (x : Letter) (file file' : List ℕ) : Type 0 where
  pub accepted : Accepted file'
  -- "A file that already has the wanted letter comes out as it went in."
  pub stays : Begins x file → file' ≡ file
  -- "Where the letter changes, there and back gives the original bytes": for every conversion of them to the other letter.
  pub back : (Begins x file → ⊥) → (y : Letter) → (y ≡ x → ⊥) → (buffer buffer' : List ℕ) (r : FlatFilled) → length file ≤ length buffer
      → Item5 y file' buffer buffer' r → (r.refusal ≡ no_refusal) × Filled file buffer buffer'
  -- "and both files get the same verdict, shown paths aside."
  pub same : SameAnswers file file'

abbrev pub ThereAndBack : Type 0
ThereAndBack =
    (x : Letter) (file buffer buffer' : List ℕ) (r : FlatFilled) → Item5 x file buffer buffer' r → r.refusal ≡ no_refusal → ComesOut x file (out file buffer')
