-- Demand 2, of the reader and the writer; of the verdict it is a law of OfVerdict.
use Rattle.std.specs.Prelude.{◌≡◌, ◌↔◌, List, ℕ, ◌≤◌, length}
use Rattle.meaning.specs.Accepted.{Accepted}
use Rattle.c_layout.specs.declared.FlatRefusal.{FlatRefusal}
use Rattle.c_layout.specs.declared.FlatSituation.{FlatSituation}
use Rattle.c_layout.specs.declared.FlatReading.{FlatReading}
use Rattle.c_layout.specs.Flat.{no_refusal, flat_situation}
use Rattle.demands.specs.Words.{situation, InOldForm, Filled}

-- The reader: `file` is handed over, and it answers r.
pub record Demand2Read (file : List ℕ) (r : FlatReading) : Type 0 where
  -- "Reading accepts exactly the files of 01": number 0 stands for no refusal.
  pub accepts_exactly : (r.refusal.number ≡ 0) ↔ Accepted file
  -- "The reader returns the situation as values."
  pub values : Accepted file → r.situation ≡ flat_situation (situation file)

-- The writer: `values` are handed over with `buffer`; it answers q and leaves buffer'. "Writing an accepted situation into a long enough buffer
-- gives back the file's bytes": the values are those that the reader returns for the file. Since Item 13 of 02 the bytes are the file in the old
-- form, the file's own exactly when it was of the old form (`OwnBytes`, Laws).
pub record Demand2Write (values : FlatSituation) (buffer buffer' : List ℕ) (q : FlatRefusal) : Type 0 where
  pub met : (file : List ℕ) → Accepted file → values ≡ flat_situation (situation file) → length file ≤ length buffer
      → (q ≡ no_refusal) × ((text : List ℕ) × InOldForm file text × Filled text buffer buffer')
