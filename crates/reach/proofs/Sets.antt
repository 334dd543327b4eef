-- A list of sets in which one is stored: it is there, and the others are as they were.
use mathlib.Core.Path.{◌≡◌, ap}
use mathlib.Core.List.{List, []}
use Prim.Native.Nat.{ℕ, ◌<◌}
use lib.ListN.{length, set, length-set}
use lib.Seq.{get_or-set_same, get_or-set_other}
use Rattle.reach.specs.declared.Reach.{Reach}
use Rattle.reach.specs.Reach.{words_at}

pub record StoredAt (sets : List Reach) (k : ℕ) (ws : List ℕ) (sets' : List Reach) : Type 0 where
  pub same_length : length sets' ≡ length sets
  pub stored : words_at sets' k ≡ ws
  pub kept : (j : ℕ) → (j ≡ k → ⊥) → words_at sets' j ≡ words_at sets j

pub stored_at : (sets : List Reach) (k : ℕ) (r : Reach) → k < length sets → StoredAt sets k r.words (set sets k r)
unfolding words_at
stored_at sets k r l =
    let none : Reach = record { words = [] } in
    record {
      same_length = length-set sets k r;
      stored = ap (λ (x : Reach). x.words) (get_or-set_same sets k r none l);
      kept = λ j n. ap (λ (x : Reach). x.words) (get_or-set_other sets k j r none n);
    }
