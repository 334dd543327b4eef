-- A set of pairs from which some are removed.
use Rattle.std.specs.Prelude.{◌≡◌, Bool, not, ◌&&◌, ℕ, length}
use Rattle.pairs.specs.Pairs.{Rows, edge}

-- The rows u are t without the pairs that pass the test.
pub record Loses (t : Rows) (f : ℕ → ℕ → Bool) (u : Rows) : Type 0 where
  pub same_length : length u ≡ length t
  pub pairs : (a b : ℕ) → edge u a b ≡ (edge t a b && not (f a b))
