-- Laws of Bool tests that several modules cite.
use native.Mathlib.Omega.{arith}
use mathlib.Core.Path.{◌≡◌}
use mathlib.Core.Bool.{Bool, true, ◌||◌}
-- Where `a || b` passes, one of the two does; where `a && b` does, both do.
pub use Rattle.std.proofs.lemmas.Bool.{or_cases, and_parts as and_both}

pub or_swap : (a b c : Bool) → (a || (b || c)) ≡ (b || (a || c))
or_swap a b c = grind arith

-- Two tests that follow from each other are equal.
pub same_test : (a b : Bool) → (a ≡ true → b ≡ true) → (b ≡ true → a ≡ true) → a ≡ b
same_test a b h h2 = grind arith
