-- The numbers of the causes: none is 0, and each is that of one cause alone.
use mathlib.Core.Path.{◌≡◌}
use Prim.Native.Nat.{◌≤◌}
use native.Mathlib.Omega.{arith}
use Rattle.meaning.specs.declared.Cause.{Cause}
use Rattle.meaning.specs.Refusals.{number_of, cause_of}

-- The list of causes and their numbers agree.
pub numbered : (c : Cause) → (1 ≤ number_of c) × (number_of c ≤ 21) × (cause_of (number_of c) ≡ c)
numbered c = grind arith

pub some_number : (c : Cause) → number_of c ≡ 0 → ⊥
some_number c z = omega (arith, (numbered c).0)
