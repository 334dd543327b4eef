-- The bytes with the first b routes are stored.
use mathlib.Core.Path.{◌≡◌}
use mathlib.Core.List.{List}
use Prim.Native.Nat.{◌+◌}
use lib.ListN.{take}
use Rattle.basics.specs.Lists.{list_of}
use Rattle.route_meaning.specs.Routes.{Route, pair_byte}
use Rattle.routes.specs.Sets.{Held}
use Rattle.routes.proofs.RouteWords.fill_row.Given as goal

abbrev pub invariant-loop-b : goal.invariant-loop-b
invariant-loop-b l = (rs : List Route) → Held l.self rs → take l.b l.row ≡ list_of l.b (λ b. pair_byte rs (l.a + 1) (b + 1))
