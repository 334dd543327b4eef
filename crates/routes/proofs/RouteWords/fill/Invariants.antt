-- The rows of the first a routes are stored.
use mathlib.Core.Path.{◌≡◌}
use mathlib.Core.List.{List}
use Prim.Native.Nat.{◌*◌}
use lib.ListN.{length, take}
use Rattle.basics.specs.Lists.{list_of}
use Rattle.route_meaning.specs.Routes.{Route}
use Rattle.routes.specs.Sets.{Held, byte_at}
use Rattle.routes.proofs.RouteWords.fill.Given as goal

abbrev pub invariant-loop-a : goal.invariant-loop-a
invariant-loop-a l = (rs : List Route) → length rs ≡ l.n → Held l.self rs → take (l.a * l.n) l.table ≡ list_of (l.a * l.n) (byte_at rs)
