use mathlib.Core.List.{List}
use mathlib.Core.Path.{◌≡◌, ap, ◌∙◌}
use Prim.Native.Nat.{ℕ, ◌*◌}
use native.Mathlib.Omega.{arith}
use lib.Count.{ones}
use lib.ListN.{length, get_or}
use mir.Syntax.{w64}
use mir.Val.{Fits}
use borrow.Author.Rules.{rules}
use Rattle.std.proofs.Common.{tests}
use Rattle.std.specs.List.{sum_by}
use Rattle.std.proofs.lemmas.Iterator.{YieldsList-from_map, YieldsList-from_slice}
use Rattle.std.proofs.lemmas.Iterator.Consumers.{fits_by_from_yields_list}
use Rattle.basics.specs.Numbers.{count}
use Rattle.basics.proofs.Numbers.{count-le}
use Rattle.reach.specs.Reach.{memb}
use Rattle.reach.proofs.Laws.{count_words}
use Rattle.reach.proofs.Reach.size.Goals as goal
use Rattle.reach.proofs.Reach.size.Goals.{After-map}

-- The ones of the words.
counted : (c : After-map) → sum_by ones c.args.self.words ≡ count 512 (memb c.args.self.words)
counted c =
    let ws : List ℕ = c.args.self.words in
    let len : length ws ≡ 8 = search rules in
    count_words ws (λ i. let f : Fits w64 (get_or ws i 0) = search rules in f.fits) ∙ ap (λ (n : ℕ). count (64 * n) (memb ws)) len

pub sum-requires-clause-fits : goal.sum-requires-clause-fits
sum-requires-clause-fits c =
    fits_by_from_yields_list ones c.args.self.words c.map.result _
    (YieldsList-from_map _ ones (YieldsList-from_slice c.args.self.words cc) c.map.ensures.closure (λ x r q k. search (rules, tests)))
    (omega (arith, counted (goal.at.sum-requires-clause-fits c).After-map, count-le 512 (memb c.args.self.words)))

pub returns : goal.returns
returns c =
    let e : c.sum.result ≡ sum_by ones c.args.self.words = search rules in
    e ∙ counted (goal.at.returns c).After-map
