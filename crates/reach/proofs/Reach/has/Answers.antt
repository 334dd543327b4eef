-- Section 0 and sections above 512 are in no set.
use mathlib.Core.Path.{◌≡◌, sym}
use lib.ListN.{length}
use borrow.Author.Rules.{rules}
use Rattle.reach.proofs.Laws.{memb-zero, memb_above}
use Rattle.reach.proofs.Reach.has.Goals as goal
use Rattle.reach.proofs.Reach.has.Goals.{then-n-eq0-via-then-n-eq0, then-n-eq0-via-else-n-eq0+then-n-gt-SECTIONS}

pub returns-then-n-eq0 : goal.returns-then-n-eq0
returns-then-n-eq0 c =
    let ws = c.args.self.now.words in
    let len : length ws ≡ 8 = search rules in
    rw (← c.from-n.ensures) (elim c.then-n-eq0.branch [
      | then-n-eq0-via-then-n-eq0 w ↦ rw w.if-n-eq0.true (sym (memb-zero ws))
      | then-n-eq0-via-else-n-eq0+then-n-gt-SECTIONS w ↦ sym (memb_above ws c.from-n.result len w.if-n-gt-SECTIONS.true)
    ])
