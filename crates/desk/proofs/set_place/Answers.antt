use Rattle.std.proofs.Common.{◌≡◌, ◌+◌, ◌&&◌, ◌||◌, eqb, sym, ◌∙◌, arith}
use Rattle.session_meaning.specs.declared.Desk.{Desk}
use Rattle.session_meaning.specs.Desk.{element_number, settable}
use Rattle.desk.proofs.Opened.{not-zero, not_past, by_states}
use Rattle.desk.proofs.set_place.Goals as goal
use Rattle.desk.proofs.set_place.Goals.{In_ok-open}

pub returns-in_err-k : goal.returns-in_err-k
returns-in_err-k c = rw c.from_residual.ensures (not-zero c.args.desk.now (omega (arith, c.in_err-k.ensures)))

pub returns-in_err-open : goal.returns-in_err-open
returns-in_err-open c =
    let d = c.args.desk.now in
    let number : c.in_ok-k.k + 1 ≡ element_number d.number_low d.number_high = omega (arith, c.in_ok-k.ensures) in
    rw c.from_residual-in_err-open.ensures (not_past d c.in_ok-k.k number (rw c.filed_states.ensures.are at c.in_err-open.ensures.lookup.3))

-- The test of the code says whether the command succeeds.
module _ (c : In_ok-open) where
  abbrev d : Desk
  d = c.args.desk.now

  number : c.in_ok-k.k + 1 ≡ element_number d.number_low d.number_high
  number = omega (arith, c.in_ok-k.ensures)

  tested : (eqb c.in_ok-open.field-0.now 0 && (eqb d.state 1 || eqb d.state 2)) ≡ settable d
  tested =
      let found = c.in_ok-open.ensures.lookup.3 in
      by_states d c.in_ok-k.k number _ (rw c.filed_states.ensures.are at found.0) (rw c.filed_states.ensures.are at (found.1 0))

pub returns-then-open-first : goal.returns-then-open-first
returns-then-open-first c =
    let o = (goal.at.returns-then-open-first c).In_ok-open in
    (sym (tested o) ∙ c.if-open-first.true, number o, omega (arith, c.in_ok-open.ensures.lookup.3.0))

pub returns-else-open-first : goal.returns-else-open-first
returns-else-open-first c = sym (tested (goal.at.returns-else-open-first c).In_ok-open) ∙ c.if-open-first.false
