-- Each way out is a law of `Calls`.
use mathlib.Core.Path.{ap, sym, ◌∙◌}
use native.Mathlib.Omega.{arith}
use lib.ListN.{take, length-take}
use Rattle.meaning.specs.Operations.{open_element}
use Rattle.meaning.proofs.Numbered.{numbered}
use Rattle.element_states.proofs.Calls.{open_within, from_start, call_open, call_short, call_fixed}
use Rattle.element_states.proofs.call_refusal.Goals as goal

pub element_line-requires : goal.element_line-requires
element_line-requires c =
    let l = c.requires.0 in
    (omega (arith, l.plain), omega (arith, c.in-Some.ensures.0, open_within (take c.from.result c.args.states.now) c.args.m, length-take c.from.result c.args.states.now, c.from.ensures, l.elements))

pub returns-in-Some : goal.returns-in-Some
returns-in-Some c = λ s h is.
    rw (c.element_line.ensures, ← h)
    ((call_open s _ _ _ _ (c.in-Some.ensures.0 ∙ ap (open_element c.args.m) (from_start s _ _ _ c.from.ensures h is)) c.in-Some.ensures.1).1 (numbered c.args.cause).0)

pub returns-then-short : goal.returns-then-short
returns-then-short c = λ s h is. (call_short s _ _ _ (ap (open_element c.args.m) (sym (from_start s _ _ _ c.from.ensures h is)) ∙ c.in_default.ensures) c.if-short.true).1

pub returns : goal.returns
returns c = λ s h is. (call_fixed s _ _ _ (ap (open_element c.args.m) (sym (from_start s _ _ _ c.from.ensures h is)) ∙ c.in_default.ensures) c.if-short.false).1
