-- `answers::key_at` meets its contract: the line is inside, and is read by itself.
use Rattle.std.proofs.Common.{◌≡◌, ◌+◌, ◌*◌, ◌-◌, length, take, drop, ap, ◌∙◌, arith, length-drop, take_all}
use Rattle.answers.proofs.Reading.{key_there}
use Rattle.answers.proofs.key_at.Goals as goal

pub returns : goal.returns
returns c =
    let log = c.args.log.now in
    let at = c.args.i * 22 in
    let all : take (length log - at) (drop at log) ≡ drop at log = take_all (length log - at) (drop at log) (omega (arith, length-drop at log)) in
    c.key_as.ensures ∙ key_there (c.args.i + 1) log _ c.args.i (c.in_ok-first_chunk.ensures.cases.same ∙ ap (take 22) all)
