-- `judge::judge_desk_interrupt` is 1 where the interrupt is high, as Item 10 asks.
use Rattle.std.proofs.Common.{rules, ◌≡◌, ℕ, cond}
use Rattle.session_meaning.specs.Desk.{interrupt_of}
use Rattle.demands.proofs.Item10.{item_10_interrupt}
use Rattle.judge.proofs.judge_desk_interrupt.Goals as goal

pub returns : goal.returns
returns c =
    let answer : c.into.result ≡ cond {A = ℕ} (interrupt_of c.args.desk) 1 0 = search rules in record {
      answer = answer;
      item10 = item_10_interrupt _ _ answer;
    }
