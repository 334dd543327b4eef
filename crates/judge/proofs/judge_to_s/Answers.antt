-- `judge::judge_to_s` gives the flat answer of the converter.
use mathlib.Core.Path.{ap, ◌∙◌}
use Rattle.meaning.specs.declared.Letter.TheVariants as letter
use Rattle.c_layout.specs.Flat.{flat_filled}
use Rattle.demands.proofs.Item05.{item_5}
use Rattle.judge.proofs.judge_to_s.Goals as goal

pub returns : goal.returns
returns c =
    let w = c.to_s.ensures in
    let answer = c.into.ensures ∙ ap flat_filled w.answer in record {
      answer = answer;
      after = w.after;
      item5 = item_5 letter.S _ _ _ _ answer w.after;
    }
