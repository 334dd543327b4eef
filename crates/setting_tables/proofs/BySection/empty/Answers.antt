use Rattle.std.proofs.Common.{ap, ◌∙◌, ℕ}
use Rattle.basics.proofs.Lists.{replicate_get}
use Rattle.bits.specs.Bits.{bit}
use Rattle.bits.proofs.Bits.{bit-zero}
use Rattle.setting_tables.proofs.BySection.empty.Goals as goal

pub returns : goal.returns
returns c = λ k e. ap (λ (w : ℕ). bit w e) (replicate_get 513 k 0) ∙ bit-zero e
