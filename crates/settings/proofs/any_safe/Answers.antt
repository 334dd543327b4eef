-- The call that ends `any`, or all of them, say of blocks what `saved` asks.
use Rattle.std.proofs.Common.{◌≡◌, refl, Bool, true, false, not, ℕ, ◌<◌, ◌^◌, eqb, rules, tests, arith}
use Rattle.std.proofs.lemmas.Iterator.{serves_from_Range, cases_from_any, YieldsList-from_range}
use Rattle.meaning.specs.declared.Situation.{Situation}
use Rattle.setting_tables.specs.declared.Tables.{Tables}
use Rattle.setting_safety.specs.declared.Blocks.{Blocks}
use Rattle.setting_safety.specs.Table.{Ready, SafeIn}
use Rattle.settings.proofs.Places.{block_low, IsIn, told, saved}
use Rattle.settings.proofs.any_safe.Goals as goal

pub any-requires-clause-callable : goal.any-requires-clause-callable
any-requires-clause-callable c = serves_from_Range (λ x q k. search (rules, tests)) (λ x low high.
    let r = c.of-blocks.ensures in
    λ κs p g e f u. (block_low _ _ _ r c.args.q.few high, λ d h. r.few x d high h))

-- What a call says of block z.
abbrev Told : Tables → Blocks → ℕ → Bool → Type 0
Told tables blocks z b =
    (w : ℕ) × (w < 2 ^ 64) × (b ≡ not (eqb w 0)) × ((s : Situation) → Ready s tables blocks → z < blocks.count → SafeIn s z w)

pub returns : goal.returns
returns c =
    let s = c.args.q.s.now.situation in
    let r = c.of-blocks.ensures in
    let m : ℕ = c.of-blocks.result.count in
    let says : (b : Bool) (z : ℕ) → Told c.args.tables.now c.of-blocks.result z b → IsIn s _ _ r b z = λ b z t. told s _ _ r b (t.3 s r) t.1 t.2 in
    saved s _ _ r c.any.result
    (cases_from_any _ _ c.any.result (IsIn s _ _ r true) (IsIn s _ _ r false) c.any.ensures.ran (YieldsList-from_range 0 m m refl (omega arith))
    (λ x q k. says true x (search (rules, tests)))
    (λ x q k. (search (rules, tests), says false x (search (rules, tests)))))
