-- The setting at place x of the list `settings fs`, from 0, without the list.
use Rattle.std.specs.Prelude.{cond, List, [], ◌∷◌, ℕ, zero, suc, ◌-◌, ◌^◌, ltb}
use Rattle.meaning.specs.Settings.{open_count}

unfoldable pub setting_at : List ℕ → ℕ → List ℕ
setting_at [] x = []
setting_at (zero ∷ fs) x = cond (ltb x (2 ^ open_count fs)) (1 ∷ setting_at fs x) (2 ∷ setting_at fs (x - 2 ^ open_count fs))
setting_at (suc f ∷ fs) x = suc f ∷ setting_at fs x
