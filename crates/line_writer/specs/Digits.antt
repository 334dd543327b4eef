-- A number taken apart by subtracting powers of ten: what each function returns. The digits are those of the definitions.
use Rattle.std.specs.Prelude.{◌≡◌, ℕ, ◌+◌, ◌*◌, ◌/◌, ◌%◌, ◌≤◌, ◌<◌}
use Rattle.meaning.specs.Digits.{low_sum, digit_sum}
use Rattle.line_writer.specs.declared.Subtracted.{Subtracted}
use Rattle.line_writer.specs.declared.Figures.{Figures}

-- The power was subtracted from n until less than the power was left.
pub record Divides (n power : ℕ) (r : Subtracted) : Type 0 where
  pub whole : n ≡ r.times * power + r.rest
  pub rest : r.rest < power

-- What n has above its five lowest digits is subtracted, in as many subtractions as the sum of those digits.
pub record Above (n : ℕ) (r : Subtracted) : Type 0 where
  pub rest : r.rest ≡ n % 100000
  pub times : r.times ≡ low_sum 5 (n / 100000)
  pub few : r.times ≤ 45

-- The five lowest digits of n, and how many subtractions they took: the sum of all digits of n.
pub record Figured (n : ℕ) (r : Figures) : Type 0 where
  pub first : r.first ≡ n / 10000 % 10
  pub second : r.second ≡ n / 1000 % 10
  pub third : r.third ≡ n / 100 % 10
  pub fourth : r.fourth ≡ n / 10 % 10
  pub fifth : r.fifth ≡ n % 10
  pub count : r.count ≡ digit_sum n
  pub few : r.count ≤ 90
