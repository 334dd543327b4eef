-- A table with a value for the setting at each place, and one open element more in front of those that it is for.
use Rattle.std.specs.Prelude.{◌≡◌, List, ℕ, ◌+◌, ◌≤◌, ◌<◌, get_or}

-- In the first half of the places the element is at 1, and in the second at 2: there stands what `one` and `two` say of the value that was
-- there. What stands after the places is kept.
pub record Doubled {A : Type 0} (one two : A → A → Type 0) (half : ℕ) (table table' : List A) : Type 0 where
  pub first : (x : ℕ) (d : A) → x < half → one (get_or table x d) (get_or table' x d)
  pub second : (x : ℕ) (d : A) → x < half → two (get_or table x d) (get_or table' (half + x) d)
  pub rest : (x : ℕ) (d : A) → half + half ≤ x → get_or table' x d ≡ get_or table x d
