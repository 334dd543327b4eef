-- The loop that doubles a table place by place.
use Rattle.std.proofs.Common.{◌≡◌, List, ℕ, ◌+◌, ◌≤◌, ◌<◌, get_or}

-- The first x places of both halves are done.
pub record Doubling {A : Type 0} (one two : A → A → Type 0) (half : ℕ) (table₀ table : List A) (x : ℕ) : Type 0 where
  pub first : (k : ℕ) (d : A) → k < x → one (get_or table₀ k d) (get_or table k d)
  pub second : (k : ℕ) (d : A) → k < x → two (get_or table₀ k d) (get_or table (half + k) d)
  pub left : (k : ℕ) (d : A) → x ≤ k → k < half → get_or table k d ≡ get_or table₀ k d
  pub rest : (k : ℕ) (d : A) → half + half ≤ k → get_or table k d ≡ get_or table₀ k d
