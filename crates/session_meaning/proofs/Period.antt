-- The state does not return to an earlier one in fewer than 2 to the power 64 draws: the growth has an inverse modulo 2 to the
-- power 64, so a multiple of the growth is a multiple of 2 to the power 64 only where the number of times is.
use mathlib.Core.Path.{◌≡◌, refl, sym, ap, ◌∙◌}
use Prim.Native.Nat.{ℕ, zero, suc, ◌+◌, ◌*◌, ◌-◌, ◌/◌, ◌%◌, ◌^◌, ◌<◌}
use native.Mathlib.Nat.{add-mul-mod_self_right, mul-mod_left, mul-one, mul_assoc, mul-add, mul_right_comm, add-mul, add_assoc, mod-eq_of_lt, add-mul-mod_self_left, add-zero, add-suc}
use native.Mathlib.Omega.{arith}
use Rattle.session_meaning.specs.Placement.{growth, grown, state_after}

-- growth * inverse = 1 + turns * 2 ^ 64
abbrev inverse : ℕ
inverse = 17428512612931826493

abbrev turns : ℕ
turns = 10771413168148108919

growth_inverse : growth * inverse ≡ 1 + turns * 2 ^ 64
growth_inverse = refl

-- The state after n draws, in one step.
state_closed : (s n : ℕ) → state_after s n % 2 ^ 64 ≡ (s + n * growth) % 2 ^ 64
unfolding state_after
state_closed s zero = omega arith
state_closed s (suc n) = omega (arith, state_closed s n)

-- From s to s + e growths and back to the same state is a whole number of turns.
whole_turns : (a e : ℕ) → a % 2 ^ 64 ≡ (a + e * growth) % 2 ^ 64 → e * growth ≡ ((a + e * growth) / 2 ^ 64 - a / 2 ^ 64) * 2 ^ 64
whole_turns a e h = omega arith

-- Where c has an inverse modulo m, e times c is a multiple of m only where e is.
multiple : (m c inverse turns e q : ℕ) → c * inverse ≡ 1 + turns * m → e * c ≡ q * m → e % m ≡ 0
multiple m c inverse turns e q one h =
    sym (add-mul-mod_self_right e (e * turns) m) ∙ ap (λ (x : ℕ). x % m) both ∙ mul-mod_left (q * inverse) m
  where
    both : e + e * turns * m ≡ q * inverse * m
    both =
        ap (λ (x : ℕ). x + e * turns * m) (sym (mul-one e)) ∙ ap (λ (x : ℕ). e * 1 + x) (mul_assoc e turns m)
        ∙ sym (mul-add e 1 (turns * m)) ∙ ap (λ (x : ℕ). e * x) (sym one) ∙ sym (mul_assoc e c inverse)
        ∙ ap (λ (x : ℕ). x * inverse) h ∙ mul_right_comm q m inverse

-- The state after e draws more is another one.
differs : (s i e : ℕ) → 0 < e → e < 2 ^ 64 → state_after s i ≡ state_after s (i + e) → ⊥
differs s i e low high same =
    omega (arith, multiple (2 ^ 64) growth inverse turns e _ growth_inverse (whole_turns (s + i * growth) e again))
  where
    again : (s + i * growth) % 2 ^ 64 ≡ (s + i * growth + e * growth) % 2 ^ 64
    again =
        sym (state_closed s i) ∙ ap (λ (x : ℕ). x % 2 ^ 64) same ∙ state_closed s (i + e)
        ∙ ap (λ (x : ℕ). (s + x) % 2 ^ 64) (add-mul i e growth)
        ∙ ap (λ (x : ℕ). x % 2 ^ 64) (sym (add_assoc s (i * growth) (e * growth)))

-- THE FULL PERIOD: two numbers of draws that differ by less than 2 ^ 64 lead to two states.
pub full_period : (s i j : ℕ) → i < j → j - i < 2 ^ 64 → state_after s i ≡ state_after s j → ⊥
full_period s i j low high same =
    differs s i (j - i) (omega arith) high (same ∙ ap (state_after s) (omega arith))

-- ---- more about the states
-- The states of a paper number fit 64 bits.
pub state_fits : (s n : ℕ) → s < 2 ^ 64 → state_after s n < 2 ^ 64
unfolding state_after
state_fits s n h = grind arith

-- After 2 ^ 64 draws the state is the paper number again.
pub state_returns : (s : ℕ) → s < 2 ^ 64 → state_after s (2 ^ 64) ≡ s
state_returns s fits =
    sym (mod-eq_of_lt (state_fits s (2 ^ 64) fits)) ∙ state_closed s (2 ^ 64) ∙ add-mul-mod_self_left s (2 ^ 64) growth ∙ mod-eq_of_lt fits

-- A draw that goes on from a last state goes on from the paper number.
pub state_chains : (s i j : ℕ) → state_after (state_after s i) j ≡ state_after s (i + j)
unfolding state_after
state_chains s i zero = ap (state_after s) (sym (add-zero i))
state_chains s i (suc j) = ap grown (state_chains s i j) ∙ ap (state_after s) (sym (add-suc i j))
