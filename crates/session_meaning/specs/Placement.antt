-- Placing trains (02, Item 14). p is the paper number, s a state, n the number of sections, m the number of trains.
use Rattle.std.specs.Prelude.{Result, Bool, not, ◌&&◌, ◌||◌, cond, List, [], ◌∷◌, ◌++◌, ℕ, zero, suc, ◌+◌, ◌*◌, ◌/◌, ◌%◌, ◌^◌, ltb, leb, length, drop}
use Rattle.meaning.specs.declared.Refusal.{Refusal}
use Rattle.basics.specs.Numbers.{lowest}
use Rattle.meaning.specs.Paths.{mem}
use Rattle.meaning.specs.File.{refusal, is_none, unless_refused}

-- "The hexadecimal number 9E3779B97F4A7C15".
abbrev pub growth : ℕ
growth = 11400714819323198485

-- "Before each draw the state grows by" it, "and the carry out of 64 bits is dropped."
abbrev pub grown : ℕ → ℕ
grown s = (s + growth) % 2 ^ 64

-- The state after i draws.
unfoldable pub state_after : ℕ → ℕ → ℕ
state_after p zero = p
state_after p (suc i) = grown (state_after p i)

-- "The draw is the upper 32 bits times the number of sections, divided by 2 to the power 32, rounded down, plus 1."
abbrev pub draw : ℕ → ℕ → ℕ
draw s n = s / 2 ^ 32 * n / 2 ^ 32 + 1

-- The lowest free section from section k on; 0 where there is none.
unfoldable pub free_from : ℕ → (ℕ → Bool) → ℕ → ℕ
unfolding lowest
free_from n taken k = lowest n (λ t. leb k t && not (taken t))

-- The first number, or the second where the first is 0.
abbrev pub or_else : ℕ → ℕ → ℕ
or_else zero m = m
or_else (suc l) m = suc l

-- "A taken section gives way to the next free one above it, with section 1 after the last": a free section k stays as it is.
unfoldable pub gives_way : ℕ → (ℕ → Bool) → ℕ → ℕ
unfolding free_from
gives_way n taken k = or_else (free_from n taken k) (free_from n taken 1)

-- The sections of trains 1 to m, "in train order".
unfoldable pub placement : ℕ → ℕ → ℕ → List ℕ
unfolding state_after gives_way
placement p n zero = []
placement p n (suc m) =
    let before : List ℕ = placement p n m in before ++ (gives_way n (λ t. mem t before) (draw (state_after p (suc m)) n) ∷ [])

-- "A number of sections outside 1 to 512, or more trains than sections or than 64."
abbrev pub unplaceable : ℕ → ℕ → Bool
unplaceable n m = ((ltb n 1 || ltb 512 n) || ltb n m) || ltb 64 m

-- "It refuses with 21, before 9 (one 16-bit number a train)": with a list of `room` numbers. Number 0 where it does not refuse.
unfoldable pub placement_refusal : ℕ → ℕ → ℕ → Refusal
placement_refusal n m room = cond (unplaceable n m) (refusal 21 0) (cond (ltb room m) (refusal 9 0) (refusal 0 0))

-- "The last state is returned."
unfoldable pub placement_answer : ℕ → ℕ → ℕ → ℕ → Result ℕ Refusal
unfolding placement_refusal state_after
placement_answer p n m room = unless_refused (placement_refusal n m room) (state_after p m)

-- "The sections fill a lent list"; the rest of it, and all of it after a refusal, keeps its content.
unfoldable pub after_placement : ℕ → ℕ → ℕ → List ℕ → List ℕ
unfolding placement_refusal placement
after_placement p n m list = cond (is_none (placement_refusal n m (length list))) (placement p n m ++ drop m list) list
