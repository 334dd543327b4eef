-- The starts put into the queue one by one: one that is there already changes nothing, a new one is pushed.
use mathlib.Core.Path.{◌≡◌, refl, sym, ap, ◌∙◌}
use mathlib.Core.Bool.{Bool, true, false, ◌||◌, or-false, or_comm, false≢true}
use mathlib.Core.List.{List}
use Prim.Native.Nat.{ℕ, ◌+◌, ◌≤◌, ◌<◌}
use native.Mathlib.Numerals.{add-one}
use native.Mathlib.Omega.{arith}
use lib.Dec.{eqb}
use lib.ListN.{length, get_or, set, take}
use lib.Seq.{take-suc}
use borrow.Author.Tests.{eqb-true}
use Rattle.basics.specs.Numbers.{count}
use Rattle.meaning.specs.Paths.{mem}
use Rattle.basics.proofs.Numbers.{count_more, count_none}
use Rattle.meaning.proofs.Reach.{mem_snoc}
use Rattle.reach.specs.Reach.{memb}
use Rattle.search.specs.Steps.{Pushed, Begun}
use Rattle.search.proofs.Grow.{Plus, pushed_none, pushed_more, queue_none, queue_pushed, queue_room, found_begun}

module _ (starts : List ℕ) where
  -- At first the queue has none.
  pub begun_start : (ws queue before : List ℕ) → length queue ≡ 512 → length before ≡ 513 → ((k : ℕ) → memb ws k ≡ false)
      → Begun starts 0 ws queue before 0
  begun_start ws queue before lq lb none =
      record {
        queued = queue_none (memb ws) queue lq none;
        found = λ move. record { before-length = lb; each = λ k h. absurd (false≢true (sym (none k) ∙ h)) };
        members = none;
      }

  module _ (m : ℕ) (ws queue before : List ℕ) (n : ℕ) (b : Begun starts m ws queue before n) (l : m < length starts) where
    s : ℕ
    s = get_or starts m 0

    one_more : (k : ℕ) → mem k (take (m + 1) starts) ≡ (eqb k s || memb ws k)
    unfolding s
    one_more k =
        ap (λ (x : ℕ). mem k (take x starts)) (add-one m) ∙ ap (mem k) (take-suc starts m 0 l) ∙ mem_snoc k s (take m starts)
        ∙ ap (λ (x : Bool). eqb k s || x) (sym (b.members k))

    -- A start that is there already.
    pub begun_old : memb ws (get_or starts m 0) ≡ true → Begun starts (m + 1) ws queue before n
    unfolding s
    begun_old h = record { queued = b.queued; found = b.found; members = λ k. sym (one_more k ∙ there k (eqb k s) refl) }
      where
        there : (k : ℕ) (e : Bool) → eqb k s ≡ e → (e || memb ws k) ≡ memb ws k
        there k true e = sym (ap (memb ws) (eqb-true k s e) ∙ h)
        there k false e = refl

    only : ℕ → Bool
    only k = eqb k s

    only_size : 1 ≤ s → s ≤ 512 → count 512 only ≡ 1
    unfolding only s
    only_size low high = omega (arith, count_more 512 (λ k. false) only s low high refl (λ k l h. sym (or-false (eqb k s))), count_none 512)

    fresh : memb ws s ≡ false → (k : ℕ) → memb ws k ≡ true → only k ≡ false
    unfolding only s
    fresh h k e = go (eqb k s) refl
      where
        go : (t : Bool) → eqb k s ≡ t → t ≡ false
        go true q = sym e ∙ ap (memb ws) (eqb-true k s q) ∙ h
        go false q = refl

    -- There is room for a new start.
    pub begun_room : 1 ≤ get_or starts m 0 → get_or starts m 0 ≤ 512 → memb ws (get_or starts m 0) ≡ false → n < 512
    unfolding s
    begun_room low high h = omega (arith, queue_room (memb ws) only queue n b.queued (fresh h), only_size low high)

    -- A new start.
    pub begun_new : (ws' : List ℕ) → 1 ≤ get_or starts m 0 → get_or starts m 0 ≤ 512 → memb ws (get_or starts m 0) ≡ false
        → Plus (memb ws) (get_or starts m 0) (memb ws')
        → Begun starts (m + 1) ws' (set queue n (get_or starts m 0)) (set before (get_or starts m 0) 0) (n + 1)
    unfolding only s
    begun_new ws' low high h plus =
        record {
          queued = queue_pushed (memb ws) only (memb ws') 0 queue before n _ _ (n + 1) b.queued pushed either (fresh h)
              (λ k e. let q : k ≡ s = eqb-true k s e in (omega arith, omega arith));
          found = λ move. found_begun (memb ws) only (memb ws') 0 queue before n _ _ (n + 1) b.queued pushed either (fresh h) (b.found move) refl;
          members = λ k. plus k ∙ sym (one_more k);
        }
      where
        pushed : Pushed only 0 queue before n (set queue n s) (set before s 0) (n + 1)
        pushed =
            pushed_more (λ k. false) only 0 queue before n queue before n s (pushed_none (λ k. false) 0 queue before n (λ k. refl))
            low high refl (λ k. sym (or-false (eqb k s)))
            (omega (arith, begun_room low high h, b.queued.queue_length)) (omega (arith, high, (b.found (λ x y. false)).before-length))

        either : (k : ℕ) → memb ws' k ≡ (memb ws k || only k)
        either k = plus k ∙ or_comm (eqb k s) (memb ws k)
