-- How the queue and the paths grow: one section more is pushed, and pushed sections join them. Sets are known by their tests alone.
use mathlib.Core.Path.{◌≡◌, refl, sym, ap, ◌∙◌}
use mathlib.Core.Logic.{◌⊎◌, inl, inr, ⊎_elim}
use mathlib.Core.Bool.{Bool, true, false, ◌||◌, false≢true}
use mathlib.Core.List.{List}
use mathlib.Mathlib.Data.Bool.Basic.{or_inl, or_inr, eq-false_of_not-eq-true}
use Prim.Native.Nat.{ℕ, suc, ◌+◌, ◌≤◌, ◌<◌}
use native.Mathlib.Omega.{arith}
use lib.Dec.{eqb}
use lib.ListN.{length, get_or, set, length-set}
use lib.Seq.{get_or-set_same, get_or-set_other}
use Rattle.std.proofs.lemmas.Bool.{cases_lt}
use borrow.Author.Tests.{eqb-true, eq-eqb}
use Rattle.basics.specs.Numbers.{count}
use Rattle.basics.proofs.Tests.{or_cases}
use Rattle.basics.proofs.Numbers.{count-le, count_ext, count_more, count_none, count_mono, count_or}
use Rattle.search.specs.Search.{Queue, FoundBy, AllFound}
use Rattle.search.specs.Steps.{Pushed}
use Rattle.search.proofs.Kept.{found_kept, path_same, path_members}

-- ---- one section more
-- The test g is f with b added.
abbrev pub Plus : (ℕ → Bool) → ℕ → (ℕ → Bool) → Type 0
Plus f b g = (k : ℕ) → g k ≡ (eqb k b || f k)

plus_cases : (f : ℕ → Bool) (b : ℕ) (g : ℕ → Bool) → Plus f b g → (k : ℕ) → g k ≡ true → (k ≡ b) ⊎ (f k ≡ true)
plus_cases f b g p k h = ⊎_elim (λ e. inl (eqb-true k b e)) inr (or_cases (eqb k b) (f k) (sym (p k) ∙ h))

plus_here : (f : ℕ → Bool) (b : ℕ) (g : ℕ → Bool) → Plus f b g → g b ≡ true
plus_here f b g p = p b ∙ or_inl (eqb b b) (f b) (eq-eqb b b refl)

plus-keeps : (f : ℕ → Bool) (b : ℕ) (g : ℕ → Bool) → Plus f b g → (k : ℕ) → f k ≡ true → g k ≡ true
plus-keeps f b g p k h = p k ∙ or_inr (eqb k b) (f k) h

-- Nothing pushed.
pub pushed_none : (new : ℕ → Bool) (a : ℕ) (queue before : List ℕ) (n : ℕ) → ((k : ℕ) → new k ≡ false)
    → Pushed new a queue before n queue before n
pushed_none new a queue before n none =
    record {
      queue_length = refl;
      before-length = refl;
      size = omega (arith, count_mono 512 new (λ k. false) (λ k h. sym (none k) ∙ h), count_none 512);
      queue_kept = λ i l. refl;
      members = λ i l h. absurd (omega arith);
      place = λ k h. absurd (false≢true (sym (none k) ∙ h));
      from = λ k h. absurd (false≢true (sym (none k) ∙ h));
      before_kept = λ k h. refl;
    }

-- One section more pushed.
pub pushed_more : (f g : ℕ → Bool) (a : ℕ) (queue before : List ℕ) (n : ℕ) (queue' before' : List ℕ) (m b : ℕ)
    → Pushed f a queue before n queue' before' m → 1 ≤ b → b ≤ 512 → f b ≡ false → Plus f b g
    → m < length queue → b < length before → Pushed g a queue before n (set queue' m b) (set before' b a) (m + 1)
pushed_more f g a queue before n queue' before' m b r low high new plus lq lb =
    record {
      queue_length = length-set queue' m b ∙ r.queue_length;
      before-length = length-set before' b a ∙ r.before-length;
      size = omega (arith, r.size, count_more 512 f g b low high new (λ k l h. plus k));
      queue_kept = λ i l. qo i (omega (arith, r.size)) ∙ r.queue_kept i l;
      members = λ i l h. ⊎_elim
          (λ x. rw (qo i x) (plus-keeps f b g plus (get_or queue' i 0) (r.members i l x)))
          (λ x. let e : i ≡ m = omega arith in rw (e, qm) (plus_here f b g plus))
          (cases_lt i m);
      place = λ k h. ⊎_elim
          (λ q. (m, omega (arith, r.size), omega arith, qm ∙ sym q))
          (λ q. let w = r.place k q in (w.0, w.1, (let x = w.2 in omega arith), qo w.0 w.2 ∙ w.3))
          (plus_cases f b g plus k h);
      from = λ k h. ⊎_elim
          (λ e. rw e (get_or-set_same before' b a 0 (omega (arith, r.before-length))))
          (λ e. get_or-set_other before' b k a 0 (λ q. false≢true (sym new ∙ ap f (sym q) ∙ e)) ∙ r.from k e)
          (plus_cases f b g plus k h);
      before_kept = λ k h.
          get_or-set_other before' b k a 0 (λ q. false≢true (sym h ∙ ap g q ∙ plus_here f b g plus))
          ∙ r.before_kept k (eq-false_of_not-eq-true (λ e. false≢true (sym h ∙ plus-keeps f b g plus k e)));
    }
  where
    qm : get_or (set queue' m b) m 0 ≡ b
    qm = get_or-set_same queue' m b 0 (omega (arith, r.queue_length))

    qo : (j : ℕ) → j < m → get_or (set queue' m b) j 0 ≡ get_or queue' j 0
    qo j l = get_or-set_other queue' m j b 0 (λ e. omega arith)

-- ---- the queue
-- A queue of no entries has no section.
pub queue_none : (has : ℕ → Bool) (queue : List ℕ) → length queue ≡ 512 → ((k : ℕ) → has k ≡ false) → Queue has queue 0
queue_none has queue lq none =
    record {
      queue_length = lq;
      size = omega (arith, count_mono 512 has (λ k. false) (λ k h. sym (none k) ∙ h), count_none 512);
      within = λ k h. absurd (false≢true (sym (none k) ∙ h));
      members = λ i l. absurd (omega arith);
      place = λ k h. absurd (false≢true (sym (none k) ∙ h));
    }

-- Pushed sections that are new have room.
pub queue_room : (has new : ℕ → Bool) (queue : List ℕ) (n : ℕ) → Queue has queue n
    → ((k : ℕ) → has k ≡ true → new k ≡ false) → n + count 512 new ≤ 512
queue_room has new queue n q apart = omega (arith, q.size, count_or 512 has new apart, count-le 512 (λ k. has k || new k))

-- The sections pushed, which are new, join the queue.
module _ (has new all : ℕ → Bool) (a : ℕ) (queue before : List ℕ) (n : ℕ) (queue' before' : List ℕ) (m : ℕ)
    (q : Queue has queue n) (r : Pushed new a queue before n queue' before' m) (either : (k : ℕ) → all k ≡ (has k || new k))
    (apart : (k : ℕ) → has k ≡ true → new k ≡ false) where
  cases : (k : ℕ) → all k ≡ true → (has k ≡ true) ⊎ (new k ≡ true)
  cases k h = or_cases (has k) (new k) (sym (either k) ∙ h)

  old : (k : ℕ) → has k ≡ true → all k ≡ true
  old k h = either k ∙ or_inl (has k) (new k) h

  fresh : (k : ℕ) → new k ≡ true → all k ≡ true
  fresh k h = either k ∙ or_inr (has k) (new k) h

  size : count 512 all ≡ m
  size = omega (arith, count_ext 512 all (λ k. has k || new k) (λ k l h. either k), count_or 512 has new apart, q.size, r.size)

  pub queue_pushed : ((k : ℕ) → new k ≡ true → (1 ≤ k) × (k ≤ 512)) → Queue all queue' m
  queue_pushed inside =
      record {
        queue_length = r.queue_length ∙ q.queue_length;
        size = size;
        within = λ k h. ⊎_elim (q.within k) (inside k) (cases k h);
        members = λ i l. ⊎_elim
            (λ x. rw (r.queue_kept i x) (old (get_or queue i 0) (q.members i x)))
            (λ x. fresh (get_or queue' i 0) (r.members i x l))
            (cases_lt i n);
        place = λ k h. ⊎_elim
            (λ e. let w = q.place k e in (w.0, (let x = w.1 in omega (arith, r.size)), r.queue_kept w.0 w.1 ∙ w.2))
            (λ e. let w = r.place k e in (w.0, w.2, w.3))
            (cases k h);
      }

  -- The paths stay, and those to the sections pushed join them.
  module _ {move : ℕ → ℕ → Bool} (v : AllFound move has before) where
    same : (k : ℕ) → has k ≡ true → get_or before' k 0 ≡ get_or before k 0
    same k h = r.before_kept k (apart k h)

    found-joined : ((k : ℕ) → new k ≡ true → (j : ℕ) × (j ≤ n) × FoundBy move all before' j k) → AllFound move all before'
    found-joined found =
        record {
          before-length = r.before-length ∙ v.before-length;
          each = λ k h. ⊎_elim
              (λ e. let w = v.each k e in (w.0, (let x = w.1 in omega (arith, size, q.size, r.size)), found_kept move has all before before' old same w.0 k w.2))
              (λ e. let w = found k e in (w.0, (let x = w.1 in let p = r.place k e in let y = p.1 in let z = p.2 in omega (arith, size)), w.2))
              (cases k h);
        }

    -- The sections pushed are found by a move from a section of the set.
    pub found_moved : has a ≡ true → ((k : ℕ) → new k ≡ true → move a k ≡ true) → AllFound move all before'
    found_moved here by =
        let w = v.each a here in
        let l : w.0 < count 512 has = w.1 in
        found-joined (λ k h. (
          suc w.0,
          omega (arith, l, q.size),
          rw (r.from k h) (
            fresh k h,
            by k h,
            rw (path_same move has all before before' old same w.0 a w.2)
                (eq-false_of_not-eq-true (λ e. false≢true (sym (apart k (path_members move has before w.0 a w.2 k e)) ∙ h))),
            found_kept move has all before before' old same w.0 a w.2,
          ),
        ))

    -- The sections pushed are starts.
    pub found_begun : a ≡ 0 → AllFound move all before'
    found_begun z = found-joined (λ k h. (0, omega arith, (fresh k h, r.from k h ∙ z)))
