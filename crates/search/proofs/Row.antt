-- A row of the table followed word by word: the bits of a word that the set does not have are new sections, found by a move.
use mathlib.Core.Path.{◌≡◌, refl, sym, ap, subst, ◌∙◌}
use mathlib.Core.Logic.{⊎_elim}
use mathlib.Core.Bool.{Bool, true, false, not, ◌&&◌, ◌||◌, false≢true, or-false, and-false, or-not_self}
use mathlib.Core.List.{List}
use mathlib.Mathlib.Data.Bool.Basic.{or_inl}
use Prim.Native.Nat.{ℕ, zero, suc, ◌+◌, ◌-◌, ◌*◌, ◌/◌, ◌%◌, ◌^◌, ◌≤◌, ◌<◌}
use native.Mathlib.Omega.{arith}
use native.Mathlib.Nat.{lt_of_le_of_lt}
use lib.Bits.{bit_and, bit_or, or_lt, or_zero_r, and_le_l}
use lib.Dec.{eqb}
use lib.ListN.{length, get_or, set, length-set}
use lib.Seq.{get_or-set_same, get_or-set_other, set-get_or}
use Rattle.std.proofs.lemmas.Bool.{cases_lt, cases_eq}
use borrow.Author.Tests.{eqb-true, eqb-false}
use Rattle.basics.specs.Numbers.{count}
use Rattle.basics.proofs.Tests.{and_both, or_cases}
use Rattle.bits.specs.Bits.{bit}
use Rattle.bits.proofs.Bits.{bit_and_lem, bit_or_lem, bit_not}
use Rattle.reach.specs.Reach.{memb, words_at}
use Rattle.reach.proofs.Laws.{memb_word}
use Rattle.pairs.specs.Pairs.{Rows, edge}
use Rattle.pairs.proofs.Laws.{edge_inside, edge_row}
use Rattle.search.specs.Search.{Queue, AllFound}
use Rattle.search.specs.Steps.{in_word, Pushed, Followed}
use Rattle.search.proofs.Grow.{pushed_none, queue_pushed, queue_room, found_moved}
use Rattle.search.proofs.Words.{in_word_at, in_word-bit, in_word-zero}

-- ---- a word of the set, and of the table
-- A word stored with more bits adds their sections.
pub memb_stored : (ws : List ℕ) (i v k : ℕ) → i < length ws → memb (set ws i (bit_or (get_or ws i 0) v)) k ≡ (memb ws k || in_word i v k)
unfolding memb in_word
memb_stored ws i v zero l = refl
memb_stored ws i v (suc q) l = go (eqb (q / 64) i) refl
  where
    w : ℕ
    w = bit_or (get_or ws i 0) v

    go : (t : Bool) → eqb (q / 64) i ≡ t
        → bit (get_or (set ws i w) (q / 64) 0) (q % 64) ≡ (bit (get_or ws (q / 64) 0) (q % 64) || (t && bit v (q % 64)))
    go true e =
        let d : q / 64 ≡ i = eqb-true (q / 64) i e in
        rw (d, get_or-set_same ws i w 0 l) (bit_or_lem (get_or ws i 0) v (q % 64))
    go false e =
        ap (λ (x : ℕ). bit x (q % 64)) (get_or-set_other ws i (q / 64) w 0 (eqb-false (q / 64) i e))
        ∙ sym (or-false (bit (get_or ws (q / 64) 0) (q % 64)))

-- What `row & !word` has: the sections of the row's word that the set does not have.
pub in_word_fresh : (ws : List ℕ) (i row k : ℕ) → get_or ws i 0 < 2 ^ 64
    → in_word i (bit_and row ((2 ^ 64 - 1) - get_or ws i 0)) k ≡ (in_word i row k && not (memb ws k))
unfolding memb in_word
in_word_fresh ws i row zero fit = refl
in_word_fresh ws i row (suc q) fit = go (eqb (q / 64) i) refl
  where
    go : (t : Bool) → eqb (q / 64) i ≡ t
        → (t && bit (bit_and row ((2 ^ 64 - 1) - get_or ws i 0)) (q % 64))
        ≡ ((t && bit row (q % 64)) && not (bit (get_or ws (q / 64) 0) (q % 64)))
    go false e = refl
    go true e =
        let d : q / 64 ≡ i = eqb-true (q / 64) i e in
        bit_and_lem row ((2 ^ 64 - 1) - get_or ws i 0) (q % 64)
        ∙ ap (λ (x : Bool). bit row (q % 64) && x)
        (bit_not 64 (get_or ws i 0) (q % 64) fit (omega arith) ∙ ap (λ (x : ℕ). not (bit (get_or ws x 0) (q % 64))) (sym d))

-- A move from section a to a section of word i is a bit of word i of its row.
pub edge_word : (rows : Rows) (a i k : ℕ) → 1 ≤ a → a ≤ 512 → i < 8 → 64 * i < k → k ≤ 64 * i + 64
    → edge rows a k ≡ bit (get_or (words_at rows (a - 1)) i 0) (k - 64 * i - 1)
edge_word rows a i k la ha li low high =
    edge_row rows a k la ha (omega arith) (omega arith) ∙ memb_word (words_at rows (a - 1)) i (k - 64 * i - 1) k (omega arith) (omega arith)

-- ---- one word more
-- Of the row of the section at place `head`, the first i words are followed.
pub record Following (rows : Rows) (head : ℕ) (ws₀ queue₀ before₀ : List ℕ) (n₀ : ℕ) (ws queue before : List ℕ) (n i : ℕ) : Type 0 where
  pub upto : i ≤ 8
  pub words : length ws ≡ 8
  pub fits : (j : ℕ) → get_or ws j 0 < 2 ^ 64
  pub place : head < n₀
  pub followed : Followed rows (get_or queue₀ head 0) (64 * i) ws₀ queue₀ before₀ n₀ ws queue before n

module _ (rows : Rows) (head : ℕ) (ws₀ queue₀ before₀ : List ℕ) (n₀ : ℕ) where
  -- At first no word is.
  pub following_start : length ws₀ ≡ 8 → ((j : ℕ) → get_or ws₀ j 0 < 2 ^ 64) → head < n₀ → Queue (memb ws₀) queue₀ n₀ → AllFound (edge rows) (memb ws₀) before₀
      → Following rows head ws₀ queue₀ before₀ n₀ ws₀ queue₀ before₀ n₀ 0
  following_start len fit l q v =
      record {
        upto = omega arith;
        words = len;
        fits = fit;
        place = l;
        followed = record {
          queued = q;
          found = v;
          more = omega arith;
          kept = λ k h. h;
          queue_kept = λ i h. refl;
          before_kept = λ k h. refl;
          by_move = λ k h e. absurd (false≢true (sym h ∙ e));
          reached = λ k h e. absurd (omega (arith, edge_inside rows (get_or queue₀ head 0) k e));
        };
      }

  module _ (ws queue before : List ℕ) (n i : ℕ) (r : Following rows head ws₀ queue₀ before₀ n₀ ws queue before n i) (l : i < 8) where
    fit : get_or ws i 0 < 2 ^ 64
    fit = r.fits i

    abbrev a : ℕ
    a = get_or queue₀ head 0

    abbrev row : ℕ
    row = get_or (words_at rows (a - 1)) i 0

    abbrev fresh : ℕ
    fresh = bit_and row ((2 ^ 64 - 1) - get_or ws i 0)

    here : get_or queue head 0 ≡ a
    here = r.followed.queue_kept head r.place

    known : memb ws a ≡ true
    known = rw here at (r.followed.queued.members head (omega (arith, r.place, r.followed.more)))

    section : (1 ≤ a) × (a ≤ 512)
    section = r.followed.queued.within a known

    apart : (k : ℕ) → memb ws k ≡ true → in_word i fresh k ≡ false
    apart k h = in_word_fresh ws i row k fit ∙ ap (λ (b : Bool). in_word i row k && not b) h ∙ and-false (in_word i row k)

    -- There is room for the new sections.
    pub following_room : n + count 512 (in_word i fresh) ≤ 512
    following_room = queue_room (memb ws) (in_word i fresh) queue n r.followed.queued apart

    found : (k : ℕ) → in_word i fresh k ≡ true → edge rows a k ≡ true
    found k h =
        let b = in_word_at i row k (and_both (in_word i row k) (not (memb ws k)) (sym (in_word_fresh ws i row k fit) ∙ h)).0 in
        edge_word rows a i k section.0 section.1 l b.0 b.1 ∙ b.2

    -- The new sections of word i are pushed.
    pub following_turn : (queue' before' : List ℕ) (n' : ℕ) → get_or (words_at rows (get_or queue₀ head 0 - 1)) i 0 < 2 ^ 64
        → Pushed (in_word i fresh) (get_or queue₀ head 0) queue before n queue' before' n'
        → Following rows head ws₀ queue₀ before₀ n₀ (set ws i (bit_or (get_or ws i 0) fresh)) queue' before' n' (i + 1)
    following_turn queue' before' n' small p =
        record {
          upto = omega arith;
          words = length-set ws i (bit_or (get_or ws i 0) fresh) ∙ r.words;
          fits = λ j. ⊎_elim
              (λ e. rw (e, get_or-set_same ws i w 0 (omega (arith, r.words))) w_small)
              (λ e. rw (get_or-set_other ws i j w 0 e) (r.fits j))
              (cases_eq j i);
          place = r.place;
          followed = record {
            queued = queue_pushed (memb ws) (in_word i fresh) (memb ws') a queue before n queue' before' n' f.queued p either apart
                (λ k h. let b = in_word_at i fresh k h in (omega (arith, b.0), omega (arith, b.1)));
            found = found_moved (memb ws) (in_word i fresh) (memb ws') a queue before n queue' before' n' f.queued p either apart
                f.found known found;
            more = omega (arith, f.more, p.size);
            kept = λ k h. either k ∙ or_inl (memb ws k) (in_word i fresh k) (f.kept k h);
            queue_kept = λ j h. p.queue_kept j (omega (arith, f.more)) ∙ f.queue_kept j h;
            before_kept = λ k h. p.before_kept k (apart k (f.kept k h)) ∙ f.before_kept k h;
            by_move = λ k h e. ⊎_elim
                (λ x. rw (p.before_kept k (apart k x)) (f.by_move k h x))
                (λ x. rw (p.from k x) section.0)
                (or_cases (memb ws k) (in_word i fresh k) (sym (either k) ∙ e));
            reached = λ k h e. ⊎_elim
                (λ x. either k ∙ or_inl (memb ws k) (in_word i fresh k) (f.reached k (omega arith) e))
                (λ x. now k x (omega arith) e)
                (cases_lt k (64 * i + 1));
          };
        }
      where
        w : ℕ
        w = bit_or (get_or ws i 0) fresh

        w_small : w < 2 ^ 64
        w_small = or_lt 64 (get_or ws i 0) fresh fit (lt_of_le_of_lt (and_le_l row ((2 ^ 64 - 1) - get_or ws i 0)) small)

        ws' : List ℕ
        ws' = set ws i w

        f : Followed rows a (64 * i) ws₀ queue₀ before₀ n₀ ws queue before n
        f = r.followed

        either : (k : ℕ) → memb ws' k ≡ (memb ws k || in_word i fresh k)
        either k = memb_stored ws i fresh k (omega (arith, r.words))

        now : (k : ℕ) → 64 * i + 1 ≤ k → k ≤ 64 * i + 64 → edge rows a k ≡ true → memb ws' k ≡ true
        now k low high e =
            let b : in_word i row k ≡ true =
            in_word-bit i row (k - 64 * i - 1) k (omega arith) (omega arith)
            ∙ sym (edge_word rows a i k section.0 section.1 l (omega arith) high) ∙ e in
            either k
            ∙ ap (λ (x : Bool). memb ws k || x) (in_word_fresh ws i row k fit ∙ ap (λ (x : Bool). x && not (memb ws k)) b) ∙ or-not_self (memb ws k)

    -- Word i has no new section: nothing is pushed.
    pub following_skip : get_or (words_at rows (get_or queue₀ head 0 - 1)) i 0 < 2 ^ 64
        → bit_and (get_or (words_at rows (get_or queue₀ head 0 - 1)) i 0) ((2 ^ 64 - 1) - get_or ws i 0) ≡ 0
        → Following rows head ws₀ queue₀ before₀ n₀ ws queue before n (i + 1)
    following_skip small z =
        subst (λ (us : List ℕ). Following rows head ws₀ queue₀ before₀ n₀ us queue before n (i + 1))
        (ap (λ (x : ℕ). set ws i (bit_or (get_or ws i 0) x)) z ∙ ap (set ws i) (or_zero_r (get_or ws i 0)) ∙ set-get_or ws i 0)
        (following_turn queue before n small
        (pushed_none (in_word i fresh) a queue before n (λ k. ap (λ (x : ℕ). in_word i x k) z ∙ in_word-zero i k)))
