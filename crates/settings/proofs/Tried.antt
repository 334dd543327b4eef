-- The settings are tried one after another, in any order that has each once: `Leads` for those tried gives `Leads` for one more, by the three
-- ways through the loop (`leads_unsafe`, `leads_better`, `leads_worse`), and in the end what is kept is what 01's own order gives (`any_order`).
-- `tried_all` says this of the order of frames; `none_reply` and `tried_reply-some` say what the reply is then.
use mathlib.Core.Path.{◌≡◌, refl, sym, ap, ◌∙◌}
use mathlib.Core.Logic.{◌⊎◌, inl, inr}
use mathlib.Core.Bool.{Bool, true, false, cond}
use mathlib.Core.List.{List, [], ◌∷◌, ◌++◌, append-nil}
use Prim.Native.Nat.{ℕ, zero, suc, ◌+◌, ◌^◌, ◌≤◌, ◌<◌}
use native.Mathlib.Nat.{mod-eq_of_lt}
use native.Mathlib.Numerals.{add-one}
use native.Mathlib.Omega.{arith}
use native.Mathlib.Decide.{dec_lt, ℕ_discrete}
use lib.Pow.{pow_pos}
use lib.ListN.{length, length-append}
use Rattle.meaning.specs.declared.Situation.{Situation}
use Rattle.meaning.specs.Station.{file_states}
use Rattle.meaning.specs.Verdict.{safe}
use Rattle.std.specs.Prelude.{Some, None}
use Rattle.basics.specs.Lists.{list_of, In}
use Rattle.meaning.specs.Settings.{open_count, settings, proceed_count, keep, safe_settings, choose, chosen, reply_of, reply}
use Rattle.meaning.specs.Frames.{halved_xor, frame_at, frames}
use Rattle.basics.proofs.Members.{in_left, in_right, in_append}
use Rattle.meaning.proofs.Settings.{of_keep, in_keep, keep-sorted}
use Rattle.meaning.proofs.Settings.{settings-sorted, settings_sound, settings_complete}
use Rattle.meaning.proofs.Chosen.{Below, below_through, choose_unique, none_chosen}
use Rattle.meaning.proofs.FixedMoves.{none_by_fixed}
use Rattle.meaning.proofs.FrameList.{frames_sound, frames_complete, frames-count}
use Rattle.element_states.specs.Sound.{Sound}
use Rattle.setting_order.specs.Order.{setting_at}
use Rattle.setting_order.proofs.Order.{place-before, frame_at_lem}
use Rattle.setting_tables.specs.Trains.{FixedShared}
use Rattle.setting_safety.proofs.Safety.{shared_unsafe}
use Rattle.settings.specs.Tried.{Tried}

-- ---- one setting more, at the end of a list
module _ (test : List ℕ → Bool) (σ : List ℕ) where
  keep_snoc : (l : List (List ℕ)) → keep test (l ++ (σ ∷ [])) ≡ keep test l ++ cond (test σ) (σ ∷ []) []
  unfolding keep
  keep_snoc [] = refl
  keep_snoc (τ ∷ l) = go (test τ) (keep_snoc l)
    where
      more : List (List ℕ)
      more = cond (test σ) (σ ∷ []) []

      go : (t : Bool) → keep test (l ++ (σ ∷ [])) ≡ keep test l ++ more
          → cond t (τ ∷ keep test (l ++ (σ ∷ []))) (keep test (l ++ (σ ∷ []))) ≡ cond t (τ ∷ keep test l) (keep test l) ++ more
      go true e = ap (λ (k : List (List ℕ)). τ ∷ k) e
      go false e = e

  keep_passed : (l : List (List ℕ)) → test σ ≡ true → keep test (l ++ (σ ∷ [])) ≡ keep test l ++ (σ ∷ [])
  keep_passed l h = keep_snoc l ∙ rw h

  keep_failed : (l : List (List ℕ)) → test σ ≡ false → keep test (l ++ (σ ∷ [])) ≡ keep test l
  keep_failed l h = keep_snoc l ∙ rw h (append-nil (keep test l))

-- ---- the settings of a list, tried one after another in any order
-- Of the settings l, n are safe; where some are, p is their highest proceed count, and the setting at place b is the one of them that
-- each is, or ranks below.
pub record Leads (s : Situation) (l : List (List ℕ)) (n p b : ℕ) : Type 0 where
  pub number : n ≡ length (keep (safe s) l)
  pub place : b < 2 ^ open_count (file_states s)
  pub highest : (n ≡ 0 → ⊥) → p ≡ proceed_count s (setting_at (file_states s) b)
  pub among : (n ≡ 0 → ⊥) → In (setting_at (file_states s) b) (keep (safe s) l)
  pub top : (τ : List ℕ) → In τ (keep (safe s) l)
      → (τ ≡ setting_at (file_states s) b) ⊎ Below (proceed_count s) (setting_at (file_states s) b) τ

none_in : (l : List (List ℕ)) → length l ≡ 0 → (τ : List ℕ) → In τ l → ⊥
none_in [] e τ i = i
none_in (σ ∷ l) e τ i = omega arith

module _ (s : Situation) where
  abbrev fs : List ℕ
  fs = file_states s

  -- At the start none is tried.
  pub leads_none : Leads s (list_of 0 (frame_at fs)) 0 0 0
  unfolding keep list_of
  leads_none =
      record { number = refl; place = pow_pos (open_count fs); highest = λ n. absurd (n refl); among = λ n. absurd (n refl); top = λ τ i. absurd i }

  module _ (l : List (List ℕ)) (n p b x : ℕ) (t : Leads s l n p b) (h : x < 2 ^ open_count fs) where
    abbrev σ : List ℕ
    σ = setting_at fs x

    abbrev kept_one : List ℕ
    kept_one = setting_at fs b

    -- The setting at x is not safe: nothing changes.
    pub leads_unsafe : safe s σ ≡ false → Leads s (l ++ (σ ∷ [])) n p b
    leads_unsafe u =
        let e : keep (safe s) (l ++ (σ ∷ [])) ≡ keep (safe s) l = keep_failed (safe s) σ l u in
        record { number = rw e t.number; place = t.place; highest = t.highest; among = rw e t.among; top = rw e t.top }

    module _ (k : safe s σ ≡ true) where
      kept : keep (safe s) (l ++ (σ ∷ [])) ≡ keep (safe s) l ++ (σ ∷ [])
      kept = keep_passed (safe s) σ l k

      one_more : n + 1 ≡ length (keep (safe s) (l ++ (σ ∷ [])))
      one_more = omega (arith, ap length kept, length-append (keep (safe s) l) (σ ∷ []), t.number)

      -- It is safe, and the first, or has a higher count than the one kept, or the same and a lower place.
      pub leads_better : (q : ℕ) → q ≡ proceed_count s σ → (n ≡ 0) ⊎ ((p < q) ⊎ ((p ≡ q) × (x < b)))
          → Leads s (l ++ (σ ∷ [])) (n + 1) q x
      leads_better q c v = record {
        number = one_more;
        place = h;
        highest = λ m. c;
        among = λ m. rw kept (in_right σ (keep (safe s) l) (σ ∷ []) (inl refl));
        top = rw kept (λ τ i. go τ (above (ℕ_discrete n 0) v) (in_append τ (keep (safe s) l) (σ ∷ []) i));
      }
        where
          above : Dec (n ≡ 0) → (n ≡ 0) ⊎ ((p < q) ⊎ ((p ≡ q) × (x < b))) → (n ≡ 0) ⊎ Below (proceed_count s) σ kept_one
          above (yes z) v = inl z
          above (no m) (inl z) = inl z
          above (no m) (inr (inl g)) = inr (inl (omega (arith, t.highest m)))
          above (no m) (inr (inr g)) = inr (inr (omega (arith, t.highest m), place-before fs x b g.1 t.place))

          go : (τ : List ℕ) → (n ≡ 0) ⊎ Below (proceed_count s) σ kept_one → In τ (keep (safe s) l) ⊎ In τ (σ ∷ [])
              → (τ ≡ σ) ⊎ Below (proceed_count s) σ τ
          go τ (inl z) (inl i) = absurd (none_in (keep (safe s) l) (sym t.number ∙ z) τ i)
          go τ (inr w) (inl i) = inr (below_through (proceed_count s) σ kept_one τ w (t.top τ i))
          go τ w (inr (inl e)) = inl e
          go τ w (inr (inr i)) = absurd i

      -- It is safe, and the one kept has a higher count, or the same and no higher place.
      pub leads_worse : (q : ℕ) → q ≡ proceed_count s σ → (n ≡ 0 → ⊥) → q ≤ p → (p ≡ q → b ≤ x) → Leads s (l ++ (σ ∷ [])) (n + 1) p b
      leads_worse q c m g d = record {
        number = one_more;
        place = t.place;
        highest = λ z. t.highest m;
        among = λ z. rw kept (in_left kept_one (keep (safe s) l) (σ ∷ []) (t.among m));
        top = rw kept (λ τ i. go τ (in_append τ (keep (safe s) l) (σ ∷ []) i));
      }
        where
          under : Dec (q < p) → Dec (b ≡ x) → (σ ≡ kept_one) ⊎ Below (proceed_count s) kept_one σ
          under (yes a) k = inr (inl (omega (arith, t.highest m)))
          under (no a) (yes e) = inl (ap (setting_at fs) (sym e))
          under (no a) (no e) =
              let y : b ≤ x = d (omega arith) in
              inr (inr (omega (arith, t.highest m), place-before fs b x (omega arith) h))

          go : (τ : List ℕ) → In τ (keep (safe s) l) ⊎ In τ (σ ∷ []) → (τ ≡ kept_one) ⊎ Below (proceed_count s) kept_one τ
          go τ (inl i) = t.top τ i
          go τ (inr (inl e)) = rw e (under (dec_lt q p) (ℕ_discrete b x))
          go τ (inr (inr i)) = absurd i

  -- A list that has the settings as its entries, each as often: what was kept of it is what the settings in their own order give.
  pub any_order : (l : List (List ℕ)) (n p b : ℕ) → ((τ : List ℕ) → In τ l → In τ (settings fs)) → ((τ : List ℕ) → In τ (settings fs) → In τ l)
      → ((test : List ℕ → Bool) → length (keep test l) ≡ length (keep test (settings fs))) → Leads s l n p b → Tried s (settings fs) n p b
  any_order l n p b to from as_many t = record {
    number = t.number ∙ as_many (safe s);
    place = t.place;
    highest = t.highest;
    first = λ m.
        choose_unique (proceed_count s) (keep (safe s) (settings fs)) (keep-sorted (safe s) (settings fs) (settings-sorted fs)) (setting_at fs b)
        (across l (settings fs) to (setting_at fs b) (t.among m))
        (λ τ i. t.top τ (across (settings fs) l from τ i));
  }
    where
      across : (a c : List (List ℕ)) → ((τ : List ℕ) → In τ a → In τ c) → (τ : List ℕ) → In τ (keep (safe s) a) → In τ (keep (safe s) c)
      across a c f τ i = let w = of_keep (safe s) a τ i in in_keep (safe s) c τ (f τ w.0) w.1

  -- ---- in the order of frames
  -- One frame more.
  pub frames_more : (n : ℕ) → n < 2 ^ open_count fs
      → list_of (n + 1) (frame_at fs) ≡ list_of n (frame_at fs) ++ (setting_at fs (halved_xor n) ∷ [])
  unfolding list_of
  frames_more n h =
      ap (λ (k : ℕ). list_of k (frame_at fs)) (add-one n)
      ∙ ap (λ (τ : List ℕ). list_of n (frame_at fs) ++ (τ ∷ [])) (frame_at_lem fs n ∙ ap (λ (m : ℕ). setting_at fs (halved_xor m)) (mod-eq_of_lt h))

  -- All frames are tried.
  pub tried_all : (n p b m : ℕ) → m ≡ 2 ^ open_count fs → Leads s (list_of m (frame_at fs)) n p b → Tried s (settings fs) n p b
  unfolding frames
  tried_all n p b m e t =
      any_order (frames fs) n p b
      (λ τ i. settings_complete fs τ (frames_sound fs τ i))
      (λ τ i. frames_complete fs τ (settings_sound fs τ i))
      (frames-count fs)
      (rw e at t)

  -- Where two trains meet by the fixed moves alone, none is safe.
  pub tried_fixed : Sound s → FixedShared s → Tried s (settings (file_states s)) 0 0 0
  unfolding safe_settings
  tried_fixed sound two =
      record {
        number = sym (ap length (none_by_fixed s (shared_unsafe s sound.inside (file_states s) (λ t l. l) two)));
        place = pow_pos (open_count (file_states s));
        highest = λ n. absurd (n refl);
        first = λ n. absurd (n refl);
      }

  -- ---- the reply
  abbrev kept_all : List (List ℕ)
  kept_all = keep (safe s) (settings (file_states s))

  chosen_is : chosen s ≡ choose (proceed_count s) kept_all
  unfolding chosen
  chosen_is = refl

  reply_is : reply s ≡ reply_of (length kept_all) (proceed_count s (chosen s))
  unfolding reply
  reply_is = refl

  -- None is safe: that is the reply, and none is chosen.
  pub none_reply : length kept_all ≡ 0 → (reply s ≡ None) × (chosen s ≡ [])
  none_reply z =
      let e : reply s ≡ None = reply_is ∙ rw z in
      (e, (none_chosen s e).1)

  some-reply : (n p : ℕ) → (n ≡ 0 → ⊥) → reply_of n p ≡ Some (record { safe = n; proceed = p })
  some-reply zero p m = absurd (m refl)
  some-reply (suc n) p m = refl

  -- Some are safe: the reply has their number and the highest count, and the setting at the place is chosen.
  pub tried_reply-some : (n p b : ℕ) → Tried s (settings fs) n p b → (n ≡ 0 → ⊥)
      → (reply s ≡ Some (record { safe = n; proceed = p })) × (chosen s ≡ setting_at fs b)
  tried_reply-some n p b t m =
      let c : chosen s ≡ setting_at fs b = chosen_is ∙ t.first m in
      (reply_is ∙ rw (c, ← t.number, ← t.highest m) (some-reply n p m), c)
