-- A train's open moves followed in all settings of a block: `Sound` says that no more are followed than the rules bring, `Started` that what the train starts
-- with is, and `Stepped` that what an open move brings is, where it does not wait.
use Rattle.std.proofs.Common.{◌≡◌, refl, sym, ap, ◌∙◌, ◌⊎◌, inl, inr, Bool, true, false, not, ◌&&◌, List, ℕ, ◌-◌, ◌^◌, ◌<◌, bit_and, length, get_or, arith}
use mathlib.Core.Logic.{⊎_elim}
use mathlib.Core.Bool.{false≢true, and-true}
use mathlib.Mathlib.Data.Bool.Basic.{or_inl, or_inr, and_intro}
use lib.Dec.{eqb}
use lib.ListN.{replicate}
use Rattle.basics.proofs.Lists.{replicate_get}
use native.Mathlib.Decide.{ℕ_discrete}
use borrow.Author.Tests.{eqb-true, eq-eqb, ne_eqb, not-false, not-true}
use lib.Pow.{pow-lt}
use Rattle.basics.proofs.Tests.{or_cases, and_both}
use Rattle.bits.specs.Bits.{bit, LowestBit}
use Rattle.bits.proofs.Bits.{bit-zero, bit_and_lem, bit-pow}
use Rattle.setting_tables.proofs.Leaving.{passed}
use Rattle.setting_safety.proofs.Gathering.{bit_without}
use Rattle.setting_safety.specs.declared.Followed.{Followed}
use Rattle.setting_safety.specs.Followed.{in_setting, left_in, start, step, leads_of, Follows, Empty, Listed, IsFollowed, Added, left_over}

-- The bits of `left`, which are still to come, are among those of a and of b.
abbrev pub Part : ℕ → ℕ → ℕ → Type 0
Part a b left = (e : ℕ) → bit left e ≡ true → (bit a e ≡ true) × (bit b e ≡ true)

pub part_start : (a b : ℕ) → Part a b (bit_and a b)
part_start a b e h = and_both (bit a e) (bit b e) (sym (bit_and_lem a b e) ∙ h)

pub part_turn : (a b : ℕ) {left e rest : ℕ} → Part a b left → LowestBit left e rest → Part a b rest
part_turn a b {left} {e} p l d h = p d (and_both (bit left d) (not (eqb d e)) (sym (l.rest d) ∙ h)).0

pub still_to_come : {left e rest : ℕ} → LowestBit left e rest → (d : ℕ) → bit rest d ≡ true → bit left d ≡ true
still_to_come {left} {e} l d h = (and_both (bit left d) (not (eqb d e)) (sym (l.rest d) ∙ h)).0

pub below_turn : {n left e rest : ℕ} → ((d : ℕ) → bit left d ≡ true → d < n) → LowestBit left e rest → (d : ℕ) → bit rest d ≡ true → d < n
below_turn {left = left} {e} b l d h = b d (and_both (bit left d) (not (eqb d e)) (sym (l.rest d) ∙ h)).0

-- ---- the four facts
pub record Sound (exits first among : ℕ) (planes : List ℕ) (leads : ℕ → ℕ) (r : Followed) : Type 0 where
  pub size : length r.settings ≡ 48
  pub listed : Listed r
  pub fits : r.waiting < 2 ^ 64
  pub waits : (e : ℕ) → bit r.waiting e ≡ true → e < 48
  pub least : (x e : ℕ) → bit among x ≡ true → in_setting r.settings x e ≡ true → Follows (start exits first planes x) (step leads first planes x) e

-- The open moves of `left` are still to come.
pub record Started (exits first among : ℕ) (planes : List ℕ) (left : ℕ) (r : Followed) : Type 0 where
  pub from : (x e : ℕ) → bit among x ≡ true → start exits first planes x e ≡ true → bit left e ≡ false → in_setting r.settings x e ≡ true

-- So is what those of `round` bring, and of what open move `served` brings, those of `left`.
pub record Stepped (first among : ℕ) (planes : List ℕ) (leads : ℕ → ℕ) (round served left : ℕ) (r : Followed) : Type 0 where
  pub on : (x e f : ℕ) → bit among x ≡ true → in_setting r.settings x e ≡ true → step leads first planes x e f ≡ true → bit r.waiting e ≡ false
      → bit round e ≡ false → (e ≡ served → bit left f ≡ false) → in_setting r.settings x f ≡ true

-- ---- before the first open move
pub empty_none : Empty (record { settings = replicate 48 0; moves = 0; waiting = 0 })
empty_none = record { none = λ e x. ap (λ (w : ℕ). bit w x) (replicate_get 48 e 0) ∙ bit-zero x; moves = refl; waiting = refl }

pub listed_empty : {r : Followed} → Empty r → Listed r
listed_empty n = record {
  below = λ e h. absurd (false≢true (sym (bit-zero e) ∙ (rw n.moves at h)));
  some = λ e x h. absurd (false≢true (sym (n.none e x) ∙ h));
}

pub sound_start : {exits first among : ℕ} {planes : List ℕ} {leads : ℕ → ℕ} {r : Followed} → length r.settings ≡ 48 → Empty r
    → Sound exits first among planes leads r
sound_start size n = record {
  size = size;
  listed = listed_empty n;
  fits = omega (arith, n.waiting);
  waits = λ e h. absurd (false≢true (sym (bit-zero e) ∙ (rw n.waiting at h)));
  least = λ x e m h. absurd (false≢true (sym (n.none e x) ∙ h));
}

pub started_start : {exits first among : ℕ} {planes : List ℕ} {r : Followed} → Started exits first among planes (bit_and exits first) r
started_start {exits} {first} {planes = planes} = record {
  from = λ x e m s n.
      let a = and_both (bit exits e) (bit first e && in_setting planes x e) s in
      let b = and_both (bit first e) (in_setting planes x e) a.1 in
      absurd (false≢true (sym n ∙ (bit_and_lem exits first e ∙ and_intro a.0 b.0)));
}

pub stepped_start : {first among : ℕ} {planes : List ℕ} {leads : ℕ → ℕ} {r : Followed} → Empty r → Stepped first among planes leads 0 0 0 r
stepped_start n = record { on = λ x e f m h. absurd (false≢true (sym (n.none e x) ∙ h)) }

taken : (a b : Bool) → a ≡ true → (a && b) ≡ false → b ≡ false
taken true b h k = k
taken false b h k = absurd (false≢true h)

-- The open moves of `open` are among `first`, and another is followed in all settings that leave it.
pub record Full (first among : ℕ) (planes : List ℕ) (open_moves : ℕ) (r : Followed) : Type 0 where
  pub part : (e : ℕ) → bit open_moves e ≡ true → bit first e ≡ true
  pub full : (x e : ℕ) → bit among x ≡ true → left_in first planes x e ≡ true → bit open_moves e ≡ false → in_setting r.settings x e ≡ true

pub full_start : {exits first among : ℕ} {planes : List ℕ} {r : Followed} → first < 2 ^ 64 → exits < 2 ^ 64 → Started exits first among planes 0 r
    → Full first among planes (bit_and first ((2 ^ 64 - 1) - exits)) r
full_start {exits} {first} {planes = planes} fits below s = record {
  part = λ e h. (and_both (bit first e) (not (bit exits e)) (sym (bit_without first exits fits below e) ∙ h)).0;
  full = λ x e m h n.
      let f = (and_both (bit first e) (in_setting planes x e) h).0 in
      s.from x e m (and_intro (not-false (bit exits e) (taken (bit first e) (not (bit exits e)) f (sym (bit_without first exits fits below e) ∙ n))) h) (bit-zero e);
}

-- One is followed in all settings.
pub full_out : {first among open_moves e v : ℕ} {planes : List ℕ} {r : Followed} → open_moves < 2 ^ 64 → e < 64 → v ≡ 2 ^ e
    → get_or r.settings e 0 ≡ bit_and (get_or planes e 0) among → Full first among planes open_moves r
    → Full first among planes (bit_and open_moves ((2 ^ 64 - 1) - v)) r
full_out {first} {among} {open_moves} {e} {planes = planes} {r} fits low p is u =
    rw p (record {
      part = λ d h. u.part d (and_both (bit open_moves d) (not (bit (2 ^ e) d)) (sym (rest d) ∙ h)).0;
      full = λ x d m h n.
          ⊎_elim
          (λ (z : d ≡ e).
          rw (z, is) (bit_and_lem (get_or planes e 0) among x ∙ and_intro (rw z at (and_both (bit first d) (in_setting planes x d) h).1) m))
          (λ z. u.full x d m h z)
          (still d (sym (rest d) ∙ n) (ℕ_discrete d e));
    })
  where
    rest : (d : ℕ) → bit (bit_and open_moves ((2 ^ 64 - 1) - 2 ^ e)) d ≡ (bit open_moves d && not (bit (2 ^ e) d))
    rest = bit_without open_moves (2 ^ e) fits (pow-lt low)

    still : (d : ℕ) → (bit open_moves d && not (bit (2 ^ e) d)) ≡ false → Dec (d ≡ e) → (d ≡ e) ⊎ (bit open_moves d ≡ false)
    still d h (yes z) = inl z
    still d h (no n) = inr (sym (and-true (bit open_moves d)) ∙ (rw (bit-pow e d, ne_eqb d e n) at h))

-- ---- one open move more
module _ {r : Followed} {e w : ℕ} {r' : Followed} (a : Added r e w r') where
  stays : (x d : ℕ) → in_setting r.settings x d ≡ true → in_setting r'.settings x d ≡ true
  stays x d h = a.settings d x ∙ or_inl (in_setting r.settings x d) (eqb d e && bit w x) h

  comes : (x : ℕ) → bit w x ≡ true → in_setting r'.settings x e ≡ true
  comes x h = a.settings e x ∙ or_inr (in_setting r.settings x e) (eqb e e && bit w x) (and_intro (eq-eqb e e refl) h)

  pub sound_add : {exits first among : ℕ} {planes : List ℕ} {leads : ℕ → ℕ} → Sound exits first among planes leads r → e < 48
      → ((x : ℕ) → bit among x ≡ true → bit w x ≡ true → Follows (start exits first planes x) (step leads first planes x) e)
      → Sound exits first among planes leads r'
  sound_add s low why = record {
    size = a.size ∙ s.size;
    listed = record {
      below = λ d h. ⊎_elim (λ (z : d ≡ e). omega arith) (s.listed.below d) (a.listed d h);
      some = λ d x h. ⊎_elim (λ z. a.kept d (s.listed.some d x (ap (λ (v : ℕ). bit v x) (sym z) ∙ h))) (λ z. z) (a.news d);
    };
    fits = a.fits;
    waits = λ d h. ⊎_elim (λ (z : d ≡ e). omega arith) (s.waits d) (a.waits d h);
    least = λ x d m h.
        ⊎_elim (s.least x d m) (λ z. let b = and_both (eqb d e) (bit w x) z in rw (eqb-true d e b.0) (why x m b.1))
        (or_cases (in_setting r.settings x d) (eqb d e && bit w x) (sym (a.settings d x) ∙ h));
  }

  pub started_add : {exits first among : ℕ} {planes : List ℕ} {left rest : ℕ} → Started exits first among planes left r → LowestBit left e rest
      → ((x : ℕ) → bit w x ≡ (in_setting planes x e && bit among x)) → Started exits first among planes rest r'
  started_add {exits} {first} {planes = planes} s l is = record {
    from = λ x d m h n.
        ⊎_elim
        (λ (z : d ≡ e).
        let b = and_both (bit exits e) (bit first e && in_setting planes x e) (rw z at h) in
        rw z (comes x (is x ∙ and_intro (and_both (bit first e) (in_setting planes x e) b.1).1 m)))
        (λ z. stays x d (s.from x d m h z))
        (passed l d n);
  }

  pub full_kept : {first among open_moves : ℕ} {planes : List ℕ} → Full first among planes open_moves r → Full first among planes open_moves r'
  full_kept u = record { part = u.part; full = λ x d m h n. stays x d (u.full x d m h n) }

  pub started_kept : {exits first among : ℕ} {planes : List ℕ} → Started exits first among planes 0 r → Started exits first among planes 0 r'
  started_kept s = record { from = λ x d m h n. stays x d (s.from x d m h n) }

  pub stepped_kept : {first among : ℕ} {planes : List ℕ} {leads : ℕ → ℕ} → Stepped first among planes leads 0 0 0 r
      → Stepped first among planes leads 0 0 0 r'
  stepped_kept s = record {
    on = λ x d f m h g n o q. let k = a.same d n in stays x f (s.on x d f m (ap (λ (v : ℕ). bit v x) (sym k.1) ∙ h) g k.0 o q);
  }

  -- What open move `served` brings in the settings `word`, in which it is followed.
  pub stepped_add : {first among : ℕ} {planes : List ℕ} {leads : ℕ → ℕ} {round served word left rest : ℕ}
      → Stepped first among planes leads round served left r → LowestBit left e rest
      → (bit r.waiting served ≡ false → get_or r.settings served 0 ≡ word) → ((x : ℕ) → bit w x ≡ (in_setting planes x e && bit word x))
      → Stepped first among planes leads round served rest r'
  stepped_add {first} {planes = planes} {leads = leads} {served = served} {word = word} {left = left} {rest = rest} s l same is = record {
    on = λ x d f m h g n o q.
        let k = a.same d n in
        let old : in_setting r.settings x d ≡ true = ap (λ (v : ℕ). bit v x) (sym k.1) ∙ h in
        let before = λ (z : d ≡ served → bit left f ≡ false). stays x f (s.on x d f m old g k.0 o z) in
        go x d f old g k.0 before q (ℕ_discrete d served);
  }
    where
      go : (x d f : ℕ) → in_setting r.settings x d ≡ true → step leads first planes x d f ≡ true → bit r.waiting d ≡ false
          → ((d ≡ served → bit left f ≡ false) → in_setting r'.settings x f ≡ true) → (d ≡ served → bit rest f ≡ false)
          → Dec (d ≡ served) → in_setting r'.settings x f ≡ true
      go x d f h g n before q (no z) = before (λ y. absurd (z y))
      go x d f h g n before q (yes z) =
          ⊎_elim
          (λ (y : f ≡ e).
          let b = and_both (bit (leads d) f) (bit first f && in_setting planes x f) g in
          let p = and_both (bit first f) (in_setting planes x f) b.1 in
          let there : bit word x ≡ true = ap (λ (v : ℕ). bit v x) (sym (same (rw z at n))) ∙ (rw z at h) in
          rw y (comes x (is x ∙ and_intro (rw y at p.1) there)))
          (λ y. before (λ u. y))
          (passed l f (q z))

  pub same_add : (served : ℕ) {word : ℕ} → (bit r.waiting served ≡ false → get_or r.settings served 0 ≡ word)
      → bit r'.waiting served ≡ false → get_or r'.settings served 0 ≡ word
  same_add served same n = let k = a.same served n in k.1 ∙ same k.0

-- ---- why it is followed
-- An open move that the train starts with.
pub brought_start : (exits first among : ℕ) (planes : List ℕ) {left e rest : ℕ} → Part exits first left → LowestBit left e rest
    → (steps : ℕ → ℕ → Bool) (x : ℕ) → bit (bit_and (get_or planes e 0) among) x ≡ true → Follows (start exits first planes x) steps e
brought_start exits first among planes {e = e} p l steps x h = λ P s t.
    let b = p e l.here in
    s e (and_intro b.0 (and_intro b.1 (and_both (in_setting planes x e) (bit among x) (sym (bit_and_lem (get_or planes e 0) among x) ∙ h)).0))

-- One that open move `served` brings, which is followed.
pub brought_step : (first word : ℕ) (planes : List ℕ) (leads : ℕ → ℕ) (served : ℕ) {left e rest : ℕ}
    → Part (leads served) first left → LowestBit left e rest → (starts : ℕ → Bool) (x : ℕ)
    → bit (bit_and (get_or planes e 0) word) x ≡ true → (bit word x ≡ true → Follows starts (step leads first planes x) served)
    → Follows starts (step leads first planes x) e
brought_step first word planes leads served {e = e} p l starts x h why = λ P s t.
    let b = p e l.here in
    let w = and_both (in_setting planes x e) (bit word x) (sym (bit_and_lem (get_or planes e 0) word x) ∙ h) in
    t served e (why w.1 P s t) (and_intro b.0 (and_intro b.1 w.0))

-- ---- a round
-- What waits is served next, and nothing waits.
module _ (settings : List ℕ) (moves waiting : ℕ) {first among : ℕ} {planes : List ℕ} {leads : ℕ → ℕ} where
  -- Those that are not served lead to nothing.
  pub stepped_round : {round : ℕ} → ((d : ℕ) → bit waiting d ≡ true → bit round d ≡ false → leads d ≡ 0)
      → Stepped first among planes leads 0 0 0 (record { settings = settings; moves = moves; waiting = waiting })
      → Stepped first among planes leads round 0 0 (record { settings = settings; moves = moves; waiting = 0 })
  stepped_round {round} dead s = record { on = λ x d f m h g n o q. go x d f m h g o q (bit waiting d) refl }
    where
      go : (x d f : ℕ) → bit among x ≡ true → in_setting settings x d ≡ true → step leads first planes x d f ≡ true → bit round d ≡ false
          → (d ≡ 0 → bit 0 f ≡ false) → (b : Bool) → bit waiting d ≡ b → in_setting settings x f ≡ true
      go x d f m h g o q false w = s.on x d f m h g w (bit-zero d) q
      go x d f m h g o q true w =
          absurd (false≢true (sym (bit-zero f) ∙ (rw (dead d w o) at (and_both (bit (leads d) f) (left_in first planes x f) g).0)))

  pub sound_round : {exits : ℕ} → Sound exits first among planes leads (record { settings = settings; moves = moves; waiting = waiting })
      → Sound exits first among planes leads (record { settings = settings; moves = moves; waiting = 0 })
  sound_round s = record {
    size = s.size;
    listed = record { below = s.listed.below; some = s.listed.some };
    fits = omega arith;
    waits = λ d h. absurd (false≢true (sym (bit-zero d) ∙ h));
    least = s.least;
  }

-- Less is left.
pub round_less : (settings : List ℕ) (moves waiting : ℕ) → 0 < waiting
    → left_over (record { settings = settings; moves = moves; waiting = 0 }) < left_over (record { settings = settings; moves = moves; waiting = waiting })
unfolding left_over
round_less settings moves waiting h = omega arith

-- An open move of the round: what it brings is still to come, but for those that are followed in all settings.
pub stepped_turn : {first among : ℕ} {planes : List ℕ} {leads : ℕ → ℕ} {round e rest row open_moves : ℕ} {r : Followed} → LowestBit round e rest → leads e ≡ row
    → Full first among planes open_moves r → Stepped first among planes leads round 0 0 r → Stepped first among planes leads rest e (bit_and row open_moves) r
stepped_turn {first} {planes = planes} {leads = leads} {e = e} {row = row} {open_moves = open_moves} {r} l same u s = record {
  on = λ x d f m h g n o q.
      ⊎_elim
      (λ (z : d ≡ e).
      let b = and_both (bit (leads d) f) (left_in first planes x f) g in
      u.full x f m b.1 (taken (bit row f) (bit open_moves f) (rw (z, same) at b.0) (sym (bit_and_lem row open_moves f) ∙ q z)))
      (λ z. s.on x d f m h g n z (λ u. bit-zero f))
      (passed l d o);
}

-- What it brings is served.
pub stepped_end : {first among : ℕ} {planes : List ℕ} {leads : ℕ → ℕ} {round e left : ℕ} {r : Followed}
    → Stepped first among planes leads round e left r → left ≡ 0 → Stepped first among planes leads round 0 0 r
stepped_end s z = record { on = λ x d f m h g n o q. s.on x d f m h g n o (λ u. rw z (bit-zero f)) }

-- So is the round.
pub stepped_rounds : {first among : ℕ} {planes : List ℕ} {leads : ℕ → ℕ} {round : ℕ} {r : Followed}
    → Stepped first among planes leads round 0 0 r → round ≡ 0 → Stepped first among planes leads 0 0 0 r
stepped_rounds s z = record { on = λ x d f m h g n o q. s.on x d f m h g n (rw z (bit-zero d)) q }

-- None waits any more.
pub followed_end : {exits first among : ℕ} {planes : List ℕ} {leads : ℕ → ℕ} {r : Followed} → Sound exits first among planes leads r
    → Started exits first among planes 0 r → Stepped first among planes leads 0 0 0 r → r.waiting ≡ 0 → IsFollowed exits first among planes leads r
followed_end s a b z = record {
  listed = s.listed;
  each = λ x m. record {
    from = λ e h. a.from x e m h (bit-zero e);
    on = λ e f h g. b.on x e f m h g (rw z (bit-zero e)) (bit-zero e) (λ u. bit-zero f);
    least = λ e h. s.least x e m h;
  };
}

-- Where those that harm the train are not served, they lead to nothing.
pub harmful_dead : (onward : List ℕ) (harms waiting : ℕ) → harms < 2 ^ 64 → waiting < 2 ^ 64 → (d : ℕ) → bit waiting d ≡ true
    → bit (bit_and waiting ((2 ^ 64 - 1) - harms)) d ≡ false → leads_of onward harms d ≡ 0
harmful_dead onward harms waiting fits few d w o =
    rw (not-false (bit harms d) (taken (bit waiting d) (not (bit harms d)) w (sym (bit_without waiting harms few fits d) ∙ o))) refl

-- One that is served leads where `onward` says.
pub calm_leads : (onward : List ℕ) (harms waiting : ℕ) → harms < 2 ^ 64 → waiting < 2 ^ 64 → (d : ℕ) → bit (bit_and waiting ((2 ^ 64 - 1) - harms)) d ≡ true
    → (bit waiting d ≡ true) × (bit harms d ≡ false)
calm_leads onward harms waiting fits few d h =
    let b = and_both (bit waiting d) (not (bit harms d)) (sym (bit_without waiting harms few fits d) ∙ h) in (b.0, not-true (bit harms d) b.1)
