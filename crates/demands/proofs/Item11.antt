-- Item 11 holds of any operation with the contract of `judge_frame` (`item_11`), and the number of safe settings that demand 3 gives is that of the
-- safe frames (`safe_frames`). The walk is `frame_at` (`frames-walk`), and no other (`only_walk`); so what two calls show are frames of one walk
-- (`neighbouring_calls`).
use mathlib.Core.Path.{◌≡◌, refl, sym, ap, ap₂, subst, ◌∙◌}
use mathlib.Core.Bool.{true, false≢true}
use mathlib.Core.List.{List, [], ◌∷◌, ◌++◌}
use Prim.Native.Nat.{ℕ, zero, suc, ◌+◌, ◌-◌, ◌≤◌, ◌<◌}
use native.Mathlib.Omega.{arith}
use native.Mathlib.Decide.{dec_lt}
use lib.Dec.{ltb}
use lib.Bits.{differ, xor_step, xor_shr}
use lib.Pow.{pow_pos}
use lib.ListN.{length, get_or, take, drop}
use lib.Seq.{take-append_seam}
use borrow.Author.Tests.{eqb-true, ne_eqb, ltb-true, ltb-false}
use Rattle.meaning.specs.declared.Situation.{Situation}
use Rattle.meaning.specs.Station.{file_states}
use Rattle.meaning.specs.Settings.{open_count, keeps, is_setting}
use Rattle.meaning.specs.File.{reading}
use Rattle.meaning.specs.Frames.{halved_xor, by_bits, frame_at, OneChanges}
use Rattle.meaning.specs.Operations.{settings_refusal, after_frame}
use Rattle.meaning.specs.Accepted.{Accepted}
use Rattle.meaning.proofs.Accepted.{accepted_exactly}
use Rattle.meaning.proofs.AcceptedSituation.{accepted_lengths}
use Rattle.meaning.proofs.Settings.{setting_length, head_kept, tail_setting}
use Rattle.meaning.proofs.Frames.{frame_round, frame_setting, frame_length, starts_over, frame_exactly, neighbours, last_and_first}
use Rattle.c_layout.specs.declared.FlatRefusal.{FlatRefusal}
use Rattle.c_layout.specs.declared.FlatReply.{FlatReply}
use Rattle.c_layout.specs.Flat.{flat_refusal}
use Rattle.demands.specs.Words.{situation, AtMostOpen, HowMany, Filled}
use Rattle.demands.specs.Reach.{TwoTrainsMeet, SafeSetting}
use Rattle.demands.specs.Demand1.{requested, refused}
use Rattle.demands.specs.OfSettings.{Demand3}
use Rattle.demands.specs.Item11.{round, bit_of, StateByBit, Walk, GivesFrame, Item11}
use Rattle.demands.specs.Laws.{OneLever, OneWalk, WalksOneLever, SafeFrames}
use Rattle.demands.proofs.Words.{of_lines}
use Rattle.demands.proofs.Counting.{how_many_across}
use Rattle.demands.proofs.Causes.{Called, passes, refuses, called}

-- ---- the frames are a walk
-- An open element with j open ones behind it has bit j.
by_bits_open : (fs : List ℕ) (x i : ℕ) → i < length fs → get_or fs i 0 ≡ 0
    → get_or (by_bits fs x) i 0 ≡ bit_of x (open_count (drop (suc i) fs)) + 1
unfolding by_bits
by_bits_open [] x i l o = absurd (omega arith)
by_bits_open (zero ∷ fs) x zero l o = refl
by_bits_open (suc f ∷ fs) x zero l o = absurd (omega arith)
by_bits_open (zero ∷ fs) x (suc i) l o = by_bits_open fs x i (omega arith) o
by_bits_open (suc f ∷ fs) x (suc i) l o = by_bits_open fs x i (omega arith) o

by_digits : (x y : ℕ) → x < 2 → y < 2 → (differ x y < 2) × (x ≡ y → differ x y + 1 ≡ 1) × ((x ≡ y → ⊥) → differ x y + 1 ≡ 2)
by_digits x y h h2 = grind arith

state_by_bit : (n j : ℕ) → StateByBit n j (bit_of (halved_xor n) j + 1)
unfolding halved_xor
state_by_bit n j = grind (arith, by_digits, xor_shr, xor_step)

frames-walk : (fs : List ℕ) → Walk fs (frame_at fs)
frames-walk fs = grind (arith, by_bits_open, frame_round, frame_setting, starts_over, state_by_bit)

frames_one_lever : (fs : List ℕ) → OneLever fs (frame_at fs)
frames_one_lever fs = grind (arith, frame_exactly, last_and_first, neighbours)

-- ---- there is no other walk
-- Settings that agree on the open elements are equal.
same_settings : (fs σ τ : List ℕ) → is_setting fs σ ≡ true → is_setting fs τ ≡ true
    → ((i : ℕ) → i < length fs → get_or fs i 0 ≡ 0 → get_or σ i 0 ≡ get_or τ i 0) → σ ≡ τ
unfolding is_setting
same_settings [] [] [] h k e = refl
same_settings [] [] (y ∷ τ) h k e = absurd (false≢true k)
same_settings [] (x ∷ σ) τ h k e = absurd (false≢true h)
same_settings (f ∷ fs) [] τ h k e = absurd (false≢true h)
same_settings (f ∷ fs) (x ∷ σ) [] h k e = absurd (false≢true k)
same_settings (f ∷ fs) (x ∷ σ) (y ∷ τ) h k e =
    ap₂ (λ (z : ℕ) (l : List ℕ). z ∷ l)
    (first f (head_kept f x fs σ h) (head_kept f y fs τ k) (e 0 (omega arith)))
    (same_settings fs σ τ (tail_setting f x fs σ h) (tail_setting f y fs τ k) (λ i l o. e (suc i) (omega arith) o))
  where
    first : (f : ℕ) → keeps f x ≡ true → keeps f y ≡ true → (f ≡ 0 → x ≡ y) → x ≡ y
    first zero a b w = w refl
    first (suc f) a b w = eqb-true x (suc f) a ∙ sym (eqb-true y (suc f) b)

same_state : (n j x y : ℕ) → StateByBit n j x → StateByBit n j y → x ≡ y
same_state n j x y a b = grind arith

module _ (fs : List ℕ) (g : ℕ → List ℕ) (w : Walk fs g) where
  in_round : (n : ℕ) → n < round fs → g n ≡ frame_at fs n
  in_round n l =
      same_settings fs (g n) (frame_at fs n) (w.setting n) (frame_setting fs n)
      λ i k o. same_state n _ _ _ (w.bits n i l k o) ((frames-walk fs).bits n i l k o)

  -- Past the last, one round back.
  up_to : (k n : ℕ) → n < k → g n ≡ frame_at fs n
  up_to zero n l = absurd (omega arith)
  up_to (suc k) n l = go (dec_lt n (round fs)) (λ m h. up_to k m h)
    where
      go : Dec (n < round fs) → ((m : ℕ) → m < k → g m ≡ frame_at fs m) → g n ≡ frame_at fs n
      go (yes b) r = in_round n b
      go (no b) r =
          let m : ℕ = n - round fs in
          let e : n ≡ m + round fs = omega arith in
          ap g e ∙ w.starts_over m ∙ r m (omega (arith, pow_pos (open_count fs))) ∙ sym (ap (frame_at fs) e ∙ starts_over fs m)

  only_walk : (n : ℕ) → g n ≡ frame_at fs n
  only_walk n = up_to (suc n) n (omega arith)

pub one_walk : OneWalk
one_walk fs f g w v n = only_walk fs g v n ∙ sym (only_walk fs f w n)

pub walks_one_lever : WalksOneLever
walks_one_lever fs g w = record {
  neighbours = λ some n. rw (only_walk fs g w n, only_walk fs g w (n + 1)) (all.neighbours some n);
  last_and_first = λ some. rw (only_walk fs g w (round fs - 1), only_walk fs g w 0) (all.last_and_first some);
  each_once = λ σ h.
      let e = all.each_once σ h in
      record { one = e.one; is = (e.is.0, only_walk fs g w e.one ∙ e.is.1); only = λ m p. e.only m (p.0, sym (only_walk fs g w m) ∙ p.1) };
}
  where
    all : OneLever fs (frame_at fs)
    all = frames_one_lever fs

-- ---- the operation
gives_frame : (s : Situation) (n : ℕ) (buffer buffer' : List ℕ) → length (file_states s) ≡ s.header.elements → s.header.elements ≤ length buffer
    → buffer' ≡ frame_at (file_states s) n ++ drop (length (frame_at (file_states s) n)) buffer → GivesFrame s n buffer buffer'
gives_frame s n buffer buffer' lengths room left =
    let fs : List ℕ = file_states s in
    let σ : List ℕ = frame_at fs n in
    record {
      frame = frame_at fs;
      walk = frames-walk fs;
      filled = record { fits = omega (arith, frame_length fs n, lengths, room); is = left };
    }

-- `answer` and `left` are its contract.
pub item_11 : (file : List ℕ) (n : ℕ) (buffer buffer' : List ℕ) (q : FlatRefusal)
    → q ≡ flat_refusal (settings_refusal file (length buffer)) → buffer' ≡ after_frame file n buffer → Item11 file n buffer buffer' q
unfolding settings_refusal after_frame
item_11 file n buffer buffer' q answer left =
    go
    (called file 11 12 (omega arith) (omega arith) (Short (situation file)) (ltb (length buffer) room)
    (λ a h. of_lines file a Short (ltb-true (length buffer) room h)))
  where
    room : ℕ
    room = (reading file).situation.header.elements

    Short : Situation → Type 0
    Short s = length buffer < s.header.elements

    go : Called file 11 12 (Short (situation file)) (ltb (length buffer) room) (settings_refusal file (length buffer))
        → Item11 file n buffer buffer' q
    go (passes a f h e) =
        let s : Situation = (reading file).situation in
        let all = gives_frame s n buffer buffer' (accepted_lengths file ((accepted_exactly file).1 a)) (ltb-false (length buffer) room h) (left ∙ rw e) in
        requested (answer ∙ ap flat_refusal e) (
          a,
          of_lines file a (AtMostOpen 12) f,
          of_lines file a (λ (x : Situation). GivesFrame x n buffer buffer') all,
          of_lines file a (λ (x : Situation). x.header.elements ≤ length buffer) (ltb-false (length buffer) room h),
        )
    go (refuses m c) =
        let no = ne_eqb (settings_refusal file (length buffer)).number 0 (λ z. omega arith) in
        refused (rw answer m.number.0) (rw answer c) (left ∙ rw no)

-- What a call shows is the frame, a byte for each element: the first bytes of the buffer, and no other.
shows : (fs : List ℕ) (frame : ℕ → List ℕ) (n : ℕ) (buffer buffer' : List ℕ) → Walk fs frame → Filled (frame n) buffer buffer'
    → take (length fs) buffer' ≡ frame n
shows fs frame n buffer buffer' w f =
    let e : length (frame n) ≡ length fs = setting_length fs (frame n) (w.setting n) in
    rw (f.is, ← e) (take-append_seam (frame n) (drop (length (frame n)) buffer))

-- What two calls with neighbouring numbers show differs in just one element, which is open.
pub neighbouring_calls : (s : Situation) (n : ℕ) (buffer buffer' next next' : List ℕ) → 1 ≤ open_count (file_states s)
    → GivesFrame s n buffer buffer' → GivesFrame s (n + 1) next next'
    → OneChanges (file_states s) (take (length (file_states s)) buffer') (take (length (file_states s)) next')
    × Filled (take (length (file_states s)) buffer') buffer buffer' × Filled (take (length (file_states s)) next') next next'
neighbouring_calls s n buffer buffer' next next' some a b =
    let fs : List ℕ = file_states s in
    let shown = shows fs a.frame n buffer buffer' a.walk a.filled in
    let then = shows fs b.frame (n + 1) next next' b.walk b.filled in
    let same : b.frame (n + 1) ≡ a.frame (n + 1) = sym (one_walk fs b.frame a.frame b.walk a.walk (n + 1)) in
    (rw (shown, then, same) ((walks_one_lever fs a.frame a.walk).neighbours some n), rw shown a.filled, rw then b.filled)

-- In an accepted file these are as many bytes as its first line counts elements.
pub neighbouring_calls_of : (file : List ℕ) (n : ℕ) (buffer buffer' next next' : List ℕ) → Accepted file → 1 ≤ open_count (file_states (situation file))
    → GivesFrame (situation file) n buffer buffer' → GivesFrame (situation file) (n + 1) next next'
    → OneChanges (file_states (situation file)) (take (situation file).header.elements buffer') (take (situation file).header.elements next')
neighbouring_calls_of file n buffer buffer' next next' acc some a b =
    let e : length (file_states (situation file)) ≡ (situation file).header.elements =
    of_lines file acc (λ (x : Situation). length (file_states x) ≡ x.header.elements) (accepted_lengths file ((accepted_exactly file).1 acc)) in
    subst (λ (k : ℕ). OneChanges (file_states (situation file)) (take k buffer') (take k next')) e
    (neighbouring_calls (situation file) n buffer buffer' next next' some a b).0

-- ---- the settings question
-- As many frames from 0 to the last are safe as settings: each setting is one of them.
safe-frames : (s : Situation) (g : ℕ → List ℕ) → Walk (file_states s) g → (n : ℕ) → HowMany (SafeSetting s) n
    → HowMany (λ (m : ℕ). (m < round (file_states s)) × (TwoTrainsMeet s (g m) → ⊥)) n
safe-frames s g w n =
    how_many_across (SafeSetting s) (λ (m : ℕ). (m < round (file_states s)) × (TwoTrainsMeet s (g m) → ⊥)) g n
    (λ m p. (w.setting m, p.1))
    λ σ p.
    let fs : List ℕ = file_states s in
    let e = frame_exactly fs σ p.0 in
    let is : g e.0 ≡ σ = only_walk fs g w e.0 ∙ e.2 in
    (e.0, (e.1, λ d. p.1 (subst (TwoTrainsMeet s) is d)), is, λ m h t. e.3 m h.0 (sym (only_walk fs g w m) ∙ t))

pub safe_frames : SafeFrames
safe_frames file buffer buffer' r d a few room g w = safe-frames (situation file) g w r.safe (d.met a few room).number
