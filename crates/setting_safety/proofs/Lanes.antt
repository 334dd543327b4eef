-- One setting, while its trains are judged one after another: B t is what train t reaches by the fixed moves, C e the closure of open move e, and R t what
-- train t reaches in the setting. The trains that are done are apart (`Lane`); one train more keeps it so (`lane_turn`), or shares a section with another.
use mathlib.Core.Path.{◌≡◌, sym, subst, ◌∙◌}
use mathlib.Core.Logic.{◌⊎◌, inl, inr, ⊎_elim}
use mathlib.Core.Bool.{Bool, true, ◌||◌}
use mathlib.Mathlib.Data.Bool.Basic.{or_inl, or_inr}
use Prim.Native.Nat.{ℕ, ◌<◌}
use Rattle.basics.proofs.Tests.{or_cases}
use Rattle.setting_tables.specs.Trains.{Apart, Shared}
use Rattle.setting_tables.proofs.Apart.{With}

-- The trains that are done are apart from each other, and from what the others reach by the fixed moves; E has the open moves that they follow.
pub record Lane (R B C : ℕ → ℕ → Bool) (n : ℕ) (Done : ℕ → Type 0) (E : ℕ → Bool) : Type 0 where
  pub apart : Apart R Done
  pub clear : (u v c : ℕ) → Done u → v < n → R u c ≡ true → B v c ≡ true → u ≡ v
  pub held : (u c : ℕ) → Done u → R u c ≡ true → (B u c ≡ true) ⊎ ((f : ℕ) × (E f ≡ true) × (C f c ≡ true))
  pub from : (f : ℕ) → E f ≡ true → (u : ℕ) × Done u × ((c : ℕ) → C f c ≡ true → R u c ≡ true)

-- Train t reaches its base, and the closures of the open moves A that it follows.
pub record Follower (R B C : ℕ → ℕ → Bool) (t : ℕ) (A : ℕ → Bool) : Type 0 where
  pub closure : (e c : ℕ) → A e ≡ true → C e c ≡ true → R t c ≡ true
  pub covers : (c : ℕ) → R t c ≡ true → (B t c ≡ true) ⊎ ((e : ℕ) × (A e ≡ true) × (C e c ≡ true))

module _ {R B C : ℕ → ℕ → Bool} {n : ℕ} {Done Done' : ℕ → Type 0} {E A : ℕ → Bool} {t : ℕ} (lane : Lane R B C n Done E) (more : With Done t Done')
    (follower : Follower R B C t A) (low : t < n) where
  other : (v : ℕ) → Done v → t ≡ v → ⊥
  other v d z = more.new (subst Done (sym z) d)

  -- No open move that it follows leads to where another train stands, or to where one leads that an earlier train follows.
  pub lane_turn : Apart B (λ u. u < n) → ((e v c : ℕ) → A e ≡ true → v < n → C e c ≡ true → B v c ≡ true → t ≡ v)
      → ((e f c : ℕ) → A e ≡ true → E f ≡ true → C e c ≡ true → C f c ≡ true → ⊥) → {E' : ℕ → Bool} → ((f : ℕ) → E' f ≡ (E f || A f))
      → ((u : ℕ) → Done u → u < n) → Lane R B C n Done' E'
  lane_turn bases harmless alone {E'} is within = record {
    apart = λ u v c p q f g.
        ⊎_elim
        (λ pu. ⊎_elim (λ pv. lane.apart u v c pu pv f g) (λ (z : v ≡ t). absurd (clash u c pu (rw z at g) f)) (more.only v q))
        (λ (z : u ≡ t). ⊎_elim (λ pv. absurd (clash v c pv (rw z at f) g)) (λ (y : v ≡ t). z ∙ sym y) (more.only v q))
        (more.only u p);
    clear = λ u v c p l f g.
        ⊎_elim (λ pu. lane.clear u v c pu l f g)
        (λ (z : u ≡ t). z ∙ ⊎_elim (λ b. bases t v c low l b g) (λ w. harmless w.0 v c w.1 l w.2 g) (follower.covers c (rw z at f)))
        (more.only u p);
    held = λ u c p f.
        ⊎_elim (λ pu. ⊎_elim (λ b. inl b) (λ w. inr (w.0, is w.0 ∙ or_inl (E w.0) (A w.0) w.1, w.2)) (lane.held u c pu f))
        (λ (z : u ≡ t). ⊎_elim (λ b. inl (rw z b)) (λ w. inr (w.0, is w.0 ∙ or_inr (E w.0) (A w.0) w.1, w.2)) (follower.covers c (rw z at f)))
        (more.only u p);
    from = λ f h.
        ⊎_elim (λ g. let w = lane.from f g in (w.0, more.others w.0 w.1, w.2)) (λ g. (t, more.here, λ c. follower.closure f c g))
        (or_cases (E f) (A f) (sym (is f) ∙ h));
  }
    where
      clash : (v c : ℕ) → Done v → R t c ≡ true → R v c ≡ true → ⊥
      clash v c d f g =
          ⊎_elim
          (λ b. other v d (sym (lane.clear v t c d low g b)))
          (λ w.
          ⊎_elim (λ b. other v d (harmless w.0 v c w.1 (within v d) w.2 b)) (λ y. alone w.0 y.0 c w.1 y.1 w.2 y.2) (lane.held v c d g))
          (follower.covers c f)

-- What it follows brings it to where its closures are.
module _ {R B C : ℕ → ℕ → Bool} {n : ℕ} {Done Done' : ℕ → Type 0} {E A : ℕ → Bool} {t : ℕ} (lane : Lane R B C n Done E) (more : With Done t Done')
    (closure : (e c : ℕ) → A e ≡ true → C e c ≡ true → R t c ≡ true) (low : t < n) where
  -- One that it follows leads to where another train stands.
  pub shared-harm : (e v c : ℕ) → A e ≡ true → v < n → (t ≡ v → ⊥) → C e c ≡ true → R v c ≡ true → Shared R (λ u. u < n)
  shared-harm e v c a l ne h k = record {
    first = t;
    second = v;
    section = c;
    first_is = low;
    second_is = l;
    first_reaches = closure e c a h;
    second_reaches = k;
    different = ne;
  }

  -- It leads to where one leads that an earlier train follows.
  pub shared-overlap : ((u : ℕ) → Done u → u < n) → (e f c : ℕ) → A e ≡ true → E f ≡ true → C e c ≡ true → C f c ≡ true → Shared R (λ u. u < n)
  shared-overlap within e f c a b h k =
      let w = lane.from f b in
      shared-harm e w.0 c a (within w.0 w.1) (λ z. more.new (subst Done (sym z) w.1)) h (w.2 c k)
