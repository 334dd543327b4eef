-- The path that is read back from a search from where train t stands is one that a dangerous verdict may show: `shown`.
use mathlib.Core.Path.{◌≡◌, sym, ap, ◌∙◌}
use mathlib.Core.List.{List, ◌++◌}
use mathlib.Mathlib.Data.Bool.Basic.{and_intro}
use Prim.Native.Nat.{ℕ, suc, ◌+◌, ◌-◌, ◌≤◌, ◌<◌}
use native.Mathlib.Omega.{arith}
use lib.ListN.{length, take, drop, length-append, length-drop}
use lib.Seq.{take_at, drop_at}
use Rattle.meaning.specs.declared.Situation.{Situation}
use Rattle.meaning.specs.Station.{standing, moves}
use Rattle.meaning.specs.Paths.{mem, path_to, reach}
use Rattle.basics.specs.Numbers.{count}
use Rattle.meaning.specs.Verdict.{in_reach, leads, shows}
use Rattle.meaning.specs.Operations.{Shows}
use Rattle.basics.proofs.Numbers.{count-le}
use Rattle.reach.specs.Reach.{memb}
use Rattle.pairs.specs.Pairs.{Rows, Represents}
use Rattle.search.specs.Read.{path_back, Back}
use Rattle.search.specs.Search.{Traced}
use Rattle.search.proofs.Laws.{IsPathBack, traced_reach, traced_path}
use Rattle.search.proofs.Kept.{path_back-length}
use Rattle.element_states.specs.Sound.{Sound}
use Rattle.moves.proofs.Where.{standing_at_lem}
use Rattle.verdict.proofs.Trains.{standing_at, ReachIs, entries_within}
use Rattle.verdict.proofs.Answered.{Named}

module _ {s : Situation} (sound : Sound s) {σ : List ℕ} {rows : Rows} (represents : Represents rows (moves s σ)) {t k : ℕ} (named : Named s σ t k)
    {starts : List ℕ} (at : starts ≡ standing_at s (t - 1)) {ws before : List ℕ} (f : Traced rows starts ws before) (list : List ℕ)
    (room : s.header.sections ≤ length list) where
  from_standing : starts ≡ standing s t
  from_standing =
      let e : suc (t - 1) ≡ t = omega (arith, named.low) in at ∙ standing_at_lem s (t - 1) (omega (arith, named.high, named.low)) ∙ ap (standing s) e

  its_reach : ReachIs s sound σ t ws
  unfolding in_reach
  its_reach a = traced_reach f (moves s σ) represents a ∙ ap (λ (S : List ℕ). mem a (reach (moves s σ) S)) from_standing

  found : (m : ℕ) × (m < count 512 (memb ws)) × IsPathBack (moves s σ) starts before k m
  found = traced_path f (moves s σ) represents k (its_reach k ∙ named.reached)

  abbrev m : ℕ
  m = found.0

  short : m < count 512 (memb ws)
  short = found.1

  -- The lent list has room for the path.
  fits : m < length list
  fits = omega (arith, short, entries_within s sound σ t ws its_reach, room)

  -- The path can be read back.
  pub readable : (m : ℕ) × (m < 512) × (m < length list) × Back before m k
  readable = (m, omega (arith, short, count-le 512 (memb ws)), fits, found.2.back)

  -- The path is written to the start of the list.
  pub shown : (n : ℕ) (list' : List ℕ)
      → ((m : ℕ) → Back before m k → (n ≡ m + 1) × (list' ≡ path_back before m k ++ drop (m + 1) list)) → Shows s σ t k n list list'
  unfolding shows leads
  shown n list' written =
      let p : List ℕ = path_back before m k in
      let w = written m found.2.back in
      let e : length p ≡ n = path_back-length before m k ∙ sym w.0 in
      let q : list' ≡ p ++ drop n list = w.1 ∙ ap (λ (x : ℕ). p ++ drop x list) (sym w.0) in
      let front : take n list' ≡ p = ap (take n) q ∙ take_at p (drop n list) n e in
      record {
        path =
            ap (shows s σ t k) front
            ∙ and_intro (ap (λ (S : List ℕ). path_to (moves s σ) S k p) (sym from_standing) ∙ found.2.path) found.2.alone;
        counted = ap length front ∙ e;
        kept = ap (drop n) q ∙ drop_at p (drop n list) n e;
        same_length = ap length q ∙ length-append p (drop n list) ∙ omega (arith, length-drop n list, e, w.0, fits);
      }
