-- What a search gives to its callers: the reach, and a path to each section of it; and how the paths of several searches are kept in one list.
use mathlib.Core.Path.{◌≡◌, refl, sym, ap, ◌∙◌}
use mathlib.Core.Bool.{true, false, false≢true}
use mathlib.Core.List.{List}
use Prim.Native.Nat.{ℕ, ◌≤◌, ◌<◌}
use native.Mathlib.Omega.{arith}
use lib.ListN.{length, get_or, take, length-take}
use lib.Seq.{get_or-take}
use Rattle.meaning.specs.declared.Move.{Move}
use Rattle.basics.specs.Numbers.{count}
use Rattle.meaning.specs.Paths.{mem, path_to, once, reach}
use Rattle.reach.specs.Reach.{memb}
use Rattle.pairs.specs.Pairs.{Rows, edge, Represents}
use Rattle.search.specs.Read.{path_back, Back}
use Rattle.search.specs.Search.{Sections, Traced, Searched}
use Rattle.search.specs.Steps.{KeptPaths}
use Rattle.search.proofs.Reached.{is_reach}
use Rattle.search.proofs.Whole.{queue_short}
use Rattle.search.proofs.Kept.{found_kept, found_back, found_path, found-once}

-- There is a path of m moves to section k, from one of the sections S and with no section twice, that can be read back.
pub record IsPathBack (ms : List Move) (S before : List ℕ) (k m : ℕ) : Type 0 where
  pub back : Back before m k
  pub path : path_to ms S k (path_back before m k) ≡ true
  pub alone : once (path_back before m k) ≡ true

module _ {rows : Rows} {starts ws before : List ℕ} (t : Traced rows starts ws before) where
  -- The set found is the reach.
  pub traced_reach : (ms : List Move) → Represents rows ms → (k : ℕ) → memb ws k ≡ mem k (reach ms starts)
  traced_reach ms represents = is_reach ms starts (edge rows) (λ k. mem k starts) (memb ws) represents (λ k. refl) t.reached

  -- There is a path to each section of the set.
  pub traced_path : (ms : List Move) → Represents rows ms → (k : ℕ) → memb ws k ≡ true
      → (m : ℕ) × (m < count 512 (memb ws)) × IsPathBack ms starts before k m
  traced_path ms represents k h =
      let w = t.found.each k h in (
        w.0,
        w.1,
        record {
          back = found_back (edge rows) (memb ws) before t.within w.0 k w.2;
          path = found_path (edge rows) (memb ws) before ms starts represents t.roots w.0 k w.2;
          alone = found-once (edge rows) (memb ws) before w.0 k w.2;
        },
      )

  -- What is known of the predecessors is known of any list with the same ones for the sections of the set.
  pub traced_same : {before' : List ℕ} → length before' ≡ 513 → ((k : ℕ) → memb ws k ≡ true → get_or before' k 0 ≡ get_or before k 0)
      → Traced rows starts ws before'
  traced_same {before'} l same =
      record {
        reached = t.reached;
        within = t.within;
        found = record { before-length = l; each = λ k h. let w = t.found.each k h in (w.0, w.1, found_kept (edge rows) (memb ws) (memb ws) before before' (λ j x. x) same w.0 k w.2) };
        roots = λ k h e. t.roots k h (sym (same k h) ∙ e);
      }

module _ {rows : Rows} {starts ws queue own : List ℕ} {n : ℕ} (s : Searched rows starts ws queue own n) where
  -- The queue has at most 512 entries, which are sections.
  pub searched_count : n ≤ 512
  searched_count = queue_short (memb ws) queue n s.queued

  pub searched_sections : Sections n queue
  searched_sections i l = s.queued.within (get_or queue i 0) (s.queued.members i l)

  -- Keeping a search's paths: each section of the queue gets its predecessor.
  pub searched_start : {before before' : List ℕ} → KeptPaths (take n queue) own before (length (take n queue)) before'
      → KeptPaths queue own before n before'
  searched_start kept =
      let size : length (take n queue) ≡ n = omega (arith, searched_count, s.queued.queue_length, length-take n queue) in
      record {
        same_length = kept.same_length;
        taken = λ i l. rw (get_or-take n queue i 0 l) at (kept.taken i (rw size l));
        stays = λ k none. kept.stays k (λ i l e. none i (rw size at l) (rw (get_or-take n queue i 0 (rw size at l)) at e));
      }

  module _ {before before' : List ℕ} (kept : KeptPaths queue own before n before') where
    -- The paths of the search are kept.
    pub searched_kept : length before ≡ 513 → Traced rows starts ws before'
    searched_kept l =
        traced_same s.traced (kept.same_length ∙ l) (λ k h. let w = s.queued.place k h in rw w.2 at (kept.taken w.0 w.1))

    -- The paths to a set that shares no section with the search stay.
    pub others_kept : {starts₀ us : List ℕ} → ((k : ℕ) → memb us k ≡ true → memb ws k ≡ false) → Traced rows starts₀ us before
        → Traced rows starts₀ us before'
    others_kept {us = us} apart t =
        traced_same t (kept.same_length ∙ t.found.before-length)
        (λ k h. kept.stays k (λ i l e. false≢true (sym (apart k h) ∙ ap (memb ws) (sym e) ∙ s.queued.members i l)))
