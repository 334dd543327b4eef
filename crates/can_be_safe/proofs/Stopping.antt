-- The loop of `at_stop`: the first k elements of t are those of s with their open signals at stop, and all else is as it was.
use mathlib.Core.Path.{◌≡◌, ap, ◌∙◌}
use mathlib.Core.List.{map}
use Prim.Native.Nat.{ℕ, ◌+◌, ◌≤◌, ◌<◌}
use native.Mathlib.Omega.{arith}
use lib.ListN.{length, get_or, take, set, length-set}
use Rattle.meaning.specs.declared.Header.{Header}
use Rattle.meaning.specs.declared.Situation.{Situation}
use Rattle.meaning.specs.Station.{elements_of}
use Rattle.meaning.specs.File.{no_element}
use Rattle.basics.proofs.Lists.{mapped_take, mapped_next}
use Rattle.meaning.specs.Stopped.{stop, AtStop}

pub record Stopping (s t : Situation) (k : ℕ) : Type 0 where
  pub header : t.header ≡ s.header
  pub plain : t.plain ≡ s.plain
  pub trains : t.trains ≡ s.trains
  pub size : length t.elements ≡ length s.elements
  pub within : k ≤ s.header.elements
  pub first : take k t.elements ≡ take k (map stop s.elements)

-- One more is set.
pub stopping_next : (s t t' : Situation) (k : ℕ) → Stopping s t k → k < s.header.elements → s.header.elements ≤ length s.elements
    → t'.header ≡ t.header → t'.plain ≡ t.plain → t'.trains ≡ t.trains
    → t'.elements ≡ set t.elements k (stop (get_or s.elements k no_element)) → Stopping s t' (k + 1)
stopping_next s t t' k w l room h p ts es =
    record {
      header = h ∙ w.header;
      plain = p ∙ w.plain;
      trains = ts ∙ w.trains;
      size = ap length es ∙ length-set t.elements k (stop (get_or s.elements k no_element)) ∙ w.size;
      within = omega arith;
      first = ap (take (k + 1)) es ∙ mapped_next stop s.elements t.elements k no_element (omega arith) (omega (arith, w.size)) w.first;
    }

-- All are.
pub stopping_end : (s t : Situation) (k : ℕ) → Stopping s t k → s.header.elements ≤ k → AtStop s t
unfolding elements_of
stopping_end s t k w l =
    let n = s.header.elements in
    let all : k ≡ n = omega (arith, w.within) in
    record {
      header = w.header;
      plain = w.plain;
      elements =
          ap (λ (h : Header). take h.elements t.elements) w.header
          ∙ (rw all at w.first)
          ∙ mapped_take stop n s.elements;
      trains = w.trains;
    }
