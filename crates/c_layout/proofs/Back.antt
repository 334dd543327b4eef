-- A situation whose arrays have their full lengths is the same, made flat and back: entry by entry.
use mathlib.Core.Path.{◌≡◌, refl, ap, ◌∙◌}
use mathlib.Core.List.{List}
use Prim.Native.Nat.{ℕ}
use native.Mathlib.Omega.{arith}
use lib.ListN.{length, get_or, get_or-map}
use lib.Seq.{take_all}
use Rattle.meaning.specs.declared.Letter.{Letter}
use Rattle.meaning.specs.declared.Letter.TheVariants as letter
use Rattle.meaning.specs.declared.Train.{Train}
use Rattle.meaning.specs.Station.{section, no_train}
use Rattle.meaning.specs.declared.Move.{Move}
use Rattle.meaning.specs.declared.Kind.{Kind}
use Rattle.meaning.specs.declared.Kind.TheVariants.{Signal, Turnout}
use Rattle.meaning.specs.declared.Element.{Element}
use Rattle.meaning.specs.declared.Situation.{Situation}
use Rattle.basics.specs.Lists.{list_of}
use Rattle.meaning.specs.File.{no_move, no_element}
use Rattle.basics.proofs.Lists.{list_of-length, list_of_ext, list_of-take}
use Rattle.c_layout.specs.declared.FlatSituation.{FlatSituation}
use Rattle.c_layout.proofs.Four.{four_at}
use Rattle.c_layout.specs.Flat.{flat_kind, flat_element, flat_situation, flat_element_at, element_from_c, moves_from_c, elements_from_c, trains_from_c, situation_from_c, flat_letter, letter_from_c}

-- A list is the list of its entries.
entries : {A : Type 0} (l : List A) (d : A) (n : ℕ) (f : ℕ → A) → length l ≡ n → ((i : ℕ) → f i ≡ get_or l i d) → list_of n f ≡ l
entries l d n f size same =
    list_of_ext n f (λ i. get_or l i d) (λ i h. same i) ∙ list_of-take l d n (omega arith) ∙ take_all n l (omega arith)

-- An element made flat and back is the same.
element_back : (e : Element) → element_from_c (flat_element e) ≡ e
element_back e = go e.kind e.state
  where
    go : (k : Kind) (x : ℕ) → element_from_c (flat_kind k x) ≡ record { kind = k; state = x }
    go (Signal m) x = refl
    go (Turnout t) x = refl

-- The arrays have their full lengths, as in every value of the type.
pub record Whole (s : Situation) : Type 0 where
  pub plain : length s.plain ≡ 1024
  pub elements : length s.elements ≡ 256
  pub trains : length s.trains ≡ 64

module _ (s : Situation) where
  moves_back : length s.plain ≡ 1024 → moves_from_c (flat_situation s) ≡ s.plain
  unfolding moves_from_c flat_situation
  moves_back size =
      entries s.plain no_move 1024 _ size
      (λ i k.
      record {
        from = section (get_or-map (λ (m : Move). m.from.0) s.plain i no_move k);
        to = section (get_or-map (λ (m : Move). m.to.0) s.plain i no_move k);
      })

  -- The entry of each array at a place is that field of the element.
  flat_element_at_lem : (i : ℕ) → flat_element_at (flat_situation s) i ≡ flat_element (get_or s.elements i no_element)
  unfolding flat_situation
  flat_element_at_lem i =
      λ k.
      record {
        turnout = get_or-map (λ (e : Element). (flat_element e).turnout) s.elements i no_element k;
        first = get_or-map (λ (e : Element). (flat_element e).first) s.elements i no_element k;
        second = get_or-map (λ (e : Element). (flat_element e).second) s.elements i no_element k;
        third = get_or-map (λ (e : Element). (flat_element e).third) s.elements i no_element k;
        state = get_or-map (λ (e : Element). (flat_element e).state) s.elements i no_element k;
      }

  elements_back : length s.elements ≡ 256 → elements_from_c (flat_situation s) ≡ s.elements
  unfolding elements_from_c
  elements_back size =
      entries s.elements no_element 256 _ size (λ i. ap element_from_c (flat_element_at_lem i) ∙ element_back (get_or s.elements i no_element))

  trains_back : length s.trains ≡ 64 → trains_from_c (flat_situation s) ≡ s.trains
  unfolding trains_from_c flat_situation
  trains_back size =
      entries s.trains no_train 64 _ size
      (λ i k.
      record {
        count = get_or-map (λ (t : Train). t.count) s.trains i no_train k;
        first = section ((four_at s.trains i).first k);
        second = section ((four_at s.trains i).second k);
        third = section ((four_at s.trains i).third k);
        fourth = section ((four_at s.trains i).fourth k);
      })

  letter_back : letter_from_c (flat_letter s.header.letter) ≡ s.header.letter
  letter_back = go s.header.letter
    where
      go : (x : Letter) → letter_from_c (flat_letter x) ≡ x
      go letter.S = refl
      go letter.U = refl

  -- A situation with whole arrays, made flat and back, is the same.
  pub situation_back : Whole s → situation_from_c (flat_situation s) ≡ s
  unfolding situation_from_c flat_situation
  situation_back w =
      λ k.
      record {
        header =
            record {
              letter = letter_back k;
              sections = s.header.sections;
              plain = s.header.plain;
              elements = s.header.elements;
              trains = s.header.trains;
            };
        plain = moves_back w.plain k;
        elements = elements_back w.elements k;
        trains = trains_back w.trains k;
      }

-- What is made of flat values has whole arrays.
pub situation_whole : (f : FlatSituation) → Whole (situation_from_c f)
unfolding situation_from_c moves_from_c elements_from_c trains_from_c
situation_whole f = record { plain = list_of-length 1024 _; elements = list_of-length 256 _; trains = list_of-length 64 _ }
