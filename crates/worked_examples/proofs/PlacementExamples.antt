-- Placements that the definitions compute: tests of ours, in a station of twelve sections.
use Rattle.std.specs.Prelude.{◌≡◌, refl, [], ◌∷◌}
use Rattle.session_meaning.specs.Placement.{state_after, placement}

-- Paper number 1, four trains.
four_trains : placement 1 12 4 ≡ 8 ∷ 3 ∷ 11 ∷ 6 ∷ []
unfolding placement
four_trains = refl

last_state : state_after 1 4 ≡ 8709371129873690709
unfolding state_after
last_state = refl

-- Paper number 2026, twelve trains. Train 10 draws section 3: 3 and 4 are taken. Train 12 draws section 5: 5 to 12 are taken, and section 1
-- comes after the last.
twelve_trains : placement 2026 12 12 ≡ 8 ∷ 3 ∷ 11 ∷ 6 ∷ 2 ∷ 9 ∷ 4 ∷ 12 ∷ 7 ∷ 5 ∷ 10 ∷ 1 ∷ []
unfolding placement
twelve_trains = refl
