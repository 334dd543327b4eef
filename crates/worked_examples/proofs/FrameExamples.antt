-- Frames, computed from the definitions.
use Rattle.std.specs.Prelude.{◌≡◌, refl, [], ◌∷◌}
use Rattle.meaning.specs.Frames.{halved_xor, by_bits, frame_at, frames}

-- Two open elements with a fixed one between them: one open element changes from each frame to the next, and from the last to the first.
frames_example : frames (0 ∷ 2 ∷ 0 ∷ []) ≡ (1 ∷ 2 ∷ 1 ∷ []) ∷ (1 ∷ 2 ∷ 2 ∷ []) ∷ (2 ∷ 2 ∷ 2 ∷ []) ∷ (2 ∷ 2 ∷ 1 ∷ []) ∷ []
unfolding frames
frames_example = refl

-- Without an open element the one frame is the file's states.
none_open : frames (2 ∷ 1 ∷ []) ≡ (2 ∷ 1 ∷ []) ∷ []
unfolding frames
none_open = refl

-- 2 to the power 64 minus 1 is the last frame of a round.
highest_number : frame_at (0 ∷ 2 ∷ 0 ∷ []) 18446744073709551615 ≡ 2 ∷ 2 ∷ 1 ∷ []
unfolding frame_at
highest_number = refl

-- The number is reduced before the exclusive or: without that, frame 2 of one open element would not be frame 0.
not_reduced : (by_bits (0 ∷ []) (halved_xor 2) ≡ 2 ∷ []) × (frame_at (0 ∷ []) 2 ≡ 1 ∷ [])
unfolding frame_at
not_reduced = (refl, refl)
