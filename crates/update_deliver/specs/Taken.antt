-- The frames that stand in an output, taken from it one behind the other. Document 01: "The output is 12 bytes a frame".
use Rattle.std.specs.Prelude.{ℕ, zero, suc, List, [], ◌∷◌, take, drop}

-- the first so many frames of an output
unfoldable pub first_frames : ℕ → List ℕ → List (List ℕ)
first_frames zero output = []
first_frames (suc count) output = take 12 output ∷ first_frames count (drop 12 output)
