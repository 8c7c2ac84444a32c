-- What is told of the answers when a recipe arrives whole: each frame but the last is answered once, by itself with the response flag set,
-- and the last has no reply. Document 01: "D0 to D7 echoed"; "the reply data are the eight cells at the address after the command".
use Rattle.std.specs.Prelude.{ℕ, List, [], ◌∷◌, ◌++◌, map, set, replicate}
use Rattle.recipe.specs.Items.{Recipe}
use Rattle.recipe.specs.Frames.{items_frames}

-- number 0, one reply: the frame itself with flag 1. To 0x030 that is the echo; to 0x040 that the cells show the frame's own eight bytes
abbrev pub mirrored : List ℕ → List ℕ
mirrored frame = 0 ∷ 1 ∷ set frame 1 0x01

-- number 0, no reply
abbrev pub nothing_told : List ℕ
nothing_told = 0 ∷ 0 ∷ replicate 12 0

unfoldable pub answers_of : Recipe → List (List ℕ)
answers_of r = map mirrored (items_frames r.module_number r.group_number r.items) ++ (nothing_told ∷ [])

-- number 0, one reply: 0x040 with flag 1, the recipe's numbers, and these eight cells
abbrev pub shows : Recipe → List ℕ → List ℕ
shows r cells = 0 ∷ 1 ∷ 0x04 ∷ 0x01 ∷ r.module_number ∷ r.group_number ∷ cells
