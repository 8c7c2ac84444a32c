-- The frames of one item of a recipe, and the output with them. Document 01, "The recipe".
use Rattle.std.specs.Prelude.{ℕ, ◌+◌, cond, List, [], ◌∷◌, ltb, eqb, length}
use Rattle.base.specs.Parts.{patch}
use Rattle.recipe.specs.Faults.{kind_of}
use Rattle.recipe.specs.Frames.{leave_frame, items_frames, joined}
use Rattle.recipe.specs.Reading.{size_of, items_at}

-- how many frames an item of a kind becomes: "0x02 Block .. 18", "0x03 Row .. 2", "0x0F Leave .. one 0x020", Open none
abbrev pub frames_of_kind : ℕ → ℕ
frames_of_kind kind = cond (eqb kind 0x02) 18 (cond (eqb kind 0x03) 2 (cond (eqb kind 0x0F) 1 0))

-- the frames of the item that `input` starts with; none where the item is cut short
unfoldable pub frames_at : ℕ → ℕ → List ℕ → List (List ℕ)
frames_at m g input =
    cond (ltb (length input) (size_of input)) []
    (cond (eqb (kind_of input) 0x0F) (leave_frame m g ∷ []) (items_frames m g (items_at input)))

-- the output with bytes from `at` on, where it has room for all of them; else it stays
unfoldable pub frames_put : List ℕ → ℕ → List ℕ → List ℕ
frames_put output at bytes = cond (ltb (length output) (at + length bytes)) output (patch output at bytes)

-- the output with the frames of the item that `input` starts with, "12 bytes a frame"
abbrev pub item_put : ℕ → ℕ → List ℕ → List ℕ → ℕ → List ℕ
item_put m g input output at = frames_put output at (joined (frames_at m g input))
