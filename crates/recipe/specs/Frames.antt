-- The frames that a recipe becomes, and how many. Document 01, "The recipe" and "Requests and replies" (0x020, 0x030, 0x040).
use Rattle.std.specs.Prelude.{ℕ, zero, suc, ◌+◌, ◌≡◌, List, [], ◌∷◌, ◌++◌, length, take, drop, replicate}
use Rattle.recipe.specs.Items.{Item, block, row, Recipe, address_bytes}

-- "0x030 ..: D0 D1 D2 is the address, high byte first, D5 the command", "Unused frame bytes are 0xFF"
abbrev pub address_frame : ℕ → ℕ → ℕ → ℕ → List ℕ
address_frame m g command a = 0x03 ∷ 0x00 ∷ m ∷ g ∷ (address_bytes a ++ (0xFF ∷ 0xFF ∷ command ∷ 0xFF ∷ 0xFF ∷ []))

-- "0x040 ..: with D0 to D7 as the data of a write"
abbrev pub data_frame : ℕ → ℕ → List ℕ → List ℕ
data_frame m g cells = 0x04 ∷ 0x00 ∷ m ∷ g ∷ cells

-- "0x0F Leave .. one 0x020"
abbrev pub leave_frame : ℕ → ℕ → List ℕ
leave_frame m g = 0x02 ∷ 0x00 ∷ m ∷ g ∷ replicate 8 0xFF

-- "writes upward, each 0x030 then 0x040": n rows of eight from a on
unfoldable pub writes : ℕ → ℕ → ℕ → ℕ → List ℕ → List (List ℕ)
writes m g zero a cells = []
writes m g (suc n) a cells = address_frame m g 0x02 a ∷ data_frame m g (take 8 cells) ∷ writes m g n (a + 8) (drop 8 cells)

-- "0x02 Block .. 18: erase, then 8 writes upward", "0x03 Row .. 2"
unfoldable pub item_frames : ℕ → ℕ → Item → List (List ℕ)
item_frames m g (block a cells) = address_frame m g 0x03 a ∷ data_frame m g (replicate 8 0xFF) ∷ writes m g 8 a cells
item_frames m g (row a cells) = address_frame m g 0x02 a ∷ data_frame m g cells ∷ []

unfoldable pub items_frames : ℕ → ℕ → List Item → List (List ℕ)
items_frames m g [] = []
items_frames m g (i ∷ is) = item_frames m g i ++ items_frames m g is

-- Open none, then the items', then Leave's
unfoldable pub frames_of : Recipe → List (List ℕ)
frames_of r = items_frames r.module_number r.group_number r.items ++ (leave_frame r.module_number r.group_number ∷ [])

-- "The output is 12 bytes a frame": frames one behind the other
unfoldable pub joined : List (List ℕ) → List ℕ
joined [] = []
joined (f ∷ fs) = f ++ joined fs

-- each has 12 bytes
abbrev pub Twelve : List (List ℕ) → Type 0
Twelve [] = Unit {0}
Twelve (f ∷ fs) = (length f ≡ 12) × Twelve fs

-- the frame count: the sum over the kinds
abbrev pub item_count : Item → ℕ
item_count (block a cells) = 18
item_count (row a cells) = 2

unfoldable pub items_count : List Item → ℕ
items_count [] = 0
items_count (i ∷ is) = item_count i + items_count is

unfoldable pub frame_count : Recipe → ℕ
frame_count r = items_count r.items + 1
