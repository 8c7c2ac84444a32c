-- The frames of a recipe: twelve bytes each, as many as the sum over the kinds says, at most 36,829; a Block's erase and its eight
-- writes upward.
-- Assumes nothing.
use mathlib.Core.Path.{◌≡◌, refl, sym, ap, ap₂, ◌∙◌}
use mathlib.Core.List.{List, [], ◌∷◌, ◌++◌, append_assoc}
use Prim.Native.Nat.{ℕ, zero, suc, ◌+◌, ◌*◌, ◌≤◌, ◌<◌}
use native.Mathlib.Omega.{arith}
use native.Mathlib.Nat.{add-zero}
use lib.ListN.{length, take, drop, get_or, replicate, length-append, length-take, length-drop, length-replicate}
use lib.Seq.{drop-drop}
use Rattle.base.specs.Parts.{part}
use Rattle.recipe.specs.Items.{Item, block, row, Recipe, Legal, LegalItem, LegalItems}
use Rattle.recipe.proofs.Inside.{block_inside}
use Rattle.recipe.specs.Frames.{address_frame, data_frame, leave_frame, writes, item_frames, items_frames, frames_of, joined, item_count, items_count, frame_count, Twelve}

-- ---- a Block's frames, counted from 0

module _ (m g : ℕ) where
  write_names : (n a : ℕ) (d : List ℕ) (i : ℕ) → i < n → get_or (writes m g n a d) (2 * i) [] ≡ address_frame m g 0x02 (a + 8 * i)
  unfolding writes
  write_names zero a d i h = absurd (omega arith)
  write_names (suc n) a d zero h = ap (address_frame m g 0x02) (sym (add-zero a))
  write_names (suc n) a d (suc i) h =
      let two : 2 * suc i ≡ suc (suc (2 * i)) = omega arith in
      let next : a + 8 + 8 * i ≡ a + 8 * suc i = omega arith in
      rw two (write_names n (a + 8) (drop 8 d) i (omega arith) ∙ ap (address_frame m g 0x02) next)

  write_data : (n a : ℕ) (d : List ℕ) (i : ℕ) → i < n → get_or (writes m g n a d) (2 * i + 1) [] ≡ data_frame m g (part d (8 * i) 8)
  unfolding writes
  write_data zero a d i h = absurd (omega arith)
  write_data (suc n) a d zero h = refl
  write_data (suc n) a d (suc i) h =
      let two : 2 * suc i + 1 ≡ suc (suc (2 * i + 1)) = omega arith in
      let next : 8 + 8 * i ≡ 8 * suc i = omega arith in
      rw two
      (write_data n (a + 8) (drop 8 d) i (omega arith)
      ∙ ap (λ (l : List ℕ). data_frame m g (take 8 l)) (drop-drop (8 * i) 8 d ∙ ap (λ (k : ℕ). drop k d) next))

  module _ (a : ℕ) (d : List ℕ) where
    -- "erase": frames 0 and 1
    pub block_erases : get_or (item_frames m g (block a d)) 0 [] ≡ address_frame m g 0x03 a
    unfolding item_frames
    block_erases = refl

    pub block_erases_data : get_or (item_frames m g (block a d)) 1 [] ≡ data_frame m g (replicate 8 0xFF)
    unfolding item_frames
    block_erases_data = refl

    -- "then 8 writes upward, each 0x030 then 0x040": frames 2 + 2 i and 3 + 2 i
    pub block_writes : (i : ℕ) → i < 8 → get_or (item_frames m g (block a d)) (2 + 2 * i) [] ≡ address_frame m g 0x02 (a + 8 * i)
    unfolding item_frames
    block_writes i h =
        let two : 2 + 2 * i ≡ suc (suc (2 * i)) = omega arith in
        rw two (write_names 8 a d i h)

    pub block_writes_data : (i : ℕ) → i < 8 → get_or (item_frames m g (block a d)) (3 + 2 * i) [] ≡ data_frame m g (part d (8 * i) 8)
    unfolding item_frames
    block_writes_data i h =
        let two : 3 + 2 * i ≡ suc (suc (2 * i + 1)) = omega arith in
        rw two (write_data 8 a d i h)

-- the address that an address frame names
pub frame_names : (m g command a : ℕ) → a < 0x1000000
    → get_or (address_frame m g command a) 4 0 * 65536 + get_or (address_frame m g command a) 5 0 * 256 + get_or
    (address_frame m g command a) 6 0 ≡ a
frame_names m g command a h = omega arith

-- frame 2 + 2 i of a legal Block names its address plus 8 i, in its bytes 4, 5 and 6, and is a write
pub block_names : (m g a : ℕ) (d : List ℕ) (i : ℕ) → LegalItem (block a d) → i < 8
    → let f = get_or (item_frames m g (block a d)) (2 + 2 * i) [] in
    (get_or f 0 0 ≡ 0x03) × (get_or f 4 0 * 65536 + get_or f 5 0 * 256 + get_or f 6 0 ≡ a + 8 * i) × (get_or f 9 0 ≡ 0x02)
block_names m g a d i h l =
    let w = block_inside a d h in
    rw (block_writes m g a d i l) (refl, frame_names m g 0x02 (a + 8 * i) (omega arith), refl)

-- ---- how many, and how long

pub writes_count : (m g n a : ℕ) (d : List ℕ) → length (writes m g n a d) ≡ 2 * n
unfolding writes
writes_count m g zero a d = refl
writes_count m g (suc n) a d = omega (arith, writes_count m g n (a + 8) (drop 8 d))

-- "18 ..", "2"
pub item_count_lem : (m g : ℕ) (i : Item) → length (item_frames m g i) ≡ item_count i
unfolding item_frames
item_count_lem m g (block a d) = omega (arith, writes_count m g 8 a d)
item_count_lem m g (row a d) = refl

pub items_count_lem : (m g : ℕ) (is : List Item) → length (items_frames m g is) ≡ items_count is
unfolding items_frames items_count
items_count_lem m g [] = refl
items_count_lem m g (i ∷ is) =
    length-append (item_frames m g i) (items_frames m g is) ∙ ap₂ (λ (x y : ℕ). x + y) (item_count_lem m g i) (items_count_lem m g is)

-- the frames of the items in their order, then Leave's alone
pub frames_first : (m g : ℕ) (i : Item) (is : List Item)
    → frames_of (record { module_number = m; group_number = g; items = i ∷ is })
    ≡ item_frames m g i ++ frames_of (record { module_number = m; group_number = g; items = is })
unfolding frames_of items_frames
frames_first m g i is = append_assoc (item_frames m g i) (items_frames m g is) (leave_frame m g ∷ [])

pub frames_last : (m g : ℕ) → frames_of (record { module_number = m; group_number = g; items = [] }) ≡ leave_frame m g ∷ []
unfolding frames_of items_frames
frames_last m g = refl

-- as many frames as the sum over the kinds says
pub count_frames : (r : Recipe) → length (frames_of r) ≡ frame_count r
unfolding frames_of frame_count
count_frames r =
    length-append (items_frames r.module_number r.group_number r.items) (leave_frame r.module_number r.group_number ∷ [])
    ∙ ap (λ (n : ℕ). n + 1) (items_count_lem r.module_number r.group_number r.items)

twelve_append : (fs gs : List (List ℕ)) → Twelve fs → Twelve gs → Twelve (fs ++ gs)
twelve_append [] gs h k = k
twelve_append (f ∷ fs) gs h k = (h.0, twelve_append fs gs h.1 k)

writes_twelve : (m g n a : ℕ) (d : List ℕ) → length d ≡ 8 * n → Twelve (writes m g n a d)
unfolding writes
writes_twelve m g zero a d h = tt
writes_twelve m g (suc n) a d h =
    let e : length (take 8 d) ≡ 8 = simp length-take (omega arith) in
    (refl, (omega arith, writes_twelve m g n (a + 8) (drop 8 d) (simp length-drop (omega arith))))

-- an item with as many cells as its kind has
abbrev pub Sized : Item → Type 0
Sized (block a d) = length d ≡ 64
Sized (row a d) = length d ≡ 8

pub item_twelve : (m g : ℕ) (i : Item) → Sized i → Twelve (item_frames m g i)
unfolding item_frames
item_twelve m g (block a d) h = (refl, (refl, writes_twelve m g 8 a d h))
item_twelve m g (row a d) h = (refl, (omega arith, tt))

sized : (i : Item) → LegalItem i → Sized i
sized (block a d) h = h.1
sized (row a d) h = h.1

items_twelve : (m g : ℕ) (is : List Item) → LegalItems is → Twelve (items_frames m g is)
unfolding items_frames
items_twelve m g [] h = tt
items_twelve m g (i ∷ is) h = twelve_append (item_frames m g i) (items_frames m g is) (item_twelve m g i (sized i h.0))
    (items_twelve m g is h.1)

-- every frame of a legal recipe has twelve bytes
pub frames_twelve : (r : Recipe) → Legal r → Twelve (frames_of r)
unfolding frames_of
frames_twelve r h =
    twelve_append (items_frames r.module_number r.group_number r.items) (leave_frame r.module_number r.group_number ∷ [])
    (items_twelve r.module_number r.group_number r.items h.each) (refl, tt)

pub joined_length : (fs : List (List ℕ)) → Twelve fs → length (joined fs) ≡ 12 * length fs
unfolding joined
joined_length [] h = refl
joined_length (f ∷ fs) h = omega (arith, length-append f (joined fs), h.0, joined_length fs h.1)

pub items_append : (m g : ℕ) (is js : List Item) → items_frames m g (is ++ js) ≡ items_frames m g is ++ items_frames m g js
unfolding items_frames
items_append m g [] js = refl
items_append m g (i ∷ is) js =
    ap (λ (l : List (List ℕ)). item_frames m g i ++ l) (items_append m g is js)
    ∙ sym (append_assoc (item_frames m g i) (items_frames m g is) (items_frames m g js))

pub joined_append : (fs gs : List (List ℕ)) → joined (fs ++ gs) ≡ joined fs ++ joined gs
unfolding joined
joined_append [] gs = refl
joined_append (f ∷ fs) gs = ap (λ (l : List ℕ). f ++ l) (joined_append fs gs) ∙ sym (append_assoc f (joined fs) (joined gs))

-- the bytes of one item's frames
pub item_bytes_lem : (m g : ℕ) (i : Item) → Sized i → length (joined (item_frames m g i)) ≡ 12 * item_count i
item_bytes_lem m g i h = joined_length (item_frames m g i) (item_twelve m g i h) ∙ ap (λ (n : ℕ). 12 * n) (item_count_lem m g i)

-- "The output is 12 bytes a frame"
pub output_length : (r : Recipe) → Legal r → length (joined (frames_of r)) ≡ 12 * frame_count r
output_length r h = joined_length (frames_of r) (frames_twelve r h) ∙ ap (λ (n : ℕ). 12 * n) (count_frames r)

items_most : (is : List Item) → items_count is ≤ 18 * length is
unfolding items_count
items_most [] = omega arith
items_most (block a d ∷ is) = omega (arith, items_most is)
items_most (row a d ∷ is) = omega (arith, items_most is)

-- "at most 36,829 frames"
pub most_frames : (r : Recipe) → Legal r → frame_count r ≤ 36829
unfolding frame_count
most_frames r h = omega (arith, items_most r.items, h.few)

-- and 2,046 Blocks reach it
most_items : (n a : ℕ) (d : List ℕ) → LegalItem (block a d)
    → LegalItems (replicate n (block a d)) × (items_count (replicate n (block a d)) ≡ 18 * n)
unfolding items_count
most_items zero a d h = (tt, refl)
most_items (suc n) a d h = let r = most_items n a d h in ((h, r.0), omega (arith, r.1))

pub most_reached : (m g a : ℕ) (d : List ℕ) → m < 256 → g < 256 → LegalItem (block a d)
    → let r : Recipe = record { module_number = m; group_number = g; items = replicate 2046 (block a d) } in
    Legal r × (frame_count r ≡ 36829)
unfolding frame_count
most_reached m g a d hm hg h =
    let k = most_items 2046 a d h in
    (record { module_byte = hm; group_byte = hg; few = omega (arith, length-replicate 2046 (block a d)); each = k.0 }, omega (arith, k.1))
