-- The recipe that is put of a table is the recipe of the cells that it marks. A place of the table is marked exactly if its cell is given,
-- and its low byte is that cell's byte, 0xFF where none is given; so a part of the table is touched as its places are, and holds their
-- contents. Place by place for a part, part by part for the items of one size, and then for FLASH and EEPROM.
-- Assumes nothing.
use mathlib.Core.Path.{◌≡◌, ◌∙◌, refl, sym, ap, ap₂}
use mathlib.Core.Bool.{Bool, true, false, ◌||◌, cond}
use mathlib.Core.List.{List, [], ◌∷◌, ◌++◌, append-nil, append_assoc}
use Prim.Native.Nat.{ℕ, zero, suc, ◌+◌, ◌-◌, ◌*◌, ◌%◌, ◌≤◌, ◌<◌}
use native.Mathlib.Nat.{add-mod_left, mod-eq_of_lt}
use native.Mathlib.Omega.{arith}
use lib.Dec.{ltb}
use lib.ListN.{get_or, take, drop}
use lib.Seq.{drop-drop, take-take}
use Rattle.std.proofs.lemmas.List.{drop-take}
use borrow.Author.Tests.{lt-ltb, le-ltb}
use Rattle.base.specs.Parts.{part, listed}
use Rattle.base.proofs.Choice.{cond_true, cond_false}
use Rattle.base.proofs.Listed.{listed_part}
use Rattle.recipe.specs.Items.{Item, block, row, address_bytes, printed_item, printed_items, printed}
use Rattle.hex_rules.specs.Cells.{Cell, given_at, byte_at, touched}
use Rattle.hex_rules.specs.Recipe.{contents, item_at, upward, items_of, recipe_of}
use Rattle.hex_rules.specs.Converting.{bytes_of}
use Rattle.recipe.proofs.Printing.{printed_both}
use Rattle.hex_rules.proofs.EachItem.{blocks_of, rows_of}
use Rattle.hex_put.specs.Internal.Table.{some_marked, low_bytes, touched_bytes, printed_in, bytes_in, table_bytes}
use Rattle.hex_put.proofs.Whole.{blocks_put, rows_put}
use Rattle.hex_read.specs.Internal.Marks.{Marks, place_of, entry_of}
use Rattle.hex_rules.proofs.CellByCell.{touched_next, touched_none, byte_not_given}

-- ---- one place

-- what is marked is more than 255, and nothing else is
marked : (b : Bool) (x : ℕ) → ltb 255 (cond b (256 + x) 255) ≡ b
marked true x = lt-ltb 255 (256 + x) (omega arith)
marked false x = refl

-- the low byte is the byte, or 0xFF where it is not marked
low : (b : Bool) (x : ℕ) → x < 256 → (b ≡ false → x ≡ 255) → cond b (256 + x) 255 % 256 ≡ x
low true x h e = add-mod_left 256 x ∙ mod-eq_of_lt h
low false x h e = sym (e refl)

-- ---- places in the table and in memory

-- the `size` places from index k on are those from a on
abbrev pub Along : ℕ → ℕ → ℕ → Type 0
Along k a size = (j : ℕ) → j < size → place_of (k + j) ≡ a + j

-- the first of them
along_first : (k a n : ℕ) → Along k a (suc n) → place_of k ≡ a
along_first k a n along =
    let i : k + 0 ≡ k = omega arith in
    let p : a + 0 ≡ a = omega arith in
    rw (i, p) at (along 0 (omega arith))

-- some of them, from the p-th on
along_some : (k a all p k₁ a₁ size : ℕ) → Along k a all → k₁ ≡ k + p → a₁ ≡ a + p → p + size ≤ all → Along k₁ a₁ size
along_some k a all p k₁ a₁ size along e q h j l =
    let i : k₁ + j ≡ k + (p + j) = omega arith in
    let there : a₁ + j ≡ a + (p + j) = omega arith in
    rw (i, there) (along (p + j) (omega arith))

-- all but the first
along_next : (k a n : ℕ) → Along k a (suc n) → Along (suc k) (suc a) n
along_next k a n along = along_some k a (suc n) 1 (suc k) (suc a) n along (omega arith) (omega arith) (omega arith)

-- ---- items

-- where there is one item or none
printed_choice : (b : Bool) (i : Item) → printed_items (cond b (i ∷ []) []) ≡ cond b (printed_item i) []
unfolding printed_items
printed_choice true i = append-nil (printed_item i)
printed_choice false i = refl

-- the items of a table's front, and of its rest, are those of the table
part_front : (m k size : ℕ) (table : List ℕ) → k + size ≤ m → part (take m table) k size ≡ part table k size
part_front m k size table h =
    let all : k + (size + (m - (k + size))) ≡ m = omega arith in
    ap (λ (n : ℕ). take size (drop k (take n table))) (sym all)
    ∙ ap (take size) (drop-take k (size + (m - (k + size))) table)
    ∙ take-take size (size + (m - (k + size))) (drop k table) (omega arith)

printed_front : (kind size m : ℕ) (table : List ℕ) (n k a : ℕ) → k + n * size ≤ m
    → printed_in kind size (take m table) n k a ≡ printed_in kind size table n k a
unfolding printed_in
printed_front kind size m table zero k a h = refl
printed_front kind size m table (suc n) k a h =
    let more : suc n * size ≡ size + n * size = omega arith in
    ap₂ (λ (p rest : List ℕ). touched_bytes kind a p ++ rest) (part_front m k size table (omega arith))
    (printed_front kind size m table n (k + size) (a + size) (omega arith))

printed_rest : (kind size m : ℕ) (table : List ℕ) (n k a : ℕ) → printed_in kind size (drop m table) n k a ≡ printed_in kind size table n (m + k) a
unfolding printed_in
printed_rest kind size m table zero k a = refl
printed_rest kind size m table (suc n) k a =
    let next : m + (k + size) ≡ m + k + size = omega arith in
    ap₂ (λ (p rest : List ℕ). touched_bytes kind a p ++ rest) (ap (take size) (drop-drop k m table))
    (printed_rest kind size m table n (k + size) (a + size) ∙ ap (λ (j : ℕ). printed_in kind size table n j (a + size)) next)

module _ (cells : List Cell) (table : List ℕ) (marks : Marks cells table) where
  -- ---- a part of the table

  -- what it has for its first place
  entry : (k a n : ℕ) → k + suc n ≤ 66560 → Along k a (suc n) → get_or table k 0 ≡ entry_of cells a
  entry k a n h along = marks.each k (omega arith) ∙ ap (entry_of cells) (along_first k a n along)

  -- written out place by place: one is marked if one is given
  listed_touched : (k a size : ℕ) → k + size ≤ 66560 → Along k a size → some_marked (listed table k size) ≡ touched cells a size
  listed_touched k a zero h along = sym (touched_none cells a)
  listed_touched k a (suc n) h along =
      ap₂ ◌||◌ (ap (ltb 255) (entry k a n h along) ∙ marked (given_at cells a) (byte_at cells a))
      (listed_touched (suc k) (suc a) n (omega arith) (along_next k a n along))
      ∙ sym (touched_next cells a n)

  -- and the low bytes are the places' bytes
  listed_contents : (k a size : ℕ) → k + size ≤ 66560 → Along k a size → low_bytes (listed table k size) ≡ contents cells a size
  unfolding contents
  listed_contents k a zero h along = refl
  listed_contents k a (suc n) h along =
      ap₂ ◌∷◌
      (ap (λ (x : ℕ). x % 256) (entry k a n h along)
      ∙ low (given_at cells a) (byte_at cells a) (marks.bytes a) (byte_not_given cells a))
      (listed_contents (suc k) (suc a) n (omega arith) (along_next k a n along))

  module _ (k a size : ℕ) (h : k + size ≤ 66560) (along : Along k a size) where
    -- a part is its places written out
    written : part table k size ≡ listed table k size
    written = sym (listed_part table k size (omega (arith, marks.size)))

    -- one of its places is marked if one of them is given in the cells
    pub part_touched : some_marked (part table k size) ≡ touched cells a size
    part_touched = ap some_marked written ∙ listed_touched k a size h along

    -- and its low bytes are their bytes
    pub part_contents : low_bytes (part table k size) ≡ contents cells a size
    part_contents = ap low_bytes written ∙ listed_contents k a size h along

  -- ---- the items of one size

  module _ (kind : ℕ) (item : ℕ → List ℕ → Item) (law : (a : ℕ) (ds : List ℕ) → printed_item (item a ds) ≡ kind ∷ (address_bytes a ++ ds))
      (size : ℕ) where
    -- one item, or none
    item_emitted : (k a : ℕ) → k + size ≤ 66560 → Along k a size
        → touched_bytes kind a (part table k size) ≡ printed_items (item_at item size cells a)
    item_emitted k a h along =
        ap₂ (λ (b : Bool) (ds : List ℕ). cond b (kind ∷ (address_bytes a ++ ds)) []) (part_touched k a size h along)
        (part_contents k a size h along)
        ∙ ap (λ (i : List ℕ). cond (touched cells a size) i []) (sym (law a (contents cells a size)))
        ∙ sym (printed_choice (touched cells a size) (item a (contents cells a size)))

    -- and n of them
    pub items_emitted : (n k a : ℕ) → k + n * size ≤ 66560 → Along k a (n * size)
        → printed_in kind size table n k a ≡ printed_items (upward item size cells n a)
    unfolding printed_in upward printed_items
    items_emitted zero k a h along = refl
    items_emitted (suc n) k a h along =
        let more : suc n * size ≡ size + n * size = omega arith in
        ap₂ ◌++◌ (item_emitted k a (omega arith) (along_some k a (suc n * size) 0 k a size along (omega arith) (omega arith) (omega arith)))
        (items_emitted n (k + size) (a + size) (omega arith)
        (along_some k a (suc n * size) size (k + size) (a + size) (n * size) along refl refl (omega arith)))
        ∙ sym (printed_both (item_at item size cells a) (upward item size cells n (a + size)))

  -- ---- the recipe

  -- the blocks of FLASH, whose index is its place
  blocks_emitted : blocks_put (take 65536 table) ≡ printed_items (blocks_of cells)
  blocks_emitted =
      printed_front 0x02 64 65536 table 1024 0 0x000000 (omega arith)
      ∙ items_emitted 0x02 block (λ a ds. refl) 64 1024 0 0x000000 (omega arith)
      (λ j l. cond_true (ltb (0 + j) 65536) _ _ (lt-ltb (0 + j) 65536 (omega arith)))

  -- and the rows of EEPROM, behind them
  rows_emitted : rows_put (drop 65536 table) ≡ printed_items (rows_of cells)
  rows_emitted =
      printed_rest 0x03 8 65536 table 128 0 0xF00000
      ∙ items_emitted 0x03 row (λ a ds. refl) 8 128 65536 0xF00000 (omega arith)
      (λ j l. cond_false (ltb (65536 + j) 65536) _ _ (le-ltb (65536 + j) 65536 (omega arith)) ∙ omega arith)

  -- the bytes of the table's recipe are those of the cells' recipe
  pub bytes_emitted : (m g : ℕ) → table_bytes m g table ≡ bytes_of m g cells
  unfolding bytes_in bytes_of printed recipe_of items_of
  bytes_emitted m g =
      ap (λ (t : List ℕ). 0x01 ∷ m ∷ g ∷ t)
      (sym (append_assoc (blocks_put (take 65536 table)) (rows_put (drop 65536 table)) (0x0F ∷ []))
      ∙ ap (λ (t : List ℕ). t ++ (0x0F ∷ []))
      (ap₂ ◌++◌ blocks_emitted rows_emitted ∙ sym (printed_both (blocks_of cells) (rows_of cells))))
