-- A legal item's frames to a programming node leave what the item says when it is read plainly, and each is answered by itself with the
-- flag set; and so do the frames of any number of legal items. Whatever is staged before and between, it is the same: an item's frames
-- stage their own commands.
-- Assumes nothing.
use mathlib.Core.Path.{◌≡◌, ◌∙◌, refl, sym, ap, subst}
use mathlib.Core.Bool.{true}
use mathlib.Core.List.{List, [], ◌∷◌, ◌++◌}
use Prim.Native.Nat.{ℕ, ◌+◌}
use native.Mathlib.Omega.{arith}
use lib.ListN.{length, take, drop, replicate, length-take}
use Rattle.base.specs.Parts.{patch}
use Rattle.memory_address.specs.Places.{eeprom_cell}
use Rattle.memory_address.specs.declared.Address.TheVariants.{Flash, Eeprom}
use Rattle.memory_address.proofs.Laws.{flash_ruled, eeprom_ruled, flash_within, eeprom_within, block_rows}
use Rattle.memory_cells.specs.Memory.{flash_erased}
use Rattle.memory_cells.proofs.Laws.{erased_done, erased_length, eeprom_written_done}
use Rattle.node_rules.specs.declared.Staged.{Staged}
use Rattle.node_rules.specs.declared.Node.{Node}
use Rattle.node_rules.specs.Record.{legal_staged}
use Rattle.node_rules.proofs.Pairs.{address_to, data_to, write_eeprom, erases, writes_eeprom, answered, show_of}
use Rattle.recipe.specs.Items.{Item, block, row, LegalItem, LegalItems}
use Rattle.recipe.specs.Frames.{writes, item_frames, items_frames}
use Rattle.recipe.specs.Plain.{Memories, plain_item, plain_items}
use Rattle.recipe.proofs.Plainly.{plain_block, plain_row, plain_item_sizes}
use Rattle.update_rules.specs.Updated.{Full}
use Rattle.update_rules.proofs.Rows.{both, carries_nothing, carries_behind, pair, rows, Carries}

module _ (n : Node) where
  -- the frames of an item, and of items, to this node
  abbrev pub frames_to : Item → List (List ℕ)
  frames_to i = item_frames n.plate.own.0 n.plate.group.0 i

  abbrev pub all_to : List Item → List (List ℕ)
  all_to is = items_frames n.plate.own.0 n.plate.group.0 is

  module _ (flash eeprom : List ℕ) (l : length flash ≡ 65536) (k : length eeprom ≡ 1024) where
    -- "Block 18: erase, then 8 writes upward"
    pub block_carries : (a : ℕ) (d : List ℕ) → LegalItem (block a d) → (s : Staged) → legal_staged s ≡ true
        → Carries n (frames_to (block a d)) s (both flash eeprom) (both (patch flash a d) eeprom)
    unfolding item_frames patch
    block_carries a d h s legal =
        let m = n.plate.own.0 in
        let g = n.plate.group.0 in
        let w = flash_within a 0x03 h.0 in
        let erased : flash_erased flash a ≡ take a flash ++ (replicate 64 0xFF ++ drop (a + 64) flash) = erased_done flash a l h.0 in
        let filled : take a flash ++ (d ++ drop (a + 64) flash) ≡ take a flash ++ (d ++ drop (a + length d) flash) =
        ap (λ (j : ℕ). take a flash ++ (d ++ drop (a + j) flash)) (sym h.1) in
        carries_behind n (address_to m g 0x03 a ∷ data_to m g (replicate 8 0xFF) ∷ []) (writes m g 8 a d) s (both flash eeprom)
        (both (flash_erased flash a) eeprom) (both (take a flash ++ (d ++ drop (a + length d) flash)) eeprom)
        (pair n 0x03 a (Flash (record { 0 = a })) (replicate 8 0xFF) flash eeprom (flash_erased flash a) eeprom l k (omega arith) refl
        (flash_ruled a 0x03 h.0) h.0 (erases n flash eeprom l k a (replicate 8 0xFF) refl h.0) s legal)
        (λ c lawful.
        subst (λ (f : List ℕ). Carries n (writes m g 8 a d) c (both (flash_erased flash a) eeprom) (both f eeprom)) filled
        (subst
        (λ (f : List ℕ). Carries n (writes m g 8 a d) c (both f eeprom) (both (take a flash ++ (d ++ drop (a + 64) flash)) eeprom))
        (sym erased)
        (rows n eeprom (drop (a + 64) flash) k 8 a (take a flash) d (sym (ap length erased) ∙ erased_length flash a ∙ l)
        (simp length-take (omega arith)) (λ i lt. block_rows a i h.0 lt) h.1 h.2 c lawful)))

    -- "Row 2"
    pub row_carries : (a : ℕ) (d : List ℕ) → LegalItem (row a d) → (s : Staged) → legal_staged s ≡ true
        → Carries n (frames_to (row a d)) s (both flash eeprom) (both flash (patch eeprom (eeprom_cell a) d))
    unfolding item_frames
    row_carries a d h s legal =
        let w = eeprom_within a 0x02 h.0 in
        pair n 0x02 a (Eeprom (record { 0 = a })) d flash eeprom flash (patch eeprom (eeprom_cell a) d) l k (omega arith) h.1
        (eeprom_ruled a 0x02 h.0) h.0
        (writes_eeprom n flash eeprom l k a d h.1 h.0
        ∙ ap (answered n (write_eeprom a) (show_of n.plate.own.0 n.plate.group.0 d) flash)
        (eeprom_written_done eeprom a d k h.0 h.1))
        s legal

  -- an item leaves what it says when it is read plainly
  pub item_carries : (i : Item) (m : Memories) → LegalItem i → Full m → (s : Staged) → legal_staged s ≡ true
      → Carries n (frames_to i) s m (plain_item i m)
  item_carries (block a d) m h full s legal =
      rw (plain_block a d m h full.0) (block_carries m.flash m.eeprom full.0 full.1 a d h s legal)
  item_carries (row a d) m h full s legal =
      rw (plain_row a d m h full.1) (row_carries m.flash m.eeprom full.0 full.1 a d h s legal)

  -- any number of legal items
  pub items_carry : (is : List Item) (m : Memories) → LegalItems is → Full m → (s : Staged) → legal_staged s ≡ true
      → Carries n (all_to is) s m (plain_items is m)
  unfolding items_frames plain_items
  items_carry [] m h full s legal = carries_nothing n s m legal
  items_carry (i ∷ is) m h full s legal =
      let sizes = plain_item_sizes i m in
      carries_behind n (frames_to i) (all_to is) s m (plain_item i m) (plain_items is (plain_item i m)) (item_carries i m h.0 full s legal)
      (λ c lawful. items_carry is (plain_item i m) h.1 (sizes.0 ∙ full.0, sizes.1 ∙ full.1) c lawful)
