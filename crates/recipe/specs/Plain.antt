-- The plain reading of a recipe over two memories, by its items alone. Document 01: "Read plainly, Block and Row set their cells in
-- order and Leave sets BOOTFL to 0x00."
use Rattle.std.specs.Prelude.{ℕ, ◌+◌, ◌≤◌, ◌<◌, List, [], ◌∷◌, ◌⊎◌, length, set}
use Rattle.std.proofs.lemmas.List.Edits.{sets}
use Rattle.memory_address.specs.Places.{eeprom_cell, bootfl}
use Rattle.recipe.specs.Items.{Item, block, row, Recipe}

pub record Memories : Type 0 where
  pub flash : List ℕ
  pub eeprom : List ℕ

-- "Block and Row set their cells"
abbrev pub plain_item : Item → Memories → Memories
plain_item (block address cells) m = record { flash = sets m.flash address cells; eeprom = m.eeprom }
plain_item (row address cells) m = record { flash = m.flash; eeprom = sets m.eeprom (eeprom_cell address) cells }

-- "in order"
unfoldable pub plain_items : List Item → Memories → Memories
plain_items [] m = m
plain_items (i ∷ is) m = plain_items is (plain_item i m)

-- "Leave sets BOOTFL to 0x00"
abbrev pub plain_leave : Memories → Memories
plain_leave m = record { flash = m.flash; eeprom = set m.eeprom (eeprom_cell bootfl) 0x00 }

unfoldable pub plainly : Recipe → Memories → Memories
plainly r m = plain_leave (plain_items r.items m)

-- ---- what no item names

-- cell k of FLASH, or of EEPROM, is none of an item's
abbrev pub OutsideFlash : ℕ → Item → Type 0
OutsideFlash k (block a d) = (k < a) ⊎ (a + length d ≤ k)
OutsideFlash k (row a d) = Unit {0}

abbrev pub OutsideEeprom : ℕ → Item → Type 0
OutsideEeprom k (block a d) = Unit {0}
OutsideEeprom k (row a d) = (k < eeprom_cell a) ⊎ (eeprom_cell a + length d ≤ k)

abbrev pub Each : (Item → Type 0) → List Item → Type 0
Each P [] = Unit {0}
Each P (i ∷ is) = P i × Each P is
