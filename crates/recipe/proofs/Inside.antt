-- The cells of a legal item lie within its memory: a Block's in FLASH above the rim, a Row's in EEPROM. By the laws of the address rule.
-- Assumes nothing.
use mathlib.Core.List.{List}
use Prim.Native.Nat.{ℕ, ◌+◌, ◌≤◌, ◌<◌}
use native.Mathlib.Omega.{arith}
use lib.ListN.{length}
use Rattle.memory_address.specs.Places.{flash_cells, eeprom_cells, eeprom_cell}
use Rattle.memory_address.proofs.Laws.{flash_within, eeprom_within}
use Rattle.recipe.specs.Items.{Item, block, row, LegalItem}

pub block_inside : (a : ℕ) (d : List ℕ) → LegalItem (block a d) → (0x001000 ≤ a) × (a + length d ≤ flash_cells)
block_inside a d h = let w = flash_within a 0x03 h.0 in (w.0, omega (arith, h.1))

pub row_inside : (a : ℕ) (d : List ℕ) → LegalItem (row a d) → (0xF00000 ≤ a) × (eeprom_cell a + length d ≤ eeprom_cells)
row_inside a d h = let w = eeprom_within a 0x02 h.0 in (w.0, omega (arith, h.1))

-- its address has 24 bits
abbrev pub address_in : Item → ℕ
address_in (block a d) = a
address_in (row a d) = a

pub address_24 : (i : Item) → LegalItem i → address_in i < 0x1000000
address_24 (block a d) h = omega (arith, (block_inside a d h).1)
address_24 (row a d) h = omega (arith, (row_inside a d h).1)
