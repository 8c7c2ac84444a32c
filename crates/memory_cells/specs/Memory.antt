-- A whole memory after a write or an erase at an address, and the number that comes with it.
use Rattle.std.specs.Prelude.{ℕ, cond, List, eqb, length}
use Rattle.base.specs.Parts.{part, patch}
use Rattle.memory_address.specs.Places.{flash_cells, eeprom_cells, eeprom_cell}
use Rattle.memory_address.specs.Rule.{legal_flash, legal_eeprom, numbered}
use Rattle.memory_leaves.specs.Leaves.{flash_cells_after, eeprom_cells_after, erased_cells}

-- the number that comes with a command
abbrev pub flash_number : List ℕ → ℕ → ℕ → ℕ
flash_number m a command = numbered (eqb (length m) flash_cells) (legal_flash a command)

abbrev pub eeprom_number : List ℕ → ℕ → ℕ → ℕ
eeprom_number m p command = numbered (eqb (length m) eeprom_cells) (legal_eeprom p command)

-- what a done command makes of a memory; a refused one leaves it
abbrev pub if_done : ℕ → List ℕ → List ℕ → List ℕ
if_done number new old = cond (eqb number 0) new old

-- FLASH after a write of eight bytes at a: the row at a, and nothing else, is what the leaf leaves
unfoldable pub flash_written : List ℕ → ℕ → List ℕ → List ℕ
flash_written m a new = if_done (flash_number m a 0x02) (patch m a (flash_cells_after (part m a 8) new)) m

-- FLASH after an erase at a: the block at a
unfoldable pub flash_erased : List ℕ → ℕ → List ℕ
flash_erased m a = if_done (flash_number m a 0x03) (patch m a (erased_cells (part m a 64))) m

-- EEPROM after a write of eight bytes at place p: the row at p
unfoldable pub eeprom_written : List ℕ → ℕ → List ℕ → List ℕ
eeprom_written m p new =
    if_done (eeprom_number m p 0x02) (patch m (eeprom_cell p) (eeprom_cells_after (part m (eeprom_cell p) 8) new)) m
