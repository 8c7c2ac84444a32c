-- What memories hold of given cells. Document 02, A5: "every cell the file gives, 0xFF in the rest of a touched block or row, and no other
-- change, save BOOTFL, which ends 0x00".
use Rattle.std.specs.Prelude.{ℕ, ◌+◌, ◌-◌, ◌%◌, ◌<◌, ◌≡◌, cond, List, eqb, length, get_or}
use Rattle.memory_address.specs.Places.{eeprom_cell, bootfl}
use Rattle.recipe.specs.Plain.{Memories}
use Rattle.hex_rules.specs.Cells.{Cell, byte_at, touched}

-- a cell of FLASH afterwards
abbrev pub flash_after : List Cell → List ℕ → ℕ → ℕ
flash_after cells flash k = cond (touched cells (k - k % 64) 64) (byte_at cells k) (get_or flash k 0)

-- a cell of EEPROM afterwards; cell k has the place 0xF00000 + k
abbrev pub eeprom_after : List Cell → List ℕ → ℕ → ℕ
eeprom_after cells eeprom k =
    cond (eqb k (eeprom_cell bootfl)) 0x00
    (cond (touched cells (0xF00000 + (k - k % 8)) 8) (byte_at cells (0xF00000 + k)) (get_or eeprom k 0))

-- the memories afterwards, cell by cell, from those before
pub record Holds (cells : List Cell) (before after : Memories) : Type 0 where
  pub flash_size : length after.flash ≡ length before.flash
  pub eeprom_size : length after.eeprom ≡ length before.eeprom
  pub flash : (k : ℕ) → k < 65536 → get_or after.flash k 0 ≡ flash_after cells before.flash k
  pub eeprom : (k : ℕ) → k < 1024 → get_or after.eeprom k 0 ≡ eeprom_after cells before.eeprom k
