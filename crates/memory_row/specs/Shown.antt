-- "Showing a row hands back the eight cells themselves, a part of FLASH or of EEPROM as the address says."
use Rattle.std.specs.Prelude.{ℕ, ◌+◌, ◌≡◌, cond, List, [], Option, Some, None}
use Rattle.std.specs.Borrow.{Bor}
use Rattle.base.specs.Parts.{part}
use Rattle.memory_address.specs.Places.{full, eeprom_cell}
use Rattle.memory_address.specs.Rule.{ruled, ruled_number}
use Rattle.memory_address.specs.declared.Address.TheVariants.{Flash, Eeprom}
use Rattle.memory_address.specs.declared.Address.{Address}

-- the eight cells of what the rule says
abbrev pub row_at : List ℕ → List ℕ → Option Address → List ℕ
row_at flash eeprom (Some (Flash f)) = part flash f.0 8
row_at flash eeprom (Some (Eeprom e)) = part eeprom (eeprom_cell e.0) 8
row_at flash eeprom None = []

-- "Showing a row gives 1, then 8 for an address illegal to read, with an empty part"
unfoldable pub shown : List ℕ → List ℕ → ℕ → List ℕ
shown flash eeprom a = cond (full flash eeprom) (row_at flash eeprom (ruled a 0x01)) []

-- "the eight cells themselves": where they lie, a block of memory and a place in it. Cell a of a lent memory lies a places on
abbrev pub cell_at : Bor (List ℕ) → ℕ → ℕ × ℕ
cell_at m a = (m.ref_ptr.0, a + m.ref_ptr.1)

-- where the eight cells of what the rule says lie; an empty part lies at the start of FLASH
abbrev pub row_lies : Bor (List ℕ) → Bor (List ℕ) → Option Address → ℕ × ℕ
row_lies flash eeprom (Some (Flash f)) = cell_at flash f.0
row_lies flash eeprom (Some (Eeprom e)) = cell_at eeprom (eeprom_cell e.0)
row_lies flash eeprom None = flash.ref_ptr

-- where the shown part lies
unfoldable pub shown_at : Bor (List ℕ) → Bor (List ℕ) → ℕ → ℕ × ℕ
shown_at flash eeprom a = cond (full flash.now eeprom.now) (row_lies flash eeprom (ruled a 0x01)) flash.ref_ptr

unfoldable pub shown_number : List ℕ → List ℕ → ℕ → ℕ
shown_number flash eeprom a = cond (full flash eeprom) (ruled_number (ruled a 0x01)) 1

-- a number and a part are what is shown at an address
abbrev pub Shows : List ℕ → List ℕ → ℕ → ℕ → List ℕ → Type 0
Shows flash eeprom a number row = (shown_number flash eeprom a ≡ number) × (shown flash eeprom a ≡ row)
