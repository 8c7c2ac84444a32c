-- The address rule of document 01: "Legal rows (001, 5.7)". This is the one place where it stands. Proofs cite its laws, in
-- proofs/Laws.antt; only examples that are computed open it.
use Rattle.std.specs.Prelude.{ℕ, ◌%◌, Bool, true, false, ◌&&◌, cond, leb, ltb, eqb, Option, Some, None, Result, Ok, Err}
use Rattle.memory_address.specs.declared.Address.TheVariants.{Flash, Eeprom}
use Rattle.memory_address.specs.declared.Address.{Address}
use Rattle.memory_address.specs.declared.Refusal.TheVariants.{WrongLength, Illegal}
use Rattle.memory_address.specs.declared.Refusal.{Refusal}

-- a multiple of step from low to high, both in it
abbrev pub multiple_in : ℕ → ℕ → ℕ → ℕ → Bool
multiple_in step low high a = leb low a && (leb a high && eqb (a % step) 0)

-- the rim, below which the loader lies: the first row of FLASH
abbrev pub rim : ℕ
rim = 0x001000

-- the last row of FLASH and its last block, the first and the last row of EEPROM
abbrev pub last_flash_row : ℕ
last_flash_row = 0x00FFF8

abbrev pub last_block : ℕ
last_block = 0x00FFC0

abbrev pub first_eeprom_row : ℕ
first_eeprom_row = 0xF00000

abbrev pub last_eeprom_row : ℕ
last_eeprom_row = 0xF003F8

abbrev pub in_flash : ℕ → Option Address
in_flash a = Some (Flash (record { 0 = a }))

abbrev pub in_eeprom : ℕ → Option Address
in_eeprom a = Some (Eeprom (record { 0 = a }))

-- a row of either memory
abbrev pub row_of : ℕ → Option Address
row_of a =
    cond (multiple_in 8 rim last_flash_row a) (in_flash a) (cond (multiple_in 8 first_eeprom_row last_eeprom_row a) (in_eeprom a) None)

-- "read 0x01 and write 0x02 at multiples of 8, in 0x001000 to 0x00FFF8 or 0xF00000 to 0xF003F8": the row that may be read
abbrev pub read_row : ℕ → Option Address
read_row a = row_of a

-- and the row that may be written
abbrev pub write_row : ℕ → Option Address
write_row a = row_of a

-- "Erase 0x03 at multiples of 64 in 0x001000 to 0x00FFC0; EEPROM has none."
abbrev pub block_of : ℕ → Option Address
block_of a = cond (multiple_in 64 rim last_block a) (in_flash a) None

-- the rule: what a command may work on at a number
unfoldable pub ruled : ℕ → ℕ → Option Address
ruled a command =
    cond (eqb command 0x01) (read_row a) (cond (eqb command 0x02) (write_row a) (cond (eqb command 0x03) (block_of a) None))

-- how many cells a command works on: "Erase sets 64 cells", and else a row's eight
abbrev pub cells_of : ℕ → ℕ
cells_of command = cond (eqb command 0x03) 64 8

-- the cells of FLASH that no legal write or erase covers: those below the rim
unfoldable pub protected : ℕ → Bool
protected cell = ltb cell rim

-- whether what the rule says lies in FLASH, or in EEPROM
abbrev pub is_flash : Option Address → Bool
is_flash (Some (Flash f)) = true
is_flash (Some (Eeprom e)) = false
is_flash None = false

abbrev pub is_eeprom : Option Address → Bool
is_eeprom (Some (Flash f)) = false
is_eeprom (Some (Eeprom e)) = true
is_eeprom None = false

-- whether the rule lets the command work at all
abbrev pub is_legal : Option Address → Bool
is_legal (Some a) = true
is_legal None = false

-- whether a command is legal on FLASH, or on EEPROM, at a number
abbrev pub legal_flash : ℕ → ℕ → Bool
legal_flash a command = is_flash (ruled a command)

abbrev pub legal_eeprom : ℕ → ℕ → Bool
legal_eeprom a command = is_eeprom (ruled a command)

-- document 01's number for what the rule says: 0, and 8 for an "illegal address or command"
abbrev pub ruled_number : Option Address → ℕ
ruled_number (Some a) = 0
ruled_number None = 8

-- the number of a call that works at an address: 1 for a memory of the wrong length, then 8 for an illegal address, else 0
abbrev pub numbered : Bool → Bool → ℕ
numbered sized legal = cond sized (cond legal 0 8) 1

-- document 01's number for a refusal, and for the answer of a call that may refuse: 0 where it is done
abbrev pub refusal_number : Refusal → ℕ
refusal_number WrongLength = 1
refusal_number Illegal = 8

abbrev pub number_of : {A : Type 0} → Result A Refusal → ℕ
number_of (Ok x) = 0
number_of (Err e) = refusal_number e
