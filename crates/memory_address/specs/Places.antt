-- The sizes and places of document 01, "Memories and the plate".
use Rattle.std.specs.Prelude.{ℕ, ◌-◌, Bool, ◌&&◌, List, eqb, length, replicate}

-- "65,536 FLASH cells and 1,024 EEPROM cells"
abbrev pub flash_cells : ℕ
flash_cells = 65536

abbrev pub eeprom_cells : ℕ
eeprom_cells = 1024

-- both memories have their size: outcome 1 is for "FLASH not 65,536 or EEPROM not 1,024 bytes"
abbrev pub full : List ℕ → List ℕ → Bool
full flash eeprom = eqb (length flash) flash_cells && eqb (length eeprom) eeprom_cells

-- "FLASH is 0x000000 to 0x00FFFF, EEPROM 0xF00000 to 0xF003FF": the cell of EEPROM that a place names
abbrev pub eeprom_cell : ℕ → ℕ
eeprom_cell place = place - 0xF00000

-- "BOOTFL 0xF00000, module 0xF00026, group 0xF00027, description 0xF00030 to 0xF0003F"
abbrev pub bootfl : ℕ
bootfl = 0xF00000

abbrev pub module_place : ℕ
module_place = 0xF00026

abbrev pub group_place : ℕ
group_place = 0xF00027

abbrev pub description : ℕ
description = 0xF00030

-- "Stored sum 0x001000 to 0x001002, high byte first. ATYPE, AVERS, FVERS at 0x001013 to 0x001015."
abbrev pub stored_sum : ℕ
stored_sum = 0x001000

abbrev pub atype : ℕ
atype = 0x001013

abbrev pub avers : ℕ
avers = 0x001014

abbrev pub fvers : ℕ
fvers = 0x001015

-- "cells 0x001010 to 0x001012 are 30 00 03": the first of the three cells
abbrev pub three_cells : ℕ
three_cells = 0x001010

-- "The firmware sum adds all cells 0x001003 to 0x007FFF, 28,669 of them"
abbrev pub first_summed : ℕ
first_summed = 0x001003

abbrev pub summed_cells : ℕ
summed_cells = 28669

-- "65,536 FLASH cells and 1,024 EEPROM cells, all 0xFF"
abbrev pub blank_flash : List ℕ
blank_flash = replicate 65536 0xFF

abbrev pub blank_eeprom : List ℕ
blank_eeprom = replicate 1024 0xFF
