-- The two conditions of a start by place, in the papers' own numbers: what the theorems say of a FLASH.
use Rattle.std.specs.Prelude.{ℕ, ◌/◌, ◌%◌, ◌≡◌, List, ◌⊎◌, get_or}
use Rattle.base.specs.Parts.{part, sum_of, high_first}

-- "stored sum equals firmware sum", by place
abbrev pub SumsAgree : List ℕ → Type 0
SumsAgree flash =
    high_first (get_or flash 0x001000 0) (get_or flash 0x001001 0) (get_or flash 0x001002 0) ≡ sum_of (part flash 0x001003 28669)

-- "cells 0x001010 to 0x001012 are 30 00 03"
abbrev pub CellsAgree : List ℕ → Type 0
CellsAgree flash = (get_or flash 0x001010 0 ≡ 0x30) × (get_or flash 0x001011 0 ≡ 0x00) × (get_or flash 0x001012 0 ≡ 0x03)

-- "firmware now starts exactly if the sums are equal and cells 0x001010 to 0x001012 are 30 00 03"
abbrev pub Starts : List ℕ → Type 0
Starts flash = SumsAgree flash × CellsAgree flash

-- a bit that says whether something differs: 0 if it agrees, 1 if it doesn't
abbrev pub Differs : ℕ → Type 0 → Type 0
Differs bit Agrees = ((bit ≡ 0) × Agrees) ⊎ ((bit ≡ 1) × (Agrees → ⊥))

-- "bit 0 of the flag byte says sums differ and bit 1 says the three cells differ", and no other bit is set
abbrev pub FlagSays : ℕ → List ℕ → Type 0
FlagSays flag flash = Differs (flag % 2) (SumsAgree flash) × Differs (flag / 2) (CellsAgree flash)
