-- The cells that records give: a place and a byte each. Document 02, A5.
use Rattle.std.specs.Prelude.{ℕ, suc, ◌+◌, ◌-◌, ◌%◌, Bool, false, not, ◌&&◌, ◌||◌, cond, List, [], ◌∷◌, eqb, leb, ltb}
use Rattle.memory_address.specs.Rule.{legal_flash, legal_eeprom}

-- the linear place of a cell, and its byte
pub record Cell : Type 0 where
  pub place : ℕ
  pub byte : ℕ

-- bytes from a place on, one cell behind the other: "a record runs on past 0xFFFF"
abbrev pub cells_from : ℕ → List ℕ → List Cell
cells_from a [] = []
cells_from a (b ∷ bs) = record { place = a; byte = b } ∷ cells_from (suc a) bs

-- the legal areas, by the address rule: cells of FLASH whose block may be erased, and cells of EEPROM whose row may be written. "EEPROM
-- stands at linear 0x00F00000", which is where its places are.
unfoldable pub legal_cell : ℕ → Bool
legal_cell a = legal_flash (a - a % 64) 0x03 || legal_eeprom (a - a % 8) 0x02

-- "a cell outside the legal areas"
abbrev pub some_outside : List Cell → Bool
some_outside [] = false
some_outside (c ∷ cs) = not (legal_cell c.place) || some_outside cs

-- whether a place is among those given
abbrev pub given_at : List Cell → ℕ → Bool
given_at [] a = false
given_at (c ∷ cs) a = eqb c.place a || given_at cs a

-- the byte given for a place, "0xFF in the rest"
abbrev pub byte_at : List Cell → ℕ → ℕ
byte_at [] a = 0xFF
byte_at (c ∷ cs) a = cond (eqb c.place a) c.byte (byte_at cs a)

-- "a cell given twice": by the lines before, whatever its byte. (A record's own places are all different.)
abbrev pub some_twice : List Cell → List Cell → Bool
some_twice before [] = false
some_twice before (c ∷ cs) = given_at before c.place || some_twice before cs

-- whether one of the `size` places from a on is given
abbrev pub touched : List Cell → ℕ → ℕ → Bool
touched [] a size = false
touched (c ∷ cs) a size = (leb a c.place && ltb c.place (a + size)) || touched cs a size
