-- A record's cells given to a table: where they stand in it, which refusal they meet, and the table behind them.
use Rattle.std.specs.Prelude.{ℕ, ◌+◌, ◌-◌, ◌&&◌, cond, List, [], ◌∷◌, eqb, leb, length, Option, Some, None, Result, Ok, Err}
use Rattle.base.specs.Parts.{part, patch}
use Rattle.memory_address.specs.Rule.{rim, last_block, first_eeprom_row, last_eeprom_row}
use Rattle.hex_rules.specs.declared.Fault.{Fault}
use Rattle.hex_rules.specs.Refusing.{fault_number}
use Rattle.hex_put.specs.Internal.Table.{some_marked}

-- the number of a refusal; 0 where there is none
abbrev pub number_or_0 : Result (Unit {0}) Fault → ℕ
number_or_0 (Ok _) = 0
number_or_0 (Err fault) = fault_number fault

-- the index of the first of `count` cells from a place on, where all of them are legal
abbrev pub index_of : ℕ → ℕ → Option ℕ
index_of start count =
    cond (leb rim start && leb (start + count) (last_block + 64)) (Some start)
    (cond (leb first_eeprom_row start && leb (start + count) (last_eeprom_row + 8)) (Some (65536 + (start - first_eeprom_row))) None)

-- 256 more than each byte
abbrev pub entries : List ℕ → List ℕ
entries [] = []
entries (b ∷ bs) = (256 + b) ∷ entries bs

-- 33 where there is no index, 34 where a place from it on is marked already, else 0
abbrev pub index_fault : Option ℕ → List ℕ → List ℕ → ℕ
index_fault None bytes table = 33
index_fault (Some index) bytes table = cond (some_marked (part table index (length bytes))) 34 0

-- 33 where a cell is outside, 34 where one is given already, else 0
abbrev pub giving_fault : List ℕ → ℕ → List ℕ → ℕ
giving_fault bytes start table = cond (eqb (length bytes) 0) 0 (index_fault (index_of start (length bytes)) bytes table)

-- the table with the cells from an index on
abbrev pub from_index : Option ℕ → List ℕ → List ℕ → List ℕ
from_index None bytes table = table
from_index (Some index) bytes table = patch table index (entries bytes)

-- the table with the cells
abbrev pub with_cells : List ℕ → ℕ → List ℕ → List ℕ
with_cells bytes start table = cond (eqb (length bytes) 0) table (from_index (index_of start (length bytes)) bytes table)
