-- A record that is in form, given to a table: the first of the checks from 31 on that it fails, and the table behind it.
use Rattle.std.specs.Prelude.{ℕ, ◌+◌, ◌*◌, Bool, cond, List, eqb, take}
use Rattle.hex_rules.specs.Record.{count_of, address_of, type_of, data_of, upper_of, bad_sum, other_type}
use Rattle.hex_read.specs.Internal.Giving.{giving_fault, with_cells}

-- the place of its first cell
abbrev pub start_of : ℕ → List ℕ → ℕ
start_of upper r = 65536 * upper + address_of r

-- the upper half behind it
abbrev pub upper_behind : ℕ → List ℕ → ℕ
upper_behind upper r = cond (eqb (type_of r) 0x04) (upper_of r) upper

-- 35 behind an end record
abbrev pub end_fault : Bool → ℕ
end_fault ended = cond ended 35 0

-- a fault, or what comes behind it
abbrev pub or_else : ℕ → ℕ → ℕ
or_else fault behind = cond (eqb fault 0) behind fault

-- the number of the first check that fails, 0 where none does
unfoldable pub record_fault : List ℕ → ℕ → Bool → List ℕ → ℕ
record_fault r upper ended table =
    cond (bad_sum (take (5 + count_of r) r)) 31
    (cond (other_type r) 32
    (cond (eqb (type_of r) 0x00) (or_else (giving_fault (data_of r) (start_of upper r) table) (end_fault ended)) (end_fault ended)))

-- the table with the cells of a type 00
unfoldable pub record_table : List ℕ → ℕ → List ℕ → List ℕ
record_table r upper table = cond (eqb (type_of r) 0x00) (with_cells (data_of r) (start_of upper r) table) table
