-- Request A4: what the two flags say of a FLASH, and when firmware starts.
use Rattle.std.specs.Prelude.{ℕ, ◌+◌, Bool, false, ◌&&◌, not, cond, List, eqb, length, get_or}
use Rattle.memory_address.specs.Places.{flash_cells, three_cells}
use Rattle.memory_sum.specs.Sum.{firmware_sum, stored_sum_of}

-- what the two flags say. "bit 0 of the flag byte says sums differ": the stored sum is not the firmware sum
unfoldable pub sums_differ : List ℕ → Bool
sums_differ flash = not (eqb (stored_sum_of flash) (firmware_sum flash))

-- "and bit 1 says the three cells differ": they are others than 30 00 03
unfoldable pub cells_differ : List ℕ → Bool
cells_differ flash =
    not
    (eqb (get_or flash three_cells 0) 0x30 && (eqb (get_or flash (three_cells + 1) 0) 0x00 && eqb (get_or flash (three_cells + 2) 0) 0x03))

-- both as one byte: bit 0 counts 1, bit 1 counts 2
abbrev pub flags_of : Bool → Bool → ℕ
flags_of sums cells = cond sums 1 0 + cond cells 2 0

-- the flag byte of a FLASH as it is
unfoldable pub flag_byte : List ℕ → ℕ
flag_byte flash = flags_of (sums_differ flash) (cells_differ flash)

-- "firmware now starts exactly if the sums are equal and cells 0x001010 to 0x001012 are 30 00 03": no flag is set
unfoldable pub starts : List ℕ → Bool
starts flash = cond (eqb (length flash) flash_cells) (eqb (flag_byte flash) 0) false
