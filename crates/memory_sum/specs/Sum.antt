-- The sums of document 01, "Memories and the plate".
use Rattle.std.specs.Prelude.{ℕ, ◌+◌, cond, List, eqb, length, get_or}
use Rattle.base.specs.Parts.{part, sum_of, high_first}
use Rattle.memory_address.specs.Places.{flash_cells, stored_sum, first_summed, summed_cells}

-- "The firmware sum adds all cells 0x001003 to 0x007FFF, 28,669 of them"
unfoldable pub firmware_sum : List ℕ → ℕ
firmware_sum flash = cond (eqb (length flash) flash_cells) (sum_of (part flash first_summed summed_cells)) 0

-- "Stored sum 0x001000 to 0x001002, high byte first."
unfoldable pub stored_sum_of : List ℕ → ℕ
stored_sum_of flash =
    cond (eqb (length flash) flash_cells)
    (high_first (get_or flash stored_sum 0) (get_or flash (stored_sum + 1) 0) (get_or flash (stored_sum + 2) 0)) 0
