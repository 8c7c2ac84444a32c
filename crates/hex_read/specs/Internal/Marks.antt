-- What a table of 66,560 places says of given cells: 256 more than the byte where a cell is given, 255 where none is.
use Rattle.std.specs.Prelude.{ℕ, ◌+◌, ◌-◌, ◌<◌, ◌≡◌, cond, List, ltb, length, get_or}
use Rattle.hex_rules.specs.Cells.{Cell, given_at, byte_at}

-- the place that an index stands for: the 65,536 of FLASH, and behind them the 1,024 of EEPROM
abbrev pub place_of : ℕ → ℕ
place_of k = cond (ltb k 65536) k (0xF00000 + (k - 65536))

-- what the table has for a place
abbrev pub entry_of : List Cell → ℕ → ℕ
entry_of cells a = cond (given_at cells a) (256 + byte_at cells a) 255

pub record Marks (cells : List Cell) (table : List ℕ) : Type 0 where
  pub size : length table ≡ 66560
  pub each : (k : ℕ) → k < 66560 → get_or table k 0 ≡ entry_of cells (place_of k)
  pub bytes : (a : ℕ) → byte_at cells a < 256
