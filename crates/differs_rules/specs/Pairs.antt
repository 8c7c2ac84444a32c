-- The erases among frames. Document 01, "Requests and replies": a 0x030 names an address with a command in D5, 0x03 for erase, and the
-- 0x040 behind it has it done.
use Rattle.std.specs.Prelude.{ℕ, ◌+◌, Bool, ◌&&◌, cond, List, [], ◌∷◌, eqb, get_or}

-- a 0x030 whose command is erase: its type stands in its first two bytes, D5 in the tenth
abbrev pub asks_erase : List ℕ → Bool
asks_erase f = eqb (get_or f 0 0) 0x03 && eqb (get_or f 1 0) 0x00 && eqb (get_or f 9 0) 0x03

-- a 0x040
abbrev pub brings_data : List ℕ → Bool
brings_data f = eqb (get_or f 0 0) 0x04 && eqb (get_or f 1 0) 0x00

-- how many frames ask for an erase and have a 0x040 behind them
unfoldable pub erase_pairs : List (List ℕ) → ℕ
erase_pairs [] = 0
erase_pairs (f ∷ fs) = cond (asks_erase f && brings_data (get_or fs 0 [])) 1 0 + erase_pairs fs
