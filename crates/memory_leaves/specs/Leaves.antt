-- What the write and the erase leave in the cells lent to them.
use Rattle.std.specs.Prelude.{ℕ, ◌&&◌, cond, List, [], ◌∷◌, eqb, length, replicate}
use Rattle.std.specs.Int.Bits.{bit_and}

-- "A FLASH write leaves in each cell the old bits and the new bits combined by "and""; a cell with no new byte stays
abbrev pub combined : List ℕ → List ℕ → List ℕ
combined [] new = []
combined (x ∷ xs) [] = x ∷ xs
combined (x ∷ xs) (y ∷ ys) = bit_and x y ∷ combined xs ys

-- "The write and the erase touch only the eight or sixty-four cells lent to them": other lengths leave the cells alone
unfoldable pub flash_cells_after : List ℕ → List ℕ → List ℕ
flash_cells_after cells new = cond (eqb (length cells) 8 && eqb (length new) 8) (combined cells new) cells

-- "An EEPROM write replaces."
unfoldable pub eeprom_cells_after : List ℕ → List ℕ → List ℕ
eeprom_cells_after cells new = cond (eqb (length cells) 8 && eqb (length new) 8) new cells

-- "Erase sets 64 cells to 0xFF."
unfoldable pub erased_cells : List ℕ → List ℕ
erased_cells cells = cond (eqb (length cells) 64) (replicate 64 0xFF) cells
