-- The cells of the legal areas, in document 01's numbers, from both sides: a cell is legal exactly if the block that it lies in may be
-- erased, which is a cell of FLASH from the rim on, or the row that it lies in may be written, which is a cell of EEPROM. By the laws of
-- the address rule alone.
-- Assumes nothing.
use mathlib.Core.Path.{◌≡◌, ap}
use mathlib.Core.Bool.{true, or-true}
use mathlib.Core.Logic.{◌⊎◌, inl, inr, ⊎_elim}
use Prim.Native.Nat.{ℕ, ◌-◌, ◌%◌, ◌≤◌, ◌<◌}
use native.Mathlib.Omega.{arith}
use Rattle.base.proofs.Choice.{either_true}
use Rattle.memory_address.specs.Rule.{is_flash, is_eeprom, legal_flash, legal_eeprom}
use Rattle.memory_address.proofs.Laws.{flash_within, eeprom_within}
use Rattle.memory_address.proofs.BothSides.{erase_legal, write_legal}
use Rattle.hex_rules.specs.Cells.{legal_cell}

-- a legal cell's block may be erased, or its row of EEPROM be written
either : (a : ℕ) → legal_cell a ≡ true → (legal_flash (a - a % 64) 0x03 ≡ true) ⊎ (legal_eeprom (a - a % 8) 0x02 ≡ true)
unfolding legal_cell
either a h = either_true (legal_flash (a - a % 64) 0x03) (legal_eeprom (a - a % 8) 0x02) h

-- a legal cell lies in FLASH from the rim on, or in EEPROM
pub legal_cell_numbers : (a : ℕ) → legal_cell a ≡ true → ((0x001000 ≤ a) × (a < 0x010000)) ⊎ ((0xF00000 ≤ a) × (a < 0xF00400))
legal_cell_numbers a h =
    ⊎_elim (λ e. inl (omega (arith, flash_within (a - a % 64) 0x03 e))) (λ e. inr (omega (arith, eeprom_within (a - a % 8) 0x02 e)))
    (either a h)

-- and each such cell is legal
pub numbers_legal_cell : (a : ℕ) → ((0x001000 ≤ a) × (a < 0x010000)) ⊎ ((0xF00000 ≤ a) × (a < 0xF00400)) → legal_cell a ≡ true
unfolding legal_cell
numbers_legal_cell a =
    ⊎_elim
    (λ n.
    let e : legal_flash (a - a % 64) 0x03 ≡ true = ap is_flash ((erase_legal (a - a % 64)).0.1 (omega arith)) in
    rw e)
    (λ n.
    let e : legal_eeprom (a - a % 8) 0x02 ≡ true = ap is_eeprom ((write_legal (a - a % 8)).1.1 (omega arith)) in
    rw e (or-true (legal_flash (a - a % 64) 0x03)))

-- the block of a legal cell of FLASH may be erased
pub flash_cell_block : (a : ℕ) → legal_cell a ≡ true → a < 0x010000 → legal_flash (a - a % 64) 0x03 ≡ true
flash_cell_block a h l = ⊎_elim (λ e. e) (λ e. absurd (omega (arith, eeprom_within (a - a % 8) 0x02 e))) (either a h)

-- and the row of any other legal cell may be written, in EEPROM
pub eeprom_cell_row : (a : ℕ) → legal_cell a ≡ true → 0x010000 ≤ a → legal_eeprom (a - a % 8) 0x02 ≡ true
eeprom_cell_row a h l = ⊎_elim (λ e. absurd (omega (arith, flash_within (a - a % 64) 0x03 e))) (λ e. e) (either a h)
