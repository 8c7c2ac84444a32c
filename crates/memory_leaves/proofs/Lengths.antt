-- What a leaf leaves is as long as what it was lent.
-- Assumes nothing.
use mathlib.Core.Path.{◌≡◌, ◌∙◌, refl, sym}
use mathlib.Core.Bool.{◌&&◌}
use mathlib.Core.List.{List}
use Prim.Native.Nat.{ℕ}
use lib.Dec.{eqb}
use lib.ListN.{length, length-replicate}
use borrow.Author.Tests.{eqb-true}
use Rattle.base.proofs.Choice.{by_cond, both_true}
use Rattle.memory_leaves.specs.Leaves.{flash_cells_after, eeprom_cells_after, erased_cells}
use Rattle.memory_leaves.proofs.Combined.{length_combined}

pub length_flash_after : (cells new : List ℕ) → length (flash_cells_after cells new) ≡ length cells
unfolding flash_cells_after
length_flash_after cells new =
    by_cond (λ (x : List ℕ). length x ≡ length cells) (eqb (length cells) 8 && eqb (length new) 8) _ _
    (λ _. length_combined cells new) (λ _. refl)

pub length_eeprom_after : (cells new : List ℕ) → length (eeprom_cells_after cells new) ≡ length cells
unfolding eeprom_cells_after
length_eeprom_after cells new =
    by_cond (λ (x : List ℕ). length x ≡ length cells) (eqb (length cells) 8 && eqb (length new) 8) _ _
    (λ t.
    let p = both_true (eqb (length cells) 8) (eqb (length new) 8) t in
    eqb-true (length new) 8 p.1 ∙ sym (eqb-true (length cells) 8 p.0))
    (λ _. refl)

pub length_erased : (cells : List ℕ) → length (erased_cells cells) ≡ length cells
unfolding erased_cells
length_erased cells =
    by_cond (λ (x : List ℕ). length x ≡ length cells) (eqb (length cells) 64) _ _
    (λ t. length-replicate {A = ℕ} 64 0xFF ∙ sym (eqb-true (length cells) 64 t)) (λ _. refl)
