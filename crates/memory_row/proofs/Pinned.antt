-- "Showing a row gives 1, then 8 for an address illegal to read, with an empty part": number and part of every address, in document 01's
-- numbers. The lengths are looked at first; which address is legal to read is the address rule's, from both sides.
-- Assumes nothing.
use mathlib.Core.Path.{◌≡◌, refl}
use mathlib.Core.Bool.{Bool, true, false, ◌&&◌}
use mathlib.Core.List.{List, []}
use mathlib.Core.Logic.{◌⊎◌, inl, inr}
use Prim.Native.Nat.{ℕ, ◌-◌}
use lib.ListN.{length, take, drop}
use borrow.Author.Tests.{eq-eqb, ne_eqb}
use Rattle.memory_address.proofs.BothSides.{read_legal}
use Rattle.memory_address.specs.Ranges.{FlashRow, EepromRow}
use Rattle.memory_row.specs.Shown.{shown, shown_number, Shows}

pub and_false : (x : Bool) → (x && false) ≡ false
and_false true = refl
and_false false = refl

-- 1, whatever the address
pub other_lengths_shown : (flash eeprom : List ℕ) (a : ℕ) → (length flash ≡ 65536 → ⊥) ⊎ (length eeprom ≡ 1024 → ⊥)
    → Shows flash eeprom a 1 []
unfolding shown shown_number
other_lengths_shown flash eeprom a (inl n) = (simp (ne_eqb _ _ n), simp (ne_eqb _ _ n))
other_lengths_shown flash eeprom a (inr n) = (simp (ne_eqb _ _ n, and_false), simp (ne_eqb _ _ n, and_false))

module _ (flash eeprom : List ℕ) (a : ℕ) (fl : length flash ≡ 65536) (el : length eeprom ≡ 1024) where
  -- the eight cells of FLASH
  pub flash_row_shown : FlashRow a → Shows flash eeprom a 0 (take 8 (drop a flash))
  unfolding shown shown_number
  flash_row_shown m =
      let e = (read_legal a).0.1 m in (simp (eq-eqb _ _ fl, eq-eqb _ _ el, e), simp (eq-eqb _ _ fl, eq-eqb _ _ el, e))

  -- of EEPROM, whose first cell is 0xF00000
  pub eeprom_row_shown : EepromRow a → Shows flash eeprom a 0 (take 8 (drop (a - 0xF00000) eeprom))
  unfolding shown shown_number
  eeprom_row_shown m =
      let e = (read_legal a).1.1 m in (simp (eq-eqb _ _ fl, eq-eqb _ _ el, e), simp (eq-eqb _ _ fl, eq-eqb _ _ el, e))

  -- 8 at every other number
  pub no_row_shown : (FlashRow a → ⊥) → (EepromRow a → ⊥) → Shows flash eeprom a 8 []
  unfolding shown shown_number
  no_row_shown n n' =
      let e = (read_legal a).2 n n' in (simp (eq-eqb _ _ fl, eq-eqb _ _ el, e), simp (eq-eqb _ _ fl, eq-eqb _ _ el, e))
