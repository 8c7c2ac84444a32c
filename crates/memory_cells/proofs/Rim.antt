-- What the functions over a whole memory can't spoil, whatever address and bytes they are handed, over their real contracts (the generated
-- `Reads`). Each contract is one equation with a definition, whose laws are in `Laws`; a number but 0 is a memory left as it was.
-- Assumes nothing.
use mathlib.Core.Path.{◌≡◌, ◌∙◌, sym, ap, subst}
use contract.Lifetimes.{Lfts}
use borrow.Fn.World.{ArgsD, ResD}
use denote.Triple.Clauses.{AtExit}
use borrow.Fn.Kinds.{ended_of}
use lib.ListN.{length}
use Rattle.memory_address.specs.Rule.{number_of}
use Rattle.memory_cells.specs.Spared.{Spared}
use Rattle.memory_cells.proofs.Laws.{written_below_rim, written_protected, written_length, erased_below_rim, erased_protected, erased_length}
use Rattle.memory_cells.proofs.Laws.{eeprom_written_length, written_refused, erased_refused, eeprom_written_refused}
use Rattle.memory_cells.specs.contracts.write_flash.{signature as write-flash-signature}
use Rattle.memory_cells.proofs.write_flash.Kinds as write-flash-kinds
use Rattle.memory_cells.proofs.write_flash.Reads as write-flash-reads
use Rattle.memory_cells.specs.contracts.erase_flash.{signature as erase-flash-signature}
use Rattle.memory_cells.proofs.erase_flash.Kinds as erase-flash-kinds
use Rattle.memory_cells.proofs.erase_flash.Reads as erase-flash-reads
use Rattle.memory_cells.specs.contracts.write_eeprom.{signature as write-eeprom-signature}
use Rattle.memory_cells.proofs.write_eeprom.Kinds as write-eeprom-kinds
use Rattle.memory_cells.proofs.write_eeprom.Reads as write-eeprom-reads

-- ---- a write of FLASH

pub write_flash_spares : (κs : Lfts 1) (a : ArgsD write-flash-signature κs) (r : ResD write-flash-signature κs)
    (s : AtExit (ended_of 1 write-flash-kinds.ps write-flash-kinds.r) κs) → write-flash-reads.Post κs a r s
    → Spared a.0.now s.0.now × ((number_of r ≡ 0 → ⊥) → s.0.now ≡ a.0.now)
write_flash_spares κs a r s p =
    let m = a.0.now in
    let at = a.1.0.0 in
    let new = a.1.1.0 in (
      subst (Spared m) (sym p.1) (written_below_rim m at new, written_protected m at new, written_length m at new),
      λ h. p.1 ∙ written_refused m at new (λ z. h (p.0 ∙ z)),
    )

-- ---- an erase

pub erase_flash_spares : (κs : Lfts 1) (a : ArgsD erase-flash-signature κs) (r : ResD erase-flash-signature κs)
    (s : AtExit (ended_of 1 erase-flash-kinds.ps erase-flash-kinds.r) κs) → erase-flash-reads.Post κs a r s
    → Spared a.0.now s.0.now × ((number_of r ≡ 0 → ⊥) → s.0.now ≡ a.0.now)
erase_flash_spares κs a r s p =
    let m = a.0.now in
    let at = a.1.0.0 in (
      subst (Spared m) (sym p.1) (erased_below_rim m at, erased_protected m at, erased_length m at),
      λ h. p.1 ∙ erased_refused m at (λ z. h (p.0 ∙ z)),
    )

-- ---- a write of EEPROM: it is lent no FLASH

pub write_eeprom_spares : (κs : Lfts 1) (a : ArgsD write-eeprom-signature κs) (r : ResD write-eeprom-signature κs)
    (s : AtExit (ended_of 1 write-eeprom-kinds.ps write-eeprom-kinds.r) κs) → write-eeprom-reads.Post κs a r s
    → (length s.0.now ≡ length a.0.now) × ((number_of r ≡ 0 → ⊥) → s.0.now ≡ a.0.now)
write_eeprom_spares κs a r s p =
    let m = a.0.now in
    let place = a.1.0.0 in
    let new = a.1.1.0 in (
      ap length p.1 ∙ eeprom_written_length m place new,
      λ h. p.1 ∙ eeprom_written_refused m place new (λ z. h (p.0 ∙ z)),
    )
