-- Any two outcomes that a contract allows for one input are equal: the cells afterwards; the leaves return nothing.
-- The contracts are the generated `Reads`: nothing is said of a body.
use mathlib.Core.Path.{◌≡◌, ◌∙◌, sym}
use contract.Lifetimes.{Lfts}
use borrow.Fn.World.{ArgsD, ResD}
use denote.Triple.Clauses.{AtExit}
use borrow.Fn.Kinds.{ended_of}
use Rattle.memory_leaves.specs.contracts.write_flash_cells.{signature as write-flash-cells-signature}
use Rattle.memory_leaves.proofs.write_flash_cells.Kinds as write-flash-cells-kinds
use Rattle.memory_leaves.proofs.write_flash_cells.Reads as write-flash-cells-reads
use Rattle.memory_leaves.specs.contracts.write_eeprom_cells.{signature as write-eeprom-cells-signature}
use Rattle.memory_leaves.proofs.write_eeprom_cells.Kinds as write-eeprom-cells-kinds
use Rattle.memory_leaves.proofs.write_eeprom_cells.Reads as write-eeprom-cells-reads
use Rattle.memory_leaves.specs.contracts.erase_cells.{signature as erase-cells-signature}
use Rattle.memory_leaves.proofs.erase_cells.Kinds as erase-cells-kinds
use Rattle.memory_leaves.proofs.erase_cells.Reads as erase-cells-reads

pub write_flash_cells_tight : (κs : Lfts 2) (a : ArgsD write-flash-cells-signature κs) (r r' : ResD write-flash-cells-signature κs)
    (s s' : AtExit (ended_of 2 write-flash-cells-kinds.ps write-flash-cells-kinds.r) κs)
    → write-flash-cells-reads.Post κs a r s → write-flash-cells-reads.Post κs a r' s' → s.0.now ≡ s'.0.now
write_flash_cells_tight κs a r r' s s' p q = p ∙ sym q

pub write_eeprom_cells_tight : (κs : Lfts 2) (a : ArgsD write-eeprom-cells-signature κs) (r r' : ResD write-eeprom-cells-signature κs)
    (s s' : AtExit (ended_of 2 write-eeprom-cells-kinds.ps write-eeprom-cells-kinds.r) κs)
    → write-eeprom-cells-reads.Post κs a r s → write-eeprom-cells-reads.Post κs a r' s' → s.0.now ≡ s'.0.now
write_eeprom_cells_tight κs a r r' s s' p q = p ∙ sym q

pub erase_cells_tight : (κs : Lfts 1) (a : ArgsD erase-cells-signature κs) (r r' : ResD erase-cells-signature κs)
    (s s' : AtExit (ended_of 1 erase-cells-kinds.ps erase-cells-kinds.r) κs)
    → erase-cells-reads.Post κs a r s → erase-cells-reads.Post κs a r' s' → s.0.now ≡ s'.0.now
erase_cells_tight κs a r r' s s' p q = p ∙ sym q
