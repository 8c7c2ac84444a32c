-- Any two outcomes that a contract allows for one input are equal: the whole result, and what is lent to be changed, afterwards.
-- The contracts are the generated `Reads`: nothing is said of a body.
use mathlib.Core.Path.{◌≡◌, ◌∙◌, sym}
use contract.Lifetimes.{Lfts}
use borrow.Fn.World.{ArgsD, ResD}
use denote.Triple.Clauses.{AtExit}
use borrow.Fn.Kinds.{ended_of}
use Rattle.memory_address.proofs.Laws.{number_says}
use Rattle.memory_cells.specs.contracts.write_flash.{signature as write-flash-signature}
use Rattle.memory_cells.proofs.write_flash.Kinds as write-flash-kinds
use Rattle.memory_cells.proofs.write_flash.Reads as write-flash-reads
use Rattle.memory_cells.specs.contracts.erase_flash.{signature as erase-flash-signature}
use Rattle.memory_cells.proofs.erase_flash.Kinds as erase-flash-kinds
use Rattle.memory_cells.proofs.erase_flash.Reads as erase-flash-reads
use Rattle.memory_cells.specs.contracts.write_eeprom.{signature as write-eeprom-signature}
use Rattle.memory_cells.proofs.write_eeprom.Kinds as write-eeprom-kinds
use Rattle.memory_cells.proofs.write_eeprom.Reads as write-eeprom-reads

pub write_flash_tight : (κs : Lfts 1) (a : ArgsD write-flash-signature κs) (r r' : ResD write-flash-signature κs)
    (s s' : AtExit (ended_of 1 write-flash-kinds.ps write-flash-kinds.r) κs)
    → write-flash-reads.Post κs a r s → write-flash-reads.Post κs a r' s' → (r ≡ r') × (s.0.now ≡ s'.0.now)
write_flash_tight κs a r r' s s' p q = (number_says r r' (p.0 ∙ sym q.0), p.1 ∙ sym q.1)

pub erase_flash_tight : (κs : Lfts 1) (a : ArgsD erase-flash-signature κs) (r r' : ResD erase-flash-signature κs)
    (s s' : AtExit (ended_of 1 erase-flash-kinds.ps erase-flash-kinds.r) κs)
    → erase-flash-reads.Post κs a r s → erase-flash-reads.Post κs a r' s' → (r ≡ r') × (s.0.now ≡ s'.0.now)
erase_flash_tight κs a r r' s s' p q = (number_says r r' (p.0 ∙ sym q.0), p.1 ∙ sym q.1)

pub write_eeprom_tight : (κs : Lfts 1) (a : ArgsD write-eeprom-signature κs) (r r' : ResD write-eeprom-signature κs)
    (s s' : AtExit (ended_of 1 write-eeprom-kinds.ps write-eeprom-kinds.r) κs)
    → write-eeprom-reads.Post κs a r s → write-eeprom-reads.Post κs a r' s' → (r ≡ r') × (s.0.now ≡ s'.0.now)
write_eeprom_tight κs a r r' s s' p q = (number_says r r' (p.0 ∙ sym q.0), p.1 ∙ sym q.1)
