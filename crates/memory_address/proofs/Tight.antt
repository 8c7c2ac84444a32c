-- Any two outcomes that a contract allows for one input are equal: the whole result.
-- The contracts are the generated `Reads`: nothing is said of a body.
use mathlib.Core.Path.{◌≡◌, ◌∙◌, sym}
use contract.Lifetimes.{Lfts}
use borrow.Fn.World.{ArgsD, ResD}
use denote.Triple.Clauses.{AtExit}
use borrow.Fn.Kinds.{ended_of}
use Rattle.memory_address.specs.contracts.rule.{signature as rule-signature}
use Rattle.memory_address.proofs.rule.Kinds as rule-kinds
use Rattle.memory_address.proofs.rule.Reads as rule-reads
use Rattle.memory_address.specs.contracts.legal_flash.{signature as legal-flash-signature}
use Rattle.memory_address.proofs.legal_flash.Kinds as legal-flash-kinds
use Rattle.memory_address.proofs.legal_flash.Reads as legal-flash-reads
use Rattle.memory_address.specs.contracts.legal_eeprom.{signature as legal-eeprom-signature}
use Rattle.memory_address.proofs.legal_eeprom.Kinds as legal-eeprom-kinds
use Rattle.memory_address.proofs.legal_eeprom.Reads as legal-eeprom-reads
use Rattle.memory_address.specs.contracts.Refusal.number.{signature as number-signature}
use Rattle.memory_address.proofs.Refusal.number.Kinds as number-kinds
use Rattle.memory_address.proofs.Refusal.number.Reads as number-reads

pub rule_tight : (κs : Lfts 0) (a : ArgsD rule-signature κs) (r r' : ResD rule-signature κs)
    (s s' : AtExit (ended_of 0 rule-kinds.ps rule-kinds.r) κs)
    → rule-reads.Post κs a r s → rule-reads.Post κs a r' s' → r ≡ r'
rule_tight κs a r r' s s' p q = p ∙ sym q

pub legal_flash_tight : (κs : Lfts 0) (a : ArgsD legal-flash-signature κs) (r r' : ResD legal-flash-signature κs)
    (s s' : AtExit (ended_of 0 legal-flash-kinds.ps legal-flash-kinds.r) κs)
    → legal-flash-reads.Post κs a r s → legal-flash-reads.Post κs a r' s' → r ≡ r'
legal_flash_tight κs a r r' s s' p q = p ∙ sym q

pub legal_eeprom_tight : (κs : Lfts 0) (a : ArgsD legal-eeprom-signature κs) (r r' : ResD legal-eeprom-signature κs)
    (s s' : AtExit (ended_of 0 legal-eeprom-kinds.ps legal-eeprom-kinds.r) κs)
    → legal-eeprom-reads.Post κs a r s → legal-eeprom-reads.Post κs a r' s' → r ≡ r'
legal_eeprom_tight κs a r r' s s' p q = p ∙ sym q

pub number_tight : (κs : Lfts 0) (a : ArgsD number-signature κs) (r r' : ResD number-signature κs)
    (s s' : AtExit (ended_of 0 number-kinds.ps number-kinds.r) κs)
    → number-reads.Post κs a r s → number-reads.Post κs a r' s' → r ≡ r'
number_tight κs a r r' s s' p q = p ∙ sym q
