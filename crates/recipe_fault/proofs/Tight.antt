-- Any two outcomes that a contract allows for one input are equal: the whole result.
-- The contract is the generated `Reads`: nothing is said of a body.
use mathlib.Core.Path.{◌≡◌, ◌∙◌, sym}
use contract.Lifetimes.{Lfts}
use borrow.Fn.World.{ArgsD, ResD}
use denote.Triple.Clauses.{AtExit}
use borrow.Fn.Kinds.{ended_of}
use Rattle.recipe_fault.specs.contracts.fault_at.{signature as fault-signature}
use Rattle.recipe_fault.proofs.fault_at.Kinds as fault-kinds
use Rattle.recipe_fault.proofs.fault_at.Reads as fault-reads
use Rattle.recipe.proofs.Tight.{found_number_once}
use Rattle.recipe_fault.specs.contracts.size_of_kind.{signature as size-signature}
use Rattle.recipe_fault.proofs.size_of_kind.Kinds as size-kinds
use Rattle.recipe_fault.proofs.size_of_kind.Reads as size-reads

pub fault_at_tight : (κs : Lfts 1) (a : ArgsD fault-signature κs) (r r' : ResD fault-signature κs)
    (s s' : AtExit (ended_of 1 fault-kinds.ps fault-kinds.r) κs)
    → fault-reads.Post κs a r s → fault-reads.Post κs a r' s' → r ≡ r'
fault_at_tight κs a r r' s s' p q = found_number_once r r' (p ∙ sym q)

pub size_of_kind_tight : (κs : Lfts 0) (a : ArgsD size-signature κs) (r r' : ResD size-signature κs)
    (s s' : AtExit (ended_of 0 size-kinds.ps size-kinds.r) κs)
    → size-reads.Post κs a r s → size-reads.Post κs a r' s' → r ≡ r'
size_of_kind_tight κs a r r' s s' p q = p.0 ∙ sym q.0
