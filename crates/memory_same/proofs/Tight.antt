-- Any two outcomes that a contract allows for one input are equal. The contract is the generated `Reads`: nothing is said of a body.
use mathlib.Core.Path.{◌≡◌, ◌∙◌, sym}
use contract.Lifetimes.{Lfts}
use borrow.Fn.World.{ArgsD, ResD}
use denote.Triple.Clauses.{AtExit}
use borrow.Fn.Kinds.{ended_of}
use Rattle.memory_same.specs.contracts.same.{signature as same_signature}
use Rattle.memory_same.proofs.same.Kinds as same-kinds
use Rattle.memory_same.proofs.same.Reads as same_Reads

pub same_tight : (κs : Lfts 2) (a : ArgsD same_signature κs) (r r' : ResD same_signature κs)
    (s s' : AtExit (ended_of 2 same-kinds.ps same-kinds.r) κs) → same_Reads.Post κs a r s → same_Reads.Post κs a r' s' → r ≡ r'
same_tight κs a r r' s s' p q = p ∙ sym q
