-- Any two outcomes that a contract allows for one input are equal. The contract is the generated `Reads`: nothing is said of a body.
use mathlib.Core.Path.{◌≡◌, ◌∙◌, sym}
use contract.Lifetimes.{Lfts}
use borrow.Fn.World.{ArgsD, ResD}
use denote.Triple.Clauses.{AtExit}
use borrow.Fn.Kinds.{ended_of}
use Rattle.node_gather.specs.contracts.gather.{signature as gather-signature}
use Rattle.node_gather.proofs.gather.Kinds as gather-kinds
use Rattle.node_gather.proofs.gather.Reads as gather-reads

pub gather_tight : (κs : Lfts 1) (a : ArgsD gather-signature κs) (r r' : ResD gather-signature κs)
    (s s' : AtExit (ended_of 1 gather-kinds.ps gather-kinds.r) κs)
    → gather-reads.Post κs a r s → gather-reads.Post κs a r' s' → r ≡ r'
gather_tight κs a r r' s s' p q = p ∙ sym q
