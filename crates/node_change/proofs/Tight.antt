-- Any two outcomes that a contract allows for one input are equal: the whole result, and what is lent to be changed, afterwards.
-- The contract is the generated `Reads`: nothing is said of a body.
use mathlib.Core.Path.{◌≡◌, ◌∙◌, sym}
use contract.Lifetimes.{Lfts}
use borrow.Fn.World.{ArgsD, ResD}
use denote.Triple.Clauses.{AtExit}
use borrow.Fn.Kinds.{ended_of}
use Rattle.node_change.specs.contracts.change.{signature as change-signature}
use Rattle.node_change.proofs.change.Kinds as change-kinds
use Rattle.node_change.proofs.change.Reads as change-reads

pub change_tight : (κs : Lfts 3) (a : ArgsD change-signature κs) (r r' : ResD change-signature κs)
    (s s' : AtExit (ended_of 3 change-kinds.ps change-kinds.r) κs)
    → change-reads.Post κs a r s → change-reads.Post κs a r' s'
    → (s.1.1.0.now ≡ s'.1.1.0.now) × (s.1.1.1.0.now ≡ s'.1.1.1.0.now)
change_tight κs a r r' s s' p q = (p.0 ∙ sym q.0, p.1 ∙ sym q.1)
