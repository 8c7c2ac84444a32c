-- Any two outcomes that the contract allows for one input are equal: the whole result.
-- The contract is the generated `Reads`: nothing is said of a body.
use mathlib.Core.Path.{◌≡◌, ◌∙◌, sym}
use contract.Lifetimes.{Lfts}
use borrow.Fn.World.{ArgsD, ResD}
use denote.Triple.Clauses.{AtExit}
use borrow.Fn.Kinds.{ended_of}
use Rattle.node_rules.proofs.InNumbers.{same_effect}
use Rattle.node_decide.specs.contracts.decide.{signature as decide-signature}
use Rattle.node_decide.proofs.decide.Kinds as decide-kinds
use Rattle.node_decide.proofs.decide.Reads as decide-reads

pub decide_tight : (κs : Lfts 1) (a : ArgsD decide-signature κs) (r r' : ResD decide-signature κs)
    (s s' : AtExit (ended_of 1 decide-kinds.ps decide-kinds.r) κs)
    → decide-reads.Post κs a r s → decide-reads.Post κs a r' s' → r ≡ r'
decide_tight κs a r r' s s' p q = same_effect r r' (p ∙ sym q)
