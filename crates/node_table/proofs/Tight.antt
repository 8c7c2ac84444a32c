-- Any two outcomes that the contract allows for one input are equal: the whole result.
-- The contract is the generated `Reads`: nothing is said of a body.
use mathlib.Core.Path.{◌≡◌, ◌∙◌, sym}
use contract.Lifetimes.{Lfts}
use borrow.Fn.World.{ArgsD, ResD}
use denote.Triple.Clauses.{AtExit}
use borrow.Fn.Kinds.{ended_of}
use Rattle.node_table.specs.contracts.look_up.{signature as look-up-signature}
use Rattle.node_table.proofs.look_up.Kinds as look-up-kinds
use Rattle.node_table.proofs.look_up.Reads as look-up-reads

pub look_up_tight : (κs : Lfts 0) (a : ArgsD look-up-signature κs) (r r' : ResD look-up-signature κs)
    (s s' : AtExit (ended_of 0 look-up-kinds.ps look-up-kinds.r) κs)
    → look-up-reads.Post κs a r s → look-up-reads.Post κs a r' s' → r ≡ r'
look_up_tight κs a r r' s s' p q = p ∙ sym q
