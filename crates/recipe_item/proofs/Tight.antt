-- Any two outcomes that a contract allows for one input are equal: the whole result, and what is lent to be changed, afterwards.
-- The contract is the generated `Reads`: nothing is said of a body.
use mathlib.Core.Path.{◌≡◌, ◌∙◌, sym}
use contract.Lifetimes.{Lfts}
use borrow.Fn.World.{ArgsD, ResD}
use denote.Triple.Clauses.{AtExit}
use borrow.Fn.Kinds.{ended_of}
use Rattle.recipe_item.specs.contracts.put_item.{signature as item-signature}
use Rattle.recipe_item.proofs.put_item.Kinds as item-kinds
use Rattle.recipe_item.proofs.put_item.Reads as item-reads

pub put_item_tight : (κs : Lfts 2) (a : ArgsD item-signature κs) (r r' : ResD item-signature κs)
    (s s' : AtExit (ended_of 2 item-kinds.ps item-kinds.r) κs)
    → item-reads.Post κs a r s → item-reads.Post κs a r' s' → s.1.1.0.now ≡ s'.1.1.0.now
put_item_tight κs a r r' s s' p q = p ∙ sym q
