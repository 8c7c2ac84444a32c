-- Any two outcomes that a contract allows for one input are equal: the whole result.
-- The contract is the generated `Reads`: nothing is said of a body.
use mathlib.Core.Path.{◌≡◌, ◌∙◌, sym}
use contract.Lifetimes.{Lfts}
use borrow.Fn.World.{ArgsD, ResD}
use denote.Triple.Clauses.{AtExit}
use borrow.Fn.Kinds.{ended_of}
use Rattle.recipe_address.specs.contracts.address_of.{signature as address-signature}
use Rattle.recipe_address.proofs.address_of.Kinds as address-kinds
use Rattle.recipe_address.proofs.address_of.Reads as address-reads

pub address_of_tight : (κs : Lfts 1) (a : ArgsD address-signature κs) (r r' : ResD address-signature κs)
    (s s' : AtExit (ended_of 1 address-kinds.ps address-kinds.r) κs)
    → address-reads.Post κs a r s → address-reads.Post κs a r' s' → r ≡ r'
address_of_tight κs a r r' s s' p q = p.0 ∙ sym q.0
