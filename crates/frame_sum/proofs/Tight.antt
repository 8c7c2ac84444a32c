-- Any two outcomes that a contract allows for one input are equal: the whole result. The contract is the
-- generated `Reads`: nothing is said of a body.
-- Assumes nothing.
use Rattle.std.proofs.Common.{◌≡◌, sym, ◌∙◌}
use contract.Lifetimes.{Lfts}
use borrow.Fn.World.{ArgsD, ResD}
use denote.Triple.Clauses.{AtExit}
use borrow.Fn.Kinds.{ended_of}
use Rattle.frame_sum.specs.contracts.sum_of.{signature as sum-of-signature}
use Rattle.frame_sum.proofs.sum_of.Kinds as sum-of-kinds
use Rattle.frame_sum.proofs.sum_of.Reads as sum-of-reads

pub sum_of_tight : (κs : Lfts 1) (a : ArgsD sum-of-signature κs) (r r' : ResD sum-of-signature κs)
    (s s' : AtExit (ended_of 1 sum-of-kinds.ps sum-of-kinds.r) κs)
    → sum-of-reads.Post κs a r s → sum-of-reads.Post κs a r' s' → r ≡ r'
sum_of_tight κs a r r' s s' p q = p ∙ sym q
