-- Any two outcomes that a contract allows for one input are equal: the whole result. The contract is the generated `Reads`: nothing is
-- said of a body.
-- Assumes nothing.
use Rattle.std.proofs.Common.{◌≡◌, sym, ◌∙◌}
use contract.Lifetimes.{Lfts}
use borrow.Fn.World.{ArgsD, ResD}
use denote.Triple.Clauses.{AtExit}
use borrow.Fn.Kinds.{ended_of}
use Rattle.frame_rules.specs.contracts.Refusal.number.{signature as number-signature}
use Rattle.frame_rules.proofs.Refusal.number.Kinds as number-kinds
use Rattle.frame_rules.proofs.Refusal.number.Reads as number-reads

pub number_tight : (κs : Lfts 0) (a : ArgsD number-signature κs) (r r' : ResD number-signature κs)
    (s s' : AtExit (ended_of 0 number-kinds.ps number-kinds.r) κs)
    → number-reads.Post κs a r s → number-reads.Post κs a r' s' → r ≡ r'
number_tight κs a r r' s s' p q = p ∙ sym q
