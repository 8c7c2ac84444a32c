-- Any two outcomes that a contract allows for one input are equal: the whole result.
-- The contracts are the generated `Reads`: nothing is said of a body.
use mathlib.Core.Path.{◌≡◌, ◌∙◌, sym}
use contract.Lifetimes.{Lfts}
use borrow.Fn.World.{ArgsD, ResD}
use denote.Triple.Clauses.{AtExit}
use borrow.Fn.Kinds.{ended_of}
use Rattle.memory_sum.specs.contracts.firmware_sum.{signature as firmware-sum-signature}
use Rattle.memory_sum.proofs.firmware_sum.Kinds as firmware-sum-kinds
use Rattle.memory_sum.proofs.firmware_sum.Reads as firmware-sum-reads
use Rattle.memory_sum.specs.contracts.stored_sum.{signature as stored-sum-signature}
use Rattle.memory_sum.proofs.stored_sum.Kinds as stored-sum-kinds
use Rattle.memory_sum.proofs.stored_sum.Reads as stored-sum-reads

pub firmware_sum_tight : (κs : Lfts 1) (a : ArgsD firmware-sum-signature κs) (r r' : ResD firmware-sum-signature κs)
    (s s' : AtExit (ended_of 1 firmware-sum-kinds.ps firmware-sum-kinds.r) κs)
    → firmware-sum-reads.Post κs a r s → firmware-sum-reads.Post κs a r' s' → r ≡ r'
firmware_sum_tight κs a r r' s s' p q = p.0 ∙ sym q.0

pub stored_sum_tight : (κs : Lfts 1) (a : ArgsD stored-sum-signature κs) (r r' : ResD stored-sum-signature κs)
    (s s' : AtExit (ended_of 1 stored-sum-kinds.ps stored-sum-kinds.r) κs)
    → stored-sum-reads.Post κs a r s → stored-sum-reads.Post κs a r' s' → r ≡ r'
stored_sum_tight κs a r r' s s' p q = p ∙ sym q
