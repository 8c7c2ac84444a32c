-- Any two outcomes that a contract allows for one input are equal: the whole result, and the lent output afterwards.
-- The contract is the generated `Reads`: nothing is said of a body.
use mathlib.Core.Path.{◌≡◌, ◌∙◌, sym}
use contract.Lifetimes.{Lfts}
use borrow.Fn.World.{ArgsD, ResD}
use denote.Triple.Clauses.{AtExit}
use borrow.Fn.Kinds.{ended_of}
use Rattle.differs_rules.proofs.Tight.{in_numbers_once}
use Rattle.differs_write.specs.contracts.differences.{signature as differences-signature}
use Rattle.differs_write.proofs.differences.Kinds as differences-kinds
use Rattle.differs_write.proofs.differences.Reads as differences-reads

pub differences_tight : (κs : Lfts 3) (a : ArgsD differences-signature κs) (r r' : ResD differences-signature κs)
    (s s' : AtExit (ended_of 3 differences-kinds.ps differences-kinds.r) κs)
    → differences-reads.Post κs a r s → differences-reads.Post κs a r' s'
    → (r ≡ r') × (s.1.1.0.now ≡ s'.1.1.0.now)
differences_tight κs a r r' s s' p q = (in_numbers_once r r' (p.0 ∙ sym q.0), p.1 ∙ sym q.1)
