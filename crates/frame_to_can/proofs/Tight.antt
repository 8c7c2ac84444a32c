-- Any two outcomes that a contract allows for one input are equal: the whole result, and the lent output afterwards. The contract is the
-- generated `Reads`: nothing is said of a body.
-- Assumes nothing.
use mathlib.Core.Path.{◌≡◌, ◌∙◌, sym}
use contract.Lifetimes.{Lfts}
use borrow.Fn.World.{ArgsD, ResD}
use denote.Triple.Clauses.{AtExit}
use borrow.Fn.Kinds.{ended_of}
use Rattle.frame_rules.proofs.Numbered.{identified_injective}
use Rattle.frame_to_can.specs.contracts.to_can as to-can
use Rattle.frame_to_can.proofs.to_can.Kinds as to-can-kinds
use Rattle.frame_to_can.proofs.to_can.Reads as to-can-reads

pub to_can_tight : (κs : Lfts 2) (a : ArgsD to-can.signature κs) (r r' : ResD to-can.signature κs)
    (s s' : AtExit (ended_of 2 to-can-kinds.ps to-can-kinds.r) κs)
    → to-can-reads.Post κs a r s → to-can-reads.Post κs a r' s' → (r ≡ r') × (s.1.0.now ≡ s'.1.0.now)
to_can_tight κs a r r' s s' p q = let e = identified_injective r r' (p.0 ∙ sym q.0) in (e, p.1 ∙ rw e (sym q.1))
