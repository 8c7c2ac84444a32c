-- Any two outcomes that a contract allows for one input are equal: the whole result, and the lent output afterwards. The contract is the
-- generated `Reads`: nothing is said of a body.
-- Assumes nothing.
use mathlib.Core.Path.{◌≡◌, ◌∙◌, sym}
use contract.Lifetimes.{Lfts}
use borrow.Fn.World.{ArgsD, ResD}
use denote.Triple.Clauses.{AtExit}
use borrow.Fn.Kinds.{ended_of}
use Rattle.frame_rules.proofs.Numbered.{number_injective}
use Rattle.frame_to_hapcan.specs.contracts.to_hapcan as to-hapcan
use Rattle.frame_to_hapcan.proofs.to_hapcan.Kinds as to-hapcan-kinds
use Rattle.frame_to_hapcan.proofs.to_hapcan.Reads as to-hapcan-reads

pub to_hapcan_tight : (κs : Lfts 2) (a : ArgsD to-hapcan.signature κs) (r r' : ResD to-hapcan.signature κs)
    (s s' : AtExit (ended_of 2 to-hapcan-kinds.ps to-hapcan-kinds.r) κs)
    → to-hapcan-reads.Post κs a r s → to-hapcan-reads.Post κs a r' s' → (r ≡ r') × (s.1.1.0.now ≡ s'.1.1.0.now)
to_hapcan_tight κs a r r' s s' p q = let e = number_injective r r' (p.0 ∙ sym q.0) in (e, p.1 ∙ rw e (sym q.1))
