-- Any two outcomes that a contract allows for one input are equal: the whole result, and the lent output afterwards. The contract is the
-- generated `Reads`: nothing is said of a body.
-- Assumes nothing.
use mathlib.Core.Path.{◌≡◌, ◌∙◌, sym}
use contract.Lifetimes.{Lfts}
use borrow.Fn.World.{ArgsD, ResD}
use denote.Triple.Clauses.{AtExit}
use borrow.Fn.Kinds.{ended_of}
use Rattle.frame_rules.proofs.Numbered.{number_injective}
use Rattle.frame_unwrap.specs.contracts.unwrap as unwrap
use Rattle.frame_unwrap.proofs.unwrap.Kinds as unwrap-kinds
use Rattle.frame_unwrap.proofs.unwrap.Reads as unwrap-reads

pub unwrap_tight : (κs : Lfts 2) (a : ArgsD unwrap.signature κs) (r r' : ResD unwrap.signature κs)
    (s s' : AtExit (ended_of 2 unwrap-kinds.ps unwrap-kinds.r) κs)
    → unwrap-reads.Post κs a r s → unwrap-reads.Post κs a r' s' → (r ≡ r') × (s.1.0.now ≡ s'.1.0.now)
unwrap_tight κs a r r' s s' p q = let e = number_injective r r' (p.0 ∙ sym q.0) in (e, p.1 ∙ rw e (sym q.1))
