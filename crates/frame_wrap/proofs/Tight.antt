-- Any two outcomes that a contract allows for one input are equal: the whole result, and the lent output afterwards. The contract is the
-- generated `Reads`: nothing is said of a body.
-- Assumes nothing.
use mathlib.Core.Path.{◌≡◌, ◌∙◌, sym}
use contract.Lifetimes.{Lfts}
use borrow.Fn.World.{ArgsD, ResD}
use denote.Triple.Clauses.{AtExit}
use borrow.Fn.Kinds.{ended_of}
use Rattle.frame_rules.proofs.Numbered.{number_injective}
use Rattle.frame_wrap.specs.contracts.wrap as wrap
use Rattle.frame_wrap.proofs.wrap.Kinds as wrap-kinds
use Rattle.frame_wrap.proofs.wrap.Reads as wrap-reads

pub wrap_tight : (κs : Lfts 2) (a : ArgsD wrap.signature κs) (r r' : ResD wrap.signature κs)
    (s s' : AtExit (ended_of 2 wrap-kinds.ps wrap-kinds.r) κs)
    → wrap-reads.Post κs a r s → wrap-reads.Post κs a r' s' → (r ≡ r') × (s.1.0.now ≡ s'.1.0.now)
wrap_tight κs a r r' s s' p q = let e = number_injective r r' (p.0 ∙ sym q.0) in (e, p.1 ∙ rw e (sym q.1))
