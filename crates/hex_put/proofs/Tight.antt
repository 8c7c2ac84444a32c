-- Any two outcomes that a contract allows for one input are equal: the whole result, and the lent output afterwards.
-- The contract is the generated `Reads`: nothing is said of a body.
use mathlib.Core.Path.{◌≡◌, ◌∙◌, sym}
use contract.Lifetimes.{Lfts}
use borrow.Fn.World.{ArgsD, ResD}
use denote.Triple.Clauses.{AtExit}
use borrow.Fn.Kinds.{ended_of}
use Rattle.hex_put.specs.contracts.put.{signature as put-signature}
use Rattle.hex_put.proofs.put.Kinds as put-kinds
use Rattle.hex_put.proofs.put.Reads as put_reads

pub put_tight : (κs : Lfts 2) (a : ArgsD put-signature κs) (r r' : ResD put-signature κs)
    (s s' : AtExit (ended_of 2 put-kinds.ps put-kinds.r) κs)
    → put_reads.Post κs a r s → put_reads.Post κs a r' s' → (r ≡ r') × (s.1.1.0.now ≡ s'.1.1.0.now)
put_tight κs a r r' s s' p q = (p.0 ∙ sym q.0, p.1 ∙ sym q.1)
