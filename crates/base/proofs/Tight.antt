-- Any two outcomes that a contract allows for one input are equal. The contracts are the generated `Reads`: nothing is said of a body.
use mathlib.Core.Path.{◌≡◌, ◌∙◌, sym}
use contract.Lifetimes.{Lfts}
use borrow.Fn.World.{ArgsD, ResD}
use denote.Triple.Clauses.{AtExit}
use borrow.Fn.Kinds.{ended_of}
use Rattle.base.specs.contracts.byte_at as byte_at
use Rattle.base.proofs.byte_at.Kinds as byte-at-kinds
use Rattle.base.proofs.byte_at.Reads as byte-at-reads
use Rattle.base.specs.contracts.eight as eight
use Rattle.base.proofs.eight.Kinds as eight-kinds
use Rattle.base.proofs.eight.Reads as eight-reads
use Rattle.base.specs.contracts.put as put
use Rattle.base.proofs.put.Kinds as put-kinds
use Rattle.base.proofs.put.Reads as put_reads

pub byte_at_tight : (κs : Lfts 1) (a : ArgsD byte_at.signature κs) (r r' : ResD byte_at.signature κs)
    (s s' : AtExit (ended_of 1 byte-at-kinds.ps byte-at-kinds.r) κs)
    → byte-at-reads.Post κs a r s → byte-at-reads.Post κs a r' s' → r ≡ r'
byte_at_tight κs a r r' s s' p q = p ∙ sym q

pub eight_tight : (κs : Lfts 1) (a : ArgsD eight.signature κs) (r r' : ResD eight.signature κs)
    (s s' : AtExit (ended_of 1 eight-kinds.ps eight-kinds.r) κs)
    → eight-reads.Post κs a r s → eight-reads.Post κs a r' s' → r ≡ r'
eight_tight κs a r r' s s' p q = p ∙ sym q

pub put_tight : (κs : Lfts 2) (a : ArgsD put.signature κs) (r r' : ResD put.signature κs)
    (s s' : AtExit (ended_of 2 put-kinds.ps put-kinds.r) κs)
    → put_reads.Post κs a r s → put_reads.Post κs a r' s' → s.0.now ≡ s'.0.now
put_tight κs a r r' s s' p q = p ∙ sym q
