-- Any two outcomes that a contract allows for one input are equal: the whole result.
-- The contract is the generated `Reads`: nothing is said of a body.
use mathlib.Core.Path.{◌≡◌, ◌∙◌, sym}
use contract.Lifetimes.{Lfts}
use borrow.Fn.World.{ArgsD, ResD}
use denote.Triple.Clauses.{AtExit}
use borrow.Fn.Kinds.{ended_of}
use Rattle.node_reply.specs.contracts.replies.{signature as replies-signature}
use Rattle.node_reply.proofs.replies.Kinds as replies-kinds
use Rattle.node_reply.proofs.replies.Reads as replies-reads

pub replies_tight : (κs : Lfts 3) (a : ArgsD replies-signature κs) (r r' : ResD replies-signature κs)
    (s s' : AtExit (ended_of 3 replies-kinds.ps replies-kinds.r) κs)
    → replies-reads.Post κs a r s → replies-reads.Post κs a r' s' → r ≡ r'
replies_tight κs a r r' s s' p q = p ∙ sym q
