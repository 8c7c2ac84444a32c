-- Any two outcomes that a contract allows for one input are equal: the whole result.
-- The contracts are the generated `Reads`: nothing is said of a body.
use mathlib.Core.Path.{◌≡◌, ◌∙◌, sym}
use contract.Lifetimes.{Lfts}
use borrow.Fn.World.{ArgsD, ResD}
use denote.Triple.Clauses.{AtExit}
use borrow.Fn.Kinds.{ended_of}
use Rattle.node_rules.proofs.InNumbers.{same_effect}
use Rattle.node_request.specs.contracts.refuse.{signature as refuse-signature}
use Rattle.node_request.proofs.refuse.Kinds as refuse-kinds
use Rattle.node_request.proofs.refuse.Reads as refuse-reads
use Rattle.node_request.specs.contracts.afterwards.{signature as afterwards-signature}
use Rattle.node_request.proofs.afterwards.Kinds as afterwards-kinds
use Rattle.node_request.proofs.afterwards.Reads as afterwards-reads
use Rattle.node_request.specs.contracts.asked_by.{signature as asked-by-signature}
use Rattle.node_request.proofs.asked_by.Kinds as asked-by-kinds
use Rattle.node_request.proofs.asked_by.Reads as asked-by-reads

pub refuse_tight : (κs : Lfts 0) (a : ArgsD refuse-signature κs) (r r' : ResD refuse-signature κs)
    (s s' : AtExit (ended_of 0 refuse-kinds.ps refuse-kinds.r) κs)
    → refuse-reads.Post κs a r s → refuse-reads.Post κs a r' s' → r ≡ r'
refuse_tight κs a r r' s s' p q = p ∙ sym q

pub afterwards_tight : (κs : Lfts 0) (a : ArgsD afterwards-signature κs) (r r' : ResD afterwards-signature κs)
    (s s' : AtExit (ended_of 0 afterwards-kinds.ps afterwards-kinds.r) κs)
    → afterwards-reads.Post κs a r s → afterwards-reads.Post κs a r' s' → r ≡ r'
afterwards_tight κs a r r' s s' p q = p ∙ sym q

pub asked_by_tight : (κs : Lfts 1) (a : ArgsD asked-by-signature κs) (r r' : ResD asked-by-signature κs)
    (s s' : AtExit (ended_of 1 asked-by-kinds.ps asked-by-kinds.r) κs)
    → asked-by-reads.Post κs a r s → asked-by-reads.Post κs a r' s' → r ≡ r'
asked_by_tight κs a r r' s s' p q = same_effect r r' (p ∙ sym q)
