-- Any two outcomes that a contract allows for one input are equal: the whole result.
-- The contract is the generated `Reads`: nothing is said of a body.
use mathlib.Core.Path.{◌≡◌, ◌∙◌, sym}
use contract.Lifetimes.{Lfts}
use borrow.Fn.World.{ArgsD, ResD}
use denote.Triple.Clauses.{AtExit}
use borrow.Fn.Kinds.{ended_of}
use Rattle.node_frame.specs.contracts.type_of.{signature as type-of-signature}
use Rattle.node_frame.proofs.type_of.Kinds as type-of-kinds
use Rattle.node_frame.proofs.type_of.Reads as type-of-reads
use Rattle.node_frame.specs.contracts.is_deaf.{signature as is-deaf-signature}
use Rattle.node_frame.proofs.is_deaf.Kinds as is-deaf-kinds
use Rattle.node_frame.proofs.is_deaf.Reads as is-deaf-reads
use Rattle.node_frame.specs.contracts.full.{signature as full-signature}
use Rattle.node_frame.proofs.full.Kinds as full-kinds
use Rattle.node_frame.proofs.full.Reads as full-reads

pub type_of_tight : (κs : Lfts 1) (a : ArgsD type-of-signature κs) (r r' : ResD type-of-signature κs)
    (s s' : AtExit (ended_of 1 type-of-kinds.ps type-of-kinds.r) κs)
    → type-of-reads.Post κs a r s → type-of-reads.Post κs a r' s' → r ≡ r'
type_of_tight κs a r r' s s' p q = p.0 ∙ sym q.0

pub is_deaf_tight : (κs : Lfts 0) (a : ArgsD is-deaf-signature κs) (r r' : ResD is-deaf-signature κs)
    (s s' : AtExit (ended_of 0 is-deaf-kinds.ps is-deaf-kinds.r) κs)
    → is-deaf-reads.Post κs a r s → is-deaf-reads.Post κs a r' s' → r ≡ r'
is_deaf_tight κs a r r' s s' p q = p ∙ sym q

pub full_tight : (κs : Lfts 2) (a : ArgsD full-signature κs) (r r' : ResD full-signature κs)
    (s s' : AtExit (ended_of 2 full-kinds.ps full-kinds.r) κs)
    → full-reads.Post κs a r s → full-reads.Post κs a r' s' → r ≡ r'
full_tight κs a r r' s s' p q = p ∙ sym q
