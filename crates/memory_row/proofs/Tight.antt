-- Any two outcomes that a contract allows for one input are equal: the whole result. Of a part that is its cells, and where they lie.
-- (The logic's own name of a reference, which no program sees, is new with each call.)
-- The contracts are the generated `Reads`: nothing is said of a body.
use mathlib.Core.Path.{◌≡◌, ◌∙◌, sym}
use contract.Lifetimes.{Lfts}
use borrow.Fn.World.{ArgsD, ResD}
use denote.Triple.Clauses.{AtExit}
use borrow.Fn.Kinds.{ended_of}
use Rattle.memory_row.specs.contracts.show_row.{signature as show-row-signature}
use Rattle.memory_row.proofs.show_row.Kinds as show-row-kinds
use Rattle.memory_row.proofs.show_row.Reads as show-row-reads
use Rattle.memory_row.specs.contracts.show_number.{signature as show-number-signature}
use Rattle.memory_row.proofs.show_number.Kinds as show-number-kinds
use Rattle.memory_row.proofs.show_number.Reads as show-number-reads

pub show_row_tight : (κs : Lfts 1) (a : ArgsD show-row-signature κs) (r r' : ResD show-row-signature κs)
    (s s' : AtExit (ended_of 1 show-row-kinds.ps show-row-kinds.r) κs)
    → show-row-reads.Post κs a r s → show-row-reads.Post κs a r' s' → (r.now ≡ r'.now) × (r.ref_ptr ≡ r'.ref_ptr)
show_row_tight κs a r r' s s' p q = (p.0 ∙ sym q.0, p.1 ∙ sym q.1)

pub show_number_tight : (κs : Lfts 2) (a : ArgsD show-number-signature κs) (r r' : ResD show-number-signature κs)
    (s s' : AtExit (ended_of 2 show-number-kinds.ps show-number-kinds.r) κs)
    → show-number-reads.Post κs a r s → show-number-reads.Post κs a r' s' → r ≡ r'
show_number_tight κs a r r' s s' p q = p ∙ sym q
