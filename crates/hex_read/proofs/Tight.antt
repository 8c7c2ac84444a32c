-- Any two outcomes that a contract allows for one input are equal: the whole result, and the lent output afterwards.
-- The contract is the generated `Reads`: nothing is said of a body.
use mathlib.Core.Path.{◌≡◌, ◌∙◌, sym}
use contract.Lifetimes.{Lfts}
use borrow.Fn.World.{ArgsD, ResD}
use denote.Triple.Clauses.{AtExit}
use borrow.Fn.Kinds.{ended_of}
use Rattle.hex_rules.proofs.Numbered.{answer_once}
use Rattle.hex_read.specs.contracts.convert.{signature as convert-signature}
use Rattle.hex_read.proofs.convert.Kinds as convert-kinds
use Rattle.hex_read.proofs.convert.Reads as convert-reads

pub convert_tight : (κs : Lfts 2) (a : ArgsD convert-signature κs) (r r' : ResD convert-signature κs)
    (s s' : AtExit (ended_of 2 convert-kinds.ps convert-kinds.r) κs)
    → convert-reads.Post κs a r s → convert-reads.Post κs a r' s' → (r ≡ r') × (s.1.1.0.now ≡ s'.1.1.0.now)
convert_tight κs a r r' s s' p q = (answer_once r r' (p.0 ∙ sym q.0), p.1 ∙ sym q.1)
