-- Any two outcomes that a contract allows for one input are equal: the whole result.
-- The contract is the generated `Reads`: nothing is said of a body.
-- Assumes nothing.
use mathlib.Core.Path.{◌≡◌, ◌∙◌, sym}
use contract.Lifetimes.{Lfts}
use borrow.Fn.World.{ArgsD, ResD}
use denote.Triple.Clauses.{AtExit}
use borrow.Fn.Kinds.{ended_of}
use Rattle.hex_line.specs.contracts.line_at.{signature as line-at-signature}
use Rattle.hex_line.proofs.line_at.Kinds as line-at-kinds
use Rattle.hex_line.proofs.line_at.Reads as line-at-reads

pub line_at_tight : (κs : Lfts 1) (a : ArgsD line-at-signature κs) (r r' : ResD line-at-signature κs)
    (s s' : AtExit (ended_of 1 line-at-kinds.ps line-at-kinds.r) κs)
    → line-at-reads.Post κs a r s → line-at-reads.Post κs a r' s' → r ≡ r'
line_at_tight κs a r r' s s' p q = p ∙ sym q
