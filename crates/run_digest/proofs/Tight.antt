-- Any two outcomes that a contract allows for one input are equal: the whole result.
-- The contract is the generated `Reads`: nothing is said of a body.
use mathlib.Core.Path.{◌≡◌, ◌∙◌, sym}
use contract.Lifetimes.{Lfts}
use borrow.Fn.World.{ArgsD, ResD}
use denote.Triple.Clauses.{AtExit}
use borrow.Fn.Kinds.{ended_of}
use Rattle.run_digest.specs.contracts.with_bytes.{signature as with-bytes-signature}
use Rattle.run_digest.proofs.with_bytes.Kinds as with-bytes-kinds
use Rattle.run_digest.proofs.with_bytes.Reads as with-bytes-reads

pub with_bytes_tight : (κs : Lfts 1) (a : ArgsD with-bytes-signature κs) (r r' : ResD with-bytes-signature κs)
    (s s' : AtExit (ended_of 1 with-bytes-kinds.ps with-bytes-kinds.r) κs)
    → with-bytes-reads.Post κs a r s → with-bytes-reads.Post κs a r' s' → r ≡ r'
with_bytes_tight κs a r r' s s' p q = p ∙ sym q
