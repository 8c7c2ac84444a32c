-- Any two outcomes that a contract allows for one input are equal: the whole result.
-- The contracts are the generated `Reads`: nothing is said of a body.
use mathlib.Core.Path.{◌≡◌, ◌∙◌, sym}
use contract.Lifetimes.{Lfts}
use borrow.Fn.World.{ArgsD, ResD}
use denote.Triple.Clauses.{AtExit}
use borrow.Fn.Kinds.{ended_of}
use Rattle.memory_start.specs.contracts.examine.{signature as examine-signature}
use Rattle.memory_start.proofs.examine.Kinds as examine-kinds
use Rattle.memory_start.proofs.examine.Reads as examine-reads
use Rattle.memory_start.specs.contracts.firmware_starts.{signature as firmware-starts-signature}
use Rattle.memory_start.proofs.firmware_starts.Kinds as firmware-starts-kinds
use Rattle.memory_start.proofs.firmware_starts.Reads as firmware-starts-reads

pub examine_tight : (κs : Lfts 1) (a : ArgsD examine-signature κs) (r r' : ResD examine-signature κs)
    (s s' : AtExit (ended_of 1 examine-kinds.ps examine-kinds.r) κs)
    → examine-reads.Post κs a r s → examine-reads.Post κs a r' s' → r ≡ r'
examine_tight κs a r r' s s' p q = p ∙ sym q

pub firmware_starts_tight : (κs : Lfts 1) (a : ArgsD firmware-starts-signature κs) (r r' : ResD firmware-starts-signature κs)
    (s s' : AtExit (ended_of 1 firmware-starts-kinds.ps firmware-starts-kinds.r) κs)
    → firmware-starts-reads.Post κs a r s → firmware-starts-reads.Post κs a r' s' → r ≡ r'
firmware_starts_tight κs a r r' s s' p q = p ∙ sym q
