-- Any two outcomes that a contract allows for one input are equal: the whole result.
-- The contract is the generated `Reads`: nothing is said of a body.
use Prim.Native.Nat.{ℕ}
use mathlib.Core.Path.{◌≡◌, ◌∙◌, sym}
use contract.Lifetimes.{Lfts}
use borrow.Fn.World.{ArgsD, ResD}
use denote.Triple.Clauses.{AtExit}
use denote.Param.{number}
use mir.Syntax.{w64}
use mir.Val.{Fits}
use borrow.Fn.Kinds.{ended_of}
use Rattle.run_record.specs.contracts.bytes_of.{signature as bytes-of-signature}
use Rattle.run_record.proofs.bytes_of.Kinds as bytes-of-kinds
use Rattle.run_record.proofs.bytes_of.Reads as bytes-of-reads
use Rattle.run_record.specs.contracts.begun.pin.{signature as pin-signature}
use Rattle.run_record.proofs.begun.pin.Kinds as pin-kinds
use Rattle.run_record.proofs.begun.pin.Reads as pin-reads
use Rattle.run_record.specs.contracts.begun.staged.{signature as staged-signature}
use Rattle.run_record.proofs.begun.staged.Kinds as staged-kinds
use Rattle.run_record.proofs.begun.staged.Reads as staged-reads
use Rattle.run_record.specs.contracts.begun.way.{signature as way-signature}
use Rattle.run_record.proofs.begun.way.Kinds as way-kinds
use Rattle.run_record.proofs.begun.way.Reads as way-reads
use Rattle.run_record.specs.contracts.told as told
use Rattle.run_record.proofs.told.Kinds as told-kinds
use Rattle.run_record.proofs.told.Reads as told-reads

pub bytes_of_tight : (κs : Lfts 0) (a : ArgsD bytes-of-signature κs) (r r' : ResD bytes-of-signature κs)
    (s s' : AtExit (ended_of 0 bytes-of-kinds.ps bytes-of-kinds.r) κs)
    → bytes-of-reads.Post κs a r s → bytes-of-reads.Post κs a r' s' → r ≡ r'
bytes_of_tight κs a r r' s s' p q = p ∙ sym q

-- whatever the room of the replies
pub told_tight : (n : ℕ) (fits : Fits w64 n) (κs : Lfts 1) (a : ArgsD (told.signature (number n)) κs)
    (r r' : ResD (told.signature (number n)) κs) (s s' : AtExit (ended_of 1 (told-kinds.ps n fits) (told-kinds.r n fits)) κs)
    → told-reads.Post n fits κs a r s → told-reads.Post n fits κs a r' s' → r ≡ r'
told_tight n fits κs a r r' s s' p q = p ∙ sym q

pub pin_tight : (κs : Lfts 0) (a : ArgsD pin-signature κs) (r r' : ResD pin-signature κs)
    (s s' : AtExit (ended_of 0 pin-kinds.ps pin-kinds.r) κs)
    → pin-reads.Post κs a r s → pin-reads.Post κs a r' s' → r ≡ r'
pin_tight κs a r r' s s' p q = p ∙ sym q

pub staged_tight : (κs : Lfts 0) (a : ArgsD staged-signature κs) (r r' : ResD staged-signature κs)
    (s s' : AtExit (ended_of 0 staged-kinds.ps staged-kinds.r) κs)
    → staged-reads.Post κs a r s → staged-reads.Post κs a r' s' → r ≡ r'
staged_tight κs a r r' s s' p q = p ∙ sym q

pub way_tight : (κs : Lfts 0) (a : ArgsD way-signature κs) (r r' : ResD way-signature κs)
    (s s' : AtExit (ended_of 0 way-kinds.ps way-kinds.r) κs)
    → way-reads.Post κs a r s → way-reads.Post κs a r' s' → r ≡ r'
way_tight κs a r r' s s' p q = p ∙ sym q
