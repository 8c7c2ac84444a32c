-- Any two outcomes that a contract allows for one input are equal. The contracts are the generated `Reads`: nothing is said of a body.
use mathlib.Core.Path.{◌≡◌, ◌∙◌, sym}
use contract.Lifetimes.{Lfts}
use borrow.Fn.World.{ArgsD, ResD}
use denote.Triple.Clauses.{AtExit}
use borrow.Fn.Kinds.{ended_of}
use Rattle.node_rules.proofs.InNumbers.{same_uart_answer}
use Rattle.node_port.specs.contracts.silent.{signature as silent-signature}
use Rattle.node_port.proofs.silent.Kinds as silent-kinds
use Rattle.node_port.proofs.silent.Reads as silent-reads
use Rattle.node_port.specs.contracts.in_numbers.{signature as in-numbers-signature}
use Rattle.node_port.proofs.in_numbers.Kinds as in-numbers-kinds
use Rattle.node_port.proofs.in_numbers.Reads as in-numbers-reads
use Rattle.node_port.specs.contracts.refused.{signature as refused-signature}
use Rattle.node_port.proofs.refused.Kinds as refused-kinds
use Rattle.node_port.proofs.refused.Reads as refused-reads
use Rattle.node_port.specs.contracts.is_closed.{signature as is-closed-signature}
use Rattle.node_port.proofs.is_closed.Kinds as is-closed-kinds
use Rattle.node_port.proofs.is_closed.Reads as is-closed-reads
use Rattle.node_port.specs.contracts.first_start.{signature as first-start-signature}
use Rattle.node_port.proofs.first_start.Kinds as first-start-kinds
use Rattle.node_port.proofs.first_start.Reads as first-start-reads
use Rattle.node_port.specs.contracts.listens.{signature as listens-signature}
use Rattle.node_port.proofs.listens.Kinds as listens-kinds
use Rattle.node_port.proofs.listens.Reads as listens-reads
use Rattle.node_port.specs.contracts.frame_in.{signature as frame-in-signature}
use Rattle.node_port.proofs.frame_in.Kinds as frame-in-kinds
use Rattle.node_port.proofs.frame_in.Reads as frame-in-reads
use Rattle.node_port.specs.contracts.judged.{signature as judged-signature}
use Rattle.node_port.proofs.judged.Kinds as judged-kinds
use Rattle.node_port.proofs.judged.Reads as judged-reads
use Rattle.node_port.specs.contracts.held_after_bad.{signature as held-after-bad-signature}
use Rattle.node_port.proofs.held_after_bad.Kinds as held-after-bad-kinds
use Rattle.node_port.proofs.held_after_bad.Reads as held-after-bad-reads

pub silent_tight : (κs : Lfts 0) (a : ArgsD silent-signature κs) (r r' : ResD silent-signature κs)
    (s s' : AtExit (ended_of 0 silent-kinds.ps silent-kinds.r) κs)
    → silent-reads.Post κs a r s → silent-reads.Post κs a r' s' → r ≡ r'
silent_tight κs a r r' s s' p q = p ∙ sym q

pub in_numbers_tight : (κs : Lfts 0) (a : ArgsD in-numbers-signature κs) (r r' : ResD in-numbers-signature κs)
    (s s' : AtExit (ended_of 0 in-numbers-kinds.ps in-numbers-kinds.r) κs)
    → in-numbers-reads.Post κs a r s → in-numbers-reads.Post κs a r' s' → r ≡ r'
in_numbers_tight κs a r r' s s' p q = p ∙ sym q

pub refused_tight : (κs : Lfts 0) (a : ArgsD refused-signature κs) (r r' : ResD refused-signature κs)
    (s s' : AtExit (ended_of 0 refused-kinds.ps refused-kinds.r) κs)
    → refused-reads.Post κs a r s → refused-reads.Post κs a r' s' → r ≡ r'
refused_tight κs a r r' s s' p q = same_uart_answer r r' (p ∙ sym q)

pub is_closed_tight : (κs : Lfts 0) (a : ArgsD is-closed-signature κs) (r r' : ResD is-closed-signature κs)
    (s s' : AtExit (ended_of 0 is-closed-kinds.ps is-closed-kinds.r) κs)
    → is-closed-reads.Post κs a r s → is-closed-reads.Post κs a r' s' → r ≡ r'
is_closed_tight κs a r r' s s' p q = p ∙ sym q

pub held_after_bad_tight : (κs : Lfts 0) (a : ArgsD held-after-bad-signature κs) (r r' : ResD held-after-bad-signature κs)
    (s s' : AtExit (ended_of 0 held-after-bad-kinds.ps held-after-bad-kinds.r) κs)
    → held-after-bad-reads.Post κs a r s → held-after-bad-reads.Post κs a r' s' → r ≡ r'
held_after_bad_tight κs a r r' s s' p q = p ∙ sym q

pub first_start_tight : (κs : Lfts 1) (a : ArgsD first-start-signature κs) (r r' : ResD first-start-signature κs)
    (s s' : AtExit (ended_of 1 first-start-kinds.ps first-start-kinds.r) κs)
    → first-start-reads.Post κs a r s → first-start-reads.Post κs a r' s' → r ≡ r'
first_start_tight κs a r r' s s' p q = p ∙ sym q

pub listens_tight : (κs : Lfts 2) (a : ArgsD listens-signature κs) (r r' : ResD listens-signature κs)
    (s s' : AtExit (ended_of 2 listens-kinds.ps listens-kinds.r) κs)
    → listens-reads.Post κs a r s → listens-reads.Post κs a r' s' → r ≡ r'
listens_tight κs a r r' s s' p q = p ∙ sym q

pub frame_in_tight : (κs : Lfts 1) (a : ArgsD frame-in-signature κs) (r r' : ResD frame-in-signature κs)
    (s s' : AtExit (ended_of 1 frame-in-kinds.ps frame-in-kinds.r) κs)
    → frame-in-reads.Post κs a r s → frame-in-reads.Post κs a r' s' → r ≡ r'
frame_in_tight κs a r r' s s' p q = p ∙ sym q

pub judged_tight : (κs : Lfts 0) (a : ArgsD judged-signature κs) (r r' : ResD judged-signature κs)
    (s s' : AtExit (ended_of 0 judged-kinds.ps judged-kinds.r) κs)
    → judged-reads.Post κs a r s → judged-reads.Post κs a r' s' → r ≡ r'
judged_tight κs a r r' s s' p q = p ∙ sym q
