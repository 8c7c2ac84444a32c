-- Any two outcomes that a contract allows for one input are equal: the whole answer, and both memories.
-- The contract is the generated `Reads`: nothing is said of a body.
use mathlib.Core.Path.{◌≡◌, ◌∙◌, sym, ap}
use contract.Lifetimes.{Lfts}
use borrow.Fn.World.{ArgsD, ResD}
use denote.Triple.Clauses.{AtExit}
use borrow.Fn.Kinds.{ended_of}
use Rattle.node_rules.specs.Step.{Step}
use Rattle.node_rules.proofs.InNumbers.{same_answer}
use Rattle.node_can.specs.contracts.can_frame.{signature as can-frame-signature}
use Rattle.node_can.proofs.can_frame.Kinds as can-frame-kinds
use Rattle.node_can.proofs.can_frame.Reads as can-frame-reads

pub can_frame_tight : (κs : Lfts 3) (a : ArgsD can-frame-signature κs) (r r' : ResD can-frame-signature κs)
    (s s' : AtExit (ended_of 3 can-frame-kinds.ps can-frame-kinds.r) κs)
    → can-frame-reads.Post κs a r s → can-frame-reads.Post κs a r' s'
    → (r ≡ r') × (s.1.1.0.now ≡ s'.1.1.0.now) × (s.1.1.1.0.now ≡ s'.1.1.1.0.now)
can_frame_tight κs a r r' s s' p q =
    let e = p ∙ sym q in
    (same_answer r r' (ap (λ (x : Step). x.answer) e), ap (λ (x : Step). x.flash) e, ap (λ (x : Step). x.eeprom) e)
