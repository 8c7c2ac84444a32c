-- Any two outcomes that a contract allows for one input are equal. The contracts are the generated `Reads`: nothing is said of a body.
use mathlib.Core.Path.{◌≡◌, ◌∙◌, sym}
use contract.Lifetimes.{Lfts}
use borrow.Fn.World.{ArgsD, ResD}
use denote.Triple.Clauses.{AtExit}
use borrow.Fn.Kinds.{ended_of}
use Rattle.node_record.specs.contracts.with_mode.{signature as with-mode-signature}
use Rattle.node_record.proofs.with_mode.Kinds as with-mode-kinds
use Rattle.node_record.proofs.with_mode.Reads as with-mode-reads
use Rattle.node_record.specs.contracts.tidy.{signature as tidy-signature}
use Rattle.node_record.proofs.tidy.Kinds as tidy-kinds
use Rattle.node_record.proofs.tidy.Reads as tidy-reads
use Rattle.node_record.specs.contracts.tidying.none_held.{signature as none-held-signature}
use Rattle.node_record.proofs.tidying.none_held.Kinds as none-held-kinds
use Rattle.node_record.proofs.tidying.none_held.Reads as none-held-reads
use Rattle.node_record.specs.contracts.tidying.tidy_receiver.{signature as tidy-receiver-signature}
use Rattle.node_record.proofs.tidying.tidy_receiver.Kinds as tidy-receiver-kinds
use Rattle.node_record.proofs.tidying.tidy_receiver.Reads as tidy-receiver-reads
use Rattle.node_record.specs.contracts.tidying.is_tidy.{signature as is-tidy-signature}
use Rattle.node_record.proofs.tidying.is_tidy.Kinds as is-tidy-kinds
use Rattle.node_record.proofs.tidying.is_tidy.Reads as is-tidy-reads

pub with_mode_tight : (κs : Lfts 0) (a : ArgsD with-mode-signature κs) (r r' : ResD with-mode-signature κs)
    (s s' : AtExit (ended_of 0 with-mode-kinds.ps with-mode-kinds.r) κs)
    → with-mode-reads.Post κs a r s → with-mode-reads.Post κs a r' s' → r ≡ r'
with_mode_tight κs a r r' s s' p q = p ∙ sym q

pub tidy_tight : (κs : Lfts 0) (a : ArgsD tidy-signature κs) (r r' : ResD tidy-signature κs)
    (s s' : AtExit (ended_of 0 tidy-kinds.ps tidy-kinds.r) κs)
    → tidy-reads.Post κs a r s → tidy-reads.Post κs a r' s' → r ≡ r'
tidy_tight κs a r r' s s' p q = p ∙ sym q

pub none_held_tight : (κs : Lfts 0) (a : ArgsD none-held-signature κs) (r r' : ResD none-held-signature κs)
    (s s' : AtExit (ended_of 0 none-held-kinds.ps none-held-kinds.r) κs)
    → none-held-reads.Post κs a r s → none-held-reads.Post κs a r' s' → r ≡ r'
none_held_tight κs a r r' s s' p q = p ∙ sym q

pub tidy_receiver_tight : (κs : Lfts 0) (a : ArgsD tidy-receiver-signature κs) (r r' : ResD tidy-receiver-signature κs)
    (s s' : AtExit (ended_of 0 tidy-receiver-kinds.ps tidy-receiver-kinds.r) κs)
    → tidy-receiver-reads.Post κs a r s → tidy-receiver-reads.Post κs a r' s' → r ≡ r'
tidy_receiver_tight κs a r r' s s' p q = p ∙ sym q

pub is_tidy_tight : (κs : Lfts 0) (a : ArgsD is-tidy-signature κs) (r r' : ResD is-tidy-signature κs)
    (s s' : AtExit (ended_of 0 is-tidy-kinds.ps is-tidy-kinds.r) κs)
    → is-tidy-reads.Post κs a r s → is-tidy-reads.Post κs a r' s' → r ≡ r'
is_tidy_tight κs a r r' s s' p q = p ∙ sym q
