-- Any two outcomes that a contract allows for one input are equal: the whole answer.
-- The contracts are the generated `Reads`: nothing is said of a body.
use mathlib.Core.Path.{◌≡◌, ◌∙◌, sym}
use contract.Lifetimes.{Lfts}
use borrow.Fn.World.{ArgsD, ResD}
use denote.Triple.Clauses.{AtExit}
use borrow.Fn.Kinds.{ended_of}
use Rattle.node_rules.proofs.InNumbers.{same_restarted}
use Rattle.node_restart.specs.contracts.fresh.{signature as fresh-signature}
use Rattle.node_restart.proofs.fresh.Kinds as fresh-kinds
use Rattle.node_restart.proofs.fresh.Reads as fresh-reads
use Rattle.node_restart.specs.contracts.restart_with.{signature as restart-with-signature}
use Rattle.node_restart.proofs.restart_with.Kinds as restart-with-kinds
use Rattle.node_restart.proofs.restart_with.Reads as restart-with-reads
use Rattle.node_restart.specs.contracts.restart.{signature as restart-signature}
use Rattle.node_restart.proofs.restart.Kinds as restart-kinds
use Rattle.node_restart.proofs.restart.Reads as restart-reads

pub fresh_tight : (κs : Lfts 0) (a : ArgsD fresh-signature κs) (r r' : ResD fresh-signature κs)
    (s s' : AtExit (ended_of 0 fresh-kinds.ps fresh-kinds.r) κs)
    → fresh-reads.Post κs a r s → fresh-reads.Post κs a r' s' → r ≡ r'
fresh_tight κs a r r' s s' p q = p ∙ sym q

pub restart_with_tight : (κs : Lfts 2) (a : ArgsD restart-with-signature κs) (r r' : ResD restart-with-signature κs)
    (s s' : AtExit (ended_of 2 restart-with-kinds.ps restart-with-kinds.r) κs)
    → restart-with-reads.Post κs a r s → restart-with-reads.Post κs a r' s' → r ≡ r'
restart_with_tight κs a r r' s s' p q = same_restarted r r' (p ∙ sym q)

pub restart_tight : (κs : Lfts 2) (a : ArgsD restart-signature κs) (r r' : ResD restart-signature κs)
    (s s' : AtExit (ended_of 2 restart-kinds.ps restart-kinds.r) κs)
    → restart-reads.Post κs a r s → restart-reads.Post κs a r' s' → r ≡ r'
restart_tight κs a r r' s s' p q = same_restarted r r' (p ∙ sym q)
