-- Any two outcomes that a contract allows for one input are equal: the whole result.
-- The contract is the generated `Reads`: nothing is said of a body.
use mathlib.Core.Path.{◌≡◌, ◌∙◌, sym, ap}
use mathlib.Core.List.{List}
use Prim.Native.Nat.{ℕ}
use contract.Lifetimes.{Lfts}
use borrow.Fn.World.{ArgsD, ResD}
use denote.Triple.Clauses.{AtExit}
use borrow.Fn.Kinds.{ended_of}
use Rattle.node_reply_uart.specs.contracts.wrapped_replies.{signature as wrapped-replies-signature}
use Rattle.node_reply_uart.proofs.wrapped_replies.Kinds as wrapped-replies-kinds
use Rattle.node_reply_uart.proofs.wrapped_replies.Reads as wrapped-replies-reads

pub wrapped_replies_tight : (κs : Lfts 0) (a : ArgsD wrapped-replies-signature κs) (r r' : ResD wrapped-replies-signature κs)
    (s s' : AtExit (ended_of 0 wrapped-replies-kinds.ps wrapped-replies-kinds.r) κs)
    → wrapped-replies-reads.Post κs a r s → wrapped-replies-reads.Post κs a r' s' → r ≡ r'
wrapped_replies_tight κs a r r' s s' p q =
    ap (λ (k : ℕ). record { count = k; bytes = r.bytes }) (p.0 ∙ sym q.0) ∙ ap (λ (bs : List ℕ). record { count = r'.count; bytes = bs }) (p.1 ∙ sym q.1)
