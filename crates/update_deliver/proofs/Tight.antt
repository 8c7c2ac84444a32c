-- Any two outcomes that the contract of `deliver` allows for one input are equal: the whole result, and all that is lent to be changed.
-- Both are the definition's step.
-- Assumes nothing.
use mathlib.Core.Path.{◌≡◌, ◌∙◌, sym, ap, ap₂}
use Prim.Native.Nat.{ℕ}
use contract.Lifetimes.{Lfts}
use borrow.Fn.World.{ArgsD, ResD}
use denote.Triple.Clauses.{AtExit}
use borrow.Fn.Kinds.{ended_of}
use Rattle.std.specs.Prelude.{Result}
use Rattle.node_rules.specs.declared.Node.{Node}
use Rattle.recipe.specs.declared.Refusal.{Refusal}
use Rattle.recipe.proofs.Tight.{in_numbers_once}
use Rattle.update_deliver.specs.declared.Delivered.{Delivered as Answered}
use Rattle.update_deliver.specs.Delivering.{Delivered, Left, delivered_in_numbers, left}
use Rattle.update_deliver.specs.contracts.deliver.{signature}
use Rattle.update_deliver.proofs.deliver.Kinds as kinds
use Rattle.update_deliver.proofs.deliver.Reads as reads

-- two answers with the same numbers are one
delivered_once : (r r' : Answered) → delivered_in_numbers r ≡ delivered_in_numbers r' → r ≡ r'
delivered_once r r' e =
    ap₂ (λ (t : Result ℕ Refusal) (n : Node). record { translated = t; node = n })
    (in_numbers_once r.translated r'.translated (ap (λ (d : Delivered). d.translated) e)) (ap (λ (d : Delivered). d.node) e)

pub deliver_tight : (κs : Lfts 5) (a : ArgsD signature κs) (r r' : ResD signature κs) (s s' : AtExit (ended_of 5 kinds.ps kinds.r) κs)
    → reads.Post κs a r s → reads.Post κs a r' s'
    → (r ≡ r')
    × (left (delivered_in_numbers r) s.1.1.0.now s.1.1.1.0.now s.1.1.1.1.0.now s.1.1.1.1.1.0.now
    ≡ left (delivered_in_numbers r') s'.1.1.0.now s'.1.1.1.0.now s'.1.1.1.1.0.now s'.1.1.1.1.1.0.now)
deliver_tight κs a r r' s s' p q =
    let same = p ∙ sym q in
    (delivered_once r r' (ap (λ (l : Left). l.result) same), same)
