-- Any two outcomes that a contract allows for one input are equal: the whole result.
-- The contracts are the generated `Reads`: nothing is said of a body.
use mathlib.Core.Path.{◌≡◌, ◌∙◌, sym, subst}
use contract.Lifetimes.{Lfts}
use borrow.Fn.World.{ArgsD, ResD}
use denote.Triple.Clauses.{AtExit}
use borrow.Fn.Kinds.{ended_of}
use Rattle.update_telling.specs.contracts.in_numbers.{signature as in-numbers-signature}
use Rattle.update_telling.proofs.in_numbers.Kinds as in-numbers-kinds
use Rattle.update_telling.proofs.in_numbers.Reads as in-numbers-reads
use Rattle.update_telling.specs.contracts.telling.{signature as telling-signature}
use Rattle.update_telling.proofs.telling.Kinds as telling-kinds
use Rattle.update_telling.proofs.telling.Reads as telling-reads

pub in_numbers_tight : (κs : Lfts 0) (a : ArgsD in-numbers-signature κs) (r r' : ResD in-numbers-signature κs)
    (s s' : AtExit (ended_of 0 in-numbers-kinds.ps in-numbers-kinds.r) κs)
    → in-numbers-reads.Post κs a r s → in-numbers-reads.Post κs a r' s' → r ≡ r'
in_numbers_tight κs a r r' s s' p q = p ∙ sym q

pub telling_tight : (κs : Lfts 0) (a : ArgsD telling-signature κs) (r r' : ResD telling-signature κs)
    (s s' : AtExit (ended_of 0 telling-kinds.ps telling-kinds.r) κs)
    → telling-reads.Post κs a r s → telling-reads.Post κs a r' s' → r ≡ r'
telling_tight κs a r r' s s' p q = p ∙ sym q

-- What is told of a call's answer, by way of its numbers: one result for one answer.
pub answer_telling_tight : (κs : Lfts 0) (a : ArgsD in-numbers-signature κs) (n n' : ResD in-numbers-signature κs)
    (s s' : AtExit (ended_of 0 in-numbers-kinds.ps in-numbers-kinds.r) κs) (r r' : ResD telling-signature κs)
    (t t' : AtExit (ended_of 0 telling-kinds.ps telling-kinds.r) κs)
    → in-numbers-reads.Post κs a n s → telling-reads.Post κs (n, tt) r t
    → in-numbers-reads.Post κs a n' s' → telling-reads.Post κs (n', tt) r' t' → r ≡ r'
answer_telling_tight κs a n n' s s' r r' t t' i p j q =
    telling_tight κs (n, tt) r r' t t' p
    (subst (λ x. telling-reads.Post κs (x, tt) r' t') (sym (in_numbers_tight κs a n n' s s' i j)) q)
