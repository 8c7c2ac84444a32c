-- Any two outcomes that a contract allows for one input are equal: the whole result, and each lent output afterwards.
-- The contract is the generated `Reads`: nothing is said of a body.
use mathlib.Core.Path.{◌≡◌, ◌∙◌, sym}
use contract.Lifetimes.{Lfts}
use borrow.Fn.World.{ArgsD, ResD}
use denote.Triple.Clauses.{AtExit}
use borrow.Fn.Kinds.{ended_of}
use Rattle.recipe.proofs.Tight.{in_numbers_once}
use Rattle.recipe_translate.specs.contracts.check.{signature as check-signature}
use Rattle.recipe_translate.proofs.check.Kinds as check-kinds
use Rattle.recipe_translate.proofs.check.Reads as check-reads
use Rattle.recipe_translate.specs.contracts.translate.{signature as translate-signature}
use Rattle.recipe_translate.proofs.translate.Kinds as translate-kinds
use Rattle.recipe_translate.proofs.translate.Reads as translate-reads

pub check_tight : (κs : Lfts 1) (a : ArgsD check-signature κs) (r r' : ResD check-signature κs)
    (s s' : AtExit (ended_of 1 check-kinds.ps check-kinds.r) κs)
    → check-reads.Post κs a r s → check-reads.Post κs a r' s' → r ≡ r'
check_tight κs a r r' s s' p q = in_numbers_once r r' (p.0 ∙ sym q.0)

pub translate_tight : (κs : Lfts 2) (a : ArgsD translate-signature κs) (r r' : ResD translate-signature κs)
    (s s' : AtExit (ended_of 2 translate-kinds.ps translate-kinds.r) κs)
    → translate-reads.Post κs a r s → translate-reads.Post κs a r' s' → (r ≡ r') × (s.1.0.now ≡ s'.1.0.now)
translate_tight κs a r r' s s' p q = (in_numbers_once r r' (p.0 ∙ sym q.0), p.1 ∙ sym q.1)
