-- Any two outcomes that a contract allows for one input are equal: the whole result. And two answers with the same numbers are one.
-- The contract is the generated `Reads`: nothing is said of a body.
use mathlib.Core.Path.{◌≡◌, ◌∙◌, refl, sym, ap, ap₂}
use Prim.Native.Nat.{ℕ}
use native.Mathlib.Omega.{arith}
use contract.Lifetimes.{Lfts}
use borrow.Fn.World.{ArgsD, ResD}
use denote.Triple.Clauses.{AtExit}
use borrow.Fn.Kinds.{ended_of}
use Rattle.std.specs.Prelude.{Result, Ok, Err}
use Rattle.recipe.specs.declared.Fault as recipe
use Rattle.recipe.specs.declared.Fault.TheVariants.{NoLeave, UnknownKind, CutShort, OutOfPlace, IllegalAddress, TooManyItems, ShortOutput}
use Rattle.recipe.proofs.Tight as below
use Rattle.recipe.specs.Translation as translation
use Rattle.differs_rules.specs.Differences.{fault_number, in_numbers}
use Rattle.differs_rules.specs.declared.Fault.{Fault}
use Rattle.differs_rules.specs.declared.Fault.TheVariants.{Recipe, OtherLength}
use Rattle.differs_rules.specs.declared.Kept.{Kept}
use Rattle.differs_rules.specs.declared.Refusal.{Refusal}
use Rattle.differs_rules.specs.contracts.Fault.number.{signature as number-signature}
use Rattle.differs_rules.proofs.Fault.number.Kinds as number-kinds
use Rattle.differs_rules.proofs.Fault.number.Reads as number-reads

-- none of the translator's is 36
not_36 : (f : recipe.Fault) → translation.fault_number f ≡ 36 → ⊥
not_36 NoLeave e = omega (arith, e)
not_36 UnknownKind e = omega (arith, e)
not_36 CutShort e = omega (arith, e)
not_36 OutOfPlace e = omega (arith, e)
not_36 IllegalAddress e = omega (arith, e)
not_36 TooManyItems e = omega (arith, e)
not_36 ShortOutput e = omega (arith, e)

-- two faults with the same number are one
pub fault_number_once : (f f' : Fault) → fault_number f ≡ fault_number f' → f ≡ f'
fault_number_once (Recipe f) (Recipe f') e = ap Recipe (below.fault_number_once f f' e)
fault_number_once (Recipe f) OtherLength e = absurd (not_36 f e)
fault_number_once OtherLength (Recipe f') e = absurd (not_36 f' (sym e))
fault_number_once OtherLength OtherLength e = refl

-- answers of their parts
abbrev kept_of : ℕ → ℕ → Result Kept Refusal
kept_of e s = Ok (record { erases = e; size = s })

abbrev refused_of : Fault → ℕ → Result Kept Refusal
refused_of f p = Err (record { fault = f; place = p })

-- two answers with the same numbers are one
pub in_numbers_once : (r r' : Result Kept Refusal) → in_numbers r ≡ in_numbers r' → r ≡ r'
in_numbers_once (Ok k) (Ok k') e =
    let a : k.erases ≡ k'.erases = cc in
    let b : k.size ≡ k'.size = cc in
    ap₂ kept_of a b
in_numbers_once (Ok k) (Err r') e = cc
in_numbers_once (Err r) (Ok k') e = cc
in_numbers_once (Err r) (Err r') e =
    let n : fault_number r.fault ≡ fault_number r'.fault = cc in
    let f : r.fault ≡ r'.fault = fault_number_once r.fault r'.fault n in
    let p : r.place ≡ r'.place = cc in
    ap₂ refused_of f p

pub number_tight : (κs : Lfts 0) (a : ArgsD number-signature κs) (r r' : ResD number-signature κs)
    (s s' : AtExit (ended_of 0 number-kinds.ps number-kinds.r) κs)
    → number-reads.Post κs a r s → number-reads.Post κs a r' s' → r ≡ r'
number_tight κs a r r' s s' p q = p ∙ sym q
