-- Any two outcomes that a contract allows for one input are equal: the whole result. And two answers with the same numbers are one.
-- The contract is the generated `Reads`: nothing is said of a body.
use mathlib.Core.Path.{◌≡◌, refl, ap, sym, ◌∙◌}
use mathlib.Core.List.{[], ◌∷◌}
use Prim.Native.Nat.{ℕ, zero, suc, ◌-◌}
use lib.ListN.{get_or}
use Rattle.std.specs.Prelude.{Result, Ok, Err, ⊤}
use contract.Lifetimes.{Lfts}
use borrow.Fn.World.{ArgsD, ResD}
use denote.Triple.Clauses.{AtExit}
use borrow.Fn.Kinds.{ended_of}
use Rattle.recipe.specs.contracts.Fault.number.{signature as number-signature}
use Rattle.recipe.proofs.Fault.number.Kinds as number-kinds
use Rattle.recipe.proofs.Fault.number.Reads as number-reads
use Rattle.recipe.specs.contracts.Kind.of.{signature as of-signature}
use Rattle.recipe.proofs.Kind.of.Kinds as of-kinds
use Rattle.recipe.proofs.Kind.of.Reads as of-reads
use Rattle.recipe.specs.declared.Fault.{Fault}
use Rattle.recipe.specs.declared.Fault.TheVariants.{NoLeave, UnknownKind, CutShort, OutOfPlace, IllegalAddress, TooManyItems, ShortOutput}
use Rattle.recipe.specs.declared.Refusal.{Refusal}
use Rattle.recipe.specs.Translation.{Translated, Frames, Refused, fault_number, in_numbers}
use Rattle.recipe.specs.Internal.Found.{found_number}

-- the fault of a number
abbrev fault_of : ℕ → Fault
fault_of n =
    get_or (NoLeave ∷ UnknownKind ∷ CutShort ∷ OutOfPlace ∷ IllegalAddress ∷ TooManyItems ∷ ShortOutput ∷ []) (n - 20) ShortOutput

of_number : (f : Fault) → fault_of (fault_number f) ≡ f
of_number NoLeave = refl
of_number UnknownKind = refl
of_number CutShort = refl
of_number OutOfPlace = refl
of_number IllegalAddress = refl
of_number TooManyItems = refl
of_number ShortOutput = refl

-- two faults with the same number are one
pub fault_number_once : (f f' : Fault) → fault_number f ≡ fault_number f' → f ≡ f'
fault_number_once f f' e = sym (of_number f) ∙ ap fault_of e ∙ of_number f'

-- what is found at an item, of its number
abbrev found_of : ℕ → Result ⊤ Fault
found_of zero = Ok tt
found_of (suc n) = Err (fault_of (suc n))

of_found : (r : Result ⊤ Fault) → found_of (found_number r) ≡ r
of_found (Ok u) = refl
of_found (Err NoLeave) = refl
of_found (Err UnknownKind) = refl
of_found (Err CutShort) = refl
of_found (Err OutOfPlace) = refl
of_found (Err IllegalAddress) = refl
of_found (Err TooManyItems) = refl
of_found (Err ShortOutput) = refl

-- what is found has one number
pub found_number_once : (r r' : Result ⊤ Fault) → found_number r ≡ found_number r' → r ≡ r'
found_number_once r r' e = sym (of_found r) ∙ ap found_of e ∙ of_found r'

-- the answer of its numbers
abbrev answer_of : Translated → Result ℕ Refusal
answer_of (Frames count) = Ok count
answer_of (Refused number place) = Err (record { fault = fault_of number; place = place })

of_numbers : (r : Result ℕ Refusal) → answer_of (in_numbers r) ≡ r
of_numbers (Ok count) = refl
of_numbers (Err r) = rw (of_number r.fault) refl

-- two answers with the same numbers are one
pub in_numbers_once : (r r' : Result ℕ Refusal) → in_numbers r ≡ in_numbers r' → r ≡ r'
in_numbers_once r r' e = sym (of_numbers r) ∙ ap answer_of e ∙ of_numbers r'

pub number_tight : (κs : Lfts 0) (a : ArgsD number-signature κs) (r r' : ResD number-signature κs)
    (s s' : AtExit (ended_of 0 number-kinds.ps number-kinds.r) κs)
    → number-reads.Post κs a r s → number-reads.Post κs a r' s' → r ≡ r'
number_tight κs a r r' s s' p q = p ∙ sym q

pub of_tight : (κs : Lfts 0) (a : ArgsD of-signature κs) (r r' : ResD of-signature κs)
    (s s' : AtExit (ended_of 0 of-kinds.ps of-kinds.r) κs)
    → of-reads.Post κs a r s → of-reads.Post κs a r' s' → r ≡ r'
of_tight κs a r r' s s' p q = p ∙ sym q
