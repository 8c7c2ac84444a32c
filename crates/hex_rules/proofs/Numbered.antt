-- Each answer has a number of its own: two answers with the same number, and line or length, are one. So the number of a fault is the only
-- outcome that its contract allows.
-- Assumes nothing.
use mathlib.Core.Path.{◌≡◌, ◌∙◌, refl, sym, ap, ap₂}
use mathlib.Core.Bool.{cond}
use Prim.Native.Nat.{ℕ}
use native.Mathlib.Omega.{arith}
use lib.Dec.{eqb}
use contract.Lifetimes.{Lfts}
use borrow.Fn.World.{ArgsD, ResD}
use denote.Triple.Clauses.{AtExit}
use borrow.Fn.Kinds.{ended_of}
use Rattle.std.specs.Prelude.{Result, Ok, Err}
use Rattle.hex_rules.specs.declared.Fault.{Fault}
use Rattle.hex_rules.specs.declared.Fault.TheVariants.{BadForm, BadSum, OtherType, CellOutside, CellTwice, WrongEnd, NoRoom}
use Rattle.hex_rules.specs.declared.Refusal.{Refusal}
use Rattle.hex_rules.specs.Refusing.{Made, Refused, fault_number, in_numbers}
use Rattle.hex_rules.specs.contracts.Fault.number.{signature as number-signature}
use Rattle.hex_rules.proofs.Fault.number.Kinds as number-kinds
use Rattle.hex_rules.proofs.Fault.number.Reads as number-reads

-- the fault that has a number
abbrev named : ℕ → Fault
named n =
    cond (eqb n 30) BadForm
    (cond (eqb n 31) BadSum
    (cond (eqb n 32) OtherType
    (cond (eqb n 33) CellOutside (cond (eqb n 34) CellTwice (cond (eqb n 35) WrongEnd NoRoom)))))

named_back : (f : Fault) → named (fault_number f) ≡ f
named_back BadForm = refl
named_back BadSum = refl
named_back OtherType = refl
named_back CellOutside = refl
named_back CellTwice = refl
named_back WrongEnd = refl
named_back NoRoom = refl

pub fault_once : (f g : Fault) → fault_number f ≡ fault_number g → f ≡ g
fault_once f g e = sym (named_back f) ∙ ap named e ∙ named_back g

-- what a recipe that was made and a refusal say
same_size : {n m : ℕ} → Made n ≡ Made m → n ≡ m
same_size e = cc

same_number : {m l n k : ℕ} → Refused m l ≡ Refused n k → m ≡ n
same_number e = cc

same_line : {m l n k : ℕ} → Refused m l ≡ Refused n k → l ≡ k
same_line e = cc

made_or_not : {n m k : ℕ} → Made n ≡ Refused m k → ⊥
made_or_not e = let z : ◌≡◌ {A = ℕ} 0 1 = cc in omega arith

-- answers with the same numbers are one
pub answer_once : (r s : Result ℕ Refusal) → in_numbers r ≡ in_numbers s → r ≡ s
answer_once (Ok n) (Ok m) e = ap Ok (same_size e)
answer_once (Ok n) (Err s) e = absurd (made_or_not e)
answer_once (Err r) (Ok m) e = absurd (made_or_not (sym e))
answer_once (Err r) (Err s) e =
    ap Err (ap₂ (λ (f : Fault) (l : ℕ). record { fault = f; line = l }) (fault_once r.fault s.fault (same_number e)) (same_line e))

pub number_tight : (κs : Lfts 0) (a : ArgsD number-signature κs) (r r' : ResD number-signature κs)
    (s s' : AtExit (ended_of 0 number-kinds.ps number-kinds.r) κs)
    → number-reads.Post κs a r s → number-reads.Post κs a r' s' → r ≡ r'
number_tight κs a r r' s s' p q = p ∙ sym q
