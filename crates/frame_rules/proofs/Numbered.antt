-- What a conversion answers is known by its number alone, and what names an identifier by the two: no two answers share them.
-- Assumes nothing.
use Rattle.std.specs.Prelude.{ℕ, ◌≡◌, List, Result, Ok, Err}
use Rattle.std.proofs.Common.{ap, refl, sym}
use Rattle.frame_rules.specs.declared.Refusal.{Refusal}
use Rattle.frame_rules.specs.declared.Refusal.TheVariants.{Misshapen, WronglyWrapped}
use Rattle.frame_rules.specs.Numbers.{Identified, refusal_number, number_of, identified, identified_of}

refusal_injective : (e e' : Refusal) → refusal_number e ≡ refusal_number e' → e ≡ e'
refusal_injective Misshapen Misshapen h = refl
refusal_injective WronglyWrapped WronglyWrapped h = refl
refusal_injective Misshapen WronglyWrapped h = cc
refusal_injective WronglyWrapped Misshapen h = cc

-- 0 is no refusal's number
no_refusal : (e : Refusal) → 0 ≡ refusal_number e → ⊥
no_refusal Misshapen h = cc
no_refusal WronglyWrapped h = cc

pub number_injective : (r r' : Result Unit Refusal) → number_of r ≡ number_of r' → r ≡ r'
number_injective (Ok a) (Ok b) h = refl
number_injective (Ok a) (Err e) h = absurd (no_refusal e h)
number_injective (Err e) (Ok a) h = absurd (no_refusal e (sym h))
number_injective (Err e) (Err e') h = let q = refusal_injective e e' h in cc

pub identified_injective : (r r' : Result ℕ Refusal) → identified r ≡ identified r' → r ≡ r'
identified_injective (Ok a) (Ok b) h = let q = ap (λ (x : Identified). x.identifier) h in cc
identified_injective (Ok a) (Err e) h = absurd (no_refusal e (ap (λ (x : Identified). x.number) h))
identified_injective (Err e) (Ok a) h = absurd (no_refusal e (sym (ap (λ (x : Identified). x.number) h)))
identified_injective (Err e) (Err e') h = let q = refusal_injective e e' (ap (λ (x : Identified). x.number) h) in cc

-- the number beside an identifier is the answer's
pub identified_number : (r : Result ℕ Refusal) → (identified r).number ≡ number_of r
identified_number (Ok i) = refl
identified_number (Err e) = refl

-- a refusal says no identifier
pub identified_refusal : (e : Refusal) (f : List ℕ) → identified (Err e) ≡ identified_of (refusal_number e) f
identified_refusal Misshapen f = refl
identified_refusal WronglyWrapped f = refl
