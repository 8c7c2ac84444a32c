-- The laws of the flag byte and of a start: what the flag byte says, by place; when firmware starts, both ways. Each test of the
-- definitions is taken apart once, in what its bit says; a start is the flag byte 0.
-- Assumes nothing.
use mathlib.Core.Path.{◌≡◌, ◌∙◌, refl, sym, subst}
use mathlib.Core.Bool.{Bool, true, false, ◌&&◌, not, cond, false≢true}
use mathlib.Core.List.{List}
use mathlib.Core.Logic.{inl, inr}
use Prim.Native.Nat.{ℕ, ◌/◌, ◌%◌}
use native.Mathlib.Omega.{arith}
use lib.Dec.{eqb}
use lib.ListN.{length, get_or}
use borrow.Author.Tests.{eqb-true, eqb-false, eq-eqb}
use Rattle.memory_sum.specs.Sum.{firmware_sum, stored_sum_of}
use Rattle.memory_sum.proofs.Laws.{worked_out, stored_by_place}
use Rattle.memory_start.specs.Start.{sums_differ, cells_differ, flags_of, flag_byte, starts}
use Rattle.memory_start.specs.Plain.{SumsAgree, CellsAgree, Starts, Differs, FlagSays}

-- bit 0 says whether the sums differ
sums_say : (flash : List ℕ) → length flash ≡ 65536 → Differs (cond (sums_differ flash) 1 0) (SumsAgree flash)
unfolding sums_differ
sums_say flash l = go (eqb (stored_sum_of flash) (firmware_sum flash)) refl
  where
    go : (b : Bool) → eqb (stored_sum_of flash) (firmware_sum flash) ≡ b → Differs (cond (not b) 1 0) (SumsAgree flash)
    go true e =
        inl (refl, sym (stored_by_place flash l) ∙ eqb-true (stored_sum_of flash) (firmware_sum flash) e ∙ worked_out flash l)
    go false e =
        inr (refl, λ a. eqb-false (stored_sum_of flash) (firmware_sum flash) e (stored_by_place flash l ∙ a ∙ sym (worked_out flash l)))

-- bit 1 says whether the three cells do
cells_say : (flash : List ℕ) → Differs (cond (cells_differ flash) 1 0) (CellsAgree flash)
unfolding cells_differ
cells_say flash =
    go (get_or flash 0x001010 0) (get_or flash 0x001011 0) (get_or flash 0x001012 0) (eqb (get_or flash 0x001010 0) 0x30) refl
    (eqb (get_or flash 0x001011 0) 0x00) refl (eqb (get_or flash 0x001012 0) 0x03) refl
  where
    go : (x y z : ℕ) (a : Bool) → eqb x 0x30 ≡ a → (b : Bool) → eqb y 0x00 ≡ b → (c : Bool) → eqb z 0x03 ≡ c
        → Differs (cond (not (a && (b && c))) 1 0) ((x ≡ 0x30) × (y ≡ 0x00) × (z ≡ 0x03))
    go x y z true p true q true r = inl (refl, (eqb-true x 0x30 p, eqb-true y 0x00 q, eqb-true z 0x03 r))
    go x y z true p true q false r = inr (refl, λ h. eqb-false z 0x03 r h.2)
    go x y z true p false q c r = inr (refl, λ h. eqb-false y 0x00 q h.1)
    go x y z false p b q c r = inr (refl, λ h. eqb-false x 0x30 p h.0)

-- the two bits of a flag byte
bit_0 : (s c : Bool) → cond s 1 0 ≡ flags_of s c % 2
bit_0 true true = refl
bit_0 true false = refl
bit_0 false true = refl
bit_0 false false = refl

bit_1 : (s c : Bool) → cond c 1 0 ≡ flags_of s c / 2
bit_1 true true = refl
bit_1 true false = refl
bit_1 false true = refl
bit_1 false false = refl

-- the flag byte says it of a full FLASH, and no other number does
pub flag_says : (flash : List ℕ) → length flash ≡ 65536 → FlagSays (flag_byte flash) flash
unfolding flag_byte
flag_says flash l = (
  subst (λ (bit : ℕ). Differs bit (SumsAgree flash)) (bit_0 (sums_differ flash) (cells_differ flash)) (sums_say flash l),
  subst (λ (bit : ℕ). Differs bit (CellsAgree flash)) (bit_1 (sums_differ flash) (cells_differ flash)) (cells_say flash),
)

one_bit : (P : Type 0) (i j : ℕ) → Differs i P → Differs j P → i ≡ j
one_bit P i j (inl p) (inl q) = p.0 ∙ sym q.0
one_bit P i j (inl p) (inr q) = absurd (q.1 p.1)
one_bit P i j (inr p) (inl q) = absurd (p.1 q.1)
one_bit P i j (inr p) (inr q) = p.0 ∙ sym q.0

pub flag_only : (flash : List ℕ) (flag : ℕ) → length flash ≡ 65536 → FlagSays flag flash → flag ≡ flag_byte flash
flag_only flash flag l h =
    let says = flag_says flash l in
    let low : flag % 2 ≡ flag_byte flash % 2 = one_bit (SumsAgree flash) _ _ h.0 says.0 in
    let high : flag / 2 ≡ flag_byte flash / 2 = one_bit (CellsAgree flash) _ _ h.1 says.1 in
    omega (arith, low, high)

-- firmware of a full FLASH starts if no flag is set
pub starts_by_flag : (flash : List ℕ) (flag : ℕ) → length flash ≡ 65536 → FlagSays flag flash → starts flash ≡ eqb flag 0
unfolding starts
starts_by_flag flash flag l says = rw (eq-eqb (length flash) 65536 l, ← flag_only flash flag l says) refl

-- and so exactly if the sums agree and the three cells do
pub starts_if : (flash : List ℕ) → length flash ≡ 65536 → Starts flash → starts flash ≡ true
starts_if flash l h = starts_by_flag flash 0 l (inl (refl, h.0), inl (refl, h.1))

pub starts_only_if : (flash : List ℕ) → starts flash ≡ true → (length flash ≡ 65536) × Starts flash
unfolding starts
starts_only_if flash s = go (eqb (length flash) 65536) refl s
  where
    agrees : (P : Type 0) → Differs 0 P → P
    agrees P (inl p) = p.1
    agrees P (inr p) = absurd (let z : ◌≡◌ {A = ℕ} 0 1 = p.0 in omega arith)

    go : (b : Bool) → eqb (length flash) 65536 ≡ b → cond b (eqb (flag_byte flash) 0) false ≡ true → (length flash ≡ 65536) × Starts flash
    go true e t =
        let l = eqb-true (length flash) 65536 e in
        let says = subst (λ (flag : ℕ). FlagSays flag flash) (eqb-true (flag_byte flash) 0 t) (flag_says flash l) in
        (l, (agrees (SumsAgree flash) says.0, agrees (CellsAgree flash) says.1))
    go false e t = absurd (false≢true t)
