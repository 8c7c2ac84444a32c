-- "Legal rows" from both sides, in document 01's numbers: every multiple that it names is legal in its memory, and nothing else is. The
-- rule tries one range and then the other; a number of the second is none of the first, since the ranges lie apart.
-- Assumes nothing.
use Rattle.std.specs.Prelude.{Option, None}
use mathlib.Core.Path.{◌≡◌, refl, ap}
use mathlib.Core.Bool.{Bool, true, false, ◌&&◌, cond, false≢true}
use mathlib.Core.List.{[], ◌∷◌, map}
use Prim.Native.Nat.{ℕ, ◌%◌, ◌<◌}
use native.Mathlib.Omega.{arith}
use lib.Dec.{leb, eqb, lit<}
use borrow.Author.Tests.{leb-true, eqb-true, eq-eqb, le-leb}
use Rattle.base.proofs.Choice.{by_cond, both_true, true_both}
use Rattle.memory_address.specs.Rule.{ruled, is_flash, is_eeprom, numbered, in_flash, in_eeprom}
use Rattle.memory_address.specs.Ranges.{Multiple, Exactly, FlashRow, EepromRow, Block}
use Rattle.memory_address.specs.declared.Address.{Address}

-- ---- a test, and two of them one after the other

abbrev test : ℕ → ℕ → ℕ → ℕ → Bool
test step low high a = leb low a && (leb a high && eqb (a % step) 0)

test_says : (step low high a : ℕ) → test step low high a ≡ true → Multiple step low high a
test_says step low high a e =
    let p = both_true (leb low a) _ e in
    let q = both_true (leb a high) _ p.1 in
    (leb-true low a p.0, leb-true a high q.0, eqb-true (a % step) 0 q.1)

says_test : (step low high a : ℕ) → Multiple step low high a → test step low high a ≡ true
says_test step low high a m =
    true_both (leb low a) _ (le-leb low a m.0) (true_both (leb a high) _ (le-leb a high m.1) (eq-eqb (a % step) 0 m.2))

module _ (s l h : ℕ) (a : ℕ) where
  one_exactly : Exactly (cond (test s l h a) (in_flash a) None ≡ in_flash a) (Multiple s l h a)
  one_exactly = (
    by_cond (λ (r : Option Address). r ≡ in_flash a → Multiple s l h a) (test s l h a) _ _ (λ t _. test_says s l h a t)
        (λ _ e. absurd (false≢true (ap is_flash e))),
    λ m. rw (says_test s l h a m) refl,
  )

  one_else : (Multiple s l h a → ⊥) → cond (test s l h a) (in_flash a) None ≡ None
  one_else n =
      by_cond (λ (r : Option Address). r ≡ None) (test s l h a) _ _ (λ t. absurd (n (test_says s l h a t))) (λ _. refl)

module _ (s l h s' l' h' : ℕ) (apart : h < l') (a : ℕ) where
  abbrev two : Option Address
  two = cond (test s l h a) (in_flash a) (cond (test s' l' h' a) (in_eeprom a) None)

  first_exactly : Exactly (two ≡ in_flash a) (Multiple s l h a)
  first_exactly = (
    by_cond (λ (r : Option Address). r ≡ in_flash a → Multiple s l h a) (test s l h a) _ _ (λ t _. test_says s l h a t)
        (λ _. by_cond (λ (r : Option Address). r ≡ in_flash a → Multiple s l h a) (test s' l' h' a) _ _
        (λ _ e. absurd (false≢true (ap is_flash e))) (λ _ e. absurd (false≢true (ap is_flash e)))),
    λ m. rw (says_test s l h a m) refl,
  )

  second_exactly : Exactly (two ≡ in_eeprom a) (Multiple s' l' h' a)
  second_exactly = (
    by_cond (λ (r : Option Address). r ≡ in_eeprom a → Multiple s' l' h' a) (test s l h a) _ _
        (λ _ e. absurd (false≢true (ap is_eeprom e)))
        (λ _. by_cond (λ (r : Option Address). r ≡ in_eeprom a → Multiple s' l' h' a) (test s' l' h' a) _ _
        (λ t _. test_says s' l' h' a t) (λ _ e. absurd (false≢true (ap is_eeprom e)))),
    λ m.
        by_cond (λ (r : Option Address). r ≡ in_eeprom a) (test s l h a) _ _
        (λ t. let k = test_says s l h a t in let z : ⊥ = omega arith in absurd z)
        (λ _. rw (says_test s' l' h' a m) refl),
  )

  two_else : (Multiple s l h a → ⊥) → (Multiple s' l' h' a → ⊥) → two ≡ None
  two_else n n' =
      by_cond (λ (r : Option Address). r ≡ None) (test s l h a) _ _ (λ t. absurd (n (test_says s l h a t)))
      (λ _. by_cond (λ (r : Option Address). r ≡ None) (test s' l' h' a) _ _ (λ t. absurd (n' (test_says s' l' h' a t))) (λ _. refl))

-- ---- the rule

-- "read 0x01 .. at multiples of 8, in 0x001000 to 0x00FFF8 or 0xF00000 to 0xF003F8"
pub read_legal : (a : ℕ) → Exactly (ruled a 0x01 ≡ in_flash a) (FlashRow a) × Exactly (ruled a 0x01 ≡ in_eeprom a) (EepromRow a)
    × ((FlashRow a → ⊥) → (EepromRow a → ⊥) → ruled a 0x01 ≡ None)
unfolding ruled
read_legal a = (
  first_exactly 8 0x001000 0x00FFF8 8 0xF00000 0xF003F8 (lit< tt) a,
  second_exactly 8 0x001000 0x00FFF8 8 0xF00000 0xF003F8 (lit< tt) a,
  two_else 8 0x001000 0x00FFF8 8 0xF00000 0xF003F8 (lit< tt) a,
)

-- "and write 0x02"
pub write_legal : (a : ℕ) → Exactly (ruled a 0x02 ≡ in_flash a) (FlashRow a) × Exactly (ruled a 0x02 ≡ in_eeprom a) (EepromRow a)
    × ((FlashRow a → ⊥) → (EepromRow a → ⊥) → ruled a 0x02 ≡ None)
unfolding ruled
write_legal a = (
  first_exactly 8 0x001000 0x00FFF8 8 0xF00000 0xF003F8 (lit< tt) a,
  second_exactly 8 0x001000 0x00FFF8 8 0xF00000 0xF003F8 (lit< tt) a,
  two_else 8 0x001000 0x00FFF8 8 0xF00000 0xF003F8 (lit< tt) a,
)

-- "Erase 0x03 at multiples of 64 in 0x001000 to 0x00FFC0; EEPROM has none."
pub erase_legal : (a : ℕ) → Exactly (ruled a 0x03 ≡ in_flash a) (Block a) × ((Block a → ⊥) → ruled a 0x03 ≡ None)
unfolding ruled
erase_legal a = (one_exactly 64 0x001000 0x00FFC0 a, one_else 64 0x001000 0x00FFC0 a)

-- any other command is illegal at every number
pub other_illegal : (a command : ℕ) → (command ≡ 0x01 → ⊥) → (command ≡ 0x02 → ⊥) → (command ≡ 0x03 → ⊥) → ruled a command ≡ None
unfolding ruled
other_illegal a command r w e =
    by_cond (λ (x : Option Address). x ≡ None) (eqb command 0x01) _ _ (λ t. absurd (r (eqb-true command 0x01 t)))
    (λ _.
    by_cond (λ (x : Option Address). x ≡ None) (eqb command 0x02) _ _ (λ t. absurd (w (eqb-true command 0x02 t)))
    (λ _. by_cond (λ (x : Option Address). x ≡ None) (eqb command 0x03) _ _ (λ t. absurd (e (eqb-true command 0x03 t))) (λ _. refl)))

-- the ends of each range, and what lies one step outside and one number beside them
pub ends : (map (λ a. ruled a 0x01) (0x000FF8 ∷ 0x001000 ∷ 0x001004 ∷ 0x00FFF8 ∷ 0x010000 ∷ [])
    ≡ None ∷ in_flash 0x001000 ∷ None ∷ in_flash 0x00FFF8 ∷ None ∷ [])
    × (map (λ a. ruled a 0x01) (0xEFFFF8 ∷ 0xF00000 ∷ 0xF00004 ∷ 0xF003F8 ∷ 0xF00400 ∷ [])
    ≡ None ∷ in_eeprom 0xF00000 ∷ None ∷ in_eeprom 0xF003F8 ∷ None ∷ [])
    × (map (λ a. ruled a 0x02) (0x000FF8 ∷ 0x001000 ∷ 0x001004 ∷ 0x00FFF8 ∷ 0x010000 ∷ [])
    ≡ None ∷ in_flash 0x001000 ∷ None ∷ in_flash 0x00FFF8 ∷ None ∷ [])
    × (map (λ a. ruled a 0x02) (0xEFFFF8 ∷ 0xF00000 ∷ 0xF00004 ∷ 0xF003F8 ∷ 0xF00400 ∷ [])
    ≡ None ∷ in_eeprom 0xF00000 ∷ None ∷ in_eeprom 0xF003F8 ∷ None ∷ [])
    × (map (λ a. ruled a 0x03) (0x000FC0 ∷ 0x001000 ∷ 0x001008 ∷ 0x00FFC0 ∷ 0x00FFC8 ∷ 0x00FFF8 ∷ 0xF00000 ∷ [])
    ≡ None ∷ in_flash 0x001000 ∷ None ∷ in_flash 0x00FFC0 ∷ None ∷ None ∷ None ∷ [])
unfolding ruled
ends = (refl, refl, refl, refl, refl)

-- the number of a call that works at an address: 1 where a memory has another length, also where the address is illegal; then 8; else 0
pub number_says : (numbered false false ≡ 1) × (numbered false true ≡ 1) × (numbered true false ≡ 8) × (numbered true true ≡ 0)
number_says = (refl, refl, refl, refl)
