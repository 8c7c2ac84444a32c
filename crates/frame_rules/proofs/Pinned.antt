-- The identifier and the numbers of the four conversions, in document 01's words and numbers and not by way of the definitions' own
-- names. Each number's test is asked in its turn; the fields of an identifier are read off by division.
-- Assumes nothing.
use mathlib.Core.Path.{◌≡◌, refl}
use mathlib.Core.Bool.{Bool, true, false}
use mathlib.Core.List.{List, [], ◌∷◌, map}
use Prim.Native.Nat.{ℕ, ◌/◌, ◌%◌, ◌≤◌, ◌<◌}
use native.Mathlib.Omega.{arith}
use lib.ListN.{length, get_or, replicate}
use borrow.Author.Tests.{eq-eqb, ne_eqb, le-leb, lt-leb}
use Rattle.frame_rules.specs.Frame.{identifier_of, head_of, hapcan_of}
use Rattle.frame_rules.specs.Wrapping.{rightly_wrapped}
use Rattle.frame_rules.specs.Plain.{identifier_with, frame_with, upper_three, Framed}
use Rattle.frame_rules.specs.Numbers.{to_hapcan_number, to_can_number, wrap_number, unwrap_number}
use Rattle.frame_rules.proofs.Wrapped.{right_says}

-- ---- "type times 131,072, plus flag times 65,536, plus module times 256, plus group"

four : {a b c e a' b' c' e' : ℕ} (d : List ℕ) → a ≡ a' → b ≡ b' → c ≡ c' → e ≡ e'
    → ◌≡◌ {A = List ℕ} (a ∷ b ∷ c ∷ e ∷ d) (a' ∷ b' ∷ c' ∷ e' ∷ d)
four d p q r s = cc

module _ (t flag m g : ℕ) (d : List ℕ) (tl : t < 4096) (fl : flag < 2) (ml : m < 256) (gl : g < 256) where
  pub frame_of_fields : hapcan_of (identifier_with t flag m g) d ≡ frame_with t flag m g d
  unfolding hapcan_of head_of
  frame_of_fields =
      let type : identifier_with t flag m g / 131072 ≡ t = omega arith in
      let response : identifier_with t flag m g / 65536 % 2 ≡ flag = omega arith in
      four d (rw type refl) (rw (type, response) refl) (omega arith) (omega arith)

  pub identifier_of_fields : identifier_of (frame_with t flag m g d) ≡ identifier_with t flag m g
  unfolding identifier_of
  identifier_of_fields = omega arith

-- type 0xABC, the response flag, module 0x56, group 0x78 and data 01 to 08, all different, both ways
pub all_different : (hapcan_of 0x15795678 (0x01 ∷ 0x02 ∷ 0x03 ∷ 0x04 ∷ 0x05 ∷ 0x06 ∷ 0x07 ∷ 0x08 ∷ [])
    ≡ 0xAB ∷ 0xC1 ∷ 0x56 ∷ 0x78 ∷ 0x01 ∷ 0x02 ∷ 0x03 ∷ 0x04 ∷ 0x05 ∷ 0x06 ∷ 0x07 ∷ 0x08 ∷ [])
    × (identifier_of (0xAB ∷ 0xC1 ∷ 0x56 ∷ 0x78 ∷ 0x01 ∷ 0x02 ∷ 0x03 ∷ 0x04 ∷ 0x05 ∷ 0x06 ∷ 0x07 ∷ 0x08 ∷ []) ≡ 0x15795678)
unfolding identifier_of hapcan_of head_of
all_different = (refl, refl)

-- ---- the numbers of each conversion alone: "A lent output of another length than the result is 4, checked first"

-- identifier and data to a frame: an output of 12, then 4 for an "identifier above 0x1FFFFFFF, or not 8 data bytes"
pub to_hapcan_numbers : (i : ℕ) (d : List ℕ) (room : ℕ)
    → ((room ≡ 12 → ⊥) → to_hapcan_number i d room ≡ 4)
    × (room ≡ 12 → 0x1FFFFFFF < i → to_hapcan_number i d room ≡ 4)
    × (room ≡ 12 → i ≤ 0x1FFFFFFF → (length d ≡ 8 → ⊥) → to_hapcan_number i d room ≡ 4)
    × (room ≡ 12 → i ≤ 0x1FFFFFFF → length d ≡ 8 → to_hapcan_number i d room ≡ 0)
unfolding to_hapcan_number
to_hapcan_numbers i d room = (
  λ n. simp (ne_eqb _ _ n),
  λ r h. simp (eq-eqb _ _ r, lt-leb _ _ h),
  λ r h n. simp (eq-eqb _ _ r, le-leb _ _ h, ne_eqb _ _ n),
  λ r h l. simp (eq-eqb _ _ r, le-leb _ _ h, eq-eqb _ _ l),
)

set_flag : (b : ℕ) → (b / 2 % 8 ≡ 0 → ⊥) → b % 16 / 2 ≡ 0 → ⊥
set_flag b n e = n (omega arith)

no_flag : (b : ℕ) → b / 2 % 8 ≡ 0 → b % 16 / 2 ≡ 0
no_flag b z = omega arith

-- a frame to identifier and data: an output of 8, then 4 for "not 12 bytes, an upper flag set"
pub to_can_numbers : (f : List ℕ) (room : ℕ)
    → ((room ≡ 8 → ⊥) → to_can_number f room ≡ 4)
    × (room ≡ 8 → (length f ≡ 12 → ⊥) → to_can_number f room ≡ 4)
    × (room ≡ 8 → length f ≡ 12 → (upper_three f ≡ 0 → ⊥) → to_can_number f room ≡ 4)
    × (room ≡ 8 → length f ≡ 12 → upper_three f ≡ 0 → to_can_number f room ≡ 0)
unfolding to_can_number
to_can_numbers f room = (
  λ n. simp (ne_eqb _ _ n),
  λ r n. simp (eq-eqb _ _ r, ne_eqb _ _ n),
  λ r l n. simp (eq-eqb _ _ r, eq-eqb _ _ l, ne_eqb _ _ (set_flag (get_or f 1 0) n)),
  λ r l z. simp (eq-eqb _ _ r, eq-eqb _ _ l, eq-eqb _ _ (no_flag (get_or f 1 0) z)),
)

-- "wrapping wants 12 bytes, .. else 4", with an output of 15
pub wrap_numbers : (f : List ℕ) (room : ℕ)
    → ((room ≡ 15 → ⊥) → wrap_number f room ≡ 4)
    × (room ≡ 15 → (length f ≡ 12 → ⊥) → wrap_number f room ≡ 4)
    × (room ≡ 15 → length f ≡ 12 → wrap_number f room ≡ 0)
unfolding wrap_number
wrap_numbers f room = (
  λ n. simp (ne_eqb _ _ n),
  λ r n. simp (eq-eqb _ _ r, ne_eqb _ _ n),
  λ r l. simp (eq-eqb _ _ r, eq-eqb _ _ l),
)

not_framed : (w : List ℕ) → (Framed w → ⊥) → rightly_wrapped w ≡ false
not_framed w n = go (rightly_wrapped w) refl
  where
    go : (b : Bool) → rightly_wrapped w ≡ b → b ≡ false
    go true e = let s = right_says w e in absurd (n (s.1, s.2, s.3))
    go false e = refl

framed : (w : List ℕ) → length w ≡ 15 → Framed w → rightly_wrapped w ≡ true
unfolding rightly_wrapped
framed w l f = simp (eq-eqb _ _ l, eq-eqb _ _ f.0, eq-eqb _ _ f.1, eq-eqb _ _ f.2)

-- "unwrapping 15, else 4; a wrong start, sum or stop is 11", with an output of 12
pub unwrap_numbers : (w : List ℕ) (room : ℕ)
    → ((room ≡ 12 → ⊥) → unwrap_number w room ≡ 4)
    × (room ≡ 12 → (length w ≡ 15 → ⊥) → unwrap_number w room ≡ 4)
    × (room ≡ 12 → length w ≡ 15 → (Framed w → ⊥) → unwrap_number w room ≡ 11)
    × (room ≡ 12 → length w ≡ 15 → Framed w → unwrap_number w room ≡ 0)
unfolding unwrap_number
unwrap_numbers w room = (
  λ n. simp (ne_eqb _ _ n),
  λ r n. simp (eq-eqb _ _ r, ne_eqb _ _ n),
  λ r l n. simp (eq-eqb _ _ r, eq-eqb _ _ l, not_framed w n),
  λ r l f. simp (eq-eqb _ _ r, eq-eqb _ _ l, framed w l f),
)

-- a frame of zeros with this second byte
abbrev second : ℕ → List ℕ
second b = 0x10 ∷ b ∷ replicate 10 0

-- no flag, the response flag, and each upper flag
pub each_upper_flag : map (λ b. to_can_number (second b) 8) (0x40 ∷ 0x41 ∷ 0x42 ∷ 0x44 ∷ 0x48 ∷ []) ≡ 0 ∷ 0 ∷ 4 ∷ 4 ∷ 4 ∷ []
unfolding to_can_number
each_upper_flag = refl
