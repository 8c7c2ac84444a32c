-- A frame and its identifier: each field is read back as it was written, so that neither direction loses anything. The way from an
-- identifier asks nothing of it; the way from a frame asks for twelve bytes without an upper flag.
-- Assumes nothing.
use mathlib.Core.Path.{◌≡◌, ◌∙◌, refl, sym, ap}
use mathlib.Core.Bool.{true, false}
use mathlib.Core.List.{List, [], ◌∷◌}
use Prim.Native.Nat.{ℕ, ◌+◌, ◌/◌, ◌%◌}
use native.Mathlib.Omega.{arith}
use lib.ListN.{length}
use borrow.Author.Tests.{eq-eqb, eqb-true, le-leb, leb-true, not-false}
use Rattle.base.proofs.Bytes.{byte_of}
use Rattle.base.specs.Parts.{Bytes}
use Rattle.frame_rules.specs.Frame.{type_of, flags_of, flag_of, module_of, group_of, data_of, upper_flags, identifier_of}
use Rattle.frame_rules.specs.Frame.{legal_identifier, type_in, flag_in, module_in, group_in, head_of, hapcan_of}

module _ (i : ℕ) (d : List ℕ) where
  -- CAN to HAPCAN to CAN gives the identifier back, whatever it is
  pub hapcan_identifier : identifier_of (hapcan_of i d) ≡ i
  unfolding identifier_of hapcan_of head_of
  hapcan_identifier = omega arith

  -- every field is kept
  pub hapcan_fields : (type_of (hapcan_of i d) ≡ type_in i) × (flag_of (hapcan_of i d) ≡ flag_in i) × (module_of (hapcan_of i d) ≡ module_in i)
      × (group_of (hapcan_of i d) ≡ group_in i)
  unfolding hapcan_of head_of
  hapcan_fields = (omega arith, omega arith, refl, refl)

  -- the frame has twelve bytes for eight data bytes, no upper flag, the data unchanged, and bytes alone if the identifier is legal
  pub hapcan_length : length (hapcan_of i d) ≡ 4 + length d
  unfolding hapcan_of head_of
  hapcan_length = omega arith

  pub hapcan_data : data_of (hapcan_of i d) ≡ d
  unfolding hapcan_of head_of
  hapcan_data = refl

  pub hapcan_no_upper_flags : upper_flags (hapcan_of i d) ≡ false
  unfolding hapcan_of head_of
  hapcan_no_upper_flags =
      let e : flags_of (hapcan_of i d) / 2 ≡ 0 = omega arith in
      simp (eq-eqb _ _ e)

  pub hapcan_bytes : legal_identifier i ≡ true → Bytes d → Bytes (hapcan_of i d)
  unfolding hapcan_of head_of
  hapcan_bytes l h = let k = leb-true i _ l in (omega arith, (omega arith, (omega arith, (omega arith, h))))

module _ (f : List ℕ) (bytes : Bytes f) where
  -- twelve bytes never say more than 29 bits
  pub identifier_legal : legal_identifier (identifier_of f) ≡ true
  unfolding identifier_of
  identifier_legal = omega (arith, le-leb, byte_of f 0 bytes, byte_of f 1 bytes, byte_of f 2 bytes, byte_of f 3 bytes)

  -- every field is kept
  pub identifier_fields : (type_in (identifier_of f) ≡ type_of f) × (flag_in (identifier_of f) ≡ flag_of f)
      × (module_in (identifier_of f) ≡ module_of f) × (group_in (identifier_of f) ≡ group_of f)
  unfolding identifier_of
  identifier_fields =
      let m = byte_of f 2 bytes in
      let g = byte_of f 3 bytes in
      (omega arith, omega arith, omega arith, omega arith)

four : {a b c e a' b' c' e' : ℕ} (d : List ℕ) → a ≡ a' → b ≡ b' → c ≡ c' → e ≡ e'
    → ◌≡◌ {A = List ℕ} (a ∷ b ∷ c ∷ e ∷ d) (a' ∷ b' ∷ c' ∷ e' ∷ d)
four d p q r s = cc

-- HAPCAN to CAN to HAPCAN gives the frame back
pub identifier_hapcan : (f : List ℕ) → length f ≡ 12 → Bytes f → upper_flags f ≡ false → hapcan_of (identifier_of f) (data_of f) ≡ f
unfolding hapcan_of head_of
identifier_hapcan [] l h u = let z : ⊥ = omega arith in absurd z
identifier_hapcan (a ∷ []) l h u = let z : ⊥ = omega arith in absurd z
identifier_hapcan (a ∷ b ∷ []) l h u = let z : ⊥ = omega arith in absurd z
identifier_hapcan (a ∷ b ∷ c ∷ []) l h u = let z : ⊥ = omega arith in absurd z
identifier_hapcan (a ∷ b ∷ c ∷ e ∷ d) l h u =
    let k = identifier_fields (a ∷ b ∷ c ∷ e ∷ d) h in
    let z : b % 16 / 2 ≡ 0 = eqb-true _ _ (not-false _ u) in
    four d (rw k.0 (omega arith)) (rw (k.0, k.1) (omega arith)) k.2 k.3

-- two frames that share identifier and data are one
pub identifier_injective : (f g : List ℕ) → length f ≡ 12 → length g ≡ 12 → Bytes f → Bytes g → upper_flags f ≡ false → upper_flags g ≡ false
    → identifier_of f ≡ identifier_of g → data_of f ≡ data_of g → f ≡ g
identifier_injective f g l m h k u v e q =
    sym (identifier_hapcan f l h u) ∙ rw (e, q) (identifier_hapcan g m k v)

-- two identifiers with their data that share a frame are one
pub hapcan_injective : (i j : ℕ) (d e : List ℕ) → hapcan_of i d ≡ hapcan_of j e → (i ≡ j) × (d ≡ e)
hapcan_injective i j d e q =
    (sym (hapcan_identifier i d) ∙ ap identifier_of q ∙ hapcan_identifier j e, sym (hapcan_data i d) ∙ ap data_of q ∙ hapcan_data j e)
