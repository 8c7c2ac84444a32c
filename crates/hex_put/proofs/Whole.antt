-- The recipe as a whole: its size, its four parts put one behind the other, and the answer by whether there is room.
-- Assumes nothing.
use mathlib.Core.Path.{◌≡◌, ◌∙◌, refl, ap}
use mathlib.Core.List.{List, [], ◌∷◌, ◌++◌, append_assoc}
use Prim.Native.Nat.{ℕ, ◌+◌, ◌/◌, ◌≤◌, ◌<◌}
use native.Mathlib.Omega.{arith}
use lib.ListN.{length, drop, length-append}
use borrow.Author.Tests.{eq-eqb, ne_eqb, le-leb, lt-leb}
use Rattle.std.specs.Prelude.{Some, None}
use Rattle.base.specs.Parts.{patch}
use Rattle.base.specs.Internal.Putting.{put_at}
use Rattle.base.proofs.Patched.{put_fits, length_patch}
use Rattle.recipe_item.proofs.Putting.{patch_patch}
use Rattle.hex_put.specs.Internal.Table.{printed_in, bytes_in, put_length, put_output, Items}
use Rattle.hex_put.proofs.Putting.{same_sizes}

-- what is put from the first byte on
front : (o new : List ℕ) → patch o 0 new ≡ new ++ drop (length new) o
unfolding patch
front o new = let z : 0 + length new ≡ length new = omega arith in rw z

-- four parts, one behind the other
module _ (o : List ℕ) (h b r f : List ℕ) (room : length (h ++ (b ++ (r ++ f))) ≤ length o) where
  all : length h + length b + length r + length f ≤ length o
  all =
      omega (
        arith,
        room,
        length-append h (b ++ (r ++ f)),
        length-append b (r ++ f),
        length-append r f,
      )

  module _ (o₁ : List ℕ) (e₁ : o₁ ≡ put_at o 0 h) where
    first : o₁ ≡ patch o 0 h
    first = e₁ ∙ put_fits o 0 h (omega (arith, all))

    pub first_long : length o₁ ≡ length o
    first_long = ap length first ∙ length_patch o 0 h (omega (arith, all))

    pub first_room : (at : ℕ) → at ≡ length h → at + length b ≤ length o₁
    first_room at e = omega (arith, all, first_long)

    module _ (o₂ : List ℕ) (at : ℕ) (a : at ≡ length h) (e₂ : o₂ ≡ patch o₁ at b) where
      second : o₂ ≡ patch o 0 (h ++ b)
      second = e₂ ∙ ap (λ (u : List ℕ). patch u at b) first ∙ patch_patch o h b 0 at (omega (arith, all)) (omega arith)

      pub second_long : length o₂ ≡ length o
      second_long = ap length second ∙ length_patch o 0 (h ++ b) (omega (arith, all, length-append h b))

      pub second_room : (rows : ℕ) → rows ≡ at + length b → rows + length r ≤ length o₂
      second_room rows e = omega (arith, all, second_long)

      module _ (o₃ : List ℕ) (rows : ℕ) (q : rows ≡ at + length b) (e₃ : o₃ ≡ patch o₂ rows r) where
        third : o₃ ≡ patch o 0 ((h ++ b) ++ r)
        third =
            e₃
            ∙ ap (λ (u : List ℕ). patch u rows r) second
            ∙ patch_patch o (h ++ b) r 0 rows (omega (arith, all, length-append h b)) (omega (arith, length-append h b))

        third_long : length o₃ ≡ length o
        third_long =
            ap length third
            ∙ length_patch o 0 ((h ++ b) ++ r) (omega (arith, all, length-append (h ++ b) r, length-append h b))

        pub fourth : (o₄ : List ℕ) (last : ℕ) → last ≡ rows + length r → o₄ ≡ put_at o₃ last f → o₄ ≡ patch o 0 (h ++ (b ++ (r ++ f)))
        fourth o₄ last p e₄ =
            e₄
            ∙ put_fits o₃ last f (omega (arith, all, third_long))
            ∙ ap (λ (u : List ℕ). patch u last f) third
            ∙ patch_patch o ((h ++ b) ++ r) f 0 last (omega (arith, all, length-append (h ++ b) r, length-append h b))
            (omega (arith, length-append (h ++ b) r, length-append h b))
            ∙ ap (patch o 0) (append_assoc (h ++ b) r f ∙ append_assoc h b (r ++ f))

-- ---- the recipe

abbrev pub blocks_put : List ℕ → List ℕ
blocks_put blocks = printed_in 0x02 64 blocks 1024 0 0x000000

abbrev pub rows_put : List ℕ → List ℕ
rows_put rows = printed_in 0x03 8 rows 128 0 0xF00000

-- its parts: Open, the blocks, the rows, Leave
pub bytes_parts : (m g : ℕ) (blocks rows : List ℕ)
    → bytes_in m g blocks rows ≡ (0x01 ∷ m ∷ g ∷ []) ++ (blocks_put blocks ++ (rows_put rows ++ (0x0F ∷ [])))
unfolding bytes_in
bytes_parts m g blocks rows = refl

-- so many items lie in the places
pub blocks_many : (blocks : List ℕ) → length blocks ≡ 65536 → length blocks / 64 ≡ 1024
blocks_many blocks e = rw e

pub rows_many : (rows : List ℕ) → length rows ≡ 1024 → length rows / 8 ≡ 128
rows_many rows e = rw e

pub blocks_items : (blocks : List ℕ) → length blocks ≡ 65536 → Items blocks 64
blocks_items blocks e = record { some = omega arith; small = omega arith; few = omega arith }

pub rows_items : (rows : List ℕ) → length rows ≡ 1024 → Items rows 8
rows_items rows e = record { some = omega arith; small = omega arith; few = omega arith }

pub bytes_size : (m g : ℕ) (blocks rows : List ℕ) → length blocks ≡ 65536 → length rows ≡ 1024
    → length (bytes_in m g blocks rows)
    ≡ 4 + length (printed_in 0 64 blocks (length blocks / 64) 0 0) + length (printed_in 0 8 rows (length rows / 8) 0 0)
bytes_size m g blocks rows b r =
    rw (blocks_many blocks b, rows_many rows r)
    (omega (
      arith,
      ap length (bytes_parts m g blocks rows),
      length-append (0x01 ∷ m ∷ g ∷ []) (blocks_put blocks ++ (rows_put rows ++ (0x0F ∷ []))),
      length-append (blocks_put blocks) (rows_put rows ++ (0x0F ∷ [])),
      length-append (rows_put rows) (0x0F ∷ []),
      same_sizes 0x02 64 blocks 1024 0 0 0,
      same_sizes 0x03 8 rows 128 0 0xF00000 0,
    ))

-- ---- the answer

module _ (bytes : List ℕ) (places : ℕ) (output : List ℕ) where
  pub no_table : (places ≡ 66560 → ⊥) → (None ≡ put_length bytes places (length output)) × (output ≡ put_output bytes places output)
  no_table n = simp (ne_eqb places 66560 n) (refl, refl)

  module _ (e : places ≡ 66560) where
    pub no_room : length output < length bytes → (None ≡ put_length bytes places (length output)) × (output ≡ put_output bytes places output)
    no_room l = simp (eq-eqb places 66560 e, lt-leb (length bytes) (length output) l) (refl, refl)

    pub is_put : (size : ℕ) → size ≡ length bytes → length bytes ≤ length output → (o : List ℕ) → o ≡ patch output 0 bytes
        → (Some size ≡ put_length bytes places (length output)) × (o ≡ put_output bytes places output)
    is_put size s l o q =
        simp (eq-eqb places 66560 e, le-leb (length bytes) (length output) l) (ap Some s, q ∙ front output bytes)
