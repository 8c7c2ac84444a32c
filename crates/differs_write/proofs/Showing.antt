-- The table of last Blocks tells FLASH as the items before leave it: block by block, the image's cells or those of the last Block for it. A
-- Block more changes its own block's cells and no others, since legal Blocks stand at multiples of 64.
-- Assumes nothing.
use mathlib.Core.Path.{◌≡◌, ◌∙◌, refl, sym, ap, subst}
use mathlib.Core.Bool.{Bool, true, false}
use mathlib.Core.List.{List}
use mathlib.Core.Logic.{◌⊎◌, inl, inr, ⊎_elim}
use Prim.Native.Nat.{ℕ, ◌+◌, ◌*◌, ◌/◌, ◌%◌, ◌≤◌, ◌<◌}
use native.Mathlib.Omega.{arith}
use lib.Dec.{eqb, ltb}
use lib.ListN.{length, get_or, set, replicate, get_or-replicate}
use lib.Seq.{ext_get_or, get_or-set_same, get_or-set_other}
use borrow.Author.Tests.{eqb-true, eqb-false, ne_eqb, ltb-true, ltb-false}
use Rattle.base.specs.Parts.{part, patch}
use Rattle.base.proofs.Choice.{true_or_false, cond_false}
use Rattle.base.proofs.Patched.{part_length, part_cell, part_patch, elsewhere_patch, length_patch}
use Rattle.memory_address.specs.Places.{flash_cells}
use Rattle.memory_same.specs.Same.{same}
use Rattle.recipe.specs.Items.{block}
use Rattle.recipe.proofs.Plainly.{sets_patch}
use Rattle.differs_rules.specs.Keeping.{left_by, stands}
use Rattle.differs_write.specs.Internal.Standing.{standing}

-- a part that a patch doesn't touch
part_elsewhere : (m : List ℕ) (a : ℕ) (new : List ℕ) (b k : ℕ) → a + length new ≤ length m → b + k ≤ length m
    → (b + k ≤ a) ⊎ (a + length new ≤ b) → part (patch m a new) b k ≡ part m b k
part_elsewhere m a new b k fits inside apart =
    let long : length (part (patch m a new) b k) ≡ k = part_length (patch m a new) b k (omega (arith, inside, length_patch m a new fits)) in
    ext_get_or 0 (part (patch m a new) b k) (part m b k) (long ∙ sym (part_length m b k inside))
    (λ j h.
    let l : j < k = omega (arith, h, long) in
    part_cell (patch m a new) b k j l
    ∙ elsewhere_patch m a new fits (b + j)
    (⊎_elim (λ (u : b + k ≤ a). inl (omega (arith, u, l))) (λ (u : a + length new ≤ b). inr (omega (arith, u))) apart)
    ∙ sym (part_cell m b k j l))

pub record Shows (s image last f : List ℕ) : Type 0 where
  pub long : length f ≡ flash_cells
  pub cells : (b : ℕ) → b < 1024 → part f (64 * b) 64 ≡ standing s image (64 * b) (get_or last b 0)

-- no Block came yet
pub shows_start : (s image : List ℕ) → length image ≡ flash_cells → Shows s image (replicate 1024 0) image
shows_start s image l = record {
  long = l;
  cells = λ b h.
      ap (standing s image (64 * b)) (sym (get_or-replicate 1024 b 0 0 h));
}

module _ (s image last f : List ℕ) (shows : Shows s image last f) (a : ℕ) (multiple : a % 64 ≡ 0) (inside : a + 64 ≤ flash_cells) where
  back : 64 * (a / 64) ≡ a
  back = omega arith

  few : a / 64 < 1024
  few = omega (arith, inside)

  -- the cells that stand at a Block's address
  pub shows_at : part f a 64 ≡ standing s image a (get_or last (a / 64) 0)
  shows_at =
      subst (λ (x : ℕ). part f x 64 ≡ standing s image x (get_or last (a / 64) 0)) back (shows.cells (a / 64) few)

  -- and whether a Block's cells are those
  pub shows_stands : (d : List ℕ) → same (standing s image a (get_or last (a / 64) 0)) d ≡ stands (block a d) f
  shows_stands d = ap (λ (x : List ℕ). same x d) (sym shows_at)

  -- behind a Block whose cells stand in the recipe from `from` on
  module _ (from : ℕ) (some : from ≡ 0 → ⊥) (whole : from + 64 ≤ length s) (blocks : length last ≡ 1024) where
    abbrev d : List ℕ
    d = part s from 64

    d_long : length d ≡ 64
    d_long = part_length s from 64 whole

    fits : a + length d ≤ length f
    fits = omega (arith, d_long, inside, shows.long)

    left : left_by (block a d) f ≡ patch f a d
    left = sets_patch f a d fits

    -- its own block
    own : part (patch f a d) (64 * (a / 64)) 64 ≡ standing s image (64 * (a / 64)) (get_or (set last (a / 64) from) (a / 64) 0)
    own =
        ap (λ (x : ℕ). part (patch f a d) x 64) back
        ∙ ap (λ (n : ℕ). part (patch f a d) a n) (sym d_long)
        ∙ part_patch f a d fits
        ∙ sym (cond_false (eqb from 0) (part image (64 * (a / 64)) 64) d (ne_eqb from 0 some))
        ∙ ap (standing s image (64 * (a / 64))) (sym (get_or-set_same last (a / 64) from 0 (omega (arith, few, blocks))))

    -- another
    other : (b : ℕ) → b < 1024 → (b ≡ a / 64 → ⊥) → part (patch f a d) (64 * b) 64 ≡ standing s image (64 * b) (get_or (set last (a / 64) from) b 0)
    other b h n =
        part_elsewhere f a d (64 * b) 64 fits (omega (arith, h, shows.long)) (apart (ltb b (a / 64)) refl)
        ∙ shows.cells b h
        ∙ ap (standing s image (64 * b)) (sym (get_or-set_other last (a / 64) b from 0 n))
      where
        apart : (t : Bool) → ltb b (a / 64) ≡ t → (64 * b + 64 ≤ a) ⊎ (a + length d ≤ 64 * b)
        apart true e = inl (omega (arith, ltb-true b (a / 64) e, back))
        apart false e =
            let far : a / 64 < b = more (ltb-false b (a / 64) e) in
            inr (omega (arith, far, back, d_long))
          where
            more : a / 64 ≤ b → a / 64 < b
            more l = strict (eqb b (a / 64)) refl
              where
                strict : (t : Bool) → eqb b (a / 64) ≡ t → a / 64 < b
                strict true q = absurd (n (eqb-true b (a / 64) q))
                strict false q = omega (arith, l, eqb-false b (a / 64) q)

    pub shows_block : Shows s image (set last (a / 64) from) (left_by (block a d) f)
    shows_block = record {
      long = ap length left ∙ length_patch f a d fits ∙ shows.long;
      cells = λ b h.
          ap (λ (x : List ℕ). part x (64 * b) 64) left
          ∙ ⊎_elim
          (λ (t : eqb b (a / 64) ≡ true).
          subst (λ (x : ℕ). part (patch f a d) (64 * x) 64 ≡ standing s image (64 * x) (get_or (set last (a / 64) from) x 0))
          (sym (eqb-true b (a / 64) t)) own)
          (λ (t : eqb b (a / 64) ≡ false). other b h (eqb-false b (a / 64) t))
          (true_or_false (eqb b (a / 64)));
    }
