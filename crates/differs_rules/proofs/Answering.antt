-- What is answered, and in which order: the recipe's own faults, then the image's length, then the output's room. By the definition, which
-- is opened here alone.
-- Assumes nothing.
use mathlib.Core.Path.{◌≡◌, ◌∙◌, ap}
use mathlib.Core.List.{List, ◌++◌}
use Prim.Native.Nat.{ℕ, ◌≤◌, ◌<◌}
use lib.ListN.{length, drop}
use borrow.Author.Tests.{eq-eqb, ne_eqb, lt-ltb, le-ltb}
use Rattle.memory_address.specs.Places.{flash_cells}
use Rattle.recipe.specs.Translation.{Translated, Frames, Refused as Fault, checked}
use Rattle.recipe.specs.Items.{printed}
use Rattle.differs_rules.specs.Differences.{Differences, Kept, Refused}
use Rattle.differs_rules.specs.Keeping.{block_count}
use Rattle.differs_rules.specs.Writing.{kept_of, answered, unless_refused, differences, output_after, differences_output}

module _ (input image : List ℕ) (room : ℕ) where
  -- a fault of the recipe's own comes first, whatever the image and the room
  pub fault_first : (number place : ℕ) → checked input ≡ Fault number place → differences input image room ≡ Refused number place
  unfolding differences
  fault_first number place e = ap (λ (t : Translated). answered t (kept_of input image) (length image) room) e

  -- the rest of a recipe without fault
  past_faults : (count : ℕ) → checked input ≡ Frames count
      → differences input image room ≡ unless_refused (kept_of input image) (length image) room
  unfolding differences
  past_faults count e = ap (λ (t : Translated). answered t (kept_of input image) (length image) room) e

  -- then an image of another length is refused with 36, whatever the room
  pub image_then : (count : ℕ) → checked input ≡ Frames count → (length image ≡ flash_cells → ⊥)
      → differences input image room ≡ Refused 36 0
  image_then count e n = past_faults count e ∙ rw (ne_eqb (length image) flash_cells n)

  -- last, an output that is too short for the shorter recipe, with 26
  pub room_last : (count : ℕ) → checked input ≡ Frames count → length image ≡ flash_cells → room < length (printed (kept_of input image))
      → differences input image room ≡ Refused 26 0
  room_last count e l s =
      past_faults count e
      ∙ rw (eq-eqb (length image) flash_cells l, lt-ltb room (length (printed (kept_of input image))) s)

  -- else the erases that are kept, and how many bytes are written
  pub else_kept : (count : ℕ) → checked input ≡ Frames count → length image ≡ flash_cells
      → length (printed (kept_of input image)) ≤ room
      → differences input image room ≡ Kept (block_count (kept_of input image).items) (length (printed (kept_of input image)))
  else_kept count e l s =
      past_faults count e
      ∙ rw (eq-eqb (length image) flash_cells l, le-ltb room (length (printed (kept_of input image))) s)

module _ (input image output : List ℕ) where
  -- a refusal leaves the output as it was
  pub refusal_untouched : (number place : ℕ) → differences input image (length output) ≡ Refused number place
      → differences_output input image output ≡ output
  unfolding differences_output
  refusal_untouched number place e = ap (λ (x : Differences). output_after x (kept_of input image) output) e

  -- else it starts with the shorter recipe, and the bytes behind it stay
  pub output_kept : (erases size : ℕ) → differences input image (length output) ≡ Kept erases size
      → differences_output input image output ≡ printed (kept_of input image) ++ drop size output
  unfolding differences_output
  output_kept erases size e = ap (λ (x : Differences). output_after x (kept_of input image) output) e
