-- Every legal recipe is accepted: its printed bytes are read as itself, so that the answer is its frame count where the output has room,
-- and 26 at place 0 where it has not.
-- Assumes nothing.
use mathlib.Core.Path.{◌≡◌, refl, sym, ap, ◌∙◌}
use mathlib.Core.Bool.{true}
use mathlib.Core.List.{List, [], ◌++◌, append-nil}
use Prim.Native.Nat.{ℕ, suc, ◌+◌, ◌-◌, ◌*◌, ◌≤◌, ◌<◌}
use native.Mathlib.Omega.{arith}
use lib.ListN.{length, drop}
use Rattle.recipe.specs.Items.{Recipe, Legal, printed}
use Rattle.recipe.specs.Frames.{frames_of, joined, frame_count}
use Rattle.recipe.specs.Reading.{at_end, with_items, read_from, reading, recipe_of}
use Rattle.recipe.specs.Translation.{Frames, Refused, checked, translated, output_by}
use Rattle.recipe.proofs.Answers.{with_room, too_short}
use Rattle.recipe.proofs.Steps.{read_end}
use Rattle.recipe.proofs.Printing.{read_printed}

module _ (r : Recipe) (legal : Legal r) where
  -- its bytes are read as its items, to the end, Leave having come
  pub reading_printed : reading (printed r) ≡ record { items = r.items; stop = at_end true }
  reading_printed =
      let looks : 2047 - length r.items ≡ suc (2046 - length r.items) = omega (arith, legal.few) in
      ap reading (sym (append-nil (printed r)))
      ∙ read_printed r [] legal
      ∙ ap (λ (n : ℕ). with_items r.items (read_from n [] (length (printed r)) (3 + length r.items) true)) looks
      ∙ ap (with_items r.items) (read_end (2046 - length r.items) [] (length (printed r)) (3 + length r.items) true refl)
      ∙ ap (λ (is : List _). record { items = is; stop = at_end true }) (append-nil r.items)

  -- and as the recipe that it is
  pub recipe_printed : recipe_of (printed r) ≡ r
  unfolding recipe_of printed
  recipe_printed = rw reading_printed

  pub checked_printed : checked (printed r) ≡ Frames (frame_count r)
  unfolding checked
  checked_printed = rw (reading_printed, recipe_printed)

  -- where the output has room
  pub accepts_legal : (room : ℕ) → 12 * frame_count r ≤ room → translated (printed r) room ≡ Frames (frame_count r)
  accepts_legal = with_room (printed r) (frame_count r) checked_printed

  pub output_legal : (output : List ℕ)
      → output_by (Frames (frame_count r)) (printed r) output ≡ joined (frames_of r) ++ drop (12 * frame_count r) output
  output_legal output = rw recipe_printed

  -- where it has not
  pub short_output : (room : ℕ) → room < 12 * frame_count r → translated (printed r) room ≡ Refused 26 0
  short_output = too_short (printed r) (frame_count r) checked_printed

-- no bytes are those of two legal recipes
pub printed_once : (r q : Recipe) → Legal r → Legal q → printed r ≡ printed q → r ≡ q
printed_once r q h k e = sym (recipe_printed r h) ∙ ap recipe_of e ∙ recipe_printed q k
