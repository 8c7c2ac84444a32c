-- From what the walk found to the answer: the recipe's faults first, then the image's length, then the output's, and the output as it is
-- defined. Each is the law over definitions, of the crate differs_rules.
-- Assumes nothing.
use mathlib.Core.Path.{◌≡◌, ◌∙◌, sym, ap, ap₂}
use mathlib.Core.List.{List, ◌++◌}
use Prim.Native.Nat.{ℕ, ◌+◌, ◌-◌, ◌*◌, ◌≤◌, ◌<◌}
use native.Mathlib.Omega.{arith}
use native.Mathlib.Nat.{zero-add}
use lib.ListN.{length, take, drop}
use lib.Seq.{length-take-le}
use Rattle.std.specs.Prelude.{Err}
use Rattle.base.specs.Parts.{patch}
use Rattle.memory_address.specs.Places.{flash_cells}
use Rattle.recipe.specs.declared.Refusal as recipe
use Rattle.recipe.specs.Items.{printed}
use Rattle.recipe.specs.Frames.{frame_count}
use Rattle.recipe.specs.Reading.{recipe_of}
use Rattle.recipe.specs.Translation.{Frames, Refused as Fault, checked}
use Rattle.recipe.specs.Translation as translation
use Rattle.differs_rules.specs.Differences.{Differences, Kept, Refused}
use Rattle.differs_rules.specs.Writing.{kept_of, differences, differences_output}
use Rattle.differs_rules.proofs.Answering.{fault_first, image_then, room_last, else_kept, refusal_untouched, output_kept}
use Rattle.differs_write.specs.Taken.{BytesIfKept}
use Rattle.differs_write.specs.Internal.Cutting.{cut_out, Upward}
use Rattle.differs_write.specs.Internal.Steps.{FoundKept}
use Rattle.differs_write.proofs.Cutting.{cut_length}

-- the whole promise
abbrev pub Answered : List ℕ → List ℕ → List ℕ → Differences → List ℕ → Type 0
Answered s image o r o₁ = (r ≡ differences s image (length o)) × (o₁ ≡ differences_output s image o) × BytesIfKept r s

module _ (s image o : List ℕ) where
  -- a refusal that the definition gives
  refused : (n p : ℕ) → differences s image (length o) ≡ Refused n p → Answered s image o (Refused n p) o
  refused n p e = (sym e, sym (refusal_untouched s image o n p e), tt)

  -- a fault of the recipe
  pub fault_answer : (r : recipe.Refusal) → checked s ≡ translation.in_numbers (Err r)
      → Answered s image o (Refused (translation.fault_number r.fault) r.place) o
  fault_answer r e =
      let n = translation.fault_number r.fault in
      refused n r.place (fault_first s image (length o) n r.place e)

  -- an image of another length
  pub other_answer : (count : ℕ) → checked s ≡ Frames count → (length image ≡ flash_cells → ⊥) → Answered s image o (Refused 36 0) o
  other_answer count e n = refused 36 0 (image_then s image (length o) count e n)

-- the items that are kept
module _ {s image places : List ℕ} {dropped erases : ℕ} (k : FoundKept s image dropped erases places) where
  -- their bytes
  long : length (cut_out s 0 (take dropped places)) + 68 * dropped ≡ length s
  long = omega (arith, cut_length s 0 (take dropped places) k.upward, length-take-le dropped places k.few)

  pub found_within : 68 * dropped ≤ length s
  found_within = omega (arith, long)

  sized : length s - 68 * dropped ≡ length (printed (kept_of s image))
  sized = omega (arith, long, ap length k.items)

  module _ (right : length image ≡ flash_cells) (o : List ℕ) where
    -- no room for them
    pub found_short : length o < length s - 68 * dropped → Answered s image o (Refused 26 0) o
    found_short h =
        refused s image o 26 0
        (room_last s image (length o) (frame_count (recipe_of s)) k.accepted right (omega (arith, h, sized)))

    module _ (h : length s - 68 * dropped ≤ length o) where
      -- what the copying asks
      pub found_fits : Upward 0 (take dropped places) (length s) × (length (cut_out s 0 (take dropped places)) ≤ length o)
      found_fits = (k.upward, omega (arith, h, long))

      given : differences s image (length o) ≡ Kept erases (length s - 68 * dropped)
      given =
          else_kept s image (length o) (frame_count (recipe_of s)) k.accepted right (omega (arith, h, sized))
          ∙ ap₂ Kept (sym k.blocks) (sym sized)

      pub found_answer : (o₁ : List ℕ) → o₁ ≡ patch o 0 (cut_out s 0 (take dropped places))
          → Answered s image o (Kept erases (length s - 68 * dropped)) o₁
      unfolding patch
      found_answer o₁ q = (
        sym given,
        q
            ∙ ap₂ (λ (x : List ℕ) (n : ℕ). x ++ drop n o) k.items
            (zero-add (length (cut_out s 0 (take dropped places))) ∙ ap length k.items ∙ sym sized)
            ∙ sym (output_kept s image o erases (length s - 68 * dropped) given),
        k.bytes,
      )
