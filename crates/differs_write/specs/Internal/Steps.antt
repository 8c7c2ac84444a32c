-- A step of the walk over a recipe, and what the walk finds.
use Rattle.std.specs.Prelude.{ℕ, ◌+◌, ◌/◌, ◌≤◌, ◌<◌, ◌≡◌, Bool, true, cond, not, List, eqb, length, get_or, set, take, drop, Result, Ok, Err}
use Rattle.base.specs.Parts.{Bytes, part}
use Rattle.memory_same.specs.Same.{same}
use Rattle.recipe.specs.declared.Refusal.{Refusal}
use Rattle.recipe.specs.Translation.{Frames, checked, in_numbers}
use Rattle.recipe.specs.Items.{printed}
use Rattle.recipe.specs.Frames.{frame_count}
use Rattle.recipe.specs.Faults.{body_length, address_of}
use Rattle.recipe.specs.Reading.{recipe_of}
use Rattle.differs_rules.specs.Keeping.{block_count}
use Rattle.differs_rules.specs.Writing.{kept_of}
use Rattle.differs_write.specs.declared.walk.Walk.{Walk}
use Rattle.differs_write.specs.Internal.Standing.{standing}
use Rattle.differs_write.specs.Internal.Cutting.{cut_out, Upward}

-- whether the Block at a place has other cells than stand there
abbrev pub differs_at : List ℕ → ℕ → List ℕ → List ℕ → Bool
differs_at recipe place image last =
    let address : ℕ = address_of (drop place recipe) in
    not (same (standing recipe image address (get_or last (address / 64) 0)) (part recipe (place + 4) 64))

-- the table with the Block at a place as the last of its block
abbrev pub remembered_at : List ℕ → ℕ → List ℕ → List ℕ
remembered_at recipe place last = set last (address_of (drop place recipe) / 64) (place + 4)

-- whether the item at a place is kept, and the table behind it
abbrev pub keeps_at : List ℕ → ℕ → List ℕ → List ℕ → Bool
keeps_at recipe place image last = cond (eqb (get_or recipe place 0) 0x02) (differs_at recipe place image last) true

abbrev pub last_after : List ℕ → ℕ → List ℕ → List ℕ
last_after recipe place last = cond (eqb (get_or recipe place 0) 0x02) (remembered_at recipe place last) last

-- how many erases an item of a kind is
abbrev pub erases_of_kind : ℕ → ℕ
erases_of_kind kind = cond (eqb kind 0x02) 1 0

-- the walk behind an item of a kind, which is kept or not
abbrev pub next_walk : Walk → ℕ → Bool → Walk
next_walk w kind kept = record {
  place = w.place + (1 + body_length kind);
  number = w.number + 1;
  ended = eqb kind 0x0F;
  dropped = w.dropped + cond kept 0 1;
  erases = w.erases + cond kept (erases_of_kind kind) 0;
}

-- numbers that a walk has no more than
pub record Small (w : Walk) : Type 0 where
  pub place : w.place < 1000000
  pub number : w.number < 1000000
  pub dropped : w.dropped < 1000000
  pub erases : w.erases < 1000000

-- what a walk finds: a fault, or the Blocks that are dropped, by their places
pub record FoundKept (recipe image : List ℕ) (dropped erases : ℕ) (places : List ℕ) : Type 0 where
  pub accepted : checked recipe ≡ Frames (frame_count (recipe_of recipe))
  pub bytes : Bytes recipe
  pub few : dropped ≤ length places
  pub upward : Upward 0 (take dropped places) (length recipe)
  pub items : cut_out recipe 0 (take dropped places) ≡ printed (kept_of recipe image)
  pub blocks : erases ≡ block_count (kept_of recipe image).items

abbrev pub Found : List ℕ → List ℕ → Result Walk Refusal → List ℕ → Type 0
Found recipe image (Err r) places = checked recipe ≡ in_numbers (Err r)
Found recipe image (Ok w) places = FoundKept recipe image w.dropped w.erases places
