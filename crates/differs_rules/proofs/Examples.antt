-- The tables of examples, computed; and that the premises of the theorems about the plain reading and about kept Blocks can be met.
-- Assumes nothing.
use mathlib.Core.Path.{◌≡◌, refl, ap}
use mathlib.Core.List.{List, [], ◌∷◌, ◌++◌}
use Prim.Native.Nat.{ℕ}
use native.Mathlib.Omega.{arith}
use lib.Dec.{lit<, lit≤}
use lib.ListN.{length, get_or, replicate}
use Rattle.base.proofs.Bytes.{bytes_replicate}
use Rattle.memory_address.specs.Places.{flash_cells}
use Rattle.memory_address.specs.Rule.{ruled}
use Rattle.recipe.specs.Items.{Item, block, Legal, printed, printed_items}
use Rattle.recipe.specs.Faults.{rules_at, fault_at}
use Rattle.recipe.specs.Reading.{read_from, reading, recipe_of}
use Rattle.recipe.specs.Frames.{items_count, frame_count}
use Rattle.recipe.specs.Translation.{checked}
use Rattle.recipe.specs.Plain.{plain_items, plainly, Each}
use Rattle.differs_rules.specs.Keeping.{kept_items, kept_recipe, block_count}
use Rattle.differs_rules.specs.Turns.{AgreesOn}
use Rattle.differs_rules.specs.Writing.{kept_of, differences, differences_output}
use Rattle.differs_rules.specs.Examples.{examples, AllKept, answers, AllAnswered, Written, Mistaken, a_block, a_row, recipe, cells, whole}

-- what is kept, and how many erases that is
pub kept_examples_hold : AllKept examples
unfolding examples kept_items block_count
kept_examples_hold =
    (refl, refl, (refl, refl, (refl, refl, (refl, refl, (refl, refl, (refl, refl, (refl, refl, (refl, refl, (refl, refl, (refl, refl, (refl, refl, (refl, refl, (refl, refl, (refl, refl, (refl, refl, (refl, refl, (refl, refl, (refl, refl, (refl, refl, (refl, refl, tt))))))))))))))))))))

-- the answers
pub kept_answers_hold : AllAnswered answers
unfolding answers differences kept_of kept_recipe kept_items block_count checked reading read_from fault_at rules_at ruled recipe_of items_count frame_count printed printed_items
kept_answers_hold = (refl, (refl, (refl, (refl, (refl, (refl, (refl, (refl, (refl, (refl, (refl, tt)))))))))))

-- the output
pub kept_written_holds : Written
unfolding differences_output differences kept_of kept_recipe kept_items block_count checked reading read_from fault_at rules_at ruled recipe_of items_count frame_count printed printed_items
kept_written_holds = record { output = refl; untouched = refl }

-- an image that is not the node's
pub mistaken_image_holds : Mistaken
unfolding kept_recipe kept_items plainly plain_items
mistaken_image_holds =
    record {
      nothing = refl;
      keeps = refl;
      wanted = refl;
      differ = λ e.
          let c : ◌≡◌ {A = ℕ} 0x55 0xAA = ap (λ (x : List ℕ). get_or x 64 0) e in
          omega (arith, c);
    }

-- a legal recipe of two Blocks and a Row, an image that has the first Block, and a FLASH that is the image's but for one cell, which no
-- Block names
abbrev three : List Item
three = a_block ∷ a_row ∷ block 0x001000 (cells 0xBB) ∷ []

abbrev alike : List ℕ
alike = 0x55 ∷ replicate 65535 0xAA

legal_met : Legal (recipe three)
unfolding ruled
legal_met =
    record {
      module_byte = lit< tt;
      group_byte = lit< tt;
      few = lit≤ tt;
      each = (
        (refl, refl, bytes_replicate 64 0xAA (lit< tt)),
        (
          (refl, refl, bytes_replicate 8 0xAA (lit< tt)),
          ((refl, refl, bytes_replicate 64 0xBB (lit< tt)), tt),
        ),
      );
    }

kept_plain_met : (length (whole 0xAA) ≡ flash_cells)
    × (length alike ≡ flash_cells)
    × Each (AgreesOn (whole 0xAA) alike) three
kept_plain_met = (refl, refl, (refl, (tt, (refl, tt))))

-- of which the second Block is kept, behind the Row
kept_differs_met : kept_items three (whole 0xAA)
    ≡ (a_row ∷ []) ++ (block 0x001000 (cells 0xBB) ∷ [])
unfolding kept_items
kept_differs_met = refl
