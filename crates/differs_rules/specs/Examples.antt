-- Items and images with what is kept of them, recipes with what is answered, and what an image that is not the node's comes to. The images
-- of the first table are small ones, three blocks of 64 cells: what is kept is defined for any.
use Rattle.std.specs.Prelude.{ℕ, ◌≡◌, List, [], ◌∷◌, ◌++◌, replicate}
use Rattle.recipe.specs.Items.{Item, block, row, Recipe, printed}
use Rattle.recipe.specs.Plain.{Memories, plainly}
use Rattle.differs_rules.specs.Differences.{Differences, Kept, Refused}
use Rattle.differs_rules.specs.Keeping.{kept_items, kept_recipe, block_count}
use Rattle.differs_rules.specs.Writing.{differences, differences_output}

-- items over an image, which of them are kept, and how many erases that is
pub record Example : Type 0 where
  pub items : List Item
  pub image : List ℕ
  pub kept : List Item
  pub erases : ℕ

-- 64 cells of one value
abbrev pub cells : ℕ → List ℕ
cells x = replicate 64 x

-- an image of three blocks: the middle one is given, the cells around it are 0x55
abbrev pub around : List ℕ → List ℕ
around middle = cells 0x55 ++ (middle ++ cells 0x55)

-- Blocks A and B of the middle
abbrev pub A : Item
A = block 64 (cells 0xAA)

abbrev pub B : Item
B = block 64 (cells 0xBB)

-- a Row, whose cells stand in no FLASH
abbrev pub a_row : Item
a_row = row 0xF00008 (replicate 8 0xAA)

-- A but for its first cell, and but for its last
abbrev pub other_first : List ℕ
other_first = 0xAB ∷ replicate 63 0xAA

abbrev pub other_last : List ℕ
other_last = replicate 63 0xAA ++ (0xAB ∷ [])

unfoldable pub examples : List Example
examples =
    -- nothing
    record { items = []; image = around (cells 0xAA); kept = []; erases = 0 }
    -- A over A, and over B
    ∷ record { items = A ∷ []; image = around (cells 0xAA); kept = []; erases = 0 }
    ∷ record { items = A ∷ []; image = around (cells 0xBB); kept = A ∷ []; erases = 1 }
    -- there and back: A, B, A and B, A over A, each asked over what the earlier ones leave
    ∷ record { items = A ∷ B ∷ A ∷ []; image = around (cells 0xAA); kept = B ∷ A ∷ []; erases = 2 }
    ∷ record { items = B ∷ A ∷ []; image = around (cells 0xAA); kept = B ∷ A ∷ []; erases = 2 }
    -- A twice over B: the second time it stands
    ∷ record { items = A ∷ A ∷ []; image = around (cells 0xBB); kept = A ∷ []; erases = 1 }
    -- one cell of 64 differs, the first or the last
    ∷ record { items = block 64 other_first ∷ []; image = around (cells 0xAA); kept = block 64 other_first ∷ []; erases = 1 }
    ∷ record { items = block 64 other_last ∷ []; image = around (cells 0xAA); kept = block 64 other_last ∷ []; erases = 1 }
    -- the cells just before and just behind don't matter
    ∷ record {
      items = A ∷ [];
      image = replicate 63 0x55 ++ (0x00 ∷ (cells 0xAA ++ (0xFF ∷ replicate 63 0x55)));
      kept = [];
      erases = 0;
    }
    -- the Block's cells stand, but one place too early, or too late
    ∷ record {
      items = block 64 other_first ∷ [];
      image = replicate 63 0x55 ++ (other_first ++ replicate 65 0x55);
      kept = block 64 other_first ∷ [];
      erases = 1;
    }
    ∷ record {
      items = block 64 other_last ∷ [];
      image = replicate 65 0x55 ++ (other_last ++ replicate 63 0x55);
      kept = block 64 other_last ∷ [];
      erases = 1;
    }
    -- a Row twice: both stay
    ∷ record { items = a_row ∷ a_row ∷ []; image = around (cells 0xAA); kept = a_row ∷ a_row ∷ []; erases = 0 }
    -- a Row whose address and cells would stand in FLASH stays, too
    ∷ record {
      items = row 64 (replicate 8 0xAA) ∷ [];
      image = around (cells 0xAA);
      kept = row 64 (replicate 8 0xAA) ∷ [];
      erases = 0;
    }
    -- a Row and then a Block, which differs or stands
    ∷ record { items = a_row ∷ B ∷ []; image = around (cells 0xAA); kept = a_row ∷ B ∷ []; erases = 1 }
    ∷ record { items = a_row ∷ A ∷ a_row ∷ []; image = around (cells 0xAA); kept = a_row ∷ a_row ∷ []; erases = 0 }
    -- what is behind a dropped Block is looked at for itself
    ∷ record { items = A ∷ B ∷ []; image = around (cells 0xAA); kept = B ∷ []; erases = 1 }
    ∷ record {
      items = A ∷ block 128 (cells 0xBB) ∷ [];
      image = around (cells 0xAA);
      kept = block 128 (cells 0xBB) ∷ [];
      erases = 1;
    }
    -- Blocks at several addresses: those that stand, one of them, none
    ∷ record {
      items = block 0 (cells 0x55) ∷ A ∷ block 128 (cells 0x55) ∷ [];
      image = around (cells 0xAA);
      kept = [];
      erases = 0;
    }
    ∷ record { items = B ∷ block 128 (cells 0x55) ∷ []; image = around (cells 0xAA); kept = B ∷ []; erases = 1 }
    ∷ record {
      items = B ∷ block 128 (cells 0xBB) ∷ [];
      image = around (cells 0xAA);
      kept = B ∷ block 128 (cells 0xBB) ∷ [];
      erases = 2;
    }
    ∷ []

abbrev pub AllKept : List Example → Type 0
AllKept [] = Unit {0}
AllKept (e ∷ es) = (kept_items e.items e.image ≡ e.kept) × (block_count (kept_items e.items e.image) ≡ e.erases) × AllKept es

-- ---- answers

-- a recipe's bytes, an image, the room of the output, and what is answered
pub record Answer : Type 0 where
  pub input : List ℕ
  pub image : List ℕ
  pub room : ℕ
  pub answer : Differences

-- an image of 65,536 cells
abbrev pub whole : ℕ → List ℕ
whole x = replicate 65536 x

-- module 05, group 0A
abbrev pub recipe : List Item → Recipe
recipe is = record { module_number = 0x05; group_number = 0x0A; items = is }

-- Open and Leave: 01 05 0A 0F
abbrev pub shortest : List ℕ
shortest = 0x01 ∷ 0x05 ∷ 0x0A ∷ 0x0F ∷ []

-- one Block, and it with a Row before it
abbrev pub a_block : Item
a_block = block 0x001000 (cells 0xAA)

abbrev pub with_row : List ℕ
with_row = printed (recipe (a_row ∷ a_block ∷ []))

unfoldable pub answers : List Answer
answers =
    -- the recipe's own faults come first, at their places, whatever the image and the room: an empty input, an unknown kind, no Leave
    record { input = []; image = []; room = 0; answer = Refused 20 0 }
    ∷ record { input = 0x01 ∷ 0x05 ∷ 0x0A ∷ 0x07 ∷ []; image = []; room = 0; answer = Refused 21 3 }
    ∷ record { input = 0x01 ∷ 0x05 ∷ 0x0A ∷ []; image = whole 0xFF; room = 0; answer = Refused 20 3 }
    -- then the image's length
    ∷ record { input = shortest; image = []; room = 0; answer = Refused 36 0 }
    ∷ record { input = shortest; image = []; room = 4; answer = Refused 36 0 }
    ∷ record { input = shortest; image = 0xFF ∷ whole 0xFF; room = 4; answer = Refused 36 0 }
    -- last the room
    ∷ record { input = shortest; image = whole 0xFF; room = 3; answer = Refused 26 0 }
    ∷ record { input = shortest; image = whole 0xFF; room = 4; answer = Kept 0 4 }
    -- a Row and a Block that stands, and the same over another image
    ∷ record { input = with_row; image = whole 0xAA; room = 16; answer = Kept 0 16 }
    ∷ record { input = with_row; image = whole 0xFF; room = 83; answer = Refused 26 0 }
    ∷ record { input = with_row; image = whole 0xFF; room = 84; answer = Kept 1 84 }
    ∷ []

abbrev pub AllAnswered : List Answer → Type 0
AllAnswered [] = Unit {0}
AllAnswered (a ∷ more) = (differences a.input a.image a.room ≡ a.answer) × AllAnswered more

-- the output: the shorter recipe and the bytes behind it; as it was, where it is too short
pub record Written : Type 0 where
  pub output : differences_output with_row (whole 0xAA) (replicate 18 9) ≡ printed (recipe (a_row ∷ [])) ++ (9 ∷ 9 ∷ [])
  pub untouched : differences_output with_row (whole 0xAA) (replicate 15 9) ≡ replicate 15 9

-- ---- a mistaken image

-- The image has A where the node has 0x55. The recipe's one Block is A: it stands in the image, so nothing is kept, and the node keeps its
-- 0x55, where the whole recipe would have set A.
abbrev pub node : Memories
node = record { flash = around (cells 0x55); eeprom = 0xFF ∷ [] }

pub record Mistaken : Type 0 where
  pub nothing : (kept_recipe (recipe (A ∷ [])) (around (cells 0xAA))).items ≡ []
  pub keeps : (plainly (kept_recipe (recipe (A ∷ [])) (around (cells 0xAA))) node).flash ≡ around (cells 0x55)
  pub wanted : (plainly (recipe (A ∷ [])) node).flash ≡ around (cells 0xAA)
  pub differ : around (cells 0x55) ≡ around (cells 0xAA) → ⊥
