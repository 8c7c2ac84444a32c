-- FLASH as the Blocks of a recipe leave it, told by where in the recipe the last Block for each block has its cells.
use Rattle.std.specs.Prelude.{ℕ, ◌+◌, ◌/◌, ◌≤◌, ◌<◌, ◌≡◌, cond, List, eqb, length, get_or, drop}
use Rattle.base.specs.Parts.{part}
use Rattle.memory_address.specs.Places.{flash_cells}
use Rattle.recipe.specs.Faults.{address_of}

-- the cells of the block at an address: the recipe's from `from` on, or the image's where no Block named it (0)
abbrev pub standing : List ℕ → List ℕ → ℕ → ℕ → List ℕ
standing recipe image address from = cond (eqb from 0) (part image address 64) (part recipe from 64)

-- a Block at a place whose address lies in FLASH, an image of all of it, and a table of 1,024 blocks
pub record AtBlock (recipe : List ℕ) (place : ℕ) (image last : List ℕ) : Type 0 where
  pub inside : place + 68 ≤ length recipe
  pub small : place + 4 < 4294967296
  pub cells : length image ≡ flash_cells
  pub blocks : length last ≡ 1024
  pub address : address_of (drop place recipe) + 64 ≤ flash_cells
  pub before : get_or last (address_of (drop place recipe) / 64) 0 ≤ place
