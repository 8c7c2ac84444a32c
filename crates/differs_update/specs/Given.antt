-- What is known where a shorter recipe was written: of which recipe and image, its bytes in the output, and what is behind them as it was.
-- Document 02, A6.
use Rattle.std.specs.Prelude.{ℕ, ◌≤◌, ◌≡◌, List, length, take, drop}
use Rattle.memory_address.specs.Places.{flash_cells}
use Rattle.recipe.specs.Items.{Recipe, Legal, printed}
use Rattle.differs_rules.specs.Keeping.{kept_recipe, block_count}

pub record Shortened (recipe image before : List ℕ) (erases size : ℕ) (after : List ℕ) : Type 0 where
  -- the bytes handed in were those of a legal recipe, over an image of all of FLASH
  pub full : Recipe
  pub full_bytes : recipe ≡ printed full
  pub full_legal : Legal full
  pub cells : length image ≡ flash_cells
  -- written is the legal recipe of the items that are kept, in their order
  pub bytes : take size after ≡ printed (kept_recipe full image)
  pub legal : Legal (kept_recipe full image)
  pub long : size ≡ length (printed (kept_recipe full image))
  pub room : size ≤ length before
  pub stays : drop size after ≡ drop size before
  -- "Report the erase count. It equals the number of blocks kept"
  pub blocks : erases ≡ block_count (kept_recipe full image).items
