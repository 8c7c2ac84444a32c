-- What a text gave that became a recipe: its cells, the recipe's bytes in the output, and what is behind them as it was.
use Rattle.std.specs.Prelude.{ℕ, ◌≤◌, ◌≡◌, List, [], length, take, drop}
use Rattle.recipe.specs.Items.{printed}
use Rattle.hex_rules.specs.Cells.{Cell}
use Rattle.hex_rules.specs.Checks.{gives}
use Rattle.hex_rules.specs.Recipe.{recipe_of}
use Rattle.hex_rules.specs.Converting.{text_read}
use Rattle.hex_rules.specs.Printing.{EachOnce}

pub record MadeOf (text : List ℕ) (m g : ℕ) (before : List ℕ) (size : ℕ) (after : List ℕ) : Type 0 where
  pub cells : List Cell
  pub read : text_read text ≡ gives cells
  pub once : EachOnce [] cells
  pub long : size ≡ length (printed (recipe_of m g cells))
  pub room : size ≤ length before
  pub bytes : take size after ≡ printed (recipe_of m g cells)
  pub stays : drop size after ≡ drop size before
