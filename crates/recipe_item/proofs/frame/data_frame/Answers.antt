-- `recipe_item::frame::data_frame` meets its contract: a list of eight is its eight elements.
-- Assumes nothing.
use mathlib.Core.Path.{ap}
use borrow.Author.Rules.{rules}
use Rattle.recipe.specs.Frames.{data_frame}
use Rattle.base.proofs.Listed.{listed_all}
use Rattle.recipe_item.proofs.frame.data_frame.Goals as goal

pub returns : goal.returns
returns c =
    let a = c.args in
    ap (data_frame a.numbers.module.0 a.numbers.group.0) (listed_all a.cells 8 (search rules))
