-- A recipe's bytes read item by item, to their end or to the first item at fault. Document 01, "The recipe".
use Rattle.std.specs.Prelude.{ℕ, zero, suc, ◌+◌, Bool, false, cond, List, [], ◌∷◌, ◌++◌, eqb, length, get_or, drop}
use Rattle.base.specs.Parts.{part}
use Rattle.recipe.specs.Items.{Item, block, row, Recipe}
use Rattle.recipe.specs.Faults.{kind_of, body_length, address_of, fault_at}

-- how a reading stops: at the end, Leave having come or not; or at an item at fault, with the number and "the item's starting byte"
pub data Stop : Type 0 where
  at_end : Bool → Stop
  fault : ℕ → ℕ → Stop

-- the Blocks and Rows read, and how it stopped
pub record Reading : Type 0 where
  pub items : List Item
  pub stop : Stop

-- how many bytes an item takes: its kind and its body
abbrev pub size_of : List ℕ → ℕ
size_of input = 1 + body_length (kind_of input)

-- the Block or Row that `input` starts with; Open and Leave set no cells
abbrev pub items_at : List ℕ → List Item
items_at input =
    cond (eqb (kind_of input) 0x02) (block (address_of input) (part input 4 64) ∷ [])
    (cond (eqb (kind_of input) 0x03) (row (address_of input) (part input 4 8) ∷ []) [])

abbrev pub with_items : List Item → Reading → Reading
with_items is r = record { items = is ++ r.items; stop = r.stop }

-- `input` is what is left, from byte `place` on, and starts with item `number`. `looks` is how many items may still be looked at; the
-- reading starts with 2,049 and finds a fault at item 2,049, so that it never runs out: it is there that the definition may recur.
unfoldable pub read_from : ℕ → List ℕ → ℕ → ℕ → Bool → Reading
read_from zero input place number afterLeave = record { items = []; stop = fault 25 place }
read_from (suc looks) input place number afterLeave =
    cond (eqb (length input) 0) (record { items = []; stop = at_end afterLeave })
    (cond (eqb (fault_at input number afterLeave) 0)
    (with_items (items_at input)
    (read_from looks (drop (size_of input) input) (place + size_of input) (number + 1) (eqb (kind_of input) 0x0F)))
    (record { items = []; stop = fault (fault_at input number afterLeave) place }))

unfoldable pub reading : List ℕ → Reading
reading input = read_from 2049 input 0 1 false

-- the recipe read: Open is first, so that its module and group are bytes 1 and 2
unfoldable pub recipe_of : List ℕ → Recipe
recipe_of input = record { module_number = get_or input 1 0; group_number = get_or input 2 0; items = (reading input).items }
