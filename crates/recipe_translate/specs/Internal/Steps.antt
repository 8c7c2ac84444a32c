-- Where a reading stands, and behind the next item. (For the private functions' contracts; the public ones cite none of it.)
use Rattle.std.specs.Prelude.{ℕ, ◌+◌, ◌<◌, Bool, cond, List, eqb, drop}
use Rattle.recipe_item.specs.Internal.Emitted.{frames_of_kind}
use Rattle.recipe.specs.Faults.{kind_of}
use Rattle.recipe.specs.Reading.{Reading, size_of}
use Rattle.recipe_fault.specs.Internal.Steps.{read_on, AtItem}
use Rattle.recipe_translate.specs.declared.cursor.Cursor.{Cursor}

-- the reading from a cursor on
abbrev pub read_at : List ℕ → Cursor → Reading
read_at input c = read_on input c.place c.number c.ended

-- the frames of Leave that are still to come
abbrev pub leave_left : Bool → ℕ
leave_left ended = cond ended 0 1

-- the cursor behind the item that it stands at
abbrev pub next_of : List ℕ → Cursor → Cursor
next_of input c = record {
  place = c.place + size_of (drop c.place input);
  number = c.number + 1;
  ended = eqb (kind_of (drop c.place input)) 0x0F;
  frames = c.frames + frames_of_kind (kind_of (drop c.place input));
}

-- a cursor that stands at an item without fault, and the frames before it leave room to count on
pub record AtCursor (input : List ℕ) (c : Cursor) : Type 0 where
  pub item : AtItem input c.place c.number c.ended
  pub small : c.frames < 1000000
