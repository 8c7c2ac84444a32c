-- What the loops over a recipe keep: the reading from the start is what was read so far, and then the reading from the cursor on. A step
-- of it is recipe_fault's, at the cursor's place; what is added here is the count of frames.
-- Assumes nothing.
use mathlib.Core.Path.{◌≡◌, sym, ap, ap₂, ◌∙◌}
use mathlib.Core.Bool.{true, false}
use mathlib.Core.List.{List, [], ◌∷◌, ◌++◌}
use mathlib.Core.Logic.{◌⊎◌, inl, inr}
use Prim.Native.Nat.{ℕ, ◌+◌, ◌-◌, ◌*◌, ◌≤◌, ◌<◌, zero-le}
use native.Mathlib.Omega.{arith}
use native.Mathlib.Nat.{zero-add, add_assoc}
use lib.Dec.{eqb}
use lib.ListN.{length, drop, get_or}
use borrow.Author.Tests.{eqb-true}
use Rattle.base.proofs.Choice.{by_cond, true_or_false}
use Rattle.recipe_item.specs.Internal.Emitted.{frames_of_kind}
use Rattle.recipe.specs.Items.{Item}
use Rattle.recipe.specs.Frames.{item_count, items_count, frame_count}
use Rattle.recipe.specs.Faults.{kind_of, body_length, fault_at}
use Rattle.recipe.specs.Reading.{Reading, Stop, items_at, with_items, reading, recipe_of}
use Rattle.recipe.specs.Translation.{Frames, Refused, answer_at, checked}
use Rattle.recipe_fault.specs.Internal.Steps.{read_on}
use Rattle.recipe_fault.proofs.Faulting.{kind_at}
use Rattle.recipe_fault.proofs.Walking.{read_start, on_end, on_fault, at_item, fewer, item_inside}
use Rattle.recipe_fault.proofs.Walking.{not_ended as before_leave, on_next as read_next}
use Rattle.recipe_translate.specs.declared.cursor.Cursor.{Cursor}
use Rattle.recipe_translate.specs.Internal.Steps.{read_at, leave_left, next_of, AtCursor}

-- the frames of what stands there are those of its kind, and Leave's is still to come or not
count_there : (input : List ℕ) → items_count (items_at input) + 1 ≡ frames_of_kind (kind_of input) + leave_left (eqb (kind_of input) 0x0F)
unfolding items_count
count_there input =
    go (true_or_false (eqb (kind_of input) 0x02)) (true_or_false (eqb (kind_of input) 0x03)) (true_or_false (eqb (kind_of input) 0x0F))
  where
    go : (eqb (kind_of input) 0x02 ≡ true) ⊎ (eqb (kind_of input) 0x02 ≡ false) → (eqb (kind_of input) 0x03 ≡ true) ⊎ (eqb
        (kind_of input) 0x03 ≡ false)
        → (eqb (kind_of input) 0x0F ≡ true) ⊎ (eqb (kind_of input) 0x0F ≡ false)
        → items_count (items_at input) + 1 ≡ frames_of_kind (kind_of input) + leave_left (eqb (kind_of input) 0x0F)
    go (inl b) r l = rw (eqb-true (kind_of input) 0x02 b)
    go (inr b) (inl r) l = rw (eqb-true (kind_of input) 0x03 r)
    go (inr b) (inr r) (inl l) = rw (b, r, l)
    go (inr b) (inr r) (inr l) = rw (b, r, l)

few_frames : (kind : ℕ) → frames_of_kind kind ≤ 18
few_frames kind =
    by_cond (λ (n : ℕ). n ≤ 18) (eqb kind 0x02) _ _ (λ _. omega arith)
    (λ _. by_cond (λ (n : ℕ). n ≤ 18) (eqb kind 0x03) _ _ (λ _. omega arith)
    (λ _. by_cond (λ (n : ℕ). n ≤ 18) (eqb kind 0x0F) _ _ (λ _. omega arith) (λ _. omega arith)))

pub count_append : (is js : List Item) → items_count (is ++ js) ≡ items_count is + items_count js
unfolding items_count
count_append [] js = sym (zero-add (items_count js))
count_append (i ∷ is) js = ap (λ (n : ℕ). item_count i + n) (count_append is js) ∙ sym (add_assoc (item_count i) (items_count is)
    (items_count js))

-- where a cursor can stand
pub record Stands (s : List ℕ) (c : Cursor) : Type 0 where
  pub inside : c.place ≤ length s
  pub few : c.number ≤ 2049
  pub small : c.frames ≤ 18 * c.number

-- ---- one step from a cursor

-- the cursor behind an item, from the size and the frames that the code found for the kind it read
pub next_is : (s : List ℕ) (c : Cursor) (size frames : ℕ) → size ≡ 1 + body_length (get_or s c.place 0)
    → frames ≡ frames_of_kind (get_or s c.place 0)
    → record { place = c.place + size; number = c.number + 1; ended = eqb (get_or s c.place 0) 0x0F; frames = c.frames + frames }
    ≡ next_of s c
next_is s c size frames p q = rw (kind_at s c.place, p, q)

module _ (s : List ℕ) (c : Cursor) (at : AtCursor s c) where
  -- the item is read, and then what is read from the cursor behind it
  pub on_next : read_at s c ≡ with_items (items_at (drop c.place s)) (read_at s (next_of s c))
  on_next = read_next s c.place c.number c.ended at.item

  -- it is not behind Leave
  pub not_ended : c.ended ≡ false
  not_ended = before_leave s c.place c.number c.ended at.item

  -- behind it a cursor can stand, too
  pub stands_next : Stands s c → Stands s (next_of s c)
  stands_next k = record {
    inside = item_inside s c.place c.number c.ended at.item;
    few = omega (arith, fewer s c.place c.number c.ended at.item);
    small = omega (arith, few_frames (kind_of (drop c.place s)), k.small);
  }

-- ---- what the check's loop keeps

pub record Kept (s : List ℕ) (c : Cursor) : Type 0 where
  pub stop : (reading s).stop ≡ (read_at s c).stop
  pub count : items_count (reading s).items + 1 ≡ c.frames + items_count (read_at s c).items + leave_left c.ended
  pub stands : Stands s c

pub kept_start : (s : List ℕ) → Kept s (record { place = 0; number = 1; ended = false; frames = 0 })
kept_start s = record {
  stop = ap (λ (r : Reading). r.stop) (read_start s);
  count =
      ap (λ (r : Reading). items_count r.items + 1) (read_start s)
      ∙ ap (λ (n : ℕ). n + 1) (sym (zero-add (items_count (read_on s 0 1 false).items)));
  stands = record { inside = zero-le; few = omega arith; small = omega arith };
}

module _ (s : List ℕ) (c : Cursor) (k : Kept s c) where
  -- where no fault was found
  pub at_cursor : (n : ℕ) → c.place < length s → n ≡ fault_at (drop c.place s) c.number c.ended → n ≡ 0 → AtCursor s c
  at_cursor n h e z = record {
    item = at_item s c.place c.number c.ended n h k.stands.few e z;
    small = omega (
      arith,
      k.stands.few,
      k.stands.small,
    );
  }

  -- the answer by how the reading from here stops, with the frames so far and those of what is read from here
  answers : (r : Reading) → read_at s c ≡ r → checked s ≡ answer_at r.stop (length s) (c.frames + items_count r.items + leave_left
      c.ended)
  unfolding checked frame_count recipe_of
  answers r e =
      ap₂ (λ (t : Stop) (n : ℕ). answer_at t (length s) n) (k.stop ∙ ap (λ (x : Reading). x.stop) e)
      (k.count ∙ ap (λ (x : Reading). c.frames + items_count x.items + leave_left c.ended) e)

  pub kept_done : length s ≤ c.place → c.ended ≡ true → Frames c.frames ≡ checked s
  unfolding items_count
  kept_done h e =
      sym (answers _ (on_end s c.place c.number c.ended k.stands.few h) ∙ rw e (ap Frames (omega arith)))

  pub kept_open : length s ≤ c.place → c.ended ≡ false → Refused 20 (length s) ≡ checked s
  kept_open h e = sym (answers _ (on_end s c.place c.number c.ended k.stands.few h) ∙ rw e)

  pub kept_fault : (n : ℕ) → c.place < length s → n ≡ fault_at (drop c.place s) c.number c.ended → (n ≡ 0 → ⊥)
      → Refused n c.place ≡ checked s
  kept_fault n h e z = sym (answers _ (on_fault s c.place c.number c.ended k.stands.few h n e z))

  -- the frames of all, from those before an item, its own and those behind it
  pub counted : AtCursor s c → items_count (reading s).items + 1
      ≡ c.frames + frames_of_kind (kind_of (drop c.place s)) + items_count (read_at s (next_of s c)).items + leave_left (next_of s c).ended
  counted at =
      let t = drop c.place s in
      let read : items_count (read_at s c).items ≡ items_count (items_at t) + items_count (read_at s (next_of s c)).items =
      ap (λ (x : Reading). items_count x.items) (on_next s c at) ∙ count_append (items_at t) (read_at s (next_of s c)).items in
      let none : leave_left c.ended ≡ 1 = ap leave_left (not_ended s c at) in
      omega (arith, k.count, read, count_there t)

  pub kept_next : (r : Cursor) → AtCursor s c → r ≡ next_of s c → Kept s r
  kept_next r at q =
      rw q
      (record {
        stop = k.stop ∙ ap (λ (x : Reading). x.stop) (on_next s c at);
        count = counted at;
        stands = stands_next s c at k.stands;
      })

-- each step comes nearer to the end
pub nearer : (s : List ℕ) (c r : Cursor) → c.place < length s → r ≡ next_of s c → length s - r.place < length s - c.place
nearer s c r h q = rw q (omega arith)
