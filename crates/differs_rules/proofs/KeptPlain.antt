-- The shorter recipe comes to what the recipe comes to, read plainly, over any FLASH that is what the image is on the cells of the
-- recipe's Blocks. A Block that is dropped would set cells to what they hold, so nothing is lost; and behind each item, dropped or not,
-- both FLASHes hold the same in the cells that it sets and what they held in the others, so that they still agree on the Blocks to come.
-- Assumes nothing.
use mathlib.Core.Path.{◌≡◌, ◌∙◌, refl, sym, ap, subst}
use mathlib.Core.Bool.{true, false≢true}
use mathlib.Core.List.{List, [], ◌∷◌, ◌++◌}
use Prim.Native.Nat.{ℕ, ◌+◌, ◌<◌}
use native.Mathlib.Omega.{arith}
use lib.ListN.{length, get_or, take, drop, take-append-drop}
use lib.Seq.{ext_get_or, drop-drop}
use Rattle.base.specs.Parts.{part, patch}
use Rattle.base.proofs.Choice.{by_cond}
use Rattle.base.proofs.Patched.{part_length, part_cell}
use Rattle.memory_address.specs.Places.{flash_cells}
use Rattle.recipe.specs.Items.{Item, block, row, Recipe, Legal, LegalItem, LegalItems}
use Rattle.recipe.specs.Plain.{Memories, plain_item, plain_items, plain_leave, plainly, Each}
use Rattle.recipe.proofs.Inside.{block_inside}
use Rattle.recipe.proofs.Plainly.{sets_patch, plain_item_sizes}
use Rattle.recipe.proofs.Agreeing.{item_flash}
use Rattle.differs_rules.specs.Keeping.{left_by, stands, kept_items, kept_recipe}
use Rattle.differs_rules.specs.Turns.{AgreesOn}
use Rattle.differs_rules.proofs.Keeping.{dropped_stands}

-- cells put where they stand change nothing
patch_same : (m : List ℕ) (a : ℕ) (d : List ℕ) → length d ≡ 64 → part m a 64 ≡ d → patch m a d ≡ m
unfolding patch
patch_same m a d l e =
    ap (λ (n : ℕ). take a m ++ (d ++ drop (a + n) m)) l
    ∙ ap (λ (x : List ℕ). take a m ++ (x ++ drop (a + 64) m)) (sym e)
    ∙ ap (λ (x : List ℕ). take a m ++ (part m a 64 ++ x)) (sym (drop-drop 64 a m))
    ∙ ap (λ (x : List ℕ). take a m ++ x) (take-append-drop 64 (drop a m))
    ∙ take-append-drop a m

-- a Block whose 64 bytes stand there leaves FLASH as it is
pub dropped_nothing : (a : ℕ) (d flash : List ℕ) → LegalItem (block a d) → length flash ≡ flash_cells → part flash a 64 ≡ d
    → left_by (block a d) flash ≡ flash
dropped_nothing a d flash h l e =
    let w = block_inside a d h in
    sets_patch flash a d (omega (arith, w.1, l)) ∙ patch_same flash a d h.1 e

-- so does any item that is dropped
pub standing_leaves : (i : Item) (flash : List ℕ) → LegalItem i → length flash ≡ flash_cells → stands i flash ≡ true
    → left_by i flash ≡ flash
standing_leaves (block a d) flash h l s = dropped_nothing a d flash h l (dropped_stands a d flash s)
standing_leaves (row a d) flash h l s = refl

-- an item leaves FLASH as long as it is
pub left_sized : (i : Item) (flash : List ℕ) → length flash ≡ flash_cells → length (left_by i flash) ≡ flash_cells
left_sized i flash l = (plain_item_sizes i (record { flash = flash; eeprom = [] })).0 ∙ l

-- agreement on a Block's cells outlives another item: that item's cells are then the same in both, the others as they were
module _ (i : Item) (image : List ℕ) (m : Memories) (legal : LegalItem i) (li : length image ≡ flash_cells)
    (lm : length m.flash ≡ flash_cells) where
  agrees_behind : (a : ℕ) (d : List ℕ) → LegalItem (block a d) → part m.flash a 64 ≡ part image a 64
      → part (plain_item i m).flash a 64 ≡ part (left_by i image) a 64
  agrees_behind a d h e =
      let w = block_inside a d h in
      let m' : Memories = record { flash = image; eeprom = [] } in
      let f : List ℕ = (plain_item i m).flash in
      let f' : List ℕ = left_by i image in
      let lf : length f ≡ flash_cells = (plain_item_sizes i m).0 ∙ lm in
      let lf' : length f' ≡ flash_cells = left_sized i image li in
      let p : length (part f a 64) ≡ 64 = part_length f a 64 (omega (arith, w.1, h.1, lf)) in
      let p' : length (part f' a 64) ≡ 64 = part_length f' a 64 (omega (arith, w.1, h.1, lf')) in
      ext_get_or 0 (part f a 64) (part f' a 64) (p ∙ sym p')
      (λ c k.
      let b : c < 64 = omega (arith, k, p) in
      part_cell f a 64 c b
      ∙ item_flash (a + c) i m m' legal lm li
      (λ _. sym (part_cell m.flash a 64 c b) ∙ ap (λ (x : List ℕ). get_or x c 0) e ∙ part_cell image a 64 c b)
      ∙ sym (part_cell f' a 64 c b))

  each_behind : (is : List Item) → LegalItems is → Each (AgreesOn image m.flash) is
      → Each (AgreesOn (left_by i image) (plain_item i m).flash) is
  each_behind [] h e = tt
  each_behind (block a d ∷ is) h e = (agrees_behind a d h.0 e.0, each_behind is h.1 e.1)
  each_behind (row a d ∷ is) h e = (tt, each_behind is h.1 e.1)

-- an item that stands in the image, and so in a FLASH that agrees with it, leaves the memories as they are
standing_plain : (i : Item) (image : List ℕ) (m : Memories) → LegalItem i → length m.flash ≡ flash_cells → AgreesOn image m.flash i
    → stands i image ≡ true → plain_item i m ≡ m
standing_plain (block a d) image m h l e s =
    ap (λ (f : List ℕ). record { flash = f; eeprom = m.eeprom })
    (dropped_nothing a d m.flash h l (e ∙ dropped_stands a d image s))
standing_plain (row a d) image m h l e s = absurd (false≢true s)

items_plain : (is : List Item) (image : List ℕ) (m : Memories) → LegalItems is → length image ≡ flash_cells
    → length m.flash ≡ flash_cells → Each (AgreesOn image m.flash) is → plain_items (kept_items is image) m ≡ plain_items is m
unfolding kept_items plain_items
items_plain [] image m h li lm e = refl
items_plain (i ∷ is) image m h li lm e =
    let rest : List Item = kept_items is (left_by i image) in
    let ih : plain_items rest (plain_item i m) ≡ plain_items is (plain_item i m)
    = items_plain is (left_by i image) (plain_item i m) h.1 (left_sized i image li) ((plain_item_sizes i m).0 ∙ lm)
    (each_behind i image m h.0 li lm is h.1 e.1) in
    by_cond (λ (x : List Item). plain_items (x ++ rest) m ≡ plain_items is (plain_item i m)) (stands i image) [] (i ∷ [])
    (λ (s : stands i image ≡ true).
    ap (λ (n : Memories). plain_items rest n) (sym (standing_plain i image m h.0 lm e.0 s)) ∙ ih)
    (λ _. ih)

-- "erase only what differs" loses nothing: over each FLASH that is what the image is on the cells of the recipe's Blocks, the shorter
-- recipe, read plainly, leaves both memories as the recipe itself does
pub kept_plain : (r : Recipe) (image : List ℕ) (m : Memories) → Legal r → length image ≡ flash_cells → length m.flash ≡ flash_cells
    → Each (AgreesOn image m.flash) r.items → plainly (kept_recipe r image) m ≡ plainly r m
unfolding plainly kept_recipe
kept_plain r image m h li lm e = ap plain_leave (items_plain r.items image m h.each li lm e)

agrees_self : (is : List Item) (flash : List ℕ) → Each (AgreesOn flash flash) is
agrees_self [] flash = tt
agrees_self (block a d ∷ is) flash = (refl, agrees_self is flash)
agrees_self (row a d ∷ is) flash = (tt, agrees_self is flash)

-- a FLASH that is the image is so on every Block's cells
pub agrees_equal : (is : List Item) (image flash : List ℕ) → flash ≡ image → Each (AgreesOn image flash) is
agrees_equal is image flash e = subst (λ (f : List ℕ). Each (AgreesOn f flash) is) e (agrees_self is flash)

-- above all over the image itself
pub kept_plain_equal : (r : Recipe) (image : List ℕ) (m : Memories) → Legal r → length image ≡ flash_cells → m.flash ≡ image
    → plainly (kept_recipe r image) m ≡ plainly r m
kept_plain_equal r image m h l e = kept_plain r image m h l (ap length e ∙ l) (agrees_equal r.items image m.flash e)
