-- What holds of every item of a recipe of cells, and how many there are: an item stands only where one of its places is given, at the
-- first place and then always its size on. One law for blocks and rows, by induction over how many there may be.
-- Assumes nothing.
use mathlib.Core.Path.{◌≡◌, refl, ap, ◌∙◌}
use mathlib.Core.Bool.{true}
use mathlib.Core.List.{List, [], ◌∷◌, ◌++◌}
use Prim.Native.Nat.{ℕ, zero, suc, ◌+◌, ◌*◌, ◌≤◌, ◌<◌}
use native.Mathlib.Omega.{arith}
use lib.ListN.{length, get_or, length-append}
use Rattle.base.specs.Parts.{Bytes}
use Rattle.base.proofs.Choice.{by_cond}
use Rattle.recipe.specs.Items.{Item, block, row, printed_item, printed_items}
use Rattle.recipe.specs.Plain.{Each}
use Rattle.recipe.proofs.Printing.{printed_append}
use Rattle.hex_rules.specs.Cells.{Cell, byte_at, touched}
use Rattle.hex_rules.specs.Recipe.{contents, item_at, upward}

-- ---- the contents of an item

pub contents_length : (cells : List Cell) (a n : ℕ) → length (contents cells a n) ≡ n
unfolding contents
contents_length cells a zero = refl
contents_length cells a (suc n) = ap suc (contents_length cells (suc a) n)

pub contents_bytes : (cells : List Cell) → ((a : ℕ) → byte_at cells a < 256) → (a n : ℕ) → Bytes (contents cells a n)
unfolding contents
contents_bytes cells h a zero = tt
contents_bytes cells h a (suc n) = (h a, contents_bytes cells h (suc a) n)

-- byte j of the contents is the one of place a + j
pub contents_at : (cells : List Cell) (a n j : ℕ) → j < n → get_or (contents cells a n) j 0 ≡ byte_at cells (a + j)
unfolding contents
contents_at cells a zero j h = absurd (omega arith)
contents_at cells a (suc n) zero h = let e : a ≡ a + zero = omega arith in ap (byte_at cells) e
contents_at cells a (suc n) (suc j) h =
    let e : suc a + j ≡ a + suc j = omega arith in
    contents_at cells (suc a) n j (omega arith) ∙ ap (byte_at cells) e

-- ---- the items

-- the items of FLASH, and those of EEPROM: both together are the recipe's
abbrev pub blocks_of : List Cell → List Item
blocks_of cells = upward block 64 cells 1024 0x000000

abbrev pub rows_of : List Cell → List Item
rows_of cells = upward row 8 cells 128 0xF00000

pub each_append : (P : Item → Type 0) (is js : List Item) → Each P is → Each P js → Each P (is ++ js)
each_append P [] js h k = k
each_append P (i ∷ is) js h k = (h.0, each_append P is js h.1 k)

module _ (item : ℕ → List ℕ → Item) (size : ℕ) (cells : List Cell) where
  -- what holds of the item of each touched part holds of every item
  pub each_upward : (P : Item → Type 0) (n a : ℕ)
      → ((b i : ℕ) → b ≡ a + size * i → i < n → touched cells b size ≡ true → P (item b (contents cells b size)))
      → Each P (upward item size cells n a)
  unfolding upward
  each_upward P zero a h = tt
  each_upward P (suc n) a h =
      each_append P (item_at item size cells a) (upward item size cells n (a + size))
      (by_cond (Each P) (touched cells a size) _ _ (λ t. (h a 0 (omega arith) (omega arith) t, tt)) (λ _. tt))
      (each_upward P n (a + size) (λ b i e l. h b (suc i) (omega arith) (omega arith)))

  -- there are at most as many as there are parts
  pub few_upward : (n a : ℕ) → length (upward item size cells n a) ≤ n
  unfolding upward
  few_upward zero a = omega arith
  few_upward (suc n) a =
      let one : length (item_at item size cells a) ≤ 1 =
      by_cond (λ (l : List Item). length l ≤ 1) (touched cells a size) (item a (contents cells a size) ∷ []) [] (λ _. omega arith)
      (λ _. omega arith) in
      omega (arith, length-append (item_at item size cells a) (upward item size cells n (a + size)), few_upward n (a + size))

  -- and so many bytes are printed of them
  pub small_upward : ((a : ℕ) (d : List ℕ) → length (printed_item (item a d)) ≡ 4 + length d)
      → (n a : ℕ) → length (printed_items (upward item size cells n a)) ≤ n * (4 + size)
  unfolding upward printed_items
  small_upward law zero a = omega arith
  small_upward law (suc n) a =
      let i = item a (contents cells a size) in
      let one : length (printed_items (item_at item size cells a)) ≤ 4 + size =
      by_cond (λ (l : List Item). length (printed_items l) ≤ 4 + size) (touched cells a size) (i ∷ []) []
      (λ _. omega (arith, length-append (printed_item i) [], law a (contents cells a size), contents_length cells a size))
      (λ _. omega arith) in
      omega (arith, printed_append (item_at item size cells a) (upward item size cells n (a + size)), small_upward law n (a + size))
