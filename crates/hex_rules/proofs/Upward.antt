-- "one Block per touched FLASH block upward, one Row per touched EEPROM row upward": at each part's address stands one item if the part is
-- touched and else none, there is none at any other address, and each item's address is smaller than the next one's. Each part's address is
-- the one before and the size, so that no two are the same; and EEPROM's places lie above those of FLASH.
-- Assumes nothing.
use mathlib.Core.Path.{◌≡◌, refl}
use mathlib.Core.Bool.{Bool, true, false, cond}
use mathlib.Core.List.{List, [], ◌∷◌, ◌++◌}
use mathlib.Core.Logic.{◌⊎◌, ⊎_elim}
use Prim.Native.Nat.{ℕ, zero, suc, ◌+◌, ◌*◌, ◌%◌, ◌≤◌, ◌<◌}
use native.Mathlib.Omega.{arith}
use borrow.Author.Tests.{eq-eqb, ne_eqb}
use Rattle.base.proofs.Choice.{by_cond}
use Rattle.recipe.specs.Items.{Item, block, row}
use Rattle.recipe.specs.Plain.{Each}
use Rattle.hex_rules.specs.Cells.{Cell, touched}
use Rattle.hex_rules.specs.Recipe.{contents, item_at, upward, items_of}
use Rattle.hex_rules.specs.Touching.{how_many, is_block_at, is_row_at, blocks_at, rows_at, place_of, places_of, Ascending}
use Rattle.hex_rules.proofs.EachItem.{blocks_of, rows_of, each_upward}

-- ---- how many

many_append : (test : Item → Bool) (is js : List Item) → how_many test (is ++ js) ≡ how_many test is + how_many test js
many_append test [] js = omega arith
many_append test (i ∷ is) js = omega (arith, many_append test is js)

-- none, where none passes
none : (test : Item → Bool) (is : List Item) → Each (λ i. test i ≡ false) is → how_many test is ≡ 0
none test [] h = refl
none test (i ∷ is) h = rw h.0 (omega (arith, none test is h.1))

module _ (item : ℕ → List ℕ → Item) (size : ℕ) (cells : List Cell) (test : Item → Bool) where
  -- none of the items of one size, where none at their addresses passes
  none_upward : (n a : ℕ) → ((b i : ℕ) (d : List ℕ) → b ≡ a + size * i → i < n → test (item b d) ≡ false)
      → how_many test (upward item size cells n a) ≡ 0
  none_upward n a h =
      none test (upward item size cells n a)
      (each_upward item size cells (λ i. test i ≡ false) n a (λ b i e l _. h b i (contents cells b size) e l))

  -- where the item at one address passes, and no other: one if that part is touched, and else none
  module _ (at : ℕ) (some : 0 < size) (here : (d : List ℕ) → test (item at d) ≡ true)
      (elsewhere : (b : ℕ) (d : List ℕ) → (b ≡ at → ⊥) → test (item b d) ≡ false) where
    one_here : (a : ℕ) → at ≡ a → how_many test (item_at item size cells a) ≡ cond (touched cells at size) 1 0
    one_here a e = rw (← e) (go (touched cells at size))
      where
        go : (b : Bool) → how_many test (cond b (item at (contents cells at size) ∷ []) []) ≡ cond b 1 0
        go true = rw (here (contents cells at size)) (omega arith)
        go false = refl

    none_here : (a : ℕ) → (a ≡ at → ⊥) → how_many test (item_at item size cells a) ≡ 0
    none_here a other =
        by_cond (λ (is : List Item). how_many test is ≡ 0) (touched cells a size) (item a (contents cells a size) ∷ []) []
        (λ _. rw (elsewhere a (contents cells a size) other) (omega arith)) (λ _. refl)

    one_upward : (n a i : ℕ) → at ≡ a + size * i → i < n
        → how_many test (upward item size cells n a) ≡ cond (touched cells at size) 1 0
    unfolding upward
    one_upward zero a i e l = absurd (omega arith)
    one_upward (suc n) a zero e l =
        omega (
          arith,
          many_append test (item_at item size cells a) (upward item size cells n (a + size)),
          one_here a (omega arith),
          none_upward n (a + size) (λ b j d q r. elsewhere b d (λ z. omega arith)),
        )
    one_upward (suc n) a (suc i) e l =
        omega (
          arith,
          many_append test (item_at item size cells a) (upward item size cells n (a + size)),
          none_here a (λ z. omega arith),
          one_upward n (a + size) i (omega arith) (omega arith),
        )

-- ---- in which order

-- numbers from low on, each smaller than the next, and all below high
abbrev Rising : ℕ → List ℕ → ℕ → Type 0
Rising low [] high = low ≤ high
Rising low (a ∷ rest) high = (low ≤ a) × Rising (suc a) rest high

rising_from : (low next : ℕ) (xs : List ℕ) (high : ℕ) → low ≤ next → Rising next xs high → Rising low xs high
rising_from low next [] high l r = omega arith
rising_from low next (x ∷ xs) high l r = (omega arith, r.1)

rising_append : (low next high : ℕ) (is js : List Item) → Rising low (places_of is) next → Rising next (places_of js) high
    → Rising low (places_of (is ++ js)) high
rising_append low next high [] js l r = rising_from low next (places_of js) high l r
rising_append low next high (i ∷ is) js l r = (l.0, rising_append (suc (place_of i)) next high is js l.1 r)

rising_ascending : (low : ℕ) (xs : List ℕ) (high : ℕ) → Rising low xs high → Ascending xs
rising_ascending low [] high r = tt
rising_ascending low (x ∷ []) high r = tt
rising_ascending low (x ∷ y ∷ xs) high r = (r.1.0, rising_ascending (suc x) (y ∷ xs) high r.1)

rising_upward : (item : ℕ → List ℕ → Item) (size : ℕ) (cells : List Cell) → 0 < size
    → ((a : ℕ) (d : List ℕ) → place_of (item a d) ≡ a) → (n a high : ℕ) → high ≡ a + size * n
    → Rising a (places_of (upward item size cells n a)) high
unfolding upward
rising_upward item size cells some law zero a high e = omega arith
rising_upward item size cells some law (suc n) a high e =
    rising_append a (a + size) high (item_at item size cells a) (upward item size cells n (a + size))
    (by_cond (λ (is : List Item). Rising a (places_of is) (a + size)) (touched cells a size) (item a (contents cells a size) ∷ []) []
    (λ _. rw (law a (contents cells a size)) (omega arith)) (λ _. omega arith))
    (rising_upward item size cells some law n (a + size) high (omega arith))

-- ---- the recipe

module _ (cells : List Cell) where
  -- no Row is a Block, and no Block a Row
  rows_none : (a : ℕ) → blocks_at a (rows_of cells) ≡ 0
  rows_none a = none_upward row 8 cells (is_block_at a) 128 0xF00000 (λ c i d e h. refl)

  blocks_none : (a : ℕ) → rows_at a (blocks_of cells) ≡ 0
  blocks_none a = none_upward block 64 cells (is_row_at a) 1024 0x000000 (λ c i d e h. refl)

  -- a block has one Block if it is touched, and else none
  pub blocks_exactly : (b : ℕ) → b < 1024 → blocks_at (64 * b) (items_of cells) ≡ cond (touched cells (64 * b) 64) 1 0
  unfolding items_of
  blocks_exactly b l =
      omega (
        arith,
        many_append (is_block_at (64 * b)) (blocks_of cells) (rows_of cells),
        one_upward block 64 cells (is_block_at (64 * b)) (64 * b) (omega arith) (λ d. eq-eqb (64 * b) (64 * b) refl)
            (λ c d z. ne_eqb c (64 * b) z) 1024 0x000000 b (omega arith) l,
        rows_none (64 * b),
      )

  -- and there is no other Block
  pub no_other_block : (a : ℕ) → (a % 64 ≡ 0 → ⊥) ⊎ (0x010000 ≤ a) → blocks_at a (items_of cells) ≡ 0
  unfolding items_of
  no_other_block a o =
      omega (
        arith,
        many_append (is_block_at a) (blocks_of cells) (rows_of cells),
        none_upward block 64 cells (is_block_at a) 1024 0x000000
            (λ c i d e h. ne_eqb c a (λ z. ⊎_elim (λ n. n (omega arith)) (λ n. omega arith) o)),
        rows_none a,
      )

  -- a row of EEPROM has one Row if it is touched, and else none
  pub rows_exactly : (k : ℕ) → k < 128 → rows_at (0xF00000 + 8 * k) (items_of cells) ≡ cond (touched cells (0xF00000 + 8 * k) 8) 1 0
  unfolding items_of
  rows_exactly k l =
      let at = 0xF00000 + 8 * k in
      omega (
        arith,
        many_append (is_row_at at) (blocks_of cells) (rows_of cells),
        blocks_none at,
        one_upward row 8 cells (is_row_at at) at (omega arith) (λ d. eq-eqb at at refl) (λ c d z. ne_eqb c at z) 128 0xF00000 k (omega arith)
            l,
      )

  -- and there is no other Row
  pub no_other_row : (a : ℕ) → (a % 8 ≡ 0 → ⊥) ⊎ ((a < 0xF00000) ⊎ (0xF00400 ≤ a)) → rows_at a (items_of cells) ≡ 0
  unfolding items_of
  no_other_row a o =
      omega (
        arith,
        many_append (is_row_at a) (blocks_of cells) (rows_of cells),
        blocks_none a,
        none_upward row 8 cells (is_row_at a) 128 0xF00000
            (λ c i d e h. ne_eqb c a (λ z. ⊎_elim (λ n. n (omega arith)) (λ n. ⊎_elim (λ q. omega arith) (λ q. omega arith) n) o)),
      )

  -- the addresses of the items, blocks first and then rows, go upward
  pub ascending : Ascending (places_of (items_of cells))
  unfolding items_of
  ascending =
      rising_ascending 0x000000 (places_of (blocks_of cells ++ rows_of cells)) 0xF00400
      (rising_append 0x000000 0x010000 0xF00400 (blocks_of cells) (rows_of cells)
      (rising_upward block 64 cells (omega arith) (λ a d. refl) 1024 0x000000 0x010000 refl)
      (rising_from 0x010000 0xF00000 (places_of (rows_of cells)) 0xF00400 (omega arith)
      (rising_upward row 8 cells (omega arith) (λ a d. refl) 128 0xF00000 0xF00400 refl)))
