-- The plain reading forgets what stood in the cells that it sets: over memories of one size that agree on every cell that no item names,
-- BOOTFL's apart, it comes to the same. Cell by cell: where an item names it, both hold the last such item's byte; where none does, both
-- hold what they held, which agreed.
-- Assumes nothing.
use mathlib.Core.Path.{◌≡◌, ◌∙◌, refl, sym, ap, ap₂}
use mathlib.Core.Bool.{Bool, true, false}
use mathlib.Core.List.{List, [], ◌∷◌}
use mathlib.Core.Logic.{◌⊎◌, inl, inr, ⊎_elim}
use Prim.Native.Nat.{ℕ, ◌+◌, ◌-◌, ◌≤◌, ◌<◌}
use native.Mathlib.Omega.{arith}
use lib.Dec.{ltb, eqb}
use lib.ListN.{length, get_or, set, length-set}
use lib.Seq.{ext_get_or, get_or-set_same, get_or-set_other}
use borrow.Author.Tests.{ltb-true, ltb-false, eqb-true, eqb-false}
use Rattle.base.specs.Parts.{patch}
use Rattle.base.proofs.Patched.{inside_patch, elsewhere_patch}
use Rattle.base.proofs.Choice.{true_or_false}
use Rattle.memory_address.specs.Places.{flash_cells, eeprom_cells, eeprom_cell, bootfl}
use Rattle.recipe.specs.Items.{Item, block, row, Recipe, Legal, LegalItem, LegalItems}
use Rattle.recipe.specs.Plain.{Memories, plain_item, plain_items, plainly, OutsideFlash, OutsideEeprom, Each}
use Rattle.recipe.proofs.Inside.{block_inside, row_inside}
use Rattle.recipe.proofs.Plainly.{plain_block, plain_row, plain_item_sizes, plain_items_sizes}

-- a cell lies below a part, in it, or above it
where_from : (c a k : ℕ) → ((a ≤ c) × (c < a + k)) ⊎ ((c < a) ⊎ (a + k ≤ c))
where_from c a k = low (ltb c a) refl
  where
    high : (b : Bool) → ltb c (a + k) ≡ b → a ≤ c → ((a ≤ c) × (c < a + k)) ⊎ ((c < a) ⊎ (a + k ≤ c))
    high true e h = inl (h, ltb-true c (a + k) e)
    high false e h = inr (inr (ltb-false c (a + k) e))

    low : (b : Bool) → ltb c a ≡ b → ((a ≤ c) × (c < a + k)) ⊎ ((c < a) ⊎ (a + k ≤ c))
    low true e = inr (inl (ltb-true c a e))
    low false e = high (ltb c (a + k)) refl (ltb-false c a e)

-- one patch over two memories: a cell is the same if it was the same, or if the patch covers it
patch_agrees : (m m' : List ℕ) (a : ℕ) (d : List ℕ) → a + length d ≤ length m → a + length d ≤ length m' → (c : ℕ)
    → ((c < a) ⊎ (a + length d ≤ c) → get_or m c 0 ≡ get_or m' c 0) → get_or (patch m a d) c 0 ≡ get_or (patch m' a d) c 0
patch_agrees m m' a d f f' c same =
    ⊎_elim
    (λ w.
    let l : c - a < length d = omega (arith, w.0, w.1) in
    let e : a + (c - a) ≡ c = omega (arith, w.0) in
    rw e at (inside_patch m a d f (c - a) l ∙ sym (inside_patch m' a d f' (c - a) l)))
    (λ o. elsewhere_patch m a d f c o ∙ same o ∙ sym (elsewhere_patch m' a d f' c o))
    (where_from c a (length d))

module _ (c : ℕ) where
  -- an item over two memories
  pub item_flash : (i : Item) (m m' : Memories) → LegalItem i → length m.flash ≡ flash_cells → length m'.flash ≡ flash_cells
      → (OutsideFlash c i → get_or m.flash c 0 ≡ get_or m'.flash c 0)
      → get_or (plain_item i m).flash c 0 ≡ get_or (plain_item i m').flash c 0
  item_flash (block a d) m m' h l l' same =
      let w = block_inside a d h in
      ap (λ (x : Memories). get_or x.flash c 0) (plain_block a d m h l)
      ∙ patch_agrees m.flash m'.flash a d (omega arith) (omega arith) c same
      ∙ sym (ap (λ (x : Memories). get_or x.flash c 0) (plain_block a d m' h l'))
  item_flash (row a d) m m' h l l' same = same tt

  item_eeprom : (i : Item) (m m' : Memories) → LegalItem i → length m.eeprom ≡ eeprom_cells → length m'.eeprom ≡ eeprom_cells
      → (OutsideEeprom c i → get_or m.eeprom c 0 ≡ get_or m'.eeprom c 0)
      → get_or (plain_item i m).eeprom c 0 ≡ get_or (plain_item i m').eeprom c 0
  item_eeprom (block a d) m m' h l l' same = same tt
  item_eeprom (row a d) m m' h l l' same =
      let w = row_inside a d h in
      ap (λ (x : Memories). get_or x.eeprom c 0) (plain_row a d m h l)
      ∙ patch_agrees m.eeprom m'.eeprom (eeprom_cell a) d (omega arith) (omega arith) c same
      ∙ sym (ap (λ (x : Memories). get_or x.eeprom c 0) (plain_row a d m' h l'))

  -- items over two memories
  items_flash : (is : List Item) (m m' : Memories) → LegalItems is → length m.flash ≡ flash_cells → length m'.flash ≡ flash_cells
      → (Each (OutsideFlash c) is → get_or m.flash c 0 ≡ get_or m'.flash c 0)
      → get_or (plain_items is m).flash c 0 ≡ get_or (plain_items is m').flash c 0
  unfolding plain_items
  items_flash [] m m' h l l' same = same tt
  items_flash (i ∷ is) m m' h l l' same =
      items_flash is (plain_item i m) (plain_item i m') h.1 ((plain_item_sizes i m).0 ∙ l) ((plain_item_sizes i m').0 ∙ l')
      (λ os. item_flash i m m' h.0 l l' (λ o. same (o, os)))

  items_eeprom : (is : List Item) (m m' : Memories) → LegalItems is → length m.eeprom ≡ eeprom_cells → length m'.eeprom ≡ eeprom_cells
      → (Each (OutsideEeprom c) is → get_or m.eeprom c 0 ≡ get_or m'.eeprom c 0)
      → get_or (plain_items is m).eeprom c 0 ≡ get_or (plain_items is m').eeprom c 0
  unfolding plain_items
  items_eeprom [] m m' h l l' same = same tt
  items_eeprom (i ∷ is) m m' h l l' same =
      items_eeprom is (plain_item i m) (plain_item i m') h.1 ((plain_item_sizes i m).1 ∙ l) ((plain_item_sizes i m').1 ∙ l')
      (λ os. item_eeprom i m m' h.0 l l' (λ o. same (o, os)))

-- BOOTFL set in two memories
bootfl_agrees : (e e' : List ℕ) (c : ℕ) → length e ≡ eeprom_cells → length e' ≡ eeprom_cells
    → ((c ≡ eeprom_cell bootfl → ⊥) → get_or e c 0 ≡ get_or e' c 0)
    → get_or (set e (eeprom_cell bootfl) 0x00) c 0 ≡ get_or (set e' (eeprom_cell bootfl) 0x00) c 0
bootfl_agrees e e' c l l' same =
    ⊎_elim
    (λ t.
    let here : c ≡ eeprom_cell bootfl = eqb-true c (eeprom_cell bootfl) t in
    rw here (get_or-set_same e (eeprom_cell bootfl) 0x00 0 (omega arith) ∙ sym (get_or-set_same e' (eeprom_cell bootfl) 0x00 0 (omega arith))))
    (λ t.
    let other = eqb-false c (eeprom_cell bootfl) t in
    get_or-set_other e (eeprom_cell bootfl) c 0x00 0 other ∙ same other ∙ sym (get_or-set_other e' (eeprom_cell bootfl) c 0x00 0 other))
    (true_or_false (eqb c (eeprom_cell bootfl)))

-- the whole plain reading
pub plainly_agrees : (r : Recipe) (m m' : Memories) → Legal r → length m.flash ≡ flash_cells → length m'.flash ≡ flash_cells
    → length m.eeprom ≡ eeprom_cells → length m'.eeprom ≡ eeprom_cells
    → ((c : ℕ) → Each (OutsideFlash c) r.items → get_or m.flash c 0 ≡ get_or m'.flash c 0)
    → ((c : ℕ) → (c ≡ eeprom_cell bootfl → ⊥) → Each (OutsideEeprom c) r.items → get_or m.eeprom c 0 ≡ get_or m'.eeprom c 0)
    → plainly r m ≡ plainly r m'
unfolding plainly
plainly_agrees r m m' h fl fl' el el' inFlash inEeprom =
    let is = r.items in
    let s = plain_items_sizes is m in
    let s' = plain_items_sizes is m' in
    let e = (plain_items is m).eeprom in
    let e' = (plain_items is m').eeprom in
    let long : length (set e (eeprom_cell bootfl) 0x00) ≡ eeprom_cells = length-set e (eeprom_cell bootfl) 0x00 ∙ s.1 ∙ el in
    let long' : length (set e' (eeprom_cell bootfl) 0x00) ≡ eeprom_cells = length-set e' (eeprom_cell bootfl) 0x00 ∙ s'.1 ∙ el' in
    ap₂ (λ (x y : List ℕ). record { flash = x; eeprom = y })
    (ext_get_or 0 (plain_items is m).flash (plain_items is m').flash (s.0 ∙ fl ∙ sym (s'.0 ∙ fl'))
    (λ c _. items_flash c is m m' h.each fl fl' (inFlash c)))
    (ext_get_or 0 (set e (eeprom_cell bootfl) 0x00) (set e' (eeprom_cell bootfl) 0x00) (long ∙ sym long')
    (λ c _. bootfl_agrees e e' c (s.1 ∙ el) (s'.1 ∙ el') (λ b. items_eeprom c is m m' h.each el el' (inEeprom c b))))
