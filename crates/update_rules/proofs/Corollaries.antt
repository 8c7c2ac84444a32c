-- What follows where a recipe has arrived whole, as people ask for it: which cells stay, what BOOTFL ends as, which byte a cell ends with,
-- what each answer shows, and what a restart then finds. It is read off the one statement, `Arrived`, that demand 3 gives on either port.
-- Assumes nothing.
use mathlib.Core.Path.{◌≡◌, ◌∙◌, refl, ap, sym}
use mathlib.Core.Bool.{true}
use mathlib.Core.List.{List, [], ◌∷◌, ◌++◌}
use Prim.Native.Nat.{ℕ, ◌+◌, ◌*◌, ◌<◌}
use native.Mathlib.Omega.{arith}
use lib.ListN.{length, get_or, replicate}
use lib.Seq.{get_or-set_other}
use Rattle.base.specs.Parts.{part}
use Rattle.base.proofs.Patched.{inside_patch}
use Rattle.memory_address.specs.Places.{flash_cells, eeprom_cells, eeprom_cell, bootfl}
use Rattle.memory_address.specs.Ranges.{Exactly}
use Rattle.memory_start.specs.Start.{starts}
use Rattle.memory_start.specs.Plain.{Starts}
use Rattle.memory_start.proofs.Laws.{starts_if, starts_only_if}
use Rattle.node_rules.specs.declared.Mode.TheVariants.{Normal, Waiting}
use Rattle.node_rules.specs.declared.Node.{Node}
use Rattle.node_rules.specs.declared.Choices.{Choices}
use Rattle.node_rules.specs.Record.{with_mode, tidied}
use Rattle.node_rules.specs.Numbered.{Restarted}
use Rattle.node_rules.specs.Restart.{restart_step}
use Rattle.node_rules.specs.Runs.{State}
use Rattle.node_rules.proofs.Restarting.{restart_normal}
use Rattle.recipe.specs.Items.{Item, block, row, Recipe, Legal, LegalItem, LegalItems}
use Rattle.recipe.specs.Frames.{frames_of, items_count, frame_count}
use Rattle.recipe.specs.Plain.{Memories, plain_item, plain_items, plainly, OutsideFlash, OutsideEeprom, Each}
use Rattle.recipe.proofs.Inside.{block_inside, row_inside}
use Rattle.recipe.proofs.Plainly.{plain_block, plain_row, plain_item_sizes, plain_items_sizes, flash_unchanged, eeprom_unchanged, plain_sizes, plain_flash_unchanged, plain_eeprom_unchanged, bootfl_zero}
use Rattle.update_rules.specs.Mirror.{mirrored, answers_of, shows}
use Rattle.update_rules.proofs.Mirroring.{answers_many, answers_last, answers_mirror, erase_shown, write_shown, row_shown}
use Rattle.update_rules.specs.Updated.{Full, Arrived}

-- ---- of the plain reading alone: the last item that names a cell

plain_split : (before : List Item) (i : Item) (after : List Item) (m : Memories)
    → plain_items (before ++ (i ∷ after)) m ≡ plain_items after (plain_item i (plain_items before m))
unfolding plain_items
plain_split [] i after m = refl
plain_split (x ∷ before) i after m = plain_split before i after (plain_item x m)

split_legal : (before : List Item) (i : Item) (after : List Item) → LegalItems (before ++ (i ∷ after)) → LegalItem i × LegalItems after
split_legal [] i after h = h
split_legal (x ∷ before) i after h = split_legal before i after h.1

module _ (r : Recipe) (m : Memories) (legal : Legal r) (before after : List Item) (a : ℕ) (d : List ℕ) (j : ℕ) (inside : j < length d) where
  plain_last_block : length m.flash ≡ flash_cells → r.items ≡ before ++ (block a d ∷ after) → Each (OutsideFlash (a + j)) after
      → get_or (plainly r m).flash (a + j) 0 ≡ get_or d j 0
  unfolding plainly
  plain_last_block l e o =
      let h = split_legal before (block a d) after (rw e at legal.each) in
      let m₁ = plain_items before m in
      let l₁ : length m₁.flash ≡ flash_cells = (plain_items_sizes before m).0 ∙ l in
      let w = block_inside a d h.0 in
      ap (λ (is : List Item). get_or (plain_items is m).flash (a + j) 0) e
      ∙ ap (λ (x : Memories). get_or x.flash (a + j) 0) (plain_split before (block a d) after m)
      ∙ flash_unchanged (a + j) after (plain_item (block a d) m₁) h.1 ((plain_item_sizes (block a d) m₁).0 ∙ l₁) o
      ∙ ap (λ (x : Memories). get_or x.flash (a + j) 0) (plain_block a d m₁ h.0 l₁)
      ∙ inside_patch m₁.flash a d (omega arith) j inside

  plain_last_row : length m.eeprom ≡ eeprom_cells → r.items ≡ before ++ (row a d ∷ after) → Each (OutsideEeprom (eeprom_cell a + j)) after
      → (eeprom_cell a + j ≡ eeprom_cell bootfl → ⊥) → get_or (plainly r m).eeprom (eeprom_cell a + j) 0 ≡ get_or d j 0
  unfolding plainly
  plain_last_row l e o b =
      let h = split_legal before (row a d) after (rw e at legal.each) in
      let m₁ = plain_items before m in
      let l₁ : length m₁.eeprom ≡ eeprom_cells = (plain_items_sizes before m).1 ∙ l in
      let w = row_inside a d h.0 in
      let c = eeprom_cell a + j in
      get_or-set_other (plain_items r.items m).eeprom (eeprom_cell bootfl) c 0x00 0 b
      ∙ ap (λ (is : List Item). get_or (plain_items is m).eeprom c 0) e
      ∙ ap (λ (x : Memories). get_or x.eeprom c 0) (plain_split before (row a d) after m)
      ∙ eeprom_unchanged c after (plain_item (row a d) m₁) h.1 ((plain_item_sizes (row a d) m₁).1 ∙ l₁) o
      ∙ ap (λ (x : Memories). get_or x.eeprom c 0) (plain_row a d m₁ h.0 l₁)
      ∙ inside_patch m₁.eeprom (eeprom_cell a) d (omega arith) j inside

-- ---- wherever a recipe has arrived whole, on either port: these answers were told of its frames, and this stands
module _ (r : Recipe) (n : Node) (m : Memories) (answers : List (List ℕ)) (after : State) (legal : Legal r) (full : Full m)
    (arrived : Arrived r n m answers after) where
  -- both memories equal the plain reading over what was there
  pub flash_as_read : after.flash ≡ (plainly r m).flash
  flash_as_read = ap (λ (s : State). s.flash) arrived.stands

  pub eeprom_as_read : after.eeprom ≡ (plainly r m).eeprom
  eeprom_as_read = ap (λ (s : State). s.eeprom) arrived.stands

  -- every cell that no Block and no Row names is unchanged, BOOTFL excepted
  pub flash_kept_lem : (c : ℕ) → Each (OutsideFlash c) r.items → get_or after.flash c 0 ≡ get_or m.flash c 0
  flash_kept_lem c o = ap (λ (f : List ℕ). get_or f c 0) flash_as_read ∙ plain_flash_unchanged c r m legal full.0 o

  pub eeprom_kept_lem : (c : ℕ) → (c ≡ eeprom_cell bootfl → ⊥) → Each (OutsideEeprom c) r.items
      → get_or after.eeprom c 0 ≡ get_or m.eeprom c 0
  eeprom_kept_lem c b o = ap (λ (f : List ℕ). get_or f c 0) eeprom_as_read ∙ plain_eeprom_unchanged c r m legal full.1 b o

  -- BOOTFL ends 0x00
  pub bootfl_ends_zero : get_or after.eeprom (eeprom_cell bootfl) 0 ≡ 0x00
  bootfl_ends_zero = ap (λ (f : List ℕ). get_or f (eeprom_cell bootfl) 0) eeprom_as_read ∙ bootfl_zero r m full.1

  -- the node waits for a restart, and is as it was otherwise, tidied
  pub waits : after.node ≡ with_mode (tidied n) Waiting
  waits = ap (λ (s : State). s.node) arrived.stands

  -- a cell ends with the byte of the last item that names it
  pub last_block_lem : (first others : List Item) (a : ℕ) (d : List ℕ) (j : ℕ) → j < length d → r.items ≡ first ++ (block a d ∷ others)
      → Each (OutsideFlash (a + j)) others → get_or after.flash (a + j) 0 ≡ get_or d j 0
  last_block_lem first others a d j h e o =
      ap (λ (f : List ℕ). get_or f (a + j) 0) flash_as_read ∙ plain_last_block r m legal first others a d j h full.0 e o

  pub last_row : (first others : List Item) (a : ℕ) (d : List ℕ) (j : ℕ) → j < length d → r.items ≡ first ++ (row a d ∷ others)
      → Each (OutsideEeprom (eeprom_cell a + j)) others → (eeprom_cell a + j ≡ eeprom_cell bootfl → ⊥)
      → get_or after.eeprom (eeprom_cell a + j) 0 ≡ get_or d j 0
  last_row first others a d j h e o b =
      ap (λ (f : List ℕ). get_or f (eeprom_cell a + j) 0) eeprom_as_read ∙ plain_last_row r m legal first others a d j h full.1 e o b

  -- ---- the answers

  told_at : (i : ℕ) → get_or answers i [] ≡ get_or (answers_of r) i []
  told_at i = ap (λ (xs : List (List ℕ)). get_or xs i []) arrived.answered

  pub answers_counted : length answers ≡ frame_count r
  answers_counted = ap length arrived.answered ∙ answers_many r

  -- every frame but the last was answered once, with number 0, by itself with the flag set
  pub answered_by_itself : (i : ℕ) → i + 1 < frame_count r → get_or answers i [] ≡ mirrored (get_or (frames_of r) i [])
  answered_by_itself i h = told_at i ∙ answers_mirror r i h

  pub answered_once : (i : ℕ) → i + 1 < frame_count r → (get_or (get_or answers i []) 0 0 ≡ 0) × (get_or (get_or answers i []) 1 0 ≡ 1)
  answered_once i h =
      let e = answered_by_itself i h in
      (ap (λ (x : List ℕ). get_or x 0 0) e, ap (λ (x : List ℕ). get_or x 1 0) e)

  -- and the last with 0 and no reply
  pub last_answer : (i : ℕ) → i + 1 ≡ frame_count r → (get_or (get_or answers i []) 0 0 ≡ 0) × (get_or (get_or answers i []) 1 0 ≡ 0)
  last_answer i h =
      let e = told_at i ∙ answers_last r i h in
      (ap (λ (x : List ℕ). get_or x 0 0) e, ap (λ (x : List ℕ). get_or x 1 0) e)

  -- each reply to an erase shows eight 0xFF, and each to a write the recipe's eight bytes
  module _ (first others : List Item) (a : ℕ) (d : List ℕ) where
    pub shows_erase : r.items ≡ first ++ (block a d ∷ others) → get_or answers (items_count first + 1) [] ≡ shows r (replicate 8 0xFF)
    shows_erase e = told_at (items_count first + 1) ∙ erase_shown r first others a d e

    pub shows_write : r.items ≡ first ++ (block a d ∷ others) → (i : ℕ) → i < 8
        → get_or answers (items_count first + (3 + 2 * i)) [] ≡ shows r (part d (8 * i) 8)
    shows_write e i h = told_at (items_count first + (3 + 2 * i)) ∙ write_shown r first others a d e i h

    pub shows_row : r.items ≡ first ++ (row a d ∷ others) → get_or answers (items_count first + 1) [] ≡ shows r d
    shows_row e = told_at (items_count first + 1) ∙ row_shown r first others a d e

  -- ---- a restart afterwards, with a passing self-test: normal mode, firmware started exactly if the image meets both conditions

  pub then_normal : (choices : Choices)
      → let restarted = restart_step after.node choices true after.flash after.eeprom in
      (restarted.number ≡ 0) × (restarted.node.mode ≡ Normal (starts (plainly r m).flash))
  then_normal choices =
      let sizes = plain_sizes r m in
      let zero = bootfl_zero r m full.1 in
      let normal = restart_normal (with_mode (tidied n) Waiting) choices (plainly r m).flash (plainly r m).eeprom (sizes.0 ∙ full.0)
      (sizes.1 ∙ full.1) (λ e. omega (arith, zero, e)) in
      rw arrived.stands (ap (λ (x : Restarted). x.number) normal, ap (λ (x : Restarted). x.node.mode) normal)

  pub then_starts : (choices : Choices)
      → Exactly ((restart_step after.node choices true after.flash after.eeprom).node.mode ≡ Normal true)
      (Starts (plainly r m).flash)
  then_starts choices =
      let normal = (then_normal choices).1 in
      let image = (plainly r m).flash in (
        λ e. (starts_only_if image (let s : Normal (starts image) ≡ Normal true = sym normal ∙ e in cc)).1,
        λ h. normal ∙ ap Normal (starts_if image ((plain_sizes r m).0 ∙ full.0) h),
      )
