-- A legal recipe under way: after any number of its frames but Leave's, wherever they end, the node is still programming with the recipe's
-- numbers, the lengths are kept, and no cell that no item names has changed. Why it holds: the items' frames are pairs, each pair stages a
-- legal command at cells of its own item before it does it, and so a prefix is whole pairs and at most one address frame behind them.
-- Assumes nothing.
use Rattle.std.specs.Prelude.{Some}
use mathlib.Core.Path.{◌≡◌, ◌∙◌, refl, sym, ap, ap₂, subst}
use mathlib.Core.Bool.{true}
use mathlib.Core.List.{List, [], ◌∷◌, ◌++◌}
use mathlib.Core.Logic.{◌⊎◌, inl, inr, ⊎_elim}
use Prim.Native.Nat.{ℕ, zero, suc, ◌+◌, ◌*◌, ◌≤◌, ◌<◌}
use native.Mathlib.Omega.{arith}
use lib.ListN.{length, get_or, take, drop, replicate, length-take, length-drop}
use lib.Seq.{take-append-le}
use Rattle.memory_address.specs.Places.{flash_cells, eeprom_cells, eeprom_cell}
use Rattle.memory_address.specs.Rule.{ruled, legal_flash, legal_eeprom}
use Rattle.memory_address.specs.declared.Address.{Address}
use Rattle.memory_address.specs.declared.Address.TheVariants.{Flash, Eeprom}
use Rattle.memory_address.proofs.Laws.{flash_ruled, eeprom_ruled, flash_within, eeprom_within, block_rows}
use Rattle.memory_cells.specs.Memory.{flash_written, flash_erased, eeprom_written}
use Rattle.memory_cells.proofs.Laws.{written_length, written_elsewhere, erased_length, erased_elsewhere, eeprom_written_length, eeprom_written_elsewhere}
use Rattle.node_rules.specs.declared.Staged.{Staged}
use Rattle.node_rules.specs.declared.Node.{Node}
use Rattle.node_rules.specs.Record.{legal_staged, tidied}
use Rattle.node_rules.specs.Requests.{command_at}
use Rattle.node_rules.specs.Step.{can_step}
use Rattle.node_rules.specs.Runs.{State, state, behind_frame}
use Rattle.node_rules.proofs.TidiedOnce.{programming, tidied_once, tidied_legal}
use Rattle.node_rules.proofs.Pairs.{address_to, data_to, echo_of, answered, tidied_first, stages, erases, writes_flash, writes_eeprom}
use Rattle.recipe.specs.Items.{Item, block, row, Recipe, Legal, LegalItem, LegalItems}
use Rattle.recipe.specs.Frames.{address_frame, data_frame, leave_frame, writes, item_frames, items_frames, frames_of, frame_count}
use Rattle.recipe.specs.Plain.{OutsideFlash, OutsideEeprom, Each}
use Rattle.recipe.proofs.Framing.{items_count_lem}
use Rattle.update_rules.specs.Delivery.{behind_frames, Delivers}
use Rattle.update_rules.specs.Updated.{Ready, Underway}
use Rattle.update_rules.proofs.Deliveries.{step_at, stands_after}

-- ---- the items' frames are pairs

-- a pair of frames of a recipe: it stages a legal command whose cells some item names, and then does it
data Pair (r : Recipe) : List ℕ → List ℕ → Type 0 where
  erasing : (a : ℕ) (d : List ℕ) → length d ≡ 8 → legal_flash a 0x03 ≡ true
      → ((c : ℕ) → Each (OutsideFlash c) r.items → (c < a) ⊎ (a + 64 ≤ c))
      → Pair r (address_frame r.module_number r.group_number 0x03 a) (data_frame r.module_number r.group_number d)
  writing : (a : ℕ) (d : List ℕ) → length d ≡ 8 → legal_flash a 0x02 ≡ true
      → ((c : ℕ) → Each (OutsideFlash c) r.items → (c < a) ⊎ (a + 8 ≤ c))
      → Pair r (address_frame r.module_number r.group_number 0x02 a) (data_frame r.module_number r.group_number d)
  replacing : (a : ℕ) (d : List ℕ) → length d ≡ 8 → legal_eeprom a 0x02 ≡ true
      → ((c : ℕ) → Each (OutsideEeprom c) r.items → (c < eeprom_cell a) ⊎ (eeprom_cell a + 8 ≤ c))
      → Pair r (address_frame r.module_number r.group_number 0x02 a) (data_frame r.module_number r.group_number d)

data Paired (r : Recipe) : List (List ℕ) → Type 0 where
  none : Paired r []
  more : {x y : List ℕ} {rest : List (List ℕ)} → Pair r x y → Paired r rest → Paired r (x ∷ y ∷ rest)

paired_append : {r : Recipe} {fs gs : List (List ℕ)} → Paired r fs → Paired r gs → Paired r (fs ++ gs)
paired_append none q = q
paired_append (more p ps) q = more p (paired_append ps q)

module _ (r : Recipe) where
  -- k rows from b on, within the 64 cells from a on
  rows_paired : (a : ℕ) → ((c : ℕ) → Each (OutsideFlash c) r.items → (c < a) ⊎ (a + 64 ≤ c))
      → (k b : ℕ) (d : List ℕ) → a ≤ b → b + 8 * k ≤ a + 64 → ((i : ℕ) → i < k → legal_flash (b + 8 * i) 0x02 ≡ true) → length d ≡ 8 * k
      → Paired r (writes r.module_number r.group_number k b d)
  unfolding writes
  rows_paired a o zero b d low high h long = none
  rows_paired a o (suc k) b d low high h long =
      let here : b + 8 * 0 ≡ b = omega arith in
      let legal : legal_flash b 0x02 ≡ true = rw here at (h 0 (omega arith)) in
      more
      (writing b (take 8 d) (simp length-take (omega arith)) legal
      (λ c e. ⊎_elim (λ below. inl (omega (arith, below))) (λ above. inr (omega (arith, above))) (o c e)))
      (rows_paired a o k (b + 8) (drop 8 d) (omega arith) (omega arith)
      (λ i lt.
      let next : b + 8 * suc i ≡ b + 8 + 8 * i = omega arith in
      rw next at (h (suc i) (omega arith)))
      (simp length-drop (omega arith)))

  item_paired : (i : Item) → LegalItem i → ((c : ℕ) → Each (OutsideFlash c) r.items → OutsideFlash c i)
      → ((c : ℕ) → Each (OutsideEeprom c) r.items → OutsideEeprom c i)
      → Paired r (item_frames r.module_number r.group_number i)
  unfolding item_frames
  item_paired (block a d) h o _ =
      let outside : (c : ℕ) → Each (OutsideFlash c) r.items → (c < a) ⊎ (a + 64 ≤ c) = λ c e. rw h.1 at (o c e) in
      more (erasing a (replicate 8 0xFF) refl h.0 outside)
      (rows_paired a outside 8 a d (omega arith) (omega arith) (λ i lt. block_rows a i h.0 lt) h.1)
  item_paired (row a d) h _ o =
      let outside : (c : ℕ) → Each (OutsideEeprom c) r.items → (c < eeprom_cell a) ⊎ (eeprom_cell a + 8 ≤ c) =
      λ c e. rw h.1 at (o c e) in
      more (replacing a d h.1 h.0 outside) none

  items_paired : (is : List Item) → LegalItems is → ((c : ℕ) → Each (OutsideFlash c) r.items → Each (OutsideFlash c) is)
      → ((c : ℕ) → Each (OutsideEeprom c) r.items → Each (OutsideEeprom c) is)
      → Paired r (items_frames r.module_number r.group_number is)
  unfolding items_frames
  items_paired [] h o p = none
  items_paired (i ∷ is) h o p =
      paired_append (item_paired i h.0 (λ c e. (o c e).0) (λ c e. (p c e).0)) (items_paired is h.1 (λ c e. (o c e).1) (λ c e. (p c e).1))

-- ---- what a pair leaves

module _ (r : Recipe) (before : State) (fl : length before.flash ≡ flash_cells) (el : length before.eeprom ≡ eeprom_cells) where
  module _ (s : State) (u : Underway r before s) where
    abbrev n : Node
    n = s.node

    flash_full_lem : length s.flash ≡ flash_cells
    flash_full_lem = u.flash_length ∙ fl

    eeprom_full_lem : length s.eeprom ≡ eeprom_cells
    eeprom_full_lem = u.eeprom_length ∙ el

    -- an address frame stages its command
    staging : (command a : ℕ) (x : Address) → a < 0x1000000 → ruled a command ≡ Some x
        → step_at s (address_frame r.module_number r.group_number command a)
        ≡ answered n (command_at command x) (echo_of n.plate.own.0 n.plate.group.0 command a) s.flash s.eeprom
    staging command a x b e =
        let t = u.ready.staged in
        ap₂ (λ (m g : ℕ). step_at s (address_frame m g command a)) (sym u.ready.same_module) (sym u.ready.same_group)
        ∙ tidied_first n s.flash s.eeprom flash_full_lem eeprom_full_lem t u.ready.is_programming
        (address_to n.plate.own.0 n.plate.group.0 command a)
        ∙ stages n s.flash s.eeprom flash_full_lem eeprom_full_lem t (tidied_legal n t u.ready.is_programming) command a x b e

    -- with this staged, over memories that differ only in cells that some item names
    underway_with : (c : Staged) → legal_staged c ≡ true → (flash eeprom : List ℕ) → length flash ≡ length s.flash
        → length eeprom ≡ length s.eeprom
        → ((i : ℕ) → Each (OutsideFlash i) r.items → get_or flash i 0 ≡ get_or s.flash i 0)
        → ((i : ℕ) → Each (OutsideEeprom i) r.items → get_or eeprom i 0 ≡ get_or s.eeprom i 0)
        → Underway r before (state (programming n c) flash eeprom)
    unfolding tidied
    underway_with c legal flash eeprom lf le inFlash inEeprom =
        record {
          ready =
              record {
                staged = c;
                is_programming = ap (λ (x : Node). x.mode) (tidied_once n c legal);
                same_module = u.ready.same_module;
                same_group = u.ready.same_group;
              };
          flash_length = lf ∙ u.flash_length;
          eeprom_length = le ∙ u.eeprom_length;
          flash_kept = λ i o. inFlash i o ∙ u.flash_kept i o;
          eeprom_kept = λ i o. inEeprom i o ∙ u.eeprom_kept i o;
        }

    -- the two frames: the first stages c, and the second does it
    two_frames : (x y : List ℕ) (c : Staged) (flash eeprom : List ℕ) → legal_staged c ≡ true
        → behind_frame (step_at s x) ≡ state (programming n c) s.flash s.eeprom
        → behind_frame (can_step (programming n c) y s.flash s.eeprom) ≡ state (programming n c) flash eeprom
        → length flash ≡ length s.flash → length eeprom ≡ length s.eeprom
        → ((i : ℕ) → Each (OutsideFlash i) r.items → get_or flash i 0 ≡ get_or s.flash i 0)
        → ((i : ℕ) → Each (OutsideEeprom i) r.items → get_or eeprom i 0 ≡ get_or s.eeprom i 0)
        → Underway r before (behind_frame (step_at s x)) × Underway r before (behind_frame (step_at (behind_frame (step_at s x)) y))
    two_frames x y c flash eeprom legal first second lf le inFlash inEeprom =
        let after : behind_frame (step_at (behind_frame (step_at s x)) y) ≡ state (programming n c) flash eeprom =
        ap (λ (t : State). behind_frame (step_at t y)) first ∙ second in (
          subst (Underway r before) (sym first) (underway_with c legal s.flash s.eeprom refl refl (λ i _. refl) (λ i _. refl)),
          subst (Underway r before) (sym after) (underway_with c legal flash eeprom lf le inFlash inEeprom),
        )

    data_to_lem : (d : List ℕ) (c : Staged)
        → can_step (programming n c) (data_frame r.module_number r.group_number d) s.flash s.eeprom
        ≡ can_step (programming n c) (data_to n.plate.own.0 n.plate.group.0 d) s.flash s.eeprom
    data_to_lem d c =
        ap₂ (λ (m g : ℕ). can_step (programming n c) (data_frame m g d) s.flash s.eeprom) (sym u.ready.same_module)
        (sym u.ready.same_group)

    pair_underway : (x y : List ℕ) → Pair r x y
        → Underway r before (behind_frame (step_at s x)) × Underway r before (behind_frame (step_at (behind_frame (step_at s x)) y))
    pair_underway x y (erasing a d eight legal o) =
        let w = flash_within a 0x03 legal in
        let c = command_at 0x03 (Flash (record { 0 = a })) in
        two_frames x y c (flash_erased s.flash a) s.eeprom legal
        (ap behind_frame (staging 0x03 a (Flash (record { 0 = a })) (omega arith) (flash_ruled a 0x03 legal)))
        (ap behind_frame (data_to_lem d c ∙ erases n s.flash s.eeprom flash_full_lem eeprom_full_lem a d eight legal))
        (erased_length s.flash a) refl (λ i e. erased_elsewhere s.flash a i (o i e)) (λ i _. refl)
    pair_underway x y (writing a d eight legal o) =
        let w = flash_within a 0x02 legal in
        let c = command_at 0x02 (Flash (record { 0 = a })) in
        two_frames x y c (flash_written s.flash a d) s.eeprom legal
        (ap behind_frame (staging 0x02 a (Flash (record { 0 = a })) (omega arith) (flash_ruled a 0x02 legal)))
        (ap behind_frame (data_to_lem d c ∙ writes_flash n s.flash s.eeprom flash_full_lem eeprom_full_lem a d eight legal))
        (written_length s.flash a d) refl (λ i e. written_elsewhere s.flash a d i (o i e)) (λ i _. refl)
    pair_underway x y (replacing a d eight legal o) =
        let w = eeprom_within a 0x02 legal in
        let c = command_at 0x02 (Eeprom (record { 0 = a })) in
        two_frames x y c s.flash (eeprom_written s.eeprom a d) legal
        (ap behind_frame (staging 0x02 a (Eeprom (record { 0 = a })) (omega arith) (eeprom_ruled a 0x02 legal)))
        (ap behind_frame (data_to_lem d c ∙ writes_eeprom n s.flash s.eeprom flash_full_lem eeprom_full_lem a d eight legal))
        refl (eeprom_written_length s.eeprom a d) (λ i _. refl) (λ i e. eeprom_written_elsewhere s.eeprom a d i (o i e))

  -- any number of frames of pairs
  some_underway : (frames : List (List ℕ)) → Paired r frames → (k : ℕ) (s : State) → Underway r before s
      → Underway r before (behind_frames (take k frames) s)
  some_underway frames none zero s u = u
  some_underway frames none (suc k) s u = u
  some_underway frames (more p ps) zero s u = u
  some_underway frames (more {x} {y} {rest} p ps) (suc zero) s u = (pair_underway s u x y p).0
  some_underway frames (more {x} {y} {rest} p ps) (suc (suc k)) s u =
      some_underway rest ps k (behind_frame (step_at (behind_frame (step_at s x)) y)) (pair_underway s u x y p).1

-- the first k frames of a legal recipe, where Leave's is not among them
pub prefix_underway : (r : Recipe) (k : ℕ) (before : State) (answers : List (List ℕ)) (after : State) → Legal r → Ready before.node r
    → length before.flash ≡ flash_cells → length before.eeprom ≡ eeprom_cells → k < frame_count r
    → Delivers (take k (frames_of r)) before answers after → Underway r before after
unfolding frames_of frame_count
prefix_underway r k before answers after legal ready fl el few p =
    let items = items_frames r.module_number r.group_number r.items in
    let leave = leave_frame r.module_number r.group_number in
    let within : k ≤ length items = omega (arith, items_count_lem r.module_number r.group_number r.items) in
    let start : Underway r before before =
    record { ready = ready; flash_length = refl; eeprom_length = refl; flash_kept = λ c _. refl; eeprom_kept = λ c _. refl } in
    subst (Underway r before)
    (ap (λ (fs : List (List ℕ)). behind_frames fs before) (sym (take-append-le k items (leave ∷ []) within))
    ∙ stands_after (take k (items ++ (leave ∷ []))) before answers after p)
    (some_underway r before fl el items (items_paired r r.items legal.each (λ c e. e) (λ c e. e)) k before start)
