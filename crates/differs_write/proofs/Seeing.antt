-- What the walk keeps, from item to item: the reading from the start is what was read so far and then the reading from here on; the table
-- tells FLASH as the items so far leave it; and the recipe as far as here, without the Blocks dropped so far, is what is kept of them. At the
-- end that is the definition's answer.
-- Assumes nothing.
use mathlib.Core.Path.{◌≡◌, ◌∙◌, refl, sym, ap, ap₂, subst}
use mathlib.Core.Bool.{Bool, true, false, not, cond, false≢true}
use mathlib.Core.List.{List, [], ◌∷◌, ◌++◌, append-nil, append_assoc}
use Prim.Native.Nat.{ℕ, zero, suc, ◌+◌, ◌*◌, ◌≤◌, ◌<◌, zero-le}
use native.Mathlib.Omega.{arith}
use native.Mathlib.Nat.{add-zero, le_refl}
use native.Mathlib.Numerals.{add-one}
use lib.Dec.{eqb, ltb}
use lib.ListN.{length, get_or, set, take, drop, replicate, length-set, length-replicate}
use lib.Seq.{get_or-set_same, get_or-set_other, set_out, take-set-le, take-suc-set}
use borrow.Author.Tests.{eqb-true, eqb-false, ne_eqb, ltb-true, ltb-false}
use Rattle.base.specs.Parts.{Bytes, part}
use Rattle.base.proofs.Choice.{by_cond, cond_true, cond_false}
use Rattle.memory_address.specs.Places.{flash_cells}
use Rattle.recipe.specs.Translation.{Refused as Fault, answer_at, checked}
use Rattle.recipe.specs.Items.{Item, printed, opened}
use Rattle.recipe.specs.Frames.{frame_count}
use Rattle.recipe.specs.Faults.{kind_of, body_length, fault_at}
use Rattle.recipe.specs.Reading.{Reading, Stop, at_end, fault, size_of, items_at, with_items, reading, recipe_of}
use Rattle.recipe_fault.specs.Internal.Steps.{read_on, AtItem}
use Rattle.recipe_fault.proofs.Faulting.{kind_at}
use Rattle.recipe_fault.proofs.Walking.{at_item, read_start, on_end, on_fault, on_next, fewer, not_ended, item_inside}
use Rattle.differs_rules.specs.Keeping.{left_by_all, kept_items, kept_recipe, block_count}
use Rattle.differs_rules.specs.Writing.{kept_of}
use Rattle.differs_rules.proofs.Keeping.{kept_append, left_append, blocks_append}
use Rattle.differs_write.specs.declared.walk.Walk.{Walk}
use Rattle.differs_write.specs.Internal.Cutting.{Upward}
use Rattle.differs_write.specs.Internal.Standing.{AtBlock}
use Rattle.differs_write.specs.Internal.Steps.{differs_at, remembered_at, keeps_at, last_after, erases_of_kind, next_walk, FoundKept}
use Rattle.differs_write.proofs.Cutting.{cut_to, upward_more, upward_last, cut_more, cut_last, cut_all}
use Rattle.differs_write.proofs.Showing.{Shows, shows_start}
use Rattle.differs_write.proofs.Turning.{Turned, written, turned, at_block}

pub record Seen (s image last places : List ℕ) (w : Walk) : Type 0 where
  pub items : List Item
  pub read : reading s ≡ with_items items (read_on s w.place w.number w.ended)
  pub shows : Shows s image last (left_by_all items image)
  pub bytes : cut_to s 0 (take w.dropped places) w.place ≡ written s w.number w.ended (kept_items items image)
  pub blocks : w.erases ≡ block_count (kept_items items image)
  pub upward : Upward 0 (take w.dropped places) w.place
  pub first : w.number ≡ 1 → (items ≡ []) × (w.place ≡ 0)
  pub later : w.ended ≡ true → w.number ≡ 1 → ⊥
  pub some : 1 ≤ w.number
  pub inside : w.place ≤ length s
  pub few : w.number ≤ 2049
  pub far : w.place + 68 ≤ 68 * w.number
  pub less : w.dropped < w.number
  pub fewer_erases : w.erases < w.number
  pub table : length last ≡ 1024
  pub room : length places ≡ 2048
  pub before : (b : ℕ) → get_or last b 0 ≤ w.place
  pub byted : w.ended ≡ true → Bytes s

all_zero : (n b : ℕ) → get_or (replicate n 0) b 0 ≤ 0
all_zero zero b = zero-le
all_zero (suc n) zero = zero-le
all_zero (suc n) (suc b) = all_zero n b

blocks_1024 : length {A = ℕ} (replicate 1024 0) ≡ 1024
blocks_1024 = length-replicate {A = ℕ} 1024 0

abbrev start : Walk
start = record { place = 0; number = 1; ended = false; dropped = 0; erases = 0 }

pub seen_start : (s image last places : List ℕ) → length image ≡ flash_cells → last ≡ replicate 1024 0 → length places ≡ 2048
    → Seen s image last places start
unfolding left_by_all kept_items block_count
seen_start s image last places l z p = record {
  items = [];
  read = read_start s;
  shows = subst (λ (x : List ℕ). Shows s image x image) (sym z) (shows_start s image l);
  bytes = refl;
  blocks = refl;
  upward = zero-le;
  first = λ _. (refl, refl);
  later = λ e _. false≢true e;
  some = omega arith;
  inside = zero-le;
  few = omega arith;
  far = omega arith;
  less = omega arith;
  fewer_erases = omega arith;
  table = ap length z ∙ blocks_1024;
  room = p;
  before = λ b. subst (λ (x : List ℕ). get_or x b 0 ≤ 0) (sym z) (all_zero 1024 b);
  byted = λ e. absurd (false≢true e);
}

-- an element set is no greater, where neither it nor the others were
set_below : (l : List ℕ) (i v b n : ℕ) → v ≤ n → get_or l b 0 ≤ n → get_or (set l i v) b 0 ≤ n
set_below l i v b n h k = go (eqb b i) refl (ltb i (length l)) refl
  where
    go : (t : Bool) → eqb b i ≡ t → (u : Bool) → ltb i (length l) ≡ u → get_or (set l i v) b 0 ≤ n
    go false e u q = subst (λ (x : ℕ). x ≤ n) (sym (get_or-set_other l i b v 0 (eqb-false b i e))) k
    go true e true q =
        subst (λ (x : ℕ). get_or (set l i v) x 0 ≤ n) (sym (eqb-true b i e))
        (subst (λ (x : ℕ). x ≤ n) (sym (get_or-set_same l i v 0 (ltb-true i (length l) q))) h)
    go true e false q = subst (λ (x : List ℕ). get_or x b 0 ≤ n) (sym (set_out l i v (ltb-false i (length l) q))) k

-- how long an item is
size_most : (k : ℕ) → 1 + body_length k ≤ 68
size_most k =
    by_cond (λ (n : ℕ). 1 + n ≤ 68) (eqb k 0x01) _ _ (λ _. omega arith)
    (λ _. by_cond (λ (n : ℕ). 1 + n ≤ 68) (eqb k 0x02) _ _ (λ _. omega arith)
    (λ _. by_cond (λ (n : ℕ). 1 + n ≤ 68) (eqb k 0x03) _ _ (λ _. omega arith) (λ _. omega arith)))

one_or_none : (b : Bool) (k : ℕ) → cond b (erases_of_kind k) 0 ≤ 1
one_or_none b k =
    by_cond (λ (n : ℕ). n ≤ 1) b _ _ (λ _. by_cond (λ (n : ℕ). n ≤ 1) (eqb k 0x02) _ _ (λ _. omega arith) (λ _. omega arith))
    (λ _. omega arith)

module _ {s image last places : List ℕ} {w : Walk} (k : Seen s image last places w) where
  -- ---- how it ends

  stops : (t : Stop) → read_on s w.place w.number w.ended ≡ record { items = []; stop = t } → (reading s).stop ≡ t
  stops t e = ap (λ (r : Reading). r.stop) k.read ∙ ap (λ (r : Reading). r.stop) e

  -- no Leave yet
  pub seen_open : length s ≤ w.place → w.ended ≡ false → checked s ≡ Fault 20 (length s)
  unfolding checked
  seen_open h e =
      ap (λ (t : Stop). answer_at t (length s) (frame_count (recipe_of s)))
      (stops (at_end w.ended) (on_end s w.place w.number w.ended k.few h) ∙ ap at_end e)

  -- an item at fault
  pub seen_fault : (n : ℕ) → w.place < length s → n ≡ fault_at (drop w.place s) w.number w.ended → (n ≡ 0 → ⊥)
      → checked s ≡ Fault n w.place
  unfolding checked
  seen_fault n h e z =
      ap (λ (t : Stop). answer_at t (length s) (frame_count (recipe_of s)))
      (stops (fault n w.place) (on_fault s w.place w.number w.ended k.few h n e z))

  -- all of it
  pub seen_done : length s ≤ w.place → w.ended ≡ true → FoundKept s image w.dropped w.erases places
  unfolding checked kept_of kept_recipe recipe_of printed
  seen_done h e =
      let end = on_end s w.place w.number w.ended k.few h in
      let all : (reading s).items ≡ k.items =
      ap (λ (r : Reading). r.items) k.read ∙ ap (λ (r : Reading). k.items ++ r.items) end ∙ append-nil k.items in
      let here : w.place ≡ length s = omega (arith, h, k.inside) in
      let up : Upward 0 (take w.dropped places) (length s) = subst (Upward 0 (take w.dropped places)) here k.upward in
      record {
        accepted =
            ap (λ (t : Stop). answer_at t (length s) (frame_count (recipe_of s))) (stops (at_end w.ended) end ∙ ap at_end e);
        bytes = k.byted e;
        few = omega (arith, k.less, k.few, k.room);
        upward = up;
        items =
            cut_all s 0 (take w.dropped places) up
            ∙ ap (cut_to s 0 (take w.dropped places)) (sym here)
            ∙ k.bytes
            ∙ cond_false (eqb w.number 1) [] _ (ne_eqb w.number 1 (k.later e))
            ∙ ap₂ (λ (is : List Item) (b : Bool). opened (get_or s 1 0) (get_or s 2 0) (kept_items is image) ++ cond b (0x0F ∷ []) []) (sym all) e;
        blocks = k.blocks ∙ ap (λ (is : List Item). block_count (kept_items is image)) (sym all);
      }

  -- ---- an item more

  -- it is one, and its place finds room among those that are dropped
  item_there : w.place < length s → 0 ≡ fault_at (drop w.place s) w.number w.ended → AtItem s w.place w.number w.ended
  item_there here sound = at_item s w.place w.number w.ended 0 here k.few sound refl

  pub dropped_room : w.place < length s → 0 ≡ fault_at (drop w.place s) w.number w.ended → w.dropped < length places
  dropped_room here sound = omega (arith, k.less, fewer s w.place w.number w.ended (item_there here sound), k.room)

  module _ (here : w.place < length s) (sound : 0 ≡ fault_at (drop w.place s) w.number w.ended) (all-bytes : Bytes s) where
    at : AtItem s w.place w.number w.ended
    at = item_there here sound

    abbrev t : List ℕ
    t = drop w.place s

    turn : Turned s image last (left_by_all k.items image) w.place w.number
    turn = turned s image last (left_by_all k.items image) w.place w.number w.ended at k.some k.shows all-bytes k.table

    small : w.place + 4 < 4294967296
    small = omega (arith, k.far, k.few)

    pub seen_block : length image ≡ flash_cells → get_or s w.place 0 ≡ 0x02 → AtBlock s w.place image last
    seen_block l e =
        at_block s image last (left_by_all k.items image) w.place w.number w.ended at k.some k.shows all-bytes
        (kind_at s w.place ∙ e) k.table l small k.before

    -- what is cut behind the item
    cut_next : (b : Bool) → turn.keeps ≡ b
        → (cut_to s 0 (take (w.dropped + cond b 0 1) (set places w.dropped w.place)) (w.place + size_of t)
        ≡ cut_to s 0 (take w.dropped places) w.place ++ cond b (part s w.place (size_of t)) [])
        × Upward 0 (take (w.dropped + cond b 0 1) (set places w.dropped w.place)) (w.place + size_of t)
    cut_next true e =
        let same : take (w.dropped + 0) (set places w.dropped w.place) ≡ take w.dropped places =
        ap (λ (n : ℕ). take n (set places w.dropped w.place)) (add-zero w.dropped)
        ∙ take-set-le w.dropped places w.dropped w.place (le_refl w.dropped) in (
          ap (λ (ps : List ℕ). cut_to s 0 ps (w.place + size_of t)) same ∙ cut_more s 0 (take w.dropped places) w.place (size_of t) k.upward,
          subst (λ (ps : List ℕ). Upward 0 ps (w.place + size_of t)) (sym same)
              (upward_more 0 (take w.dropped places) w.place (w.place + size_of t) k.upward (omega arith)),
        )
    cut_next false e =
        let one : take (w.dropped + 1) (set places w.dropped w.place) ≡ take w.dropped places ++ (w.place ∷ []) =
        ap (λ (n : ℕ). take n (set places w.dropped w.place)) (add-one w.dropped)
        ∙ take-suc-set places w.dropped w.place (dropped_room here sound) in
        let size : w.place + size_of t ≡ w.place + 68 = ap (λ (n : ℕ). w.place + n) (turn.size e) in (
          ap₂ (λ (ps : List ℕ) (n : ℕ). cut_to s 0 ps n) one size
              ∙ cut_last s 0 (take w.dropped places) w.place
              ∙ sym (append-nil (cut_to s 0 (take w.dropped places) w.place)),
          subst (λ (ps : List ℕ). Upward 0 ps (w.place + size_of t)) (sym one)
              (subst (Upward 0 (take w.dropped places ++ (w.place ∷ []))) (sym size)
              (upward_last 0 (take w.dropped places) w.place k.upward)),
        )

    -- the table behind it
    table_next : length (last_after s w.place last) ≡ 1024
    table_next =
        by_cond (λ (l : List ℕ). length l ≡ 1024) (eqb (get_or s w.place 0) 0x02) _ _
        (λ _. length-set last _ (w.place + 4) ∙ k.table) (λ _. k.table)

    before_next : (b : ℕ) → get_or (last_after s w.place last) b 0 ≤ w.place + size_of t
    before_next b =
        by_cond (λ (l : List ℕ). get_or l b 0 ≤ w.place + size_of t) (eqb (get_or s w.place 0) 0x02) _ _
        (λ (e : eqb (get_or s w.place 0) 0x02 ≡ true).
        let size : size_of t ≡ 68 = ap (λ (x : ℕ). 1 + body_length x) (kind_at s w.place ∙ eqb-true (get_or s w.place 0) 0x02 e) in
        set_below last _ (w.place + 4) b (w.place + size_of t) (omega (arith, size)) (omega (arith, k.before b)))
        (λ _. omega (arith, k.before b))

    -- what is kept of the items, this one among them
    kept_next : kept_items (k.items ++ items_at t) image
        ≡ kept_items k.items image ++ kept_items (items_at t) (left_by_all k.items image)
    kept_next = kept_append k.items (items_at t) image

    none_first : w.number ≡ 1 → (kept_items k.items image ≡ []) × (w.place ≡ 0)
    unfolding kept_items
    none_first e = (ap (λ (is : List Item). kept_items is image) (k.first e).0, (k.first e).1)

    seen_turned : Seen s image (last_after s w.place last) (set places w.dropped w.place) (next_walk w (kind_of t) turn.keeps)
    seen_turned =
        let cut = cut_next turn.keeps refl in
        let still : w.ended ≡ false = not_ended s w.place w.number w.ended at in
        record {
          items = k.items ++ items_at t;
          read =
              k.read
              ∙ ap (with_items k.items) (on_next s w.place w.number w.ended at)
              ∙ ap (λ (is : List Item).
              record { items = is; stop = (read_on s (w.place + size_of t) (w.number + 1) (eqb (kind_of t) 0x0F)).stop })
              (sym (append_assoc k.items (items_at t) (read_on s (w.place + size_of t) (w.number + 1) (eqb (kind_of t) 0x0F)).items));
          shows =
              subst (Shows s image (last_after s w.place last)) (sym (left_append k.items (items_at t) image)) turn.shows;
          bytes =
              cut.0
              ∙ ap (λ (l : List ℕ). l ++ cond turn.keeps (part s w.place (size_of t)) [])
              (k.bytes ∙ ap (λ (b : Bool). written s w.number b (kept_items k.items image)) still)
              ∙ turn.bytes (kept_items k.items image) none_first
              ∙ ap (written s (w.number + 1) (eqb (kind_of t) 0x0F)) (sym kept_next);
          blocks =
              ap₂ (λ (x y : ℕ). x + y) k.blocks
              (ap (λ (x : ℕ). cond turn.keeps (erases_of_kind x) 0) (kind_at s w.place) ∙ turn.erases)
              ∙ sym (blocks_append (kept_items k.items image) (kept_items (items_at t) (left_by_all k.items image)))
              ∙ ap block_count (sym kept_next);
          upward = cut.1;
          first = λ e. absurd (omega (arith, e, k.some));
          later = λ _ e. omega (arith, e, k.some);
          some = omega (arith, k.some);
          inside = item_inside s w.place w.number w.ended at;
          few = omega (arith, fewer s w.place w.number w.ended at);
          far = omega (arith, k.far, size_most (kind_of t));
          less = omega (arith, k.less, by_cond (λ (n : ℕ). n ≤ 1) turn.keeps 0 1 (λ _. omega arith) (λ _. omega arith));
          fewer_erases = omega (arith, k.fewer_erases, one_or_none turn.keeps (kind_of t));
          table = table_next;
          room = length-set places w.dropped w.place ∙ k.room;
          before = before_next;
          byted = λ _. all-bytes;
        }

    pub seen_next : (r : Bool) (last' : List ℕ) (w' : Walk) → r ≡ keeps_at s w.place image last → last' ≡ last_after s w.place last
        → w' ≡ next_walk w (get_or s w.place 0) r → Seen s image last' (set places w.dropped w.place) w'
    seen_next r last' w' p q e =
        let step : w' ≡ next_walk w (kind_of t) turn.keeps =
        e ∙ ap₂ (λ (x : ℕ) (b : Bool). next_walk w x b) (sym (kind_at s w.place)) (p ∙ turn.said) in
        subst (λ (l : List ℕ). Seen s image l (set places w.dropped w.place) w') (sym q)
        (subst (Seen s image (last_after s w.place last) (set places w.dropped w.place)) (sym step) seen_turned)

    -- behind a Block whose cells stand already, or not
    pub seen_next_block : (r : Bool) (last' : List ℕ) (w' : Walk) → eqb (get_or s w.place 0) 0x02 ≡ true
        → not r ≡ differs_at s w.place image last → last' ≡ remembered_at s w.place last
        → w' ≡ next_walk w (get_or s w.place 0) (not r) → Seen s image last' (set places w.dropped w.place) w'
    seen_next_block r last' w' b p q e =
        seen_next (not r) last' w' (p ∙ sym (cond_true (eqb (get_or s w.place 0) 0x02) (differs_at s w.place image last) true b))
        (q ∙ sym (cond_true (eqb (get_or s w.place 0) 0x02) (remembered_at s w.place last) last b)) e

    -- behind another item
    pub seen_next_other : (w' : Walk) → eqb (get_or s w.place 0) 0x02 ≡ false → w' ≡ next_walk w (get_or s w.place 0) true
        → Seen s image last (set places w.dropped w.place) w'
    seen_next_other w' b e =
        seen_next true last w' (sym (cond_false (eqb (get_or s w.place 0) 0x02) (differs_at s w.place image last) true b))
        (sym (cond_false (eqb (get_or s w.place 0) 0x02) (remembered_at s w.place last) last b)) e
