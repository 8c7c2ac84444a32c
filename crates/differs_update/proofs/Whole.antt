-- From a shorter recipe to a module: it arrives whole at a node whose FLASH is the image's on the cells that the full recipe's Blocks name,
-- and the node ends as the full recipe would have left it. Over the real contracts of `differences`, of the translator and of each way of
-- delivery: demand 3 says what an arrived recipe leaves, and what is kept, read plainly, leaves what the whole does.
-- Assumes nothing.
use mathlib.Core.Path.{◌≡◌, ◌∙◌, sym, ap, ap₂, subst}
use mathlib.Core.List.{List, ◌∷◌, ◌++◌}
use Prim.Native.Nat.{ℕ, ◌*◌, ◌≤◌}
use lib.ListN.{length, take, drop}
use lib.Seq.{take-append_seam}
use Rattle.base.specs.Parts.{part}
use Rattle.node_rules.specs.declared.Node.{Node}
use Rattle.node_rules.specs.declared.Mode.TheVariants.{Waiting}
use Rattle.node_rules.specs.Record.{with_mode, tidied}
use Rattle.node_rules.specs.Runs.{State, state}
use Rattle.recipe.specs.Translation.{Translated, Frames}
use Rattle.recipe.specs.Items.{Item, block, Recipe, Legal, printed}
use Rattle.recipe.specs.Frames.{frames_of, joined, frame_count}
use Rattle.recipe.specs.Plain.{Memories, Each}
use Rattle.recipe.proofs.Accepts.{printed_once}
use Rattle.update_rules.specs.Updated.{Ready, Full, over, left_whole, Arrived}
use Rattle.update_deliver.specs.Delivering.{Left}
use Rattle.update.specs.Calls.{Translate, Deliver}
use Rattle.update.proofs.Translating.{translate_takes}
use Rattle.update.proofs.Whole.{deliver_arrives}
use Rattle.differs_rules.specs.Differences.{Differences, Kept}
use Rattle.differs_rules.specs.Keeping.{left_by_all, kept_items, kept_recipe, block_count}
use Rattle.differs_rules.specs.Turns.{StandsIn, AgreesOn}
use Rattle.differs_rules.specs.Pairs.{erase_pairs}
use Rattle.differs_rules.proofs.KeptLegal.{kept_legal}
use Rattle.differs_rules.proofs.KeptPlain.{kept_plain, agrees_equal}
use Rattle.differs_rules.proofs.Needed.{kept_differs, kept_again}
use Rattle.differs_rules.proofs.Standing.{none_erased, only_standing}
use Rattle.differs_rules.proofs.Pairing.{erase_pairs_lem}
use Rattle.differs_update.specs.Calls.{Differ}
use Rattle.differs_update.specs.Given.{Shortened}
use Rattle.differs_update.proofs.Differing.{differ_shortened, differ_keeps}

-- a node that is ready for the full recipe is ready for the shorter one
kept_ready : (q : Recipe) (image : List ℕ) (n : Node) → Ready n q → Ready n (kept_recipe q image)
unfolding kept_recipe
kept_ready q image n r = record {
  staged = r.staged;
  is_programming = r.is_programming;
  same_module = r.same_module;
  same_group = r.same_group;
}

module _ {recipe image before after : List ℕ} {d : Differences} (differs : Differ recipe image before d after) (erases size : ℕ)
    (made : d ≡ Kept erases size) where
  s : Shortened recipe image before erases size after
  s = differ_shortened differs erases size made

  -- the full recipe is the one that was handed in
  module _ (q : Recipe) (legal : Legal q) (handed : recipe ≡ printed q) where
    full_is : s.full ≡ q
    full_is = printed_once s.full q s.full_legal legal (sym s.full_bytes ∙ handed)

    bytes : take size after ≡ printed (kept_recipe q image)
    bytes = s.bytes ∙ ap (λ (r : Recipe). printed (kept_recipe r image)) full_is

    blocks : erases ≡ block_count (kept_items q.items image)
    unfolding kept_recipe
    blocks = s.blocks ∙ ap (λ (r : Recipe). block_count (kept_items r.items image)) full_is

    long : size ≡ length (printed (kept_recipe q image))
    long = s.long ∙ ap (λ (r : Recipe). length (printed (kept_recipe r image))) full_is

    -- ---- the frames

    -- the translator takes it, and among its frames are exactly as many erase pairs as the erase count says
    pub short_frames : {output output' : List ℕ} {t : Translated} → Translate (take size after) output t output'
        → 12 * frame_count (kept_recipe q image) ≤ length output
        → (t ≡ Frames (frame_count (kept_recipe q image)))
        × (output' ≡ joined (frames_of (kept_recipe q image)) ++ drop (12 * frame_count (kept_recipe q image)) output)
        × (erase_pairs (frames_of (kept_recipe q image)) ≡ erases)
    unfolding kept_recipe
    short_frames translates h =
        let t = translate_takes translates (kept_recipe q image) (kept_legal q image legal) bytes h in
        (t.0, t.1, erase_pairs_lem (kept_recipe q image) ∙ sym blocks)

    -- ---- the module

    module _ (memory : Memories) (full : Full memory) (agrees : Each (AgreesOn image memory.flash) q.items) where
      -- what the shorter recipe leaves is what the full one does
      same_left : (n : Node) → left_whole (kept_recipe q image) n memory ≡ left_whole q n memory
      same_left n = ap (over (with_mode (tidied n) Waiting)) (kept_plain q image memory legal s.cells full.0 agrees)

      -- however the frames of what was written were handed over, on CAN, on UART, in pieces: where it has arrived whole, the node stands as
      -- the full recipe would have left it
      pub arrived_as_full : (n : Node) (r : Recipe) (answers : List (List ℕ)) (end : State) → take size after ≡ printed r → Legal r
          → Arrived r n memory answers end → end ≡ left_whole q n memory
      arrived_as_full n r answers end e l arrived =
          let same : r ≡ kept_recipe q image = printed_once r (kept_recipe q image) l (kept_legal q image legal) (sym e ∙ bytes) in
          arrived.stands ∙ ap (λ (x : Recipe). left_whole x n memory) same ∙ same_left n

      -- handed to `deliver`, with a node that is programming and bears the recipe's numbers, and room for frames and answers
      pub short_delivered : {frames answers : List ℕ} {n : Node} {l : Left}
          → Deliver (take size after) n memory.flash memory.eeprom frames answers l → Ready n q
          → 12 * frame_count (kept_recipe q image) ≤ length frames → 14 * frame_count (kept_recipe q image) ≤ length answers
          → state l.result.node l.flash l.eeprom ≡ left_whole q n memory
      short_delivered {n = n} delivers ready f a =
          (deliver_arrives delivers (kept_recipe q image) (kept_legal q image legal) bytes (kept_ready q image n ready) full f a).stands
          ∙ same_left n

    -- above all where FLASH is the image
    pub short_delivered_equal : {frames answers : List ℕ} {n : Node} {memory : Memories} {l : Left}
        → Deliver (take size after) n memory.flash memory.eeprom frames answers l → Ready n q → Full memory → memory.flash ≡ image
        → 12 * frame_count (kept_recipe q image) ≤ length frames → 14 * frame_count (kept_recipe q image) ≤ length answers
        → state l.result.node l.flash l.eeprom ≡ left_whole q n memory
    short_delivered_equal {memory = memory} delivers ready full e f a =
        short_delivered memory full (agrees_equal q.items image memory.flash e) delivers ready f a

    -- ---- no more than is needed

    -- no Block is kept for nothing: over the image, as the kept items before it leave it, each Block that was written differs from what
    -- stands there
    pub short_needed : (r : Recipe) → take size after ≡ printed r → Legal r → (front behind : List Item) (a : ℕ) (cells : List ℕ)
        → r.items ≡ front ++ (block a cells ∷ behind) → part (left_by_all front image) a 64 ≡ cells → ⊥
    unfolding kept_recipe
    short_needed r e l front behind a cells f =
        let same : r ≡ kept_recipe q image = printed_once r (kept_recipe q image) l (kept_legal q image legal) (sym e ∙ bytes) in
        kept_differs q.items front behind a cells image legal.each s.cells (ap (λ (x : Recipe). x.items) (sym same) ∙ f)

    -- handed in once more, over the same image, nothing more is dropped
    pub short_again : {output output' : List ℕ} {d₂ : Differences} → Differ (take size after) image output d₂ output'
        → size ≤ length output → (d₂ ≡ Kept erases size) × (take size output' ≡ take size after)
    unfolding kept_recipe
    short_again {output} {output'} {d₂} again h =
        let k = kept_recipe q image in
        let idem : kept_recipe k image ≡ k =
        ap (λ (is : List Item). record { module_number = q.module_number; group_number = q.group_number; items = is })
        (kept_again q.items image legal.each s.cells) in
        let b = differ_keeps again k (kept_legal q image legal) bytes s.cells
        (subst (λ (r : Recipe). length (printed r) ≤ length output) (sym idem) (subst (λ (n : ℕ). n ≤ length output) long h)) in (
          b.0 ∙ ap (λ (r : Recipe). Kept (block_count r.items) (length (printed r))) idem ∙ ap₂ Kept (sym blocks) (sym long),
          ap (take size) b.1
              ∙ ap (λ (r : Recipe). take size (printed r ++ drop (length (printed r)) output)) idem
              ∙ ap (λ (n : ℕ). take n (printed k ++ drop (length (printed k)) output)) long
              ∙ take-append_seam (printed k) (drop (length (printed k)) output)
              ∙ sym bytes,
        )

    -- no erases exactly where each Block already stands in the image
    pub short_none : Each (StandsIn image) q.items → erases ≡ 0
    short_none each = blocks ∙ none_erased q.items image legal.each s.cells each

    pub short_none_only : erases ≡ 0 → Each (StandsIn image) q.items
    short_none_only z = only_standing q.items image legal.each s.cells (sym blocks ∙ z)
