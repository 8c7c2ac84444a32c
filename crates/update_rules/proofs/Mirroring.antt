-- The answers to a whole recipe, one by one: as many as frames, each but the last the frame itself with the flag set, the last silent. So
-- an erase is answered by eight 0xFF and a write by the recipe's own eight bytes.
-- Assumes nothing.
use mathlib.Core.Path.{◌≡◌, ◌∙◌, refl, sym, ap}
use mathlib.Core.List.{List, [], ◌∷◌, ◌++◌, map, append_assoc}
use Prim.Native.Nat.{ℕ, zero, suc, ◌+◌, ◌*◌, ◌≤◌, ◌<◌}
use native.Mathlib.Omega.{arith}
use lib.Dec.{lit<}
use lib.ListN.{length, get_or, replicate, length-append, length-map, get_or-append}
use lib.Seq.{get_or_at, get_or-append-add}
use Rattle.base.specs.Parts.{part}
use Rattle.recipe.specs.Items.{Item, block, row, Recipe}
use Rattle.recipe.specs.Frames.{leave_frame, item_frames, items_frames, frames_of, item_count, items_count, frame_count}
use Rattle.recipe.proofs.Framing.{items_count_lem, items_append, item_count_lem, block_erases_data, block_writes_data}
use Rattle.update_rules.specs.Mirror.{mirrored, nothing_told, answers_of, shows}

module _ (r : Recipe) where
  abbrev most : List (List ℕ)
  most = items_frames r.module_number r.group_number r.items

  many : length (map mirrored most) ≡ items_count r.items
  many = length-map most mirrored ∙ items_count_lem r.module_number r.group_number r.items

  -- as many as frames
  pub answers_many : length (answers_of r) ≡ frame_count r
  unfolding answers_of frame_count
  answers_many = length-append (map mirrored most) (nothing_told ∷ []) ∙ ap (λ (k : ℕ). k + 1) many

  -- the last has no reply
  pub answers_last : (i : ℕ) → i + 1 ≡ frame_count r → get_or (answers_of r) i [] ≡ nothing_told
  unfolding answers_of frame_count
  answers_last i e = get_or_at (map mirrored most) nothing_told [] [] i (omega (arith, many))

  -- each other is its frame with the flag set
  pub answers_mirror : (i : ℕ) → i + 1 < frame_count r → get_or (answers_of r) i [] ≡ mirrored (get_or (frames_of r) i [])
  unfolding answers_of frames_of frame_count
  answers_mirror i h =
      let l : i < length most = omega (arith, items_count_lem r.module_number r.group_number r.items) in
      get_or-append (map mirrored most) (nothing_told ∷ []) [] i (omega (arith, many))
      ∙ within most i l
      ∙ ap mirrored (sym (get_or-append most (leave_frame r.module_number r.group_number ∷ []) [] i l))
    where
      within : (fs : List (List ℕ)) (j : ℕ) → j < length fs → get_or (map mirrored fs) j [] ≡ mirrored (get_or fs j [])
      within [] j h = absurd (omega arith)
      within (f ∷ fs) zero h = refl
      within (f ∷ fs) (suc j) h = within fs j (omega arith)

  module _ (before after : List Item) (i : Item) (e : r.items ≡ before ++ (i ∷ after)) where
    abbrev itself : List (List ℕ)
    itself = item_frames r.module_number r.group_number i

    -- the frames of an item stand behind those of the items before it
    item_frame : (j : ℕ) → j < item_count i → get_or (frames_of r) (items_count before + j) [] ≡ get_or itself j []
    unfolding frames_of items_frames
    item_frame j h =
        let m = r.module_number in
        let g = r.group_number in
        let b = items_frames m g before in
        let a = items_frames m g after in
        let k : length b ≡ items_count before = items_count_lem m g before in
        let l : j < length itself = omega (arith, item_count_lem m g i) in
        ap (λ (is : List Item). get_or (items_frames m g is ++ (leave_frame m g ∷ [])) (items_count before + j) []) e
        ∙ ap (λ (fs : List (List ℕ)). get_or (fs ++ (leave_frame m g ∷ [])) (items_count before + j) []) (items_append m g before (i ∷ after))
        ∙ ap (λ (fs : List (List ℕ)). get_or fs (items_count before + j) []) (append_assoc b (itself ++ a) (leave_frame m g ∷ []))
        ∙ ap (λ (c : ℕ). get_or (b ++ ((itself ++ a) ++ (leave_frame m g ∷ []))) (c + j) []) (sym k)
        ∙ get_or-append-add b ((itself ++ a) ++ (leave_frame m g ∷ [])) j []
        ∙ ap (λ (fs : List (List ℕ)). get_or fs j []) (append_assoc itself a (leave_frame m g ∷ []))
        ∙ get_or-append itself (a ++ (leave_frame m g ∷ [])) [] j l

    count_before : items_count before + item_count i ≤ items_count r.items
    unfolding items_count
    count_before = rw e (counted before)
      where
        counted : (is : List Item) → items_count is + item_count i ≤ items_count (is ++ (i ∷ after))
        counted [] = omega arith
        counted (x ∷ is) = omega (arith, counted is)

    -- the answer to frame j of an item
    pub item_mirror : (j : ℕ) → j < item_count i → get_or (answers_of r) (items_count before + j) [] ≡ mirrored (get_or itself j [])
    unfolding frame_count
    item_mirror j h = answers_mirror (items_count before + j) (omega (arith, count_before)) ∙ ap mirrored (item_frame j h)

  module _ (before after : List Item) (a : ℕ) (d : List ℕ) where
    -- a Block's erase is answered by eight 0xFF, and its write i by its bytes 8 i to 8 i + 7
    pub erase_shown : r.items ≡ before ++ (block a d ∷ after) → get_or (answers_of r) (items_count before + 1) [] ≡ shows r (replicate 8 0xFF)
    erase_shown e =
        item_mirror before after (block a d) e 1 (lit< tt)
        ∙ ap mirrored (block_erases_data r.module_number r.group_number a d)

    pub write_shown : r.items ≡ before ++ (block a d ∷ after) → (i : ℕ) → i < 8
        → get_or (answers_of r) (items_count before + (3 + 2 * i)) [] ≡ shows r (part d (8 * i) 8)
    write_shown e i h =
        item_mirror before after (block a d) e (3 + 2 * i) (omega arith)
        ∙ ap mirrored (block_writes_data r.module_number r.group_number a d i h)

    -- a Row's write by its eight bytes
    pub row_shown : r.items ≡ before ++ (row a d ∷ after) → get_or (answers_of r) (items_count before + 1) [] ≡ shows r d
    unfolding item_frames
    row_shown e = item_mirror before after (row a d) e 1 (lit< tt)
