-- The frames of what stands at a place: put where the item is whole and they have room, and else nothing.
-- Assumes nothing.
use mathlib.Core.Path.{◌≡◌, refl, sym, ap, ap₂, ◌∙◌}
use mathlib.Core.Bool.{Bool, true, false, ◌&&◌, cond, false≢true}
use mathlib.Core.List.{List, [], ◌∷◌, append-nil}
use mathlib.Core.Logic.{◌⊎◌, inl, inr}
use Prim.Native.Nat.{ℕ, ◌+◌, ◌*◌, ◌≤◌, ◌<◌}
use native.Mathlib.Omega.{arith}
use native.Mathlib.Nat.{add-zero}
use borrow.Author.Tests.{eqb-true, ne_eqb, lt-ltb, le-ltb, leb-true, leb-false}
use lib.Dec.{eqb, ltb, leb}
use lib.ListN.{length, take, drop, get_or, length-drop}
use lib.Seq.{drop-drop, get_or-drop}
use Rattle.base.specs.Parts.{part, patch}
use Rattle.base.proofs.Choice.{true_or_false, both_true, true_both, cond_same, by_cond}
use Rattle.base.proofs.Patched.{part_length}
use Rattle.recipe.specs.Items.{Item, block, row}
use Rattle.recipe.specs.Frames.{leave_frame, item_frames, items_frames, joined, item_count}
use Rattle.recipe.specs.Faults.{kind_of, address_of}
use Rattle.recipe.specs.Reading.{size_of, items_at}
use Rattle.recipe.proofs.Framing.{Sized, item_bytes_lem}
use Rattle.recipe_item.specs.Internal.Emitted.{frames_of_kind, frames_at, frames_put, item_put}
use Rattle.recipe_item.proofs.Putting.{patch_none}

-- the kind of what stands at a place
pub kind_at : (s : List ℕ) (place : ℕ) → kind_of (drop place s) ≡ get_or s place 0
kind_at s place = get_or-drop place s 0 0 ∙ ap (λ (n : ℕ). get_or s n 0) (add-zero place)

-- ---- the frames of an item that is whole

one_bytes : (m g : ℕ) (i : Item) → Sized i → length (joined (items_frames m g (i ∷ []))) ≡ 12 * item_count i
unfolding items_frames
one_bytes m g i h = ap (λ (fs : List (List ℕ)). length (joined fs)) (append-nil (item_frames m g i)) ∙ item_bytes_lem m g i h

module _ (m g : ℕ) (t : List ℕ) (whole : size_of t ≤ length t) where
  whole_test : ltb (length t) (size_of t) ≡ false
  whole_test = le-ltb (length t) (size_of t) whole

  -- Leave's
  pub leave_frames : kind_of t ≡ 0x0F → frames_at m g t ≡ leave_frame m g ∷ []
  unfolding frames_at
  leave_frames e = rw (whole_test, e)

  -- a Block's or a Row's; Open has none
  pub other_frames : eqb (kind_of t) 0x0F ≡ false → frames_at m g t ≡ items_frames m g (items_at t)
  unfolding frames_at
  other_frames e = rw (whole_test, e)

  -- twelve bytes a frame
  pub there_bytes : length (joined (frames_at m g t)) ≡ 12 * frames_of_kind (kind_of t)
  unfolding items_frames joined
  there_bytes =
      go (true_or_false (eqb (kind_of t) 0x02)) (true_or_false (eqb (kind_of t) 0x03)) (true_or_false (eqb (kind_of t) 0x0F))
    where
      go : (eqb (kind_of t) 0x02 ≡ true) ⊎ (eqb (kind_of t) 0x02 ≡ false) → (eqb (kind_of t) 0x03 ≡ true) ⊎ (eqb (kind_of t) 0x03 ≡ false)
          → (eqb (kind_of t) 0x0F ≡ true) ⊎ (eqb (kind_of t) 0x0F ≡ false) → length (joined (frames_at m g t)) ≡ 12 * frames_of_kind (kind_of t)
      go (inl b) r l =
          let kind = eqb-true (kind_of t) 2 b in
          let size : size_of t ≡ 68 = rw kind in
          ap (λ (fs : List (List ℕ)). length (joined fs)) (other_frames (rw kind))
          ∙ rw b (one_bytes m g (block (address_of t) (part t 4 64)) (part_length t 4 64 (omega arith)))
      go (inr b) (inl r) l =
          let kind = eqb-true (kind_of t) 3 r in
          let size : size_of t ≡ 12 = rw kind in
          ap (λ (fs : List (List ℕ)). length (joined fs)) (other_frames (rw kind))
          ∙ rw (b, r) (one_bytes m g (row (address_of t) (part t 4 8)) (part_length t 4 8 (omega arith)))
      go (inr b) (inr r) (inl l) =
          ap (λ (fs : List (List ℕ)). length (joined fs)) (leave_frames (eqb-true (kind_of t) 0x0F l)) ∙ rw (b, r, l)
      go (inr b) (inr r) (inr l) = ap (λ (fs : List (List ℕ)). length (joined fs)) (other_frames l) ∙ rw (b, r, l)

  -- with room they are put
  pub put_whole : (o : List ℕ) (pos : ℕ) → pos + 12 * frames_of_kind (kind_of t) ≤ length o
      → item_put m g t o pos ≡ patch o pos (joined (frames_at m g t))
  unfolding frames_put
  put_whole o pos h = rw (le-ltb (length o) (pos + length (joined (frames_at m g t))) (omega (arith, there_bytes)))

  -- without they are not
  put_short : (o : List ℕ) (pos : ℕ) → length o < pos + 12 * frames_of_kind (kind_of t) → item_put m g t o pos ≡ o
  unfolding frames_put
  put_short o pos h = rw (lt-ltb (length o) (pos + length (joined (frames_at m g t))) (omega (arith, there_bytes)))

-- nothing to be put
put_none : (o : List ℕ) (pos : ℕ) → frames_put o pos [] ≡ o
unfolding frames_put
put_none o pos =
    ap (λ (l : List ℕ). cond (ltb (length o) (pos + 0)) o l) (patch_none o pos) ∙ cond_same (ltb (length o) (pos + 0)) o

no_frames : (m g : ℕ) (t : List ℕ) → eqb (kind_of t) 0x02 ≡ false → eqb (kind_of t) 0x03 ≡ false → eqb (kind_of t) 0x0F ≡ false
    → frames_at m g t ≡ []
unfolding frames_at items_frames
no_frames m g t b r l =
    by_cond (λ (fs : List (List ℕ)). fs ≡ []) (ltb (length t) (size_of t)) [] _ (λ _. refl) (λ _. rw (b, r, l))

cut : (m g : ℕ) (t o : List ℕ) (pos : ℕ) → length t < size_of t → item_put m g t o pos ≡ o
unfolding frames_at joined
cut m g t o pos h = rw (lt-ltb (length t) (size_of t) h) (put_none o pos)

-- ---- what stands at a place

-- what the test says where it holds
pub fitting : (t : Bool) (x y n k : ℕ) → t ≡ (leb x n && leb y k) → t ≡ true → (x ≤ n) × (y ≤ k)
fitting t x y n k e h =
    let b = both_true (leb x n) (leb y k) (sym e ∙ h) in
    (leb-true x n b.0, leb-true y k b.1)

one_item : (m g : ℕ) (i : Item) → joined (items_frames m g (i ∷ [])) ≡ joined (item_frames m g i)
unfolding items_frames
one_item m g i = ap joined (append-nil (item_frames m g i))

module _ (m g : ℕ) (s : List ℕ) (place : ℕ) (o : List ℕ) (pos : ℕ) where
  abbrev there : List ℕ
  there = drop place s

  -- an item of `size` bytes that becomes `count` frames, and the test of both
  module _ (size count : ℕ) (z : size_of there ≡ size) (n : frames_of_kind (kind_of there) ≡ count) (t : Bool)
      (e : t ≡ (leb (place + size) (length s) && leb (pos + 12 * count) (length o))) where
    -- where it fails the output stays
    stays : t ≡ false → o ≡ item_put m g there o pos
    stays f = go (true_or_false (leb (place + size) (length s))) (true_or_false (leb (pos + 12 * count) (length o)))
      where
        go : (leb (place + size) (length s) ≡ true) ⊎ (leb (place + size) (length s) ≡ false)
            → (leb (pos + 12 * count) (length o) ≡ true) ⊎ (leb (pos + 12 * count) (length o) ≡ false) → o ≡ item_put m g there o pos
        go (inl a) (inl b) = absurd (false≢true (sym f ∙ e ∙ true_both _ _ a b))
        go (inl a) (inr b) =
            sym (put_short m g there (omega (arith, leb-true (place + size) (length s) a, length-drop place s, z)) o pos
            (omega (arith, leb-false (pos + 12 * count) (length o) b, n)))
        go (inr a) b = sym (cut m g there o pos (omega (arith, leb-false (place + size) (length s) a, length-drop place s, z)))

    -- where it holds the frames are put
    done : (o₁ : List ℕ) (fs : List (List ℕ)) → (size_of there ≤ length there → frames_at m g there ≡ fs) → t ≡ true
        → o₁ ≡ patch o pos (joined fs) → o₁ ≡ item_put m g there o pos
    done o₁ fs h f q =
        let b = fitting t (place + size) (pos + 12 * count) (length s) (length o) e f in
        let whole : size_of there ≤ length there = omega (arith, b.0, length-drop place s, z) in
        q
        ∙ ap (λ (l : List (List ℕ)). patch o pos (joined l)) (sym (h whole))
        ∙ sym (put_whole m g there whole o pos (omega (arith, b.1, n)))

  -- a Block
  module _ (k : get_or s place 0 ≡ 0x02) (t : Bool) (e : t ≡ (leb (place + 68) (length s) && leb (pos + 216) (length o))) where
    pub block_stays : t ≡ false → o ≡ item_put m g there o pos
    block_stays = stays 68 18 (rw (kind_at s place ∙ k)) (rw (kind_at s place ∙ k)) t e

    pub block_done : (o₁ : List ℕ) (a : ℕ) → t ≡ true → a ≡ address_of there
        → o₁ ≡ patch o pos (joined (item_frames m g (block a (part s (place + 4) 64)))) → o₁ ≡ item_put m g there o pos
    block_done o₁ a f x q =
        done 68 18 (rw (kind_at s place ∙ k)) (rw (kind_at s place ∙ k)) t e o₁
        (items_frames m g (block (address_of there) (part there 4 64) ∷ []))
        (λ w. other_frames m g there w (rw (kind_at s place ∙ k)) ∙ ap (items_frames m g) (rw (kind_at s place ∙ k))) f
        (q
        ∙ ap₂ (λ (b : ℕ) (d : List ℕ). patch o pos (joined (item_frames m g (block b (take 64 d))))) x (sym (drop-drop 4 place s))
        ∙ ap (patch o pos) (sym (one_item m g (block (address_of there) (part there 4 64)))))

  -- a Row
  module _ (k : get_or s place 0 ≡ 0x03) (t : Bool) (e : t ≡ (leb (place + 12) (length s) && leb (pos + 24) (length o))) where
    pub row_stays : t ≡ false → o ≡ item_put m g there o pos
    row_stays = stays 12 2 (rw (kind_at s place ∙ k)) (rw (kind_at s place ∙ k)) t e

    pub row_done : (o₁ : List ℕ) (a : ℕ) → t ≡ true → a ≡ address_of there
        → o₁ ≡ patch o pos (joined (item_frames m g (row a (part s (place + 4) 8)))) → o₁ ≡ item_put m g there o pos
    row_done o₁ a f x q =
        done 12 2 (rw (kind_at s place ∙ k)) (rw (kind_at s place ∙ k)) t e o₁
        (items_frames m g (row (address_of there) (part there 4 8) ∷ []))
        (λ w. other_frames m g there w (rw (kind_at s place ∙ k)) ∙ ap (items_frames m g) (rw (kind_at s place ∙ k))) f
        (q
        ∙ ap₂ (λ (b : ℕ) (d : List ℕ). patch o pos (joined (item_frames m g (row b (take 8 d))))) x (sym (drop-drop 4 place s))
        ∙ ap (patch o pos) (sym (one_item m g (row (address_of there) (part there 4 8)))))

  -- Leave
  module _ (k : get_or s place 0 ≡ 0x0F) (t : Bool) (e : t ≡ (leb (place + 1) (length s) && leb (pos + 12) (length o))) where
    pub leave_stays : t ≡ false → o ≡ item_put m g there o pos
    leave_stays = stays 1 1 (rw (kind_at s place ∙ k)) (rw (kind_at s place ∙ k)) t e

    pub leave_done : (o₁ f : List ℕ) → t ≡ true → f ≡ leave_frame m g → o₁ ≡ patch o pos f → o₁ ≡ item_put m g there o pos
    unfolding joined
    leave_done o₁ f h x q =
        done 1 1 (rw (kind_at s place ∙ k)) (rw (kind_at s place ∙ k)) t e o₁ (leave_frame m g ∷ [])
        (λ w. leave_frames m g there w (kind_at s place ∙ k)) h (q ∙ ap (patch o pos) x)

  -- Open, or no kind: no frames
  pub nothing_there : (get_or s place 0 ≡ 0x02 → ⊥) → (get_or s place 0 ≡ 0x03 → ⊥) → (get_or s place 0 ≡ 0x0F → ⊥) → o ≡ item_put m g there o pos
  unfolding joined
  nothing_there b r l =
      let none : frames_at m g there ≡ [] =
      no_frames m g there (ne_eqb (kind_of there) 2 (λ e. b (sym (kind_at s place) ∙ e)))
      (ne_eqb (kind_of there) 3 (λ e. r (sym (kind_at s place) ∙ e))) (ne_eqb (kind_of there) 15 (λ e. l (sym (kind_at s place) ∙ e))) in
      sym (ap (λ (fs : List (List ℕ)). frames_put o pos (joined fs)) none ∙ put_none o pos)
