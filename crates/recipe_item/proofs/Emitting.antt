-- What the loop over a Block's rows keeps, and the frames of an item as the functions put them.
-- Assumes nothing.
use mathlib.Core.Path.{◌≡◌, refl, sym, ap, ap₂, ◌∙◌}
use mathlib.Core.List.{List, [], ◌∷◌, ◌++◌, append-nil}
use Prim.Native.Nat.{ℕ, zero, suc, ◌+◌, ◌-◌, ◌*◌, ◌≤◌, ◌<◌}
use native.Mathlib.Omega.{arith}
use native.Mathlib.Nat.{add-zero}
use lib.ListN.{length, take, drop, replicate}
use lib.Seq.{drop-drop, take-take}
use Rattle.base.specs.Parts.{part, patch}
use Rattle.base.proofs.Patched.{part_length}
use Rattle.recipe.specs.Items.{block, row}
use Rattle.recipe.specs.Frames.{address_frame, data_frame, writes, item_frames, joined}
use Rattle.recipe_item.proofs.Putting.{Sent, sent_start, sent_more, sent_end, patch_patch}

-- two frames, one behind the other
pub patched_pair : (o o₁ o₂ f₁ f₂ x y : List ℕ) (p : ℕ) → p + 12 ≤ length o → length x ≡ 12 → f₁ ≡ x → f₂ ≡ y
    → o₁ ≡ patch o p f₁ → o₂ ≡ patch o₁ (p + 12) f₂ → o₂ ≡ patch o p (x ++ y)
patched_pair o o₁ o₂ f₁ f₂ x y p h l a b e₁ e₂ =
    e₂
    ∙ ap₂ (λ (u v : List ℕ). patch u (p + 12) v) (e₁ ∙ ap (patch o p) a) b
    ∙ patch_patch o x y p (p + 12) (omega arith) (omega arith)

take_drop_take : (n k t : ℕ) (l : List ℕ) → k + n ≤ t → take n (drop k (take t l)) ≡ take n (drop k l)
take_drop_take n zero t l h = take-take n t l (omega arith)
take_drop_take n (suc k) zero l h = absurd (omega arith)
take_drop_take n (suc k) (suc t) [] h = refl
take_drop_take n (suc k) (suc t) (x ∷ l) h = take_drop_take n k t l (omega arith)

-- ---- the writes of a Block

writes_step : (m g n a : ℕ) (d : List ℕ) → 1 ≤ n
    → joined (writes m g n a d) ≡ (address_frame m g 0x02 a ++ data_frame m g (take 8 d)) ++ joined (writes m g (n - 1) (a + 8) (drop 8 d))
unfolding writes joined
writes_step m g zero a d h = absurd (omega arith)
writes_step m g (suc n) a d h = let e : suc n - 1 ≡ n = omega arith in rw e

writes_none : (m g a : ℕ) (d : List ℕ) → joined (writes m g 0 a d) ≡ []
unfolding writes joined
writes_none m g a d = refl

-- i rows are written
abbrev pub Writing : List ℕ → ℕ → List ℕ → ℕ → ℕ → ℕ → ℕ → List ℕ → ℕ → Type 0
Writing s from o pos m g a o₁ i =
    Sent o o₁ pos (pos + 24 * i) (joined (writes m g 8 a (part s from 64)))
    (joined (writes m g (8 - i) (a + 8 * i) (drop (8 * i) (part s from 64))))

module _ (s : List ℕ) (from : ℕ) (o : List ℕ) (pos m g a : ℕ) (inside : from + 64 ≤ length s) (room : pos + 192 ≤ length o) where
  pub writing_start : Writing s from o pos m g a o 0
  writing_start = rw (add-zero pos, add-zero a) (sent_start o pos (joined (writes m g 8 a (part s from 64))) (omega arith))

  pub writing_next : (o₁ o₂ x : List ℕ) (i : ℕ) → Writing s from o pos m g a o₁ i → i < 8 → x ≡ take 8 (drop (from + 8 * i) s)
      → o₂ ≡ patch o₁ (pos + 24 * i) (address_frame m g 0x02 (a + 8 * i) ++ data_frame m g x)
      → Writing s from o pos m g a o₂ (i + 1)
  writing_next o₁ o₂ x i h l e q =
      let d : List ℕ = part s from 64 in
      let row : take 8 (drop (8 * i) d) ≡ x =
      take_drop_take 8 (8 * i) 64 (drop from s) (omega arith) ∙ ap (take 8) (drop-drop (8 * i) from s) ∙ sym e in
      let count : 8 - i - 1 ≡ 8 - (i + 1) = omega arith in
      let further : 8 * i + 8 ≡ 8 * (i + 1) = omega arith in
      let upward : a + 8 * i + 8 ≡ a + 8 * (i + 1) = omega arith in
      let rest : drop 8 (drop (8 * i) d) ≡ drop (8 * (i + 1)) d = drop-drop 8 (8 * i) d ∙ ap (λ (n : ℕ). drop n d) further in
      let eight : length x ≡ 8 = ap length e ∙ part_length s (from + 8 * i) 8 (omega arith) in
      sent_more o pos (joined (writes m g 8 a d)) o₁ (pos + 24 * i) (joined (writes m g (8 - i) (a + 8 * i) (drop (8 * i) d))) h
      (address_frame m g 0x02 (a + 8 * i) ++ data_frame m g x) (joined (writes m g (8 - (i + 1)) (a + 8 * (i + 1)) (drop (8 * (i + 1)) d)))
      o₂ (pos + 24 * (i + 1))
      (rw (row, count, rest, upward) at (writes_step m g (8 - i) (a + 8 * i) (drop (8 * i) d) (omega arith))) q (omega arith) (omega arith)

  pub writing_end : (o₁ : List ℕ) (i : ℕ) → Writing s from o pos m g a o₁ i → 8 ≤ i
      → o₁ ≡ patch o pos (joined (writes m g 8 a (part s from 64)))
  writing_end o₁ i h l =
      let none : 8 - i ≡ 0 = omega arith in
      (sent_end o pos (joined (writes m g 8 a (part s from 64))) o₁ (pos + 24 * i)
      (joined (writes m g (8 - i) (a + 8 * i) (drop (8 * i) (part s from 64)))) h
      (rw none (writes_none m g (a + 8 * i) (drop (8 * i) (part s from 64))))).0

-- ---- the frames of an item
module _ (m g a : ℕ) (d : List ℕ) where
  row_bytes : joined (item_frames m g (row a d)) ≡ address_frame m g 0x02 a ++ data_frame m g d
  unfolding item_frames joined
  row_bytes = ap (λ (l : List ℕ). address_frame m g 0x02 a ++ data_frame m g l) (append-nil d)

  pub row_patched : (o o₁ cells : List ℕ) (p : ℕ) → cells ≡ d → o₁ ≡ patch o p (address_frame m g 0x02 a ++ data_frame m g cells)
      → o₁ ≡ patch o p (joined (item_frames m g (row a d)))
  row_patched o o₁ cells p e q =
      q ∙ ap (λ (l : List ℕ). patch o p (address_frame m g 0x02 a ++ data_frame m g l)) e ∙ ap (patch o p) (sym row_bytes)

  block_bytes : joined (item_frames m g (block a d))
      ≡ (address_frame m g 0x03 a ++ data_frame m g (replicate 8 0xFF)) ++ joined (writes m g 8 a d)
  unfolding item_frames joined
  block_bytes = refl

  pub block_patched : (o o₁ o₂ : List ℕ) (p q : ℕ) → p + 24 ≤ length o → q ≡ p + 24
      → o₁ ≡ patch o p (address_frame m g 0x03 a ++ data_frame m g (replicate 8 0xFF))
      → o₂ ≡ patch o₁ q (joined (writes m g 8 a d)) → o₂ ≡ patch o p (joined (item_frames m g (block a d)))
  block_patched o o₁ o₂ p q h e e₁ e₂ =
      e₂
      ∙ ap (λ (l : List ℕ). patch l q (joined (writes m g 8 a d))) e₁
      ∙ patch_patch o (address_frame m g 0x03 a ++ data_frame m g (replicate 8 0xFF)) (joined (writes m g 8 a d)) p q h e
      ∙ ap (patch o p) (sym block_bytes)
