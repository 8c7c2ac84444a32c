-- What the loop that puts frames keeps, and the whole output behind it.
-- Assumes nothing.
use mathlib.Core.Path.{◌≡◌, refl, sym, ap, ap₂, subst, ◌∙◌}
use mathlib.Core.Bool.{Bool, true, false, cond, false≢true}
use mathlib.Core.List.{List, [], ◌∷◌, ◌++◌, append_assoc}
use mathlib.Core.Logic.{◌⊎◌, inl, inr, ⊎_elim}
use Prim.Native.Nat.{ℕ, ◌+◌, ◌*◌, ◌≤◌, ◌<◌, zero-le}
use native.Mathlib.Omega.{arith}
use borrow.Author.Tests.{eqb-true, eqb-false, ltb-true, ltb-false}
use lib.Dec.{eqb, ltb}
use lib.ListN.{length, drop, get_or}
use Rattle.base.specs.Parts.{patch}
use Rattle.base.proofs.Choice.{true_or_false}
use Rattle.recipe_item.specs.Internal.Emitted.{frames_of_kind, frames_at, item_put}
use Rattle.recipe_item.proofs.Putting.{Sent, sent_start, sent_more, sent_end, sent_long}
use Rattle.recipe_item.proofs.Fitting.{leave_frames, other_frames, there_bytes, put_whole}
use Rattle.recipe.specs.Items.{Item}
use Rattle.recipe.specs.Frames.{leave_frame, items_frames, frames_of, joined, items_count, frame_count}
use Rattle.recipe.specs.Faults.{kind_of, fault_at}
use Rattle.recipe.specs.Reading.{Reading, at_end, fault, size_of, items_at, reading, recipe_of}
use Rattle.recipe.proofs.Order.{faultless}
use Rattle.recipe.proofs.Framing.{items_append, joined_append}
use Rattle.recipe_fault.proofs.Walking.{read_start, on_end, on_fault, at_item, not_ended as before_leave}
use Rattle.recipe_translate.specs.declared.cursor.Cursor.{Cursor}
use Rattle.recipe_translate.specs.Internal.Steps.{read_at, leave_left, next_of, AtCursor}
use Rattle.recipe_translate.proofs.Walking.{Stands, Kept, kept_start, kept_next, counted, stands_next, not_ended, at_cursor, on_next}

-- the frames of what was read, one behind the other, and Leave's where it is still to come
abbrev bytes_of : ℕ → ℕ → Reading → Bool → List ℕ
bytes_of m g r ended = joined (items_frames m g r.items) ++ cond ended [] (leave_frame m g)

-- whether the item at a cursor is without fault
fault_or_none : (s : List ℕ) (c : Cursor)
    → (fault_at (drop c.place s) c.number c.ended ≡ 0) ⊎ (fault_at (drop c.place s) c.number c.ended ≡ 0 → ⊥)
fault_or_none s c = ⊎_elim (λ t. inl (eqb-true n 0 t)) (λ f. inr (eqb-false n 0 f)) (true_or_false (eqb n 0))
  where
    n : ℕ
    n = fault_at (drop c.place s) c.number c.ended

-- behind Leave nothing more is read
after_leave : (s : List ℕ) (c : Cursor) → Stands s c → c.ended ≡ true → (read_at s c).items ≡ []
after_leave s c k e = go (true_or_false (ltb c.place (length s))) (fault_or_none s c)
  where
    go : (ltb c.place (length s) ≡ true) ⊎ (ltb c.place (length s) ≡ false)
        → (fault_at (drop c.place s) c.number c.ended ≡ 0) ⊎ (fault_at (drop c.place s) c.number c.ended ≡ 0 → ⊥)
        → (read_at s c).items ≡ []
    go (inr h) f =
        ap (λ (r : Reading). r.items)
        (on_end s c.place c.number c.ended k.few (ltb-false c.place (length s) h))
    go (inl h) (inl f) =
        let at = at_item s c.place c.number c.ended _ (ltb-true c.place (length s) h) k.few refl f in
        absurd (false≢true (sym (before_leave s c.place c.number c.ended at) ∙ e))
    go (inl h) (inr f) =
        ap (λ (r : Reading). r.items)
        (on_fault s c.place c.number c.ended k.few (ltb-true c.place (length s) h) _ refl f)

pub record Emitted (s o : List ℕ) (m g : ℕ) (o₁ : List ℕ) (c : Cursor) : Type 0 where
  pub sent : Sent o o₁ 0 (12 * c.frames) (bytes_of m g (reading s) false) (bytes_of m g (read_at s c) c.ended)
  pub kept : Kept s c

not_both : (n p : ℕ) → fault n p ≡ at_end true → false ≡ true
not_both n p e = cc

ended_is : (b : Bool) → at_end b ≡ at_end true → b ≡ true
ended_is true e = refl
ended_is false e = cc

module _ (s o : List ℕ) (m g : ℕ) (legal : (reading s).stop ≡ at_end true) (room : 12 * frame_count (recipe_of s) ≤ length o) where
  pub emitted_start : Emitted s o m g o (record { place = 0; number = 1; ended = false; frames = 0 })
  emitted_start = record {
    sent =
        subst (λ (r : Reading). Sent o o 0 0 (bytes_of m g (reading s) false) (bytes_of m g r false)) (read_start s)
        (sent_start o 0 (bytes_of m g (reading s) false) zero-le);
    kept = kept_start s;
  }

  module _ (o₁ : List ℕ) (c : Cursor) (k : Emitted s o m g o₁ c) where
    pub emitted_long : length o₁ ≡ length o
    emitted_long = sent_long o 0 _ o₁ (12 * c.frames) _ k.sent

    -- each item is without fault
    pub emitted_at : c.place < length s → AtCursor s c
    emitted_at h = go (fault_or_none s c)
      where
        go : (fault_at (drop c.place s) c.number c.ended ≡ 0) ⊎ (fault_at (drop c.place s) c.number c.ended ≡ 0 → ⊥)
            → AtCursor s c
        go (inl f) = at_cursor s c k.kept _ h refl f
        go (inr f) =
            absurd (false≢true (not_both _ _
            (sym (k.kept.stop ∙ ap (λ (r : Reading). r.stop)
            (on_fault s c.place c.number c.ended k.kept.stands.few h _ refl f)) ∙ legal)))

    -- at the end all is put, Leave's frame too
    pub emitted_end : length s ≤ c.place → m ≡ get_or s 1 0 → g ≡ get_or s 2 0
        → o₁ ≡ joined (frames_of (recipe_of s)) ++ drop (12 * frame_count (recipe_of s)) o
    unfolding items_count items_frames joined frames_of recipe_of frame_count patch
    emitted_end h em eg =
        let stop = on_end s c.place c.number c.ended k.kept.stands.few h in
        let none : (read_at s c).items ≡ [] = ap (λ (r : Reading). r.items) stop in
        let ended : c.ended ≡ true = ended_is c.ended (sym (k.kept.stop ∙ ap (λ (r : Reading). r.stop) stop) ∙ legal) in
        let d = sent_end o 0 (bytes_of m g (reading s) false) o₁ (12 * c.frames) (bytes_of m g (read_at s c) c.ended) k.sent (rw
        (none, ended)) in
        let n : items_count (read_at s c).items ≡ 0 = ap items_count none in
        let left : leave_left c.ended ≡ 0 = ap leave_left ended in
        let whole : bytes_of m g (reading s) false ≡ joined (items_frames m g (reading s).items ++ (leave_frame m g ∷ [])) =
        sym (joined_append (items_frames m g (reading s).items) (leave_frame m g ∷ [])) in
        let end : 0 + length (bytes_of m g (reading s) false) ≡ 12 * (items_count (reading s).items + 1) = omega (
          arith,
          d.1,
          k.kept.count,
        ) in
        d.0
        ∙ ap₂ (λ (x : ℕ) (u : List ℕ). u ++ drop x o) end whole
        ∙ ap₂ (λ (a b : ℕ).
        joined (items_frames a b (reading s).items ++ (leave_frame a b ∷ [])) ++ drop (12 * (items_count (reading s).items + 1)) o)
        em eg

    module _ (at : AtCursor s c) where
      abbrev there : List ℕ
      there = drop c.place s

      whole : size_of there ≤ length there
      whole = (faultless there c.number c.ended at.item.faultless).whole

      -- what is left before an item: its frames, and what is left behind it
      rest : bytes_of m g (read_at s c) c.ended ≡ joined (frames_at m g there) ++ bytes_of m g (read_at s (next_of s c)) (next_of s c).ended
      unfolding items_frames joined
      rest = go (true_or_false (eqb (kind_of there) 0x0F))
        where
          go : (eqb (kind_of there) 0x0F ≡ true) ⊎ (eqb (kind_of there) 0x0F ≡ false)
              → bytes_of m g (read_at s c) c.ended ≡ joined (frames_at m g there) ++ bytes_of m g (read_at s (next_of s c)) (next_of s c).ended
          go (inl l) =
              let kind = eqb-true (kind_of there) 0x0F l in
              let withItems : (read_at s (next_of s c)).items ≡ [] = after_leave s (next_of s c) (stands_next s c at k.kept.stands) l in
              let none : items_at there ≡ [] = rw kind in
              let here : (read_at s c).items ≡ [] = ap (λ (r : Reading). r.items) (on_next s c at) ∙ ap₂ (λ
              (is js : List Item). is ++ js) none withItems in
              ap₂ (λ (is : List Item) (b : Bool). joined (items_frames m g is) ++ cond b [] (leave_frame m g)) here (not_ended s c at)
              ∙ sym (ap₂ (λ (fs : List (List ℕ)) (is : List Item). joined fs ++ (joined (items_frames m g is) ++ cond
              (next_of s c).ended [] (leave_frame m g)))
              (leave_frames m g there whole kind) withItems ∙ rw l)
          go (inr l) =
              ap₂ (λ (r : Reading) (b : Bool). bytes_of m g r b) (on_next s c at) (not_ended s c at)
              ∙ ap (λ (x : List ℕ). x ++ leave_frame m g)
              (ap joined (items_append m g (items_at there) (read_at s (next_of s c)).items)
              ∙ joined_append (items_frames m g (items_at there)) (items_frames m g (read_at s (next_of s c)).items))
              ∙ append_assoc (joined (items_frames m g (items_at there))) (joined (items_frames m g (read_at s (next_of s c)).items))
              (leave_frame m g)
              ∙ sym (ap₂ (λ (fs : List (List ℕ)) (b : Bool). joined fs ++ bytes_of m g (read_at s (next_of s c)) b)
              (other_frames m g there whole l) l)

      item_room : 12 * c.frames + 12 * frames_of_kind (kind_of there) ≤ length o
      unfolding frame_count recipe_of
      item_room = omega (arith, counted s c k.kept at, room)

      pub emitted_next : (o₂ : List ℕ) (r : Cursor) → o₂ ≡ item_put m g there o₁ (12 * c.frames) → r ≡ next_of s c → Emitted s o m g o₂ r
      emitted_next o₂ r q p =
          rw p
          (record {
            sent =
                sent_more o 0 (bytes_of m g (reading s) false) o₁ (12 * c.frames) (bytes_of m g (read_at s c) c.ended) k.sent
                (joined (frames_at m g there)) (bytes_of m g (read_at s (next_of s c)) (next_of s c).ended) o₂
                (12 * (c.frames + frames_of_kind (kind_of there))) rest
                (q ∙ put_whole m g there whole o₁ (12 * c.frames) (omega (arith, item_room, emitted_long)))
                (omega (arith, there_bytes m g there whole)) (omega (arith, item_room));
            kept = kept_next s c k.kept (next_of s c) at refl;
          })
