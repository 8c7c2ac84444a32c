-- Items put one behind the other: an item's head and then its places, touched items and others, and what the loop over items keeps.
-- Assumes nothing.
use mathlib.Core.Path.{◌≡◌, ◌∙◌, refl, sym, ap, ap₂}
use mathlib.Core.Bool.{true, false}
use mathlib.Core.List.{List, [], ◌∷◌, ◌++◌}
use Prim.Native.Nat.{ℕ, zero, suc, ◌+◌, ◌-◌, ◌*◌, ◌/◌, ◌≤◌, ◌<◌}
use native.Mathlib.Omega.{arith}
use Rattle.std.proofs.lemmas.Nat.{le-div, div_below}
use Rattle.std.specs.Int.{to_be_bytes, w32}
use lib.ListN.{length, get_or, take, drop, length-append, length-drop}
use lib.Seq.{take_at, drop_at, drop-drop}
use Rattle.std.specs.Slice.Iter.{chunks_exact_size, chunks_exact_rest}
use Rattle.std.specs.declared.slice.ChunksExact.{ChunksExact}
use Rattle.base.specs.Parts.{part, patch}
use Rattle.base.specs.Internal.Putting.{put_at}
use Rattle.base.proofs.Choice.{cond_true, cond_false, by_cond}
use Rattle.base.proofs.Patched.{put_back, put_fits}
use Rattle.recipe_item.proofs.Putting.{patch_patch, Sent, sent_start, sent_more, sent_end, sent_long}
use Rattle.recipe.specs.Items.{address_bytes}
use Rattle.hex_put.specs.Internal.Table.{some_marked, low_bytes, item_bytes, touched_bytes, printed_in}
use Rattle.hex_put.proofs.Marking.{low_length}

-- the head, and behind it the places
pub item_put_lem : (o o₁ head places low : List ℕ) (at : ℕ) → at + (4 + length places) ≤ length o → length head ≡ 4 → o₁ ≡ put_at o at head
    → low ≡ low_bytes places
    → take (at + 4) o₁ ++ (low ++ drop (at + 4 + length places - (at + 4)) (drop (at + 4) o₁)) ≡ patch o at (head ++ low_bytes places)
item_put_lem o o₁ head places low at h l e q =
    put_back o₁ (at + 4) (length places) low (low_bytes places) q (low_length places)
    ∙ ap (λ (u : List ℕ). patch u (at + 4) (low_bytes places)) (e ∙ put_fits o at head (omega arith))
    ∙ patch_patch o head (low_bytes places) at (at + 4) (omega arith) (omega arith)

-- an item's head: its kind and the lower three bytes of its address
pub head_is : (kind a : ℕ) (bytes : List ℕ) → bytes ≡ to_be_bytes w32 a
    → kind ∷ get_or bytes 1 0 ∷ get_or bytes 2 0 ∷ get_or bytes 3 0 ∷ [] ≡ kind ∷ address_bytes a
head_is kind a bytes e = rw e

-- what an item takes, by whether it is touched
pub item_size : (kind a : ℕ) (places : List ℕ) → length (item_bytes kind a places) ≡ 4 + length places
item_size kind a places = omega (arith, low_length places)

pub touched_is : (kind a : ℕ) (places : List ℕ) → some_marked places ≡ true → touched_bytes kind a places ≡ item_bytes kind a places
touched_is kind a places e = cond_true (some_marked places) (item_bytes kind a places) [] e

pub untouched_is : (kind a : ℕ) (places : List ℕ) → some_marked places ≡ false → touched_bytes kind a places ≡ []
untouched_is kind a places e = cond_false (some_marked places) (item_bytes kind a places) [] e

pub touched_size : (kind a : ℕ) (places : List ℕ) → some_marked places ≡ true → length (touched_bytes kind a places) ≡ 4 + length places
touched_size kind a places e = ap length (touched_is kind a places e) ∙ item_size kind a places

pub untouched_size : (kind a : ℕ) (places : List ℕ) → some_marked places ≡ false → length (touched_bytes kind a places) ≡ 0
untouched_size kind a places e = ap length (untouched_is kind a places e)

-- at most four bytes and its places
pub touched_most : (kind a : ℕ) (places : List ℕ) → length (touched_bytes kind a places) ≤ 4 + length places
touched_most kind a places =
    by_cond (λ (l : List ℕ). length l ≤ 4 + length places) (some_marked places) (item_bytes kind a places) []
    (λ _. omega (arith, item_size kind a places)) (λ _. omega arith)

-- neither kind nor address changes it
pub same_size : (kind a : ℕ) (places : List ℕ) → length (touched_bytes 0 0 places) ≡ length (touched_bytes kind a places)
same_size kind a places =
    by_cond (λ (l : List ℕ). length l ≡ length (touched_bytes kind a places)) (some_marked places) (item_bytes 0 0 places) []
    (λ t. item_size 0 0 places ∙ sym (touched_size kind a places t)) (λ f. sym (untouched_size kind a places f))

-- ---- items one behind the other

pub printed_none : (kind size : ℕ) (table : List ℕ) (k a : ℕ) → printed_in kind size table 0 k a ≡ []
unfolding printed_in
printed_none kind size table k a = refl

-- the first of n, and those behind it
pub printed_next : (kind size : ℕ) (table : List ℕ) (n k a : ℕ) → 1 ≤ n
    → printed_in kind size table n k a ≡ touched_bytes kind a (part table k size) ++ printed_in kind size table (n - 1) (k + size) (a + size)
unfolding printed_in
printed_next kind size table zero k a h = absurd (omega arith)
printed_next kind size table (suc n) k a h = let e : suc n - 1 ≡ n = omega arith in rw e

-- neither kind nor address changes the size
pub same_sizes : (kind size : ℕ) (table : List ℕ) (n k a b : ℕ)
    → length (printed_in 0 size table n k b) ≡ length (printed_in kind size table n k a)
unfolding printed_in
same_sizes kind size table zero k a b = refl
same_sizes kind size table (suc n) k a b =
    length-append (touched_bytes 0 b (part table k size)) (printed_in 0 size table n (k + size) (b + size))
    ∙ ap₂ ◌+◌ (sym (same_size 0 b (part table k size)) ∙ same_size kind a (part table k size)) (same_sizes kind size table n (k + size) (a + size) (b + size))
    ∙ sym (length-append (touched_bytes kind a (part table k size)) (printed_in kind size table n (k + size) (a + size)))

-- the chunks of places, of which i came: the next stands behind them
pub record Along (places : List ℕ) (size : ℕ) (items : ChunksExact ℕ) (i : ℕ) : Type 0 where
  pub each : chunks_exact_size items ≡ size
  pub rest : chunks_exact_rest items ≡ drop (i * size) places
  pub within : i * size ≤ length places

pub along_start : (places : List ℕ) (size : ℕ) (items : ChunksExact ℕ) → chunks_exact_size items ≡ size → chunks_exact_rest items ≡ places
    → Along places size items 0
along_start places size items e r =
    let none : 0 * size ≡ 0 = omega arith in
    record { each = e; rest = rw none r; within = omega arith }

module _ (places : List ℕ) (size : ℕ) (items : ChunksExact ℕ) (i : ℕ) (h : Along places size items i) where
  -- no whole chunk is left
  pub along_end : 1 ≤ size → length (chunks_exact_rest items) < chunks_exact_size items → length places / size ≤ i
  along_end some l =
      let n : length places < (i + 1) * size = omega (arith, h.each, ap length h.rest, length-drop (i * size) places) in
      let d = div_below (length places) size (i + 1) some n in
      omega (arith, d)

  -- the next chunk
  module _ (next : ChunksExact ℕ) (item : List ℕ) (e : chunks_exact_size next ≡ chunks_exact_size items)
      (r : chunks_exact_rest items ≡ item ++ chunks_exact_rest next) (l : length item ≡ chunks_exact_size items) where
    there : drop (i * size) places ≡ item ++ chunks_exact_rest next
    there = sym h.rest ∙ r

    pub along_size : length item ≡ size
    along_size = l ∙ h.each

    pub along_item : item ≡ part places (i * size) size
    along_item = sym (ap (take size) there ∙ take_at item (chunks_exact_rest next) size (along_size))

    fits : i * size + size ≤ length places
    fits = omega (arith, h.within, ap length there, length-append item (chunks_exact_rest next), length-drop (i * size) places, along_size)

    pub along_more : 1 ≤ size → i < length places / size
    along_more some = let m : (i + 1) * size ≤ length places = omega (arith, fits) in let d = le-div (i + 1) (length places) size some m in omega (arith, d)

    pub along_next : (k : ℕ) → k ≡ i + 1 → Along places size next k
    along_next k q =
        let more : k * size ≡ i * size + size = omega (arith, ap (λ (x : ℕ). x * size) q) in
        record {
          each = e ∙ h.each;
          rest =
              sym (ap (λ (m : ℕ). drop m places) more
              ∙ sym (drop-drop size (i * size) places)
              ∙ ap (drop size) there
              ∙ drop_at item (chunks_exact_rest next) size along_size);
          within = omega (arith, more, fits);
        }

module _ (o : List ℕ) (at kind size : ℕ) (table : List ℕ) (n k a : ℕ) where
  -- i items are put, and the next goes to `to`
  pub record Putting (o₁ : List ℕ) (to index address i : ℕ) : Type 0 where
    pub sent : Sent o o₁ at to (printed_in kind size table n k a) (printed_in kind size table (n - i) index address)
    pub few : i ≤ n
    pub there : index ≡ k + i * size
    pub number : address ≡ a + i * size
    pub room : at + length (printed_in kind size table n k a) ≤ length o

  pub putting_start : at + length (printed_in kind size table n k a) ≤ length o → Putting o at k a 0
  putting_start room =
      let all : n - 0 ≡ n = omega arith in
      record {
        sent = rw all (sent_start o at (printed_in kind size table n k a) (omega arith));
        few = omega arith;
        there = omega arith;
        number = omega arith;
        room = room;
      }

  module _ (o₁ : List ℕ) (to index address i : ℕ) (h : Putting o₁ to index address i) where
    pub putting_long : length o₁ ≡ length o
    putting_long = sent_long o at _ o₁ to _ h.sent

    -- there is room for what is left
    left : to + length (printed_in kind size table (n - i) index address) ≤ length o
    left =
        omega (
          arith,
          h.sent.here,
          ap length h.sent.split,
          length-append h.sent.done (printed_in kind size table (n - i) index address),
          h.room,
        )

    next : i < n → printed_in kind size table (n - i) index address
        ≡ touched_bytes kind address (part table index size) ++ printed_in kind size table (n - (i + 1)) (index + size) (address + size)
    next l =
        let e : n - i - 1 ≡ n - (i + 1) = omega arith in
        printed_next kind size table (n - i) index address (omega arith)
        ∙ ap (λ (x : ℕ).
        touched_bytes kind address (part table index size) ++ printed_in kind size table x (index + size) (address + size)) e

    pub putting_room : i < n → to + length (touched_bytes kind address (part table index size)) ≤ length o₁
    putting_room l =
        omega (
          arith,
          left,
          putting_long,
          ap length (next l),
          length-append (touched_bytes kind address (part table index size))
              (printed_in kind size table (n - (i + 1)) (index + size) (address + size)),
        )

    pub putting_next : (o₂ : List ℕ) (to₂ : ℕ) → i < n → o₂ ≡ patch o₁ to (touched_bytes kind address (part table index size))
        → to₂ ≡ to + length (touched_bytes kind address (part table index size))
        → Putting o₂ to₂ (index + size) (address + size) (i + 1)
    putting_next o₂ to₂ l e q =
        let more : (i + 1) * size ≡ i * size + size = omega arith in
        record {
          sent =
              sent_more o at (printed_in kind size table n k a) o₁ to (printed_in kind size table (n - i) index address) h.sent
              (touched_bytes kind address (part table index size))
              (printed_in kind size table (n - (i + 1)) (index + size) (address + size)) o₂ to₂ (next l) e q
              (omega (arith, putting_room l, putting_long));
          few = omega arith;
          there = omega (arith, h.there, more);
          number = omega (arith, h.number, more);
          room = h.room;
        }

    pub putting_end : n ≤ i → (to ≡ at + length (printed_in kind size table n k a)) × (o₁ ≡ patch o at (printed_in kind size table n k a))
    putting_end l =
        let z : n - i ≡ 0 = omega arith in
        let d = sent_end o at (printed_in kind size table n k a) o₁ to _ h.sent
        (ap (λ (x : ℕ). printed_in kind size table x index address) z ∙ printed_none kind size table index address) in
        (d.1, d.0)

-- ---- the size alone: i items take `all` bytes
module _ (table : List ℕ) (size n k : ℕ) where
  pub record Sized (all at i : ℕ) : Type 0 where
    pub measured : all + length (printed_in 0 size table (n - i) at 0) ≡ length (printed_in 0 size table n k 0)
    pub few : i ≤ n
    pub there : at ≡ k + i * size
    pub small : all ≤ 68 * i

  pub sized_start : Sized 0 k 0
  sized_start =
      let all : n - 0 ≡ n = omega arith in
      record { measured = rw all (omega arith); few = omega arith; there = omega arith; small = omega arith }

  module _ (all at i : ℕ) (h : Sized all at i) where
    pub sized_next : (more : ℕ) → i < n → more ≡ length (touched_bytes 0 0 (part table at size)) → more ≤ 68
        → Sized (all + more) (at + size) (i + 1)
    sized_next more l e m =
        let step : (i + 1) * size ≡ i * size + size = omega arith in
        let less : n - i - 1 ≡ n - (i + 1) = omega arith in
        let next = printed_next 0 size table (n - i) at 0 (omega arith) in
        record {
          measured =
              omega (
                arith,
                h.measured,
                ap length next,
                length-append (touched_bytes 0 0 (part table at size)) (printed_in 0 size table (n - i - 1) (at + size) (0 + size)),
                same_sizes 0 size table (n - i - 1) (at + size) (0 + size) 0,
                ap (λ (x : ℕ). length (printed_in 0 size table x (at + size) 0)) less,
                e,
              );
          few = omega arith;
          there = omega (arith, h.there, step);
          small = omega (arith, h.small, m);
        }

    pub sized_end : n ≤ i → all ≡ length (printed_in 0 size table n k 0)
    sized_end l =
        let z : n - i ≡ 0 = omega arith in
        omega (
          arith,
          h.measured,
          ap (λ (x : ℕ). length (printed_in 0 size table x at 0)) z,
          ap length (printed_none 0 size table at 0),
        )
