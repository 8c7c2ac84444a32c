-- The laws of `patch`, by which a memory is known after a part of it was lent: its length, the cells inside, every cell outside.
-- Assumes nothing.
use mathlib.Core.Path.{◌≡◌, ◌∙◌, refl, ap}
use mathlib.Core.List.{List, ◌++◌}
use mathlib.Core.Logic.{◌⊎◌, ⊎_elim}
use Prim.Native.Nat.{ℕ, ◌+◌, ◌-◌, ◌≤◌, ◌<◌}
use native.Mathlib.Nat.{add-sub_cancel_left, add_assoc}
use native.Mathlib.Omega.{arith}
use borrow.Author.Tests.{le-leb, lt-leb}
use lib.ListN.{length, get_or, take, drop, length-append, length-take, length-drop, get_or-append}
use lib.Seq.{drop-drop, get_or-append-add, get_or-take, get_or-drop, length-take-le, take_at, drop_at}
use Rattle.base.specs.Parts.{part, patch}
use Rattle.base.specs.Internal.Putting.{put_at}

-- a part that lies within is as long as it says
pub part_length : (m : List ℕ) (a k : ℕ) → a + k ≤ length m → length (part m a k) ≡ k
part_length m a k h = simp (length-take, length-drop) (omega arith)

-- cell j of a part
pub part_cell : (m : List ℕ) (a k j : ℕ) → j < k → get_or (part m a k) j 0 ≡ get_or m (a + j) 0
part_cell m a k j h = get_or-take k (drop a m) j 0 h ∙ get_or-drop a m j 0

-- what comes back where the part from a to a + k was lent
pub put_back : (m : List ℕ) (a k : ℕ) (ys new : List ℕ) → ys ≡ new → length new ≡ k
    → take a m ++ (ys ++ drop ((a + k) - a) (drop a m)) ≡ patch m a new
unfolding patch
put_back m a k ys new e l = simp (add-sub_cancel_left, drop-drop, e, l)

-- what is put where it fits replaces a part
pub put_fits : (m : List ℕ) (a : ℕ) (new : List ℕ) → a + length new ≤ length m → put_at m a new ≡ patch m a new
unfolding put_at
put_fits m a new h = simp (le-leb _ _ h)

-- where it doesn't fit all stays
pub put_not : (m : List ℕ) (a : ℕ) (new : List ℕ) → length m < a + length new → put_at m a new ≡ m
unfolding put_at
put_not m a new h = simp (lt-leb _ _ h)

module _ (m : List ℕ) (a : ℕ) (new : List ℕ) (fits : a + length new ≤ length m) where
  pub length_patch : length (patch m a new) ≡ length m
  unfolding patch
  length_patch = simp (length-append, length-take, length-drop) (omega arith)

  pub below_patch : (i : ℕ) → i < a → get_or (patch m a new) i 0 ≡ get_or m i 0
  unfolding patch
  below_patch i l =
      get_or-append (take a m) (new ++ drop (a + length new) m) 0 i (simp length-take (omega arith)) ∙ get_or-take a m i 0 l

past : (p q : List ℕ) (n i : ℕ) → length p ≡ n → get_or (p ++ q) (n + i) 0 ≡ get_or q i 0
past p q n i e = rw (← e) (get_or-append-add p q i 0)

module _ (m : List ℕ) (a : ℕ) (new : List ℕ) (fits : a + length new ≤ length m) where
  pub inside_patch : (j : ℕ) → j < length new → get_or (patch m a new) (a + j) 0 ≡ get_or new j 0
  unfolding patch
  inside_patch j l =
      past (take a m) (new ++ drop (a + length new) m) a j (length-take-le a m (omega arith))
      ∙ get_or-append new (drop (a + length new) m) 0 j l

  above_patch : (j : ℕ) → get_or (patch m a new) (a + length new + j) 0 ≡ get_or m (a + length new + j) 0
  unfolding patch
  above_patch j =
      ap (λ (n : ℕ). get_or (patch m a new) n 0) (add_assoc a (length new) j)
      ∙ past (take a m) (new ++ drop (a + length new) m) a (length new + j) (length-take-le a m (omega arith))
      ∙ get_or-append-add new (drop (a + length new) m) j 0
      ∙ get_or-drop (a + length new) m j 0

  -- every cell that was not lent is as it was
  pub elsewhere_patch : (i : ℕ) → (i < a) ⊎ (a + length new ≤ i) → get_or (patch m a new) i 0 ≡ get_or m i 0
  elsewhere_patch i o =
      ⊎_elim (λ l. below_patch m a new fits i l)
      (λ l.
      let e : a + length new + (i - (a + length new)) ≡ i = omega arith in
      rw e at (above_patch (i - (a + length new))))
      o

  -- the part that was replaced
  pub part_patch : part (patch m a new) a (length new) ≡ new
  unfolding patch
  part_patch =
      ap (λ (l : List ℕ). take (length new) l) (drop_at (take a m) (new ++ drop (a + length new) m) a (length-take-le a m (omega arith)))
      ∙ take_at new (drop (a + length new) m) (length new) refl
