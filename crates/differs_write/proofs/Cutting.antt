-- A recipe with Blocks cut out: as far as a place, with what stands there more, with a Block there cut out, and to the end; and how long it
-- is. Each by going along the places.
-- Assumes nothing.
use mathlib.Core.Path.{◌≡◌, ◌∙◌, sym, ap}
use mathlib.Core.List.{List, [], ◌∷◌, ◌++◌, append_assoc, append-nil}
use Prim.Native.Nat.{ℕ, ◌+◌, ◌-◌, ◌*◌, ◌≤◌}
use native.Mathlib.Omega.{arith}
use lib.ListN.{length, take, drop, length-append, length-drop}
use lib.Seq.{take_all, take-add, drop-drop}
use Rattle.base.specs.Parts.{part}
use Rattle.base.proofs.Patched.{part_length}
use Rattle.differs_write.specs.Internal.Cutting.{cut_out, Upward}

-- as far as a place
abbrev pub cut_to : List ℕ → ℕ → List ℕ → ℕ → List ℕ
cut_to r from [] end = part r from (end - from)
cut_to r from (p ∷ ps) end = part r from (p - from) ++ cut_to r (p + 68) ps end

-- ---- places that go upward

pub upward_below : (from : ℕ) (ps : List ℕ) (end : ℕ) → Upward from ps end → from ≤ end
upward_below from [] end u = u
upward_below from (p ∷ ps) end u = omega (arith, u.0, upward_below (p + 68) ps end u.1)

pub upward_more : (from : ℕ) (ps : List ℕ) (end more : ℕ) → Upward from ps end → end ≤ more → Upward from ps more
upward_more from [] end more u h = omega (arith, u, h)
upward_more from (p ∷ ps) end more u h = (u.0, upward_more (p + 68) ps end more u.1 h)

pub upward_last : (from : ℕ) (ps : List ℕ) (end : ℕ) → Upward from ps end → Upward from (ps ++ (end ∷ [])) (end + 68)
upward_last from [] end u = (u, omega arith)
upward_last from (p ∷ ps) end u = (u.0, upward_last (p + 68) ps end u.1)

module _ (r : List ℕ) where
  -- a part and the one behind it
  pub part_more : (from end n : ℕ) → from ≤ end → part r from (end + n - from) ≡ part r from (end - from) ++ part r end n
  part_more from end n h =
      let split : end + n - from ≡ (end - from) + n = omega arith in
      let front : from + (end - from) ≡ end = omega arith in
      ap (λ (k : ℕ). part r from k) split
      ∙ take-add (end - from) n (drop from r)
      ∙ ap (λ (l : List ℕ). part r from (end - from) ++ take n l) (drop-drop (end - from) from r ∙ ap (λ (k : ℕ). drop k r) front)

  -- ---- what is cut

  -- n bytes more
  pub cut_more : (from : ℕ) (ps : List ℕ) (end n : ℕ) → Upward from ps end
      → cut_to r from ps (end + n) ≡ cut_to r from ps end ++ part r end n
  cut_more from [] end n u = part_more from end n u
  cut_more from (p ∷ ps) end n u =
      ap (λ (l : List ℕ). part r from (p - from) ++ l) (cut_more (p + 68) ps end n u.1)
      ∙ sym (append_assoc (part r from (p - from)) (cut_to r (p + 68) ps end) (part r end n))

  -- 68 bytes cut out at the end
  pub cut_last : (from : ℕ) (ps : List ℕ) (end : ℕ) → cut_to r from (ps ++ (end ∷ [])) (end + 68) ≡ cut_to r from ps end
  cut_last from [] end =
      let none : end + 68 - (end + 68) ≡ 0 = omega arith in
      ap (λ (k : ℕ). part r from (end - from) ++ part r (end + 68) k) none ∙ append-nil (part r from (end - from))
  cut_last from (p ∷ ps) end = ap (λ (l : List ℕ). part r from (p - from) ++ l) (cut_last (p + 68) ps end)

  -- all of it
  pub cut_all : (from : ℕ) (ps : List ℕ) → Upward from ps (length r) → cut_out r from ps ≡ cut_to r from ps (length r)
  unfolding cut_out
  cut_all from [] u = sym (take_all (length r - from) (drop from r) (simp length-drop (omega arith)))
  cut_all from (p ∷ ps) u = ap (λ (l : List ℕ). part r from (p - from) ++ l) (cut_all (p + 68) ps u.1)

  -- its length: 68 less for each place
  pub cut_length : (from : ℕ) (ps : List ℕ) → Upward from ps (length r) → from + length (cut_out r from ps) + 68 * length ps ≡ length r
  unfolding cut_out
  cut_length from [] u = simp length-drop (omega (arith, u))
  cut_length from (p ∷ ps) u =
      let below = upward_below (p + 68) ps (length r) u.1 in
      omega (
        arith,
        u.0,
        below,
        length-append (part r from (p - from)) (cut_out r (p + 68) ps),
        part_length r from (p - from) (omega (arith, u.0, below)),
        cut_length (p + 68) ps u.1,
      )
