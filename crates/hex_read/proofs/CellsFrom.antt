-- A record's cells, place by place: byte j stands at the j-th place from the first on, and no other place is given. Of two lists of cells,
-- the first decides wherever it gives a place. Each by going through the list once.
-- Assumes nothing.
use mathlib.Core.Path.{◌≡◌, refl, ap, ◌∙◌}
use mathlib.Core.Bool.{Bool, true, false, ◌||◌, cond}
use mathlib.Core.List.{List, [], ◌∷◌, ◌++◌}
use Prim.Native.Nat.{ℕ, zero, suc, ◌+◌, ◌<◌}
use native.Mathlib.Omega.{arith}
use lib.Dec.{eqb, lit<}
use lib.ListN.{length, get_or}
use borrow.Author.Tests.{eq-eqb, ne_eqb}
use Rattle.base.specs.Parts.{Bytes}
use Rattle.base.proofs.Choice.{by_cond, cond_false, neither}
use Rattle.hex_rules.specs.Cells.{Cell, cells_from, given_at, some_twice, byte_at}
use Rattle.hex_rules.proofs.GivenCells.{given_append}
use Rattle.hex_read.specs.Internal.Marks.{entry_of}

-- ---- one record's cells

-- byte j stands at the j-th place
pub from_entry : (a : ℕ) (bs : List ℕ) (j p : ℕ) → p ≡ a + j → j < length bs → entry_of (cells_from a bs) p ≡ 256 + get_or bs j 0
from_entry a [] j p e h = absurd (omega arith)
from_entry a (b ∷ bs) zero p e h = rw (eq-eqb a p (omega arith))
from_entry a (b ∷ bs) (suc j) p e h = rw (ne_eqb a p (λ q. omega arith)) (from_entry (suc a) bs j p (omega arith) (omega arith))

-- a place that is none of theirs is not given
pub from_other : (a : ℕ) (bs : List ℕ) (p : ℕ) → ((j : ℕ) → j < length bs → p ≡ a + j → ⊥) → given_at (cells_from a bs) p ≡ false
from_other a [] p other = refl
from_other a (b ∷ bs) p other =
    rw (ne_eqb a p (λ e. other 0 (omega arith) (omega arith)))
    (from_other (suc a) bs p (λ j l e. other (suc j) (omega arith) (omega arith)))

-- of bytes, the byte at a place is a byte
pub from_small : (a : ℕ) (bs : List ℕ) → Bytes bs → (p : ℕ) → byte_at (cells_from a bs) p < 256
from_small a [] h p = lit< tt
from_small a (b ∷ bs) h p = by_cond (λ (v : ℕ). v < 256) (eqb a p) _ _ (λ _. h.0) (λ _. from_small (suc a) bs h.1 p)

-- where none is given twice, none of the places was given before
pub from_new : (before : List Cell) (a : ℕ) (bs : List ℕ) → some_twice before (cells_from a bs) ≡ false → (j p : ℕ) → p ≡ a + j
    → j < length bs → given_at before p ≡ false
from_new before a [] t j p e h = absurd (omega arith)
from_new before a (b ∷ bs) t zero p e h =
    let here : p ≡ a = omega arith in
    rw here (neither (given_at before a) (some_twice before (cells_from (suc a) bs)) t).0
from_new before a (b ∷ bs) t (suc j) p e h =
    from_new before (suc a) bs (neither (given_at before a) (some_twice before (cells_from (suc a) bs)) t).1 j p (omega arith) (omega arith)

-- ---- two lists of cells

-- a choice behind a choice: the first test decides before the second
first_given : (b c : Bool) (x y z : ℕ) → cond b x (cond c y z) ≡ cond (b || c) (cond b x y) z
first_given true c x y z = refl
first_given false c x y z = refl

-- the byte at a place is the first list's, if it gives the place
pub byte_append : (xs ys : List Cell) (p : ℕ) → byte_at (xs ++ ys) p ≡ cond (given_at xs p) (byte_at xs p) (byte_at ys p)
byte_append [] ys p = refl
byte_append (x ∷ xs) ys p =
    rw (byte_append xs ys p) (first_given (eqb x.place p) (given_at xs p) x.byte (byte_at xs p) (byte_at ys p))

-- the same of entries
entry_choice : (b c : Bool) (x y : ℕ) → cond (b || c) (256 + cond b x y) 255 ≡ cond b (256 + x) (cond c (256 + y) 255)
entry_choice true c x y = refl
entry_choice false c x y = refl

-- and so is the entry
entry_append : (xs ys : List Cell) (p : ℕ) → entry_of (xs ++ ys) p ≡ cond (given_at xs p) (256 + byte_at xs p) (entry_of ys p)
entry_append xs ys p =
    rw (given_append xs ys p, byte_append xs ys p) (entry_choice (given_at xs p) (given_at ys p) (byte_at xs p) (byte_at ys p))

-- a place that the first list doesn't give is as in the second
pub entry_second : (xs ys : List Cell) (p : ℕ) → given_at xs p ≡ false → entry_of (xs ++ ys) p ≡ entry_of ys p
entry_second xs ys p f = entry_append xs ys p ∙ cond_false (given_at xs p) _ _ f

-- and one that the second doesn't give is as in the first
pub entry_first : (xs ys : List Cell) (p : ℕ) → given_at ys p ≡ false → entry_of (xs ++ ys) p ≡ entry_of xs p
entry_first xs ys p f =
    entry_append xs ys p ∙ ap (λ (v : ℕ). cond (given_at xs p) (256 + byte_at xs p) v) (cond_false (given_at ys p) (256 + byte_at ys p) 255 f)
