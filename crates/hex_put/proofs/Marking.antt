-- Marks and bytes of places, one by one and as parts.
-- Assumes nothing.
use mathlib.Core.Path.{◌≡◌, ◌∙◌, refl, sym, ap}
use mathlib.Core.Bool.{Bool, true, false, ◌||◌, or_assoc, or-false}
use mathlib.Core.List.{List, [], ◌∷◌}
use Prim.Native.Nat.{ℕ, zero, suc, ◌%◌, ◌≤◌, ◌<◌}
use native.Mathlib.Nat.{le_of_suc-le-suc, not-suc-le-zero}
use lib.Dec.{ltb}
use lib.ListN.{length, get_or, drop, drop_of_length-le}
use lib.Seq.{drop-cons}
use borrow.Author.Tests.{lt-ltb, le-ltb}
use Rattle.hex_put.specs.Internal.Table.{some_marked, low_bytes}

-- what is known of the places before i, and of those from there on: one place more
pub one_more_lem : (places : List ℕ) (i : ℕ) (before more : Bool) → i < length places → more ≡ (before || ltb 255 (get_or places i 0))
    → some_marked places ≡ (before || some_marked (drop i places)) → some_marked places ≡ (more || some_marked (drop (suc i) places))
one_more_lem places i before more h m e =
    e
    ∙ ap (λ (l : List ℕ). before || some_marked l) (drop-cons places i 0 h)
    ∙ sym (or_assoc before (ltb 255 (get_or places i 0)) (some_marked (drop (suc i) places)))
    ∙ ap (λ (b : Bool). b || some_marked (drop (suc i) places)) (sym m)

-- and behind the last
pub all_looked_at : (places : List ℕ) (i : ℕ) (marked : Bool) → length places ≤ i
    → some_marked places ≡ (marked || some_marked (drop i places)) → marked ≡ some_marked places
all_looked_at places i marked h e =
    sym (e ∙ ap (λ (l : List ℕ). marked || some_marked l) (drop_of_length-le places {i = i} h) ∙ or-false marked)

-- a marked place among those from i on
pub marked_here : (places : List ℕ) (i : ℕ) → i < length places → 255 < get_or places i 0 → some_marked places ≡ some_marked (drop i places)
    → true ≡ some_marked places
marked_here places i h l e =
    sym (e ∙ ap some_marked (drop-cons places i 0 h) ∙ ap (λ (b : Bool). b || some_marked (drop (suc i) places)) (lt-ltb 255 (get_or places i 0) l))

-- one that is not marked is passed
pub unmarked_here : (places : List ℕ) (i : ℕ) → i < length places → get_or places i 0 ≤ 255 → some_marked places ≡ some_marked (drop i places)
    → some_marked places ≡ some_marked (drop (suc i) places)
unmarked_here places i h l e =
    e ∙ ap some_marked (drop-cons places i 0 h) ∙ ap (λ (b : Bool). b || some_marked (drop (suc i) places)) (le-ltb 255 (get_or places i 0) l)

-- behind the last there is none
pub none_marked : (places : List ℕ) (i : ℕ) → length places ≤ i → some_marked places ≡ some_marked (drop i places) → false ≡ some_marked places
none_marked places i h e = sym (e ∙ ap some_marked (drop_of_length-le places {i = i} h))

pub low_length : (places : List ℕ) → length (low_bytes places) ≡ length places
low_length [] = refl
low_length (x ∷ xs) = ap suc (low_length xs)

pub low_byte : (places : List ℕ) (i : ℕ) → i < length places → get_or (low_bytes places) i 0 ≡ get_or places i 0 % 256
low_byte [] i h = absurd (not-suc-le-zero h)
low_byte (x ∷ xs) zero h = refl
low_byte (x ∷ xs) (suc i) h = low_byte xs i (le_of_suc-le-suc h)
