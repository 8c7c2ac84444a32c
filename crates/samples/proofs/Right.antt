-- What `samples_hold` says as equations: an entry that is right has equal columns. By cases on the entry, and along the bytes.
-- Assumes nothing.
use Prim.Native.Nat.{ℕ}
use mathlib.Core.Path.{◌≡◌, refl, ap, ◌∙◌}
use mathlib.Core.Bool.{true, false}
use mathlib.Core.List.{List, [], ◌∷◌}
use lib.Dec.{eqb}
use Rattle.base.proofs.Choice.{both_true}
use borrow.Author.Tests.{eqb-true}
use Rattle.samples.specs.Entries.{Sample, bytes, number, verdict, same_bytes, is_right, all_right}
use Rattle.samples.specs.Samples.{samples}
use Rattle.samples.proofs.Table.{samples_hold}

same_bytes_lem : (xs ys : List ℕ) → same_bytes xs ys ≡ true → xs ≡ ys
same_bytes_lem [] [] h = refl
same_bytes_lem [] (y ∷ ys) h = cc
same_bytes_lem (x ∷ xs) [] h = cc
same_bytes_lem (x ∷ xs) (y ∷ ys) h =
    let t = both_true (eqb x y) (same_bytes xs ys) h in
    ap (λ z. z ∷ xs) (eqb-true x y t.0) ∙ ap (λ zs. y ∷ zs) (same_bytes_lem xs ys t.1)

-- an entry's columns are equal
abbrev pub Equal : Sample → Type 0
Equal (bytes s given said) = given ≡ said
Equal (number s given said) = given ≡ said
Equal (verdict s given said) = given ≡ said

abbrev pub AllEqual : List Sample → Type 0
AllEqual [] = Unit {0}
AllEqual (s ∷ ss) = Equal s × AllEqual ss

right_equal : (s : Sample) → is_right s ≡ true → Equal s
right_equal (bytes s given said) h = same_bytes_lem given said h
right_equal (number s given said) h = eqb-true given said h
right_equal (verdict s true true) h = refl
right_equal (verdict s false true) h = cc
right_equal (verdict s true false) h = cc
right_equal (verdict s false false) h = refl

all_equal : (ss : List Sample) → all_right ss ≡ true → AllEqual ss
all_equal [] h = tt
all_equal (s ∷ ss) h = let t = both_true (is_right s) (all_right ss) h in (right_equal s t.0, all_equal ss t.1)

pub samples_equal : AllEqual samples
samples_equal = all_equal samples samples_hold
