-- An entry of the table of samples: its name in document 01, what the definitions give, and what document 01 says.
use Rattle.std.specs.Prelude.{ℕ, Bool, true, false, ◌&&◌, not, cond, List, [], ◌∷◌, eqb}

-- "Marked S", and the last of document 01's list, which is not
pub data Name : Type 0 where
  S1 S2 S3 S4 S5 S6 S7 S8 S9 S10 S11 Blank : Name

-- an entry is of bytes, of a number or of a yes or no: its name, what is given, what is said
pub data Sample : Type 0 where
  bytes : Name → List ℕ → List ℕ → Sample
  number : Name → ℕ → ℕ → Sample
  verdict : Name → Bool → Bool → Sample

-- the same bytes, and as many
abbrev pub same_bytes : List ℕ → List ℕ → Bool
same_bytes [] [] = true
same_bytes [] (y ∷ ys) = false
same_bytes (x ∷ xs) [] = false
same_bytes (x ∷ xs) (y ∷ ys) = eqb x y && same_bytes xs ys

-- what the definitions give is what document 01 says
abbrev pub is_right : Sample → Bool
is_right (bytes s given said) = same_bytes given said
is_right (number s given said) = eqb given said
is_right (verdict s given said) = cond said given (not given)

abbrev pub all_right : List Sample → Bool
all_right [] = true
all_right (s ∷ ss) = is_right s && all_right ss
