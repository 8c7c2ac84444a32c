-- A frame on UART (document 01, "Frames"; 001, under table 1).
use Rattle.std.specs.Prelude.{ℕ, ◌%◌, Bool, ◌&&◌, List, [], ◌∷◌, ◌++◌, eqb, length, get_or}
use Rattle.base.specs.Parts.{part, sum_of}

-- "On UART a frame is 0xAA, the 12 bytes, the sum of the 12 modulo 256, 0xA5."
unfoldable pub wrapped_of : List ℕ → List ℕ
wrapped_of f = 0xAA ∷ f ++ (sum_of f % 256 ∷ 0xA5 ∷ [])

-- the 12 bytes of a wrapped frame
abbrev pub inner_of : List ℕ → List ℕ
inner_of w = part w 1 12

-- fifteen bytes whose start, sum and stop are right
unfoldable pub rightly_wrapped : List ℕ → Bool
rightly_wrapped w =
    eqb (length w) 15 && (eqb (get_or w 0 0) 0xAA && (eqb (get_or w 13 0) (sum_of (inner_of w) % 256) && eqb (get_or w 14 0) 0xA5))
