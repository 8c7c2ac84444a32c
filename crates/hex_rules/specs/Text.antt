-- A text's lines. Document 02, A5: "text lines ending in LF or CR LF (the last may lack it)".
use Rattle.std.specs.Prelude.{ℕ, Bool, ◌&&◌, cond, List, [], ◌∷◌, eqb, get_or}

abbrev pub lf : ℕ
lf = 0x0A

abbrev pub cr : ℕ
cr = 0x0D

-- a CR directly in front of an LF belongs to the ending; any other is a character of its line
abbrev pub in_ending : ℕ → List ℕ → Bool
in_ending b behind = eqb b cr && eqb (get_or behind 0 0) lf

-- a character in front of the first line, or a line of its own where none is behind it: "the last may lack it"
abbrev pub in_first : ℕ → List (List ℕ) → List (List ℕ)
in_first b [] = (b ∷ []) ∷ []
in_first b (l ∷ ls) = (b ∷ l) ∷ ls

-- the lines without their endings. Behind the last ending there is no further line, and an empty text has none.
unfoldable pub lines_of : List ℕ → List (List ℕ)
lines_of [] = []
lines_of (b ∷ bs) = cond (eqb b lf) ([] ∷ lines_of bs) (cond (in_ending b bs) (lines_of bs) (in_first b (lines_of bs)))
