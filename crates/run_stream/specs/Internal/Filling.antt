-- How cells are filled: second/PROTOCOL.md, "Cells are filled so".
use Rattle.std.specs.Prelude.{ℕ, zero, suc, ◌+◌, ◌%◌, cond, List, [], ◌∷◌, eqb}

-- "each other one the cell before it plus `step`, plus `more` too where its place is a multiple of 256, modulo 256"
abbrev pub next_cell : ℕ → ℕ → ℕ → ℕ → ℕ
next_cell value i step more = cond (eqb (i % 256) 0) (((value + step) % 256 + more) % 256) ((value + step) % 256)

-- so many cells from a place on, of which the first becomes a value
abbrev pub filled : ℕ → ℕ → ℕ → ℕ → ℕ → List ℕ
filled zero i value step more = []
filled (suc n) i value step more = value ∷ filled n (i + 1) (next_cell value (i + 1) step more) step more
