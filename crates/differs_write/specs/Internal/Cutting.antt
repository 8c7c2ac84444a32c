-- A recipe with Blocks cut out, by their places.
use Rattle.std.specs.Prelude.{ℕ, ◌+◌, ◌-◌, ◌≤◌, List, [], ◌∷◌, ◌++◌, drop}
use Rattle.base.specs.Parts.{part}

-- the bytes from `from` on, without the 68 at each of these places
unfoldable pub cut_out : List ℕ → ℕ → List ℕ → List ℕ
cut_out recipe from [] = drop from recipe
cut_out recipe from (p ∷ ps) = part recipe from (p - from) ++ cut_out recipe (p + 68) ps

-- the places go upward from `from` on, each 68 bytes and more behind the one before, and all that is cut lies before `end`
abbrev pub Upward : ℕ → List ℕ → ℕ → Type 0
Upward from [] end = from ≤ end
Upward from (p ∷ ps) end = (from ≤ p) × Upward (p + 68) ps end
