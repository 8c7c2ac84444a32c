-- What `put` leaves in an output.
use Rattle.std.specs.Prelude.{ℕ, ◌+◌, cond, List, leb, length}
use Rattle.base.specs.Parts.{patch}

-- m with the cells from a on replaced by new, where new fits; else m as it is
unfoldable pub put_at : List ℕ → ℕ → List ℕ → List ℕ
put_at m a new = cond (leb (a + length new) (length m)) (patch m a new) m
