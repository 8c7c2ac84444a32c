-- Where parts of lent bytes lie.
use Rattle.std.specs.Prelude.{ℕ, ◌+◌, min, List, length}
use Rattle.std.specs.Borrow.{Bor}

-- a place in lent bytes: the block of memory they lie in, and how far on; behind the end it is the end
abbrev pub place_in : Bor (List ℕ) → ℕ → ℕ × ℕ
place_in bytes from = (bytes.ref_ptr.0, min from (length bytes.now) + bytes.ref_ptr.1)
