-- Laws by which lists of bytes are put together.
-- Assumes nothing.
use mathlib.Core.List.{List, [], ◌∷◌, ◌++◌}
use Prim.Native.Nat.{ℕ, zero, suc, suc-le-suc, zero-le, ◌+◌, ◌<◌}
use lib.Dec.{lit<}
use lib.ListN.{length, get_or, take, drop, replicate}
use Rattle.base.specs.Parts.{Bytes, part, patch}

pub bytes_append : (xs ys : List ℕ) → Bytes xs → Bytes ys → Bytes (xs ++ ys)
bytes_append [] ys h k = k
bytes_append (x ∷ xs) ys h k = (h.0, bytes_append xs ys h.1 k)

pub bytes_take : (n : ℕ) (xs : List ℕ) → Bytes xs → Bytes (take n xs)
bytes_take zero xs h = tt
bytes_take (suc n) [] h = tt
bytes_take (suc n) (x ∷ xs) h = (h.0, bytes_take n xs h.1)

pub bytes_drop : (n : ℕ) (xs : List ℕ) → Bytes xs → Bytes (drop n xs)
bytes_drop zero xs h = h
bytes_drop (suc n) [] h = tt
bytes_drop (suc n) (x ∷ xs) h = bytes_drop n xs h.1

pub bytes_part : (m : List ℕ) (a k : ℕ) → Bytes m → Bytes (part m a k)
bytes_part m a k h = bytes_take k (drop a m) (bytes_drop a m h)

pub bytes_replicate : (n x : ℕ) → x < 256 → Bytes (replicate n x)
bytes_replicate zero x h = tt
bytes_replicate (suc n) x h = (h, bytes_replicate n x h)

pub bytes_patch : (m : List ℕ) (a : ℕ) (new : List ℕ) → Bytes m → Bytes new → Bytes (patch m a new)
unfolding patch
bytes_patch m a new h k = bytes_append (take a m) _ (bytes_take a m h) (bytes_append new _ k (bytes_drop (a + length new) m h))

-- element i of a list of bytes, 0 behind its end
pub byte_of : (xs : List ℕ) (i : ℕ) → Bytes xs → get_or xs i 0 < 256
byte_of [] i h = lit< tt
byte_of (x ∷ xs) zero h = h.0
byte_of (x ∷ xs) (suc i) h = byte_of xs i h.1

-- a list each of whose elements is a byte
pub bytes_by : (xs : List ℕ) → ((i : ℕ) → i < length xs → get_or xs i 0 < 256) → Bytes xs
bytes_by [] h = tt
bytes_by (x ∷ xs) h = (h zero (suc-le-suc zero-le), bytes_by xs (λ i l. h (suc i) (suc-le-suc l)))
