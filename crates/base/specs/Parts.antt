-- Lists of bytes and of cells: a part of one, one with a part replaced, the sum, and three bytes as a number.
use Rattle.std.specs.Prelude.{ℕ, zero, suc, ◌+◌, ◌*◌, ◌<◌, List, [], ◌∷◌, ◌++◌, length, get_or, take, drop}

-- every element is a byte
abbrev pub Bytes : List ℕ → Type 0
Bytes [] = Unit {0}
Bytes (x ∷ xs) = (x < 256) × Bytes xs

-- the k cells from a on
abbrev pub part : List ℕ → ℕ → ℕ → List ℕ
part m a k = take k (drop a m)

-- m with the cells from a on replaced by new
unfoldable pub patch : List ℕ → ℕ → List ℕ → List ℕ
patch m a new = take a m ++ (new ++ drop (a + length new) m)

-- the k elements from i on, written out; 0 behind the end
abbrev pub listed : List ℕ → ℕ → ℕ → List ℕ
listed m i zero = []
listed m i (suc k) = get_or m i 0 ∷ listed m (suc i) k

-- the sum of a list's numbers
abbrev pub sum_of : List ℕ → ℕ
sum_of [] = 0
sum_of (x ∷ xs) = x + sum_of xs

-- three bytes as a number, high byte first
abbrev pub high_first : ℕ → ℕ → ℕ → ℕ
high_first a b c = a * 65536 + b * 256 + c
