-- Fields, flags and wrapping in document 01's plain numbers: what the laws say that hold the definitions to them.
use Rattle.std.specs.Prelude.{ℕ, ◌+◌, ◌*◌, ◌/◌, ◌%◌, ◌≡◌, List, ◌∷◌, get_or, take, drop}
use Rattle.base.specs.Parts.{sum_of}

-- these fields as an identifier, and as a frame's first four bytes with the data behind them
abbrev pub identifier_with : ℕ → ℕ → ℕ → ℕ → ℕ
identifier_with t flag m g = t * 131072 + flag * 65536 + m * 256 + g

abbrev pub frame_with : ℕ → ℕ → ℕ → ℕ → List ℕ → List ℕ
frame_with t flag m g d = t / 16 ∷ (t % 16 * 16 + flag) ∷ m ∷ g ∷ d

-- the three upper flags of a frame, "three zeros, then the response flag"
abbrev pub upper_three : List ℕ → ℕ
upper_three f = get_or f 1 0 / 2 % 8

-- a right start, sum and stop
abbrev pub Framed : List ℕ → Type 0
Framed w = (get_or w 0 0 ≡ 0xAA) × (get_or w 13 0 ≡ sum_of (take 12 (drop 1 w)) % 256) × (get_or w 14 0 ≡ 0xA5)
