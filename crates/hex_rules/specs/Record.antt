-- A record as a line has it: a colon, and then bytes of two digits each: the count of data bytes, the address in two, the type, the data
-- and the record sum. Document 02, A5.
use Rattle.std.specs.Prelude.{ℕ, ◌+◌, ◌-◌, ◌*◌, ◌%◌, Bool, true, false, not, ◌&&◌, ◌||◌, cond, List, [], ◌∷◌, eqb, leb, ltb, length, get_or, drop}
use Rattle.base.specs.Parts.{part, sum_of}

abbrev pub colon : ℕ
colon = 0x3A

-- low to high, both in it
abbrev pub between : ℕ → ℕ → ℕ → Bool
between low high c = leb low c && leb c high

-- "digits of either case": 0 to 9, A to F, a to f, and what each stands for; 16 for a character that is none
unfoldable pub digit_of : ℕ → ℕ
digit_of c = cond (between 0x30 0x39 c) (c - 0x30) (cond (between 0x41 0x46 c) (c - 0x37) (cond (between 0x61 0x66 c) (c - 0x57) 16))

abbrev pub is_digit : ℕ → Bool
is_digit c = ltb (digit_of c) 16

abbrev pub all_digits : List ℕ → Bool
all_digits [] = true
all_digits (c ∷ cs) = is_digit c && all_digits cs

-- two digits a byte, the high one first
abbrev pub pairs_of : List ℕ → List ℕ
pairs_of [] = []
pairs_of (c ∷ []) = []
pairs_of (c ∷ d ∷ cs) = (16 * digit_of c + digit_of d) ∷ pairs_of cs

-- the bytes behind the colon
abbrev pub record_of : List ℕ → List ℕ
record_of line = pairs_of (drop 1 line)

-- a record's parts
abbrev pub count_of : List ℕ → ℕ
count_of r = get_or r 0 0

abbrev pub address_of : List ℕ → ℕ
address_of r = 256 * get_or r 1 0 + get_or r 2 0

abbrev pub type_of : List ℕ → ℕ
type_of r = get_or r 3 0

abbrev pub data_of : List ℕ → List ℕ
data_of r = part r 4 (count_of r)

-- what the two data bytes of a type 04 say
abbrev pub upper_of : List ℕ → ℕ
upper_of r = 256 * get_or r 4 0 + get_or r 5 0

-- "bad digit": a character behind the first that is no digit
unfoldable pub bad_digit : List ℕ → Bool
bad_digit line = not (all_digits (drop 1 line))

-- "a type 01 with data or a type 04 without exactly two bytes is a bad length"
abbrev pub bad_count : List ℕ → Bool
bad_count r = cond (eqb (type_of r) 0x01) (not (eqb (count_of r) 0)) (cond (eqb (type_of r) 0x04) (not (eqb (count_of r) 2)) false)

-- "bad .. length": "No colon, an empty line" are among it. Count, address, type and sum are five bytes beside the data.
unfoldable pub bad_length : List ℕ → Bool
bad_length line =
    not (eqb (get_or line 0 0) colon)
    || not (eqb (length line) (1 + 2 * (5 + count_of (record_of line))))
    || bad_count (record_of line)

-- "bad record sum": all bytes of a record, its last one too, add up to a multiple of 256
unfoldable pub bad_sum : List ℕ → Bool
bad_sum r = not (eqb (sum_of r % 256) 0)

-- "other type" than "types 00, 01 and 04"
abbrev pub other_type : List ℕ → Bool
other_type r = not (eqb (type_of r) 0x00 || eqb (type_of r) 0x01 || eqb (type_of r) 0x04)
