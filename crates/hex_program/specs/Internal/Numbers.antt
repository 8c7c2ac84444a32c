-- A number as an argument writes it: decimal, or hexadecimal behind `0x`.
use Rattle.std.specs.Prelude.{ℕ, ◌+◌, ◌*◌, ◌&&◌, ◌||◌, cond, List, [], ◌∷◌, eqb, ltb, length, get_or, drop, Option, Some, None}
use Rattle.hex_rules.specs.Record.{digit_of}

-- the digits of a base behind a value; 256, which is no byte, where one is none of that base
unfoldable pub digits_read : ℕ → ℕ → List ℕ → ℕ
digits_read base value [] = value
digits_read base value (c ∷ cs) = cond (ltb (digit_of c) base) (digits_read base (base * value + digit_of c) cs) 256

-- the number that digits of a base write: one at least, and no more than 255
unfoldable pub value_of : ℕ → List ℕ → Option ℕ
value_of base word =
    cond (eqb (length word) 0 || ltb 255 (digits_read base 0 word)) None (Some (digits_read base 0 word))

-- hexadecimal behind `0x`, else decimal
unfoldable pub number_of : List ℕ → Option ℕ
number_of word = cond (eqb (get_or word 0 0) 0x30 && eqb (get_or word 1 0) 0x78) (value_of 16 (drop 2 word)) (value_of 10 word)
