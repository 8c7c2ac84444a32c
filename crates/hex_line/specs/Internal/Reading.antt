-- What each step of the reading finds. (For the private functions' contracts.)
use Rattle.std.specs.Prelude.{ℕ, ◌+◌, ◌*◌, ◌&&◌, cond, List, eqb, ltb, length, get_or, drop, Option, Some, None}
use Rattle.hex_rules.specs.Text.{lf, in_ending}
use Rattle.hex_rules.specs.Record.{colon, digit_of, is_digit, all_digits, pairs_of}
use Rattle.hex_line.specs.Internal.Lines.{filled}

-- what a character stands for as a digit
unfoldable pub digit : ℕ → Option ℕ
digit c = cond (is_digit c) (Some (digit_of c)) None

-- the bytes of digits; none where one of them is no digit
unfoldable pub pairs_read : List ℕ → Option (List ℕ)
pairs_read digits = cond (all_digits digits) (Some (filled (pairs_of digits))) None

-- the byte of two characters; none where one of them is no digit
unfoldable pub byte_of : ℕ → ℕ → Option ℕ
byte_of high low = cond (is_digit high && is_digit low) (Some (16 * digit_of high + digit_of low)) None

-- the count that a line says: none where eleven characters are not left, or there is no colon, or one of the two behind it is no digit
unfoldable pub count_at : List ℕ → Option ℕ
count_at t = cond (ltb (length t) 11) None (cond (eqb (get_or t 0 0) colon) (byte_of (get_or t 1 0) (get_or t 2 0)) None)

-- how many characters end a line here: none at the end of the text, one for LF, two for CR LF; else the line does not end
unfoldable pub ending_at : List ℕ → Option ℕ
ending_at behind =
    cond (eqb (length behind) 0) (Some 0)
    (cond (eqb (get_or behind 0 0) lf) (Some 1) (cond (in_ending (get_or behind 0 0) (drop 1 behind)) (Some 2) None))
