-- A record printed as a line is read back as itself: each byte as two digits is that byte again, so that the line has no bad digit and no
-- bad length, its sum is right by what was added to it, and count, address, type and data are those printed. And it has no LF and no CR,
-- being a colon and digits.
-- Assumes nothing.
use mathlib.Core.Path.{◌≡◌, refl}
use mathlib.Core.Bool.{true, false}
use mathlib.Core.List.{List, [], ◌∷◌, ◌++◌}
use Prim.Native.Nat.{ℕ, ◌+◌, ◌-◌, ◌*◌, ◌/◌, ◌%◌, ◌≤◌, ◌<◌}
use native.Mathlib.Omega.{arith}
use lib.Dec.{ltb}
use lib.ListN.{length, get_or, length-append}
use lib.Seq.{take-append_seam}
use borrow.Author.Tests.{lt-ltb, le-leb, lt-leb, eq-eqb, ltb-true, ltb-false}
use Rattle.base.specs.Parts.{Bytes, sum_of}
use Rattle.base.proofs.Bytes.{bytes_append}
use Rattle.base.proofs.Choice.{by_cond}
use Rattle.hex_rules.specs.Record.{colon, digit_of, all_digits, pairs_of, record_of, count_of, address_of, data_of}
use Rattle.hex_rules.specs.Record.{bad_digit, bad_count, bad_length, bad_sum}
use Rattle.hex_rules.specs.Printing.{digit, pairs, unsummed, summed, line_of}
use Rattle.hex_rules.proofs.LinesOfText.{Unbroken}

-- a number below 16 is what its digit stands for
digit_back : (d : ℕ) → d < 16 → digit_of (digit d) ≡ d
unfolding digit_of
digit_back d h =
    by_cond (λ (c : ℕ). digit_of c ≡ d) (ltb d 10) (0x30 + d) (0x37 + d)
    (λ t.
    let l = ltb-true d 10 t in
    simp (le-leb 0x30 (0x30 + d) (omega arith), le-leb (0x30 + d) 0x39 (omega arith)) (omega arith))
    (λ f.
    let l = ltb-false d 10 f in
    simp (le-leb 0x30 (0x37 + d) (omega arith), lt-leb (0x37 + d) 0x39 (omega arith))
    (simp (le-leb 0x41 (0x37 + d) (omega arith), le-leb (0x37 + d) 0x46 (omega arith)) (omega arith)))

-- so are the two halves of a byte
halves_back : (b : ℕ) → b < 256 → (digit_of (digit (b / 16)) ≡ b / 16) × (digit_of (digit (b % 16)) ≡ b % 16)
halves_back b h = (digit_back (b / 16) (omega arith), digit_back (b % 16) (omega arith))

-- a digit is no LF and no CR, being 0x30 or above
digit_above : (d : ℕ) → 0x30 ≤ digit d
digit_above d = by_cond (λ (c : ℕ). 0x30 ≤ c) (ltb d 10) (0x30 + d) (0x37 + d) (λ _. omega arith) (λ _. omega arith)

-- two digits a byte
pairs_length : (bs : List ℕ) → length (pairs bs) ≡ 2 * length bs
pairs_length [] = refl
pairs_length (b ∷ bs) = omega (arith, pairs_length bs)

pairs_unbroken : (bs : List ℕ) → Unbroken (pairs bs)
pairs_unbroken [] = tt
pairs_unbroken (b ∷ bs) =
    let x = digit_above (b / 16) in
    let y = digit_above (b % 16) in
    (λ e. omega arith, λ e. omega arith, (λ e. omega arith, λ e. omega arith, pairs_unbroken bs))

-- bytes as digits are digits, and those bytes again
pairs_digits : (bs : List ℕ) → Bytes bs → all_digits (pairs bs) ≡ true
pairs_digits [] h = refl
pairs_digits (b ∷ bs) h =
    let t = halves_back b h.0 in
    rw (t.0, t.1, lt-ltb (b / 16) 16 (omega (arith, h.0)), lt-ltb (b % 16) 16 (omega arith)) (pairs_digits bs h.1)

pairs_back : (bs : List ℕ) → Bytes bs → pairs_of (pairs bs) ≡ bs
pairs_back [] h = refl
pairs_back (b ∷ bs) h =
    let t = halves_back b h.0 in
    let same : 16 * (b / 16) + b % 16 ≡ b = omega arith in
    rw (t.0, t.1, same, pairs_back bs h.1)

-- ---- with the sum: what is missing to a multiple of 256 is one more byte, and makes the sum one

summed_length : (bs : List ℕ) → length (summed bs) ≡ length bs + 1
summed_length bs = length-append bs _

summed_bytes : (bs : List ℕ) → Bytes bs → Bytes (summed bs)
summed_bytes bs h = bytes_append bs _ h (omega arith, tt)

sum_last : (bs : List ℕ) (x : ℕ) → sum_of (bs ++ (x ∷ [])) ≡ sum_of bs + x
sum_last [] x = omega arith
sum_last (b ∷ bs) x = omega (arith, sum_last bs x)

pub sum_right : (bs : List ℕ) → bad_sum (summed bs) ≡ false
unfolding bad_sum
sum_right bs =
    let x = (256 - sum_of bs % 256) % 256 in
    rw (sum_last bs x, eq-eqb ((sum_of bs + x) % 256) 0 (omega arith))

-- ---- the line

-- a printed line has no LF and no CR
pub line_unbroken : (bs : List ℕ) → Unbroken (line_of bs)
line_unbroken bs = (λ e. omega arith, λ e. omega arith, pairs_unbroken (summed bs))

-- its record is the one printed
pub record_back : (bs : List ℕ) → Bytes bs → record_of (line_of bs) ≡ summed bs
record_back bs h = pairs_back (summed bs) (summed_bytes bs h)

-- and it has no bad digit
pub digits_right : (bs : List ℕ) → Bytes bs → bad_digit (line_of bs) ≡ false
unfolding bad_digit
digits_right bs h = rw (pairs_digits (summed bs) (summed_bytes bs h))

-- a colon, and the length that a right count says
right_length : (line r : List ℕ) → record_of line ≡ r → get_or line 0 0 ≡ colon → length line ≡ 1 + 2 * (5 + count_of r)
    → bad_count r ≡ false → bad_length line ≡ false
unfolding bad_length
right_length line r e c n b = rw (e, eq-eqb (get_or line 0 0) colon c, eq-eqb (length line) (1 + 2 * (5 + count_of r)) n, b)

module _ (address type : ℕ) (cells : List ℕ) where
  -- address and data are those printed
  pub address_back : address < 65536 → address_of (summed (unsummed address type cells)) ≡ address
  address_back h = omega arith

  pub data_back : data_of (summed (unsummed address type cells)) ≡ cells
  data_back = take-append_seam cells _

  module _ (few : length cells ≤ 255) (small : type < 256) (bytes : Bytes cells) where
    pub unsummed_bytes : Bytes (unsummed address type cells)
    unsummed_bytes = (omega arith, (omega arith, (omega arith, (small, bytes))))

    -- and the line is as long as its count says
    pub length_right : bad_count (summed (unsummed address type cells)) ≡ false → bad_length (line_of (unsummed address type cells)) ≡ false
    length_right c =
        let bs = unsummed address type cells in
        right_length (line_of bs) (summed bs) (record_back bs unsummed_bytes) refl
        (omega (arith, pairs_length (summed bs), summed_length bs)) c
