-- Whatever a text gives is of the legal areas, bytes, and each cell once. Line by line: two digits make a byte; a record's own places count
-- upward, so that they are all different; and a line without fault gives none outside the legal areas and none that was given before.
-- Assumes nothing.
use mathlib.Core.Path.{◌≡◌, refl, sym, subst, ◌∙◌}
use mathlib.Core.Bool.{true, false, not, ◌&&◌, or-false}
use mathlib.Core.List.{List, [], ◌∷◌, ◌++◌}
use Prim.Native.Nat.{ℕ, zero, suc, ◌+◌, ◌*◌, ◌<◌}
use native.Mathlib.Omega.{arith}
use lib.Dec.{eqb}
use lib.ListN.{drop}
use borrow.Author.Tests.{ltb-true, not-false, ne_eqb}
use Rattle.base.specs.Parts.{Bytes}
use Rattle.base.proofs.Bytes.{bytes_part}
use Rattle.base.proofs.Choice.{by_cond, both_true, neither}
use Rattle.hex_rules.specs.Text.{lines_of}
use Rattle.hex_rules.specs.Record.{digit_of, is_digit, all_digits, pairs_of, record_of, count_of, address_of, type_of, data_of, bad_digit}
use Rattle.hex_rules.specs.Cells.{Cell, cells_from, legal_cell, given_at, some_outside, some_twice}
use Rattle.hex_rules.specs.Checks.{Given, Read, gives, refused, nothing, cells_of, fault_at, with_record, lines_read}
use Rattle.hex_rules.specs.Converting.{text_read}
use Rattle.hex_rules.specs.Printing.{EachOnce}
use Rattle.hex_rules.proofs.Reading.{Faultless, faultless, read_on, read_fault, read_end}
use Rattle.hex_rules.proofs.GivenCells.{given_append, once_append}

-- two digits make a byte
pub pairs_bytes : (cs : List ℕ) → all_digits cs ≡ true → Bytes (pairs_of cs)
pairs_bytes [] h = tt
pairs_bytes (c ∷ []) h = tt
pairs_bytes (c ∷ d ∷ cs) h =
    let p = both_true (is_digit c) (is_digit d && all_digits cs) h in
    let q = both_true (is_digit d) (all_digits cs) p.1 in
    let high = ltb-true (digit_of c) 16 p.0 in
    let low = ltb-true (digit_of d) 16 q.0 in
    (omega arith, pairs_bytes cs q.1)

-- so a record of digits is one of bytes
pub record_bytes : (line : List ℕ) → bad_digit line ≡ false → Bytes (record_of line)
unfolding bad_digit
record_bytes line h = pairs_bytes (drop 1 line) (not-false (all_digits (drop 1 line)) h)

-- a cell in front of a record's places is none of them
below : (before : List Cell) (c : Cell) (a : ℕ) (bs : List ℕ) → c.place < a
    → some_twice (before ++ (c ∷ [])) (cells_from a bs) ≡ some_twice before (cells_from a bs)
below before c a [] l = refl
below before c a (b ∷ bs) l =
    rw (given_append before (c ∷ []) a, ne_eqb c.place a (λ e. omega arith), or-false, below before c (suc a) bs (omega arith))

-- bytes from a place on, none of them outside the legal areas or given before
from_once : (before : List Cell) (a : ℕ) (bs : List ℕ) → Bytes bs → some_outside (cells_from a bs) ≡ false
    → some_twice before (cells_from a bs) ≡ false → EachOnce before (cells_from a bs)
from_once before a [] h o t = tt
from_once before a (b ∷ bs) h o t =
    let p = neither (not (legal_cell a)) (some_outside (cells_from (suc a) bs)) o in
    let q = neither (given_at before a) (some_twice before (cells_from (suc a) bs)) t in
    let c : Cell = record { place = a; byte = b } in (
      not-false (legal_cell a) p.0,
      h.0,
      q.0,
      from_once (before ++ (c ∷ [])) (suc a) bs h.1 p.1 (below before c (suc a) bs (omega arith) ∙ q.1),
    )

-- a line without fault gives its cells once, behind those that were given
pub line_once : (g : Given) (line : List ℕ) → Faultless g line → EachOnce g.cells (cells_of g (record_of line))
line_once g line f =
    let r = record_of line in
    by_cond (λ (x : List Cell). some_outside x ≡ false → some_twice g.cells x ≡ false → EachOnce g.cells x) (eqb (type_of r) 0x00)
    (cells_from (65536 * g.upper + address_of r) (data_of r)) []
    (λ _. from_once g.cells (65536 * g.upper + address_of r) (data_of r) (bytes_part r 4 (count_of r) (record_bytes line f.digits)))
    (λ _ _ _. tt) f.area f.once

-- lines that give cells: the first has no fault
pub first_faultless : (g : Given) (line : List ℕ) (lines : List (List ℕ)) (number : ℕ) (cells : List Cell)
    → lines_read (line ∷ lines) number g ≡ gives cells → fault_at g line ≡ 0
first_faultless g line lines number cells e = go (fault_at g line) refl
  where
    go : (n : ℕ) → fault_at g line ≡ n → n ≡ 0
    go zero q = refl
    go (suc n) q =
        let r = read_fault g line lines number (λ z. omega arith) in
        let z : ◌≡◌ {A = ℕ} 0 1 = cc in absurd (omega arith)

-- lines behind cells given once give cells once
pub lines_once : (lines : List (List ℕ)) (number : ℕ) (g : Given) (cells : List Cell) → EachOnce [] g.cells
    → lines_read lines number g ≡ gives cells → EachOnce [] cells
unfolding with_record
lines_once [] number g cells o e =
    by_cond (λ (r : Read). r ≡ gives cells → EachOnce [] cells) g.ended (gives g.cells) (refused 35 number)
    (λ _ s. let same : g.cells ≡ cells = cc in subst (EachOnce []) same o)
    (λ _ s. let z : ◌≡◌ {A = ℕ} 0 1 = cc in absurd (omega arith))
    (sym (read_end number g) ∙ e)
lines_once (line ∷ lines) number g cells o e =
    let none = first_faultless g line lines number cells e in
    lines_once lines (suc number) (with_record g (record_of line)) cells
    (once_append [] g.cells (cells_of g (record_of line)) o (line_once g line (faultless g line none)))
    (sym (read_on g line lines number none) ∙ e)

-- whatever a text gives is of the legal areas, bytes, each cell once
pub read_once : (text : List ℕ) (cells : List Cell) → text_read text ≡ gives cells → EachOnce [] cells
unfolding text_read
read_once text cells e = lines_once (lines_of text) 1 nothing cells tt e
