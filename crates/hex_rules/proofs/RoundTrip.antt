-- Cells printed as records are read back as they are. By induction over the runs, behind whatever cells came before: the first line of a
-- run gives its upper half, the second its cells, and the end record is last. A run with data starts below 0x1000000, its first cell
-- being legal, so that two bytes of upper half and two of address are its start; one without data has no cells wherever it starts.
-- Assumes nothing.
use mathlib.Core.Path.{◌≡◌, refl, ap, sym, ◌∙◌}
use mathlib.Core.Bool.{true, false, not}
use mathlib.Core.List.{List, [], ◌∷◌, ◌++◌, append-nil, append_assoc}
use mathlib.Core.Logic.{⊎_elim}
use Prim.Native.Nat.{ℕ, suc, ◌+◌, ◌-◌, ◌*◌, ◌/◌, ◌%◌, ◌≤◌, ◌<◌}
use native.Mathlib.Omega.{arith}
use lib.ListN.{length}
use borrow.Author.Tests.{not-false}
use Rattle.base.proofs.Choice.{either_true, neither}
use Rattle.base.specs.Parts.{Bytes}
use Rattle.memory_address.specs.Rule.{legal_flash, legal_eeprom}
use Rattle.memory_address.proofs.Laws.{flash_within, eeprom_within}
use Rattle.hex_rules.specs.Record.{bad_count, bad_sum, other_type}
use Rattle.hex_rules.specs.Cells.{Cell, cells_from, legal_cell, some_outside, some_twice}
use Rattle.hex_rules.specs.Checks.{Given, nothing, cells_of, with_record, gives, lines_read}
use Rattle.hex_rules.specs.Converting.{text_read}
use Rattle.hex_rules.specs.Printing.{Run, unsummed, summed, line_of, runs_lines, printed_runs}
use Rattle.hex_rules.specs.Printing.{run_cells, Printable, singly, EachOnce}
use Rattle.hex_rules.proofs.Reading.{no_fault, read_on, read_end}
use Rattle.hex_rules.proofs.LinesOfText.{AllUnbroken, lines_of_text}
use Rattle.hex_rules.proofs.PrintedLine.{line_unbroken, record_back, address_back, data_back, unsummed_bytes}
use Rattle.hex_rules.proofs.PrintedLine.{sum_right, digits_right, length_right}

-- a printed line whose count, type and cells are right is read, and gives what its record does
module _ (g : Given) (address type : ℕ) (ds : List ℕ) (few : length ds ≤ 255) (small : type < 256) (bytes : Bytes ds) where
  read_printed : bad_count (summed (unsummed address type ds)) ≡ false → other_type (summed (unsummed address type ds)) ≡ false
      → some_outside (cells_of g (summed (unsummed address type ds))) ≡ false
      → some_twice g.cells (cells_of g (summed (unsummed address type ds))) ≡ false → g.ended ≡ false
      → (lines : List (List ℕ)) (number : ℕ)
      → lines_read (line_of (unsummed address type ds) ∷ lines) number g
      ≡ lines_read lines (suc number) (with_record g (summed (unsummed address type ds)))
  read_printed count known inside once unended lines number =
      let bs = unsummed address type ds in
      let all = unsummed_bytes address type ds few small bytes in
      let back = record_back bs all in
      read_on g (line_of bs) lines number
      (no_fault g (line_of bs)
      (record {
        digits = digits_right bs all;
        size = length_right address type ds few small bytes count;
        sum = ap bad_sum back ∙ sum_right bs;
        type = ap other_type back ∙ known;
        area = ap (λ (r : List ℕ). some_outside (cells_of g r)) back ∙ inside;
        once = ap (λ (r : List ℕ). some_twice g.cells (cells_of g r)) back ∙ once;
        unended = unended;
      }))
      ∙ ap (λ (r : List ℕ). lines_read lines (suc number) (with_record g r)) back

-- ---- the three kinds of lines, behind an upper half and cells and no end

abbrev given : ℕ → List Cell → Given
given upper before = record { upper = upper; cells = before; ended = false }

-- the upper half of a start, as its type 04 has it, and that record
abbrev upper_half : ℕ → ℕ
upper_half start = 256 * (start / 16777216 % 256) + start / 65536 % 256

abbrev upper_bytes : ℕ → List ℕ
upper_bytes start = unsummed 0 0x04 (start / 16777216 % 256 ∷ start / 65536 % 256 ∷ [])

-- a legal cell lies below 0x1000000
legal_below : (a : ℕ) → legal_cell a ≡ true → a < 0x1000000
unfolding legal_cell
legal_below a h =
    ⊎_elim
    (λ f. omega (arith, flash_within (a - a % 64) 0x03 f))
    (λ e. omega (arith, eeprom_within (a - a % 8) 0x02 e))
    (either_true (legal_flash (a - a % 64) 0x03) (legal_eeprom (a - a % 8) 0x02) h)

-- where the upper half and the lower are the place; and where there is no cell it doesn't matter
cells_placed : (start : ℕ) (ds : List ℕ) → some_outside (cells_from start ds) ≡ false
    → cells_from (65536 * upper_half start + start % 65536) ds ≡ cells_from start ds
cells_placed start [] h = refl
cells_placed start (b ∷ bs) h =
    let low = legal_below start (not-false (legal_cell start) (neither (not (legal_cell start)) _ h).0) in
    let same : 65536 * upper_half start + start % 65536 ≡ start = omega arith in
    ap (λ (a : ℕ). cells_from a (b ∷ bs)) same

module _ (before : List Cell) (lines : List (List ℕ)) (number : ℕ) where
  -- a type 04 gives the upper half and no cell
  read_upper : (start upper : ℕ)
      → lines_read (line_of (upper_bytes start) ∷ lines) number (given upper before)
      ≡ lines_read lines (suc number) (given (upper_half start) before)
  unfolding with_record
  read_upper start upper =
      read_printed (given upper before) 0 0x04 (start / 16777216 % 256 ∷ start / 65536 % 256 ∷ []) (omega arith) (omega arith)
      (omega arith, (omega arith, tt)) refl refl refl refl refl lines number
      ∙ ap (λ (cs : List Cell). lines_read lines (suc number) (given (upper_half start) cs)) (append-nil before)

  -- a type 00 behind it gives the cells of the run
  read_data : (start : ℕ) (ds : List ℕ) → length ds ≤ 255 → Bytes ds → some_outside (cells_from start ds) ≡ false
      → some_twice before (cells_from start ds) ≡ false
      → lines_read (line_of (unsummed (start % 65536) 0x00 ds) ∷ lines) number (given (upper_half start) before)
      ≡ lines_read lines (suc number) (given (upper_half start) (before ++ cells_from start ds))
  unfolding with_record
  read_data start ds few bytes inside once =
      let g = given (upper_half start) before in
      let same : cells_of g (summed (unsummed (start % 65536) 0x00 ds)) ≡ cells_from start ds =
      rw (address_back (start % 65536) 0x00 ds (omega arith), data_back (start % 65536) 0x00 ds)
      (cells_placed start ds inside) in
      read_printed g (start % 65536) 0x00 ds few (omega arith) bytes refl refl
      (ap some_outside same ∙ inside) (ap (some_twice before) same ∙ once) refl lines number
      ∙ ap (λ (cs : List Cell). lines_read lines (suc number) (given (upper_half start) (before ++ cs))) same

-- the end record gives no cell, and the reading is done
read_last : (before : List Cell) (number upper : ℕ)
    → lines_read (line_of (unsummed 0 0x01 []) ∷ []) number (given upper before) ≡ gives before
unfolding with_record
read_last before number upper =
    read_printed (given upper before) 0 0x01 [] (omega arith) (omega arith) tt refl refl refl refl refl [] number
    ∙ read_end (suc number) (record { upper = upper; cells = before ++ []; ended = true })
    ∙ ap gives (append-nil before)

-- ---- runs

-- the lines of runs, behind whatever came before, give what came before and the cells of the runs
runs_read : (rs : List Run) (before : List Cell) (number upper : ℕ) → Printable before rs
    → lines_read (runs_lines rs) number (given upper before) ≡ gives (before ++ run_cells rs)
runs_read [] before number upper h = read_last before number upper ∙ ap gives (sym (append-nil before))
runs_read (r ∷ rs) before number upper h =
    let cs = cells_from r.start r.bytes in
    read_upper before _ number r.start upper
    ∙ read_data before (runs_lines rs) (suc number) r.start r.bytes h.0 h.1 h.2 h.3
    ∙ runs_read rs (before ++ cs) (suc (suc number)) (upper_half r.start) h.4
    ∙ ap gives (append_assoc before cs (run_cells rs))

-- no printed line has an LF or a CR
runs_unbroken : (rs : List Run) → AllUnbroken (runs_lines rs)
runs_unbroken [] = (line_unbroken (unsummed 0 0x01 []), tt)
runs_unbroken (r ∷ rs) =
    (line_unbroken (upper_bytes r.start), (line_unbroken (unsummed (r.start % 65536) 0x00 r.bytes), runs_unbroken rs))

-- what is printed of runs is read back as their cells
pub runs_read_back : (rs : List Run) → Printable [] rs → text_read (printed_runs rs) ≡ gives (run_cells rs)
unfolding text_read printed_runs
runs_read_back rs h =
    ap (λ (ls : List (List ℕ)). lines_read ls 1 nothing) (lines_of_text (runs_lines rs) (runs_unbroken rs))
    ∙ runs_read rs [] 1 0 h

-- ---- cells

-- each cell as a run of its own: the runs are fit to be printed, and their cells are those
singly_printable : (cs before : List Cell) → EachOnce before cs → Printable before (singly cs)
singly_printable [] before h = tt
singly_printable (c ∷ cs) before h =
    (omega arith, (h.1, tt), rw h.0, rw h.2, singly_printable cs (before ++ (c ∷ [])) h.3)

singly_cells : (cs : List Cell) → run_cells (singly cs) ≡ cs
singly_cells [] = refl
singly_cells (c ∷ cs) = ap (λ (x : List Cell). c ∷ x) (singly_cells cs)

-- whatever legal cells, each once, can be given by a text: it is read back as just them
pub cells_read_back : (cells : List Cell) → EachOnce [] cells → text_read (printed_runs (singly cells)) ≡ gives cells
cells_read_back cells h = runs_read_back (singly cells) (singly_printable cells [] h) ∙ ap gives (singly_cells cells)
