-- Texts with what each comes to: taken ones, and one for each number. Lines are printed from records (Printing.antt), or spoilt by hand.
use Rattle.std.specs.Prelude.{ℕ, ◌≡◌, List, [], ◌∷◌, ◌++◌, take, drop}
use Rattle.hex_rules.specs.Text.{cr, lf}
use Rattle.hex_rules.specs.Record.{colon}
use Rattle.hex_rules.specs.Cells.{Cell}
use Rattle.hex_rules.specs.Checks.{Read, gives, refused}
use Rattle.hex_rules.specs.Refusing.{Made, Refused}
use Rattle.hex_rules.specs.Converting.{text_read, converted, converted_output}
use Rattle.hex_rules.specs.Printing.{Run, pairs, unsummed, line_of, run_lines, text_of, printed_runs}

-- a text, and what it is read as
pub record Example : Type 0 where
  pub text : List ℕ
  pub read : Read

abbrev pub cell : ℕ → ℕ → Cell
cell a b = record { place = a; byte = b }

-- two cells across the border of two blocks, one of EEPROM, and one cell of the loader
abbrev pub flash_run : Run
flash_run = record { start = 0x00103F; bytes = 0xAA ∷ 0xBB ∷ [] }

abbrev pub eeprom_run : Run
eeprom_run = record { start = 0xF00026; bytes = 0x05 ∷ [] }

abbrev pub loader_run : Run
loader_run = record { start = 0x000FFF; bytes = 0x00 ∷ [] }

-- the end record, and it in small letters
abbrev pub end_line : List ℕ
end_line = line_of (unsummed 0 0x01 [])

abbrev pub small_end : List ℕ
small_end = colon ∷ (pairs (0x00 ∷ 0x00 ∷ 0x00 ∷ 0x01 ∷ []) ++ (0x66 ∷ 0x46 ∷ []))

-- three cells in small letters: AB, CD, EF from 0x001000 on
abbrev pub small_cells : List ℕ
small_cells =
    colon ∷ (pairs (0x03 ∷ 0x10 ∷ 0x00 ∷ 0x00 ∷ []) ++ ((0x61 ∷ 0x62 ∷ 0x63 ∷ 0x64 ∷ 0x65 ∷ 0x66 ∷ []) ++ pairs (0x86 ∷ [])))

-- an end record with data, and type 04 with one byte and with three
abbrev pub end_with_data : List ℕ
end_with_data = line_of (unsummed 0 0x01 (0x00 ∷ []))

abbrev pub short_upper : List ℕ
short_upper = line_of (unsummed 0 0x04 (0x00 ∷ []))

abbrev pub long_upper : List ℕ
long_upper = line_of (unsummed 0 0x04 (0x00 ∷ 0x00 ∷ 0x00 ∷ []))

-- a record whose last byte is not the sum, and two of other types
abbrev pub bad_sum_line : List ℕ
bad_sum_line = colon ∷ pairs (0x00 ∷ 0x00 ∷ 0x00 ∷ 0x01 ∷ 0xFE ∷ [])

abbrev pub start_line : List ℕ
start_line = line_of (unsummed 0 0x05 (0x00 ∷ 0x00 ∷ 0x10 ∷ 0x00 ∷ []))

abbrev pub segment_line : List ℕ
segment_line = line_of (unsummed 0 0x02 (0x10 ∷ 0x00 ∷ []))

-- an end record with another last character
abbrev pub spoilt : ℕ → List ℕ
spoilt c = take 10 end_line ++ (c ∷ [])

-- in the order of the numbers; the second taken text has no LF behind its last line, the third a CR LF, the fourth is in small letters
unfoldable pub examples : List Example
examples =
    record {
      text = printed_runs (flash_run ∷ eeprom_run ∷ []);
      read = gives (cell 0x00103F 0xAA ∷ cell 0x001040 0xBB ∷ cell 0xF00026 0x05 ∷ []);
    }
    ∷ record { text = text_of (run_lines flash_run) ++ end_line; read = gives (cell 0x00103F 0xAA ∷ cell 0x001040 0xBB ∷ []) }
    ∷ record { text = small_end ++ (cr ∷ lf ∷ []); read = gives [] }
    ∷ record {
      text = text_of (small_cells ∷ small_end ∷ []);
      read = gives (cell 0x001000 0xAB ∷ cell 0x001001 0xCD ∷ cell 0x001002 0xEF ∷ []);
    }
    ∷ record { text = small_end ++ (cr ∷ []); read = refused 30 1 }
    ∷ record { text = text_of (end_line ∷ [] ∷ []); read = refused 30 2 }
    ∷ record { text = spoilt 0x2F; read = refused 30 1 }
    ∷ record { text = spoilt 0x3A; read = refused 30 1 }
    ∷ record { text = spoilt 0x40; read = refused 30 1 }
    ∷ record { text = spoilt 0x47; read = refused 30 1 }
    ∷ record { text = spoilt 0x60; read = refused 30 1 }
    ∷ record { text = spoilt 0x67; read = refused 30 1 }
    ∷ record { text = drop 1 end_line; read = refused 30 1 }
    ∷ record { text = end_line ++ (0x30 ∷ []); read = refused 30 1 }
    ∷ record { text = text_of (end_with_data ∷ []); read = refused 30 1 }
    ∷ record { text = text_of (short_upper ∷ end_line ∷ []); read = refused 30 1 }
    ∷ record { text = text_of (long_upper ∷ end_line ∷ []); read = refused 30 1 }
    ∷ record { text = text_of (bad_sum_line ∷ []); read = refused 31 1 }
    ∷ record { text = text_of (start_line ∷ end_line ∷ []); read = refused 32 1 }
    ∷ record { text = text_of (segment_line ∷ end_line ∷ []); read = refused 32 1 }
    ∷ record { text = printed_runs (loader_run ∷ []); read = refused 33 2 }
    ∷ record { text = printed_runs (flash_run ∷ flash_run ∷ []); read = refused 34 4 }
    ∷ record { text = text_of (run_lines eeprom_run); read = refused 35 3 }
    ∷ record { text = text_of (end_line ∷ end_line ∷ []); read = refused 35 2 }
    ∷ record { text = []; read = refused 35 1 }
    ∷ []

abbrev pub AllRead : List Example → Type 0
AllRead [] = Unit {0}
AllRead (e ∷ es) = (text_read e.text ≡ e.read) × AllRead es

-- a text without cells, for module 05 and group 0A: its recipe is Open and Leave, four bytes. With room for them, and with one byte less.
abbrev pub end_text : List ℕ
end_text = text_of (end_line ∷ [])

pub record Answered : Type 0 where
  pub made : converted end_text 0x05 0x0A 4 ≡ Made 4
  pub short : converted end_text 0x05 0x0A 3 ≡ Refused 26 0
  pub output : converted_output end_text 0x05 0x0A (9 ∷ 9 ∷ 9 ∷ 9 ∷ 9 ∷ []) ≡ 0x01 ∷ 0x05 ∷ 0x0A ∷ 0x0F ∷ 9 ∷ []
  pub untouched : converted_output end_text 0x05 0x0A (9 ∷ 9 ∷ 9 ∷ []) ≡ 9 ∷ 9 ∷ 9 ∷ []
