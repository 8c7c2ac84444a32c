-- The samples of document 01 as one table: in each entry the name, what the definitions give, and what document 01 says.
-- proofs/Table.antt has the single statement, `samples_hold`.
use Rattle.std.specs.Prelude.{ℕ, true, false, List, [], ◌∷◌, ◌++◌, take, replicate}
use Rattle.memory_address.specs.Places.{blank_flash}
use Rattle.memory_address.specs.Rule.{ruled, is_legal}
use Rattle.frame_rules.specs.Frame.{identifier_of, head_of}
use Rattle.memory_leaves.specs.Leaves.{flash_cells_after}
use Rattle.memory_sum.specs.Sum.{firmware_sum, stored_sum_of}
use Rattle.memory_start.specs.Start.{starts}
use Rattle.recipe.specs.Translation.{translated, translated_number, translated_value, translated_output}
use Rattle.samples.specs.Entries.{Sample, bytes, number, verdict, S1, S2, S3, S4, S5, S6, S7, S8, S9, S10, S11, Blank}
use Rattle.samples.specs.Uart.{numbers_of, left_by_last}

-- S3: "AA 10 00 F0 F0 FF FF 05 0A FF FF FF FF F9 A5"
abbrev pub enter_on_uart : List ℕ
enter_on_uart =
    0xAA ∷ 0x10 ∷ 0x00 ∷ 0xF0 ∷ 0xF0 ∷ 0xFF ∷ 0xFF ∷ 0x05 ∷ 0x0A ∷ 0xFF ∷ 0xFF ∷ 0xFF ∷ 0xFF ∷ 0xF9 ∷ 0xA5 ∷ []

-- S11: "01 05 0A 03 F0 00 30 41 42 43 44 45 46 47 48 0F"
abbrev pub row_recipe : List ℕ
row_recipe =
    0x01 ∷ 0x05 ∷ 0x0A ∷ 0x03 ∷ 0xF0 ∷ 0x00 ∷ 0x30 ∷ 0x41 ∷ 0x42 ∷ 0x43 ∷ 0x44 ∷ 0x45 ∷ 0x46 ∷ 0x47 ∷ 0x48 ∷ 0x0F ∷ []

unfoldable pub samples : List Sample
samples =
    -- "S1 identifier 0x0200F0F0 is 10 00 F0 F0": both ways
    bytes S1 (head_of 0x0200F0F0) (0x10 ∷ 0x00 ∷ 0xF0 ∷ 0xF0 ∷ []) ∷
    number S1 (identifier_of (0x10 ∷ 0x00 ∷ 0xF0 ∷ 0xF0 ∷ [])) 0x0200F0F0 ∷
    -- "S2 0x1FFFFFFF is FF F1 FF FF": both ways
    bytes S2 (head_of 0x1FFFFFFF) (0xFF ∷ 0xF1 ∷ 0xFF ∷ 0xFF ∷ []) ∷
    number S2 (identifier_of (0xFF ∷ 0xF1 ∷ 0xFF ∷ 0xFF ∷ [])) 0x1FFFFFFF ∷
    -- "S3 .. to node 05, 0A in normal mode, pin CAN and UART": fourteen bytes are held, the fifteenth is done
    bytes S3 (numbers_of enter_on_uart) (replicate 14 10 ++ (0 ∷ [])) ∷
    -- "reply S4 AA 10 01 05 0A FF FF 03 04 FF FF FF FF 21 A5": one reply, and it is this
    number S4 (left_by_last enter_on_uart).answer.count 1 ∷
    bytes S4 (take 15 (left_by_last enter_on_uart).answer.replies)
    (0xAA ∷ 0x10 ∷ 0x01 ∷ 0x05 ∷ 0x0A ∷ 0xFF ∷ 0xFF ∷ 0x03 ∷ 0x04 ∷ 0xFF ∷ 0xFF ∷ 0xFF ∷ 0xFF ∷ 0x21 ∷ 0xA5 ∷ []) ∷
    -- "S5 write 0x00FFF8 legal; S6 0x000FF8 and 0x010000 not."
    verdict S5 (is_legal (ruled 0x00FFF8 0x02)) true ∷
    verdict S6 (is_legal (ruled 0x000FF8 0x02)) false ∷
    verdict S6 (is_legal (ruled 0x010000 0x02)) false ∷
    -- "S7 erase 0x00FFC0 legal; S8 0x00FFC8 and 0xF00000 not."
    verdict S7 (is_legal (ruled 0x00FFC0 0x03)) true ∷
    verdict S8 (is_legal (ruled 0x00FFC8 0x03)) false ∷
    verdict S8 (is_legal (ruled 0xF00000 0x03)) false ∷
    -- "S9 write 0xF003F8 legal, 0xF00400 not."
    verdict S9 (is_legal (ruled 0xF003F8 0x02)) true ∷
    verdict S9 (is_legal (ruled 0xF00400 0x02)) false ∷
    -- "S10 0xF3 written over 0x0F leaves 0x03.": in each of the eight cells
    bytes S10 (flash_cells_after (replicate 8 0x0F) (replicate 8 0xF3)) (replicate 8 0x03) ∷
    -- "S11 recipe .. gives 36 bytes: 03 00 05 0A F0 00 30 FF FF 02 FF FF, 04 00 05 0A 41 42 43 44 45 46 47 48,
    -- 02 00 05 0A FF FF FF FF FF FF FF FF"
    number S11 (translated_number (translated row_recipe 36)) 0 ∷
    number S11 (translated_value (translated row_recipe 36)) 3 ∷
    bytes S11 (translated_output row_recipe (replicate 36 0))
    (0x03 ∷ 0x00 ∷ 0x05 ∷ 0x0A ∷ 0xF0 ∷ 0x00 ∷ 0x30 ∷ 0xFF ∷ 0xFF ∷ 0x02 ∷ 0xFF ∷ 0xFF ∷
    0x04 ∷ 0x00 ∷ 0x05 ∷ 0x0A ∷ 0x41 ∷ 0x42 ∷ 0x43 ∷ 0x44 ∷ 0x45 ∷ 0x46 ∷ 0x47 ∷ 0x48 ∷
    0x02 ∷ 0x00 ∷ 0x05 ∷ 0x0A ∷ 0xFF ∷ 0xFF ∷ 0xFF ∷ 0xFF ∷ 0xFF ∷ 0xFF ∷ 0xFF ∷ 0xFF ∷ []) ∷
    -- "Blank FLASH: sum 0x6F8D03, stored 0xFFFFFF, no start."
    number Blank (firmware_sum blank_flash) 0x6F8D03 ∷
    number Blank (stored_sum_of blank_flash) 0xFFFFFF ∷
    verdict Blank (starts blank_flash) false ∷
    []
