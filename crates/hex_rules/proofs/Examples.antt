-- The table of examples, computed; and that the premises of the theorems about printed runs and about a first bad line can be met.
-- Assumes nothing.
use mathlib.Core.Path.{refl}
use mathlib.Core.List.{[], ◌∷◌}
use native.Mathlib.Nat.{suc-ne-zero}
use lib.Dec.{lit<, lit≤}
use Rattle.memory_address.specs.Rule.{ruled}
use Rattle.hex_rules.specs.Text.{lines_of}
use Rattle.hex_rules.specs.Record.{digit_of, bad_digit, bad_length, bad_sum}
use Rattle.hex_rules.specs.Cells.{legal_cell}
use Rattle.hex_rules.specs.Checks.{nothing, lines_read, fault_at, rules_at, with_record}
use Rattle.hex_rules.specs.Deciding.{FirstBad}
use Rattle.recipe.specs.Items.{printed, printed_items}
use Rattle.hex_rules.specs.Recipe.{recipe_of, items_of, upward}
use Rattle.hex_rules.specs.Converting.{text_read, bytes_of, converted, converted_output}
use Rattle.hex_rules.specs.Printing.{Printable, text_of, printed_runs}
use Rattle.hex_rules.specs.Examples.{examples, AllRead, Answered, flash_run, eeprom_run, end_line, bad_sum_line}

pub examples_hold : AllRead examples
unfolding examples text_read lines_read lines_of fault_at rules_at with_record digit_of bad_digit bad_length bad_sum legal_cell ruled printed_runs
examples_hold =
    (refl, (refl, (refl, (refl, (refl, (refl, (refl, (refl, (refl, (refl, (refl, (refl, (refl, (refl, (refl, (refl, (refl, (refl, (refl, (refl, (refl, (refl, (refl, (refl, (refl, tt)))))))))))))))))))))))))

-- runs that can be printed
printable_met : Printable [] (flash_run ∷ eeprom_run ∷ [])
unfolding legal_cell ruled
printable_met = (lit≤ tt, (lit< tt, (lit< tt, tt)), refl, refl, (lit≤ tt, (lit< tt, tt), refl, refl, tt))

-- a first bad line: behind an end record, which is without fault, a record with a wrong sum
first_bad_met : FirstBad (text_of (end_line ∷ bad_sum_line ∷ [])) (end_line ∷ []) bad_sum_line (with_record nothing (0 ∷ 0 ∷ 0 ∷ 1 ∷ 255 ∷ []))
unfolding lines_of fault_at rules_at with_record digit_of bad_digit bad_length bad_sum legal_cell
first_bad_met = record { behind = []; lines = refl; gave = (refl, refl); bad = suc-ne-zero 30 }

-- the answer and the output
pub answers_hold : Answered
unfolding converted converted_output text_read lines_read lines_of fault_at rules_at with_record digit_of bad_digit bad_length bad_sum legal_cell ruled bytes_of printed printed_items recipe_of items_of upward
answers_hold = record { made = refl; short = refl; output = refl; untouched = refl }
