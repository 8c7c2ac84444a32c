-- The single statement of document 01's table of samples: what the definitions give is what it says, entry by entry. It holds because
-- both columns compute, so the names below are only opened. Assumes nothing.
use mathlib.Core.Path.{◌≡◌, refl}
use mathlib.Core.Bool.{true}
use Rattle.memory_address.specs.Rule.{ruled}
use Rattle.frame_rules.specs.Frame.{identifier_of, head_of}
use Rattle.frame_rules.specs.Wrapping.{wrapped_of, rightly_wrapped}
use Rattle.memory_leaves.specs.Leaves.{flash_cells_after}
use Rattle.memory_sum.specs.Sum.{firmware_sum, stored_sum_of}
use Rattle.memory_start.specs.Start.{sums_differ, cells_differ, flag_byte, starts}
use Rattle.recipe.specs.Faults.{rules_at, fault_at}
use Rattle.recipe.specs.Reading.{read_from, reading, recipe_of}
use Rattle.recipe.specs.Frames.{item_frames, items_frames, frames_of, joined, items_count, frame_count}
use Rattle.recipe.specs.Translation.{checked, translated, translated_output}
use Rattle.node_rules.specs.Record.{held_in, tidied}
use Rattle.node_rules.specs.Requests.{handled_types, found}
use Rattle.node_rules.specs.Step.{done}
use Rattle.node_rules.specs.Uart.{uart_step}
use Rattle.samples.specs.Entries.{all_right}
use Rattle.samples.specs.Samples.{samples}

pub samples_hold : all_right samples ≡ true
unfolding samples head_of identifier_of held_in tidied uart_step wrapped_of rightly_wrapped handled_types found done ruled
    flash_cells_after rules_at fault_at read_from reading recipe_of item_frames items_frames frames_of joined items_count frame_count checked
    translated translated_output firmware_sum stored_sum_of sums_differ cells_differ flag_byte starts
samples_hold = refl
