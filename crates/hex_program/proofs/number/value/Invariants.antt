-- The digits read so far give a value of at most 255, and the rest behind it gives the whole.
use Rattle.std.proofs.Common.{drop, ◌≡◌, ◌≤◌}
use Rattle.hex_program.specs.Internal.Numbers.{digits_read}
use Rattle.hex_program.proofs.number.value.Given as goal

abbrev pub invariant-loop-c : goal.invariant-loop-c
invariant-loop-c l = (l.value ≤ 255) × (digits_read l.base 0 l.word ≡ digits_read l.base l.value (drop l.c-index l.word))
