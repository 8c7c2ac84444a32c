-- The digits behind 0x, else those of the whole word.
use Rattle.std.proofs.Common.{ap, ◌∙◌}
use Rattle.hex_program.specs.Internal.Numbers.{value_of}
use Rattle.hex_program.proofs.Numbers.{hexadecimal, decimal}
use Rattle.hex_program.proofs.number.number.Goals as goal

pub returns-in-Some : goal.returns-in-Some
returns-in-Some c =
    let h = c.in-Some.ensures.cases in
    c.value.ensures ∙ ap (value_of 16) h.1 ∙ hexadecimal c.args.word.now h.0

pub returns-in-None : goal.returns-in-None
returns-in-None c = c.value-in-None.ensures ∙ decimal c.args.word.now c.in-None.ensures.cases
