-- What a frame comes to, as the code has it, told in document 01's numbers.
use Rattle.std.specs.Prelude.{Result, Ok, Err}
use Rattle.node_rules.specs.declared.Refusal.{Refusal}
use Rattle.node_rules.specs.declared.Deed.{Deed}
use Rattle.node_rules.specs.Numbered.{Effect}
use Rattle.node_rules.specs.Requests.{does}
use Rattle.node_rules.specs.Outcomes.{refused}
use Rattle.node_rules.specs.InNumbers.{refusal_number}

-- what a frame comes to
abbrev pub effect_in_numbers : Result Deed Refusal → Effect
effect_in_numbers (Ok d) = does d.reply d.memory d.next
effect_in_numbers (Err r) = refused (refusal_number r)
