-- Whether a mode is tidy, as the code tests it; proofs/Kept.antt shows that of such a mode tidying makes the same.
use Rattle.std.specs.Prelude.{Bool, true}
use Rattle.node_rules.specs.declared.Mode.{Mode}
use Rattle.node_rules.specs.declared.Mode.TheVariants.{Normal, Programming, Error, Waiting}
use Rattle.node_rules.specs.Record.{legal_staged}

abbrev pub is_tidy : Mode → Bool
is_tidy (Normal started) = true
is_tidy (Programming s) = legal_staged s
is_tidy Error = true
is_tidy Waiting = true
