-- How a program ends that could not write its output.
use Rattle.std.specs.Prelude.{◌≡◌, ◌≢◌, ◌⊎◌}
use Rattle.std.specs.Process.{exit_status}
use Rattle.std.specs.IoError.{error_kind}
use Rattle.std.specs.declared.io.Error.{Error}
use Rattle.std.specs.declared.io.ErrorKind.TheVariants.{BrokenPipe}
use Rattle.std.specs.declared.process.ExitCode.{ExitCode}

-- with 141 where nobody reads it, as a shell has it of a program that the system's signal ended, else with 0
abbrev pub EndsBy : Error → ExitCode → Type 0
EndsBy error status = (error_kind error ≡ BrokenPipe → exit_status status ≡ 141) × (error_kind error ≢ BrokenPipe → exit_status status ≡ 0)

-- with the one or the other
abbrev pub EndsUnwritten : ExitCode → Type 0
EndsUnwritten status = (exit_status status ≡ 141) ⊎ (exit_status status ≡ 0)
