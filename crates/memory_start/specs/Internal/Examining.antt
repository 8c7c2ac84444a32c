-- What `examine` finds of a FLASH: the worked-out sum and the flag byte together, so that the reply 0x1F1 adds the cells up once.
use Rattle.std.specs.Prelude.{ℕ, List}
use Rattle.memory_sum.specs.Sum.{firmware_sum}
use Rattle.memory_start.specs.Start.{flag_byte}
use Rattle.memory_start.specs.declared.Examined.{Examined}

abbrev pub examined : List ℕ → Examined
examined flash = record { sum = firmware_sum flash; flags = flag_byte flash }
