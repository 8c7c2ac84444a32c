-- What a recipe that is taken holds. A lent slice holds bytes; the call learns it where it reads, and passes it on.
use Rattle.std.specs.Prelude.{ℕ, List}
use Rattle.base.specs.Parts.{Bytes}
use Rattle.differs_rules.specs.Differences.{Differences, Kept, Refused}

-- a shorter recipe was written: the whole one holds bytes
abbrev pub BytesIfKept : Differences → List ℕ → Type 0
BytesIfKept (Kept erases size) recipe = Bytes recipe
BytesIfKept (Refused number place) recipe = Unit {0}
