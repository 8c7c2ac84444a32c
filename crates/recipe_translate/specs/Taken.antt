-- What a recipe that is taken holds. A lent slice holds bytes; the translator learns it where it reads, and passes it on.
use Rattle.std.specs.Prelude.{ℕ, List}
use Rattle.base.specs.Parts.{Bytes}
use Rattle.recipe.specs.Translation.{Translated, Frames, Refused}

-- an answer with frames: the recipe holds bytes
abbrev pub BytesIfTaken : Translated → List ℕ → Type 0
BytesIfTaken (Frames count) recipe = Bytes recipe
BytesIfTaken (Refused number place) recipe = Unit {0}
