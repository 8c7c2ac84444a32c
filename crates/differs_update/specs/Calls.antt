-- A call of `differences`, witnessed by its real contract.
use Rattle.std.specs.Prelude.{List, ℕ}
use contract.Lifetimes.{Lfts}
use borrow.Fn.World.{ArgsD, ResD}
use denote.Triple.Clauses.{AtExit}
use borrow.Fn.Kinds.{ended_of}
use Rattle.differs_rules.specs.Differences.{Differences, in_numbers}
use Rattle.differs_write.specs.contracts.differences as differences
use Rattle.differs_write.proofs.differences.Kinds as differences-kinds
use Rattle.differs_write.proofs.differences.Reads as differences-reads

-- `differences(recipe, image, output)` may give d and leave output'
pub data Differ : List ℕ → List ℕ → List ℕ → Differences → List ℕ → Type 1 where
  call : (κs : Lfts 3) (a : ArgsD differences.signature κs) (r : ResD differences.signature κs)
      (s : AtExit (ended_of 3 differences-kinds.ps differences-kinds.r) κs) → differences-reads.Post κs a r s
      → Differ a.0.now a.1.0.now a.1.1.0.now (in_numbers r) s.1.1.0.now
