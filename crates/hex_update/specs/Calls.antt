-- A call of `convert`, witnessed by its real contract.
use Rattle.std.specs.Prelude.{List, ℕ}
use contract.Lifetimes.{Lfts}
use borrow.Fn.World.{ArgsD, ResD}
use denote.Triple.Clauses.{AtExit}
use borrow.Fn.Kinds.{ended_of}
use Rattle.hex_rules.specs.Refusing.{Converted, in_numbers}
use Rattle.hex_read.specs.contracts.convert as convert
use Rattle.hex_read.proofs.convert.Kinds as convert-kinds
use Rattle.hex_read.proofs.convert.Reads as convert-reads

-- `convert(text, numbers of m and g, output)` may answer c, in numbers, and leave output'
pub data Convert : List ℕ → ℕ → ℕ → List ℕ → Converted → List ℕ → Type 1 where
  call : (κs : Lfts 2) (a : ArgsD convert.signature κs) (r : ResD convert.signature κs)
      (s : AtExit (ended_of 2 convert-kinds.ps convert-kinds.r) κs) → convert-reads.Post κs a r s
      → Convert a.0.now a.1.0.module.0 a.1.0.group.0 a.1.1.0.now (in_numbers r) s.1.1.0.now
