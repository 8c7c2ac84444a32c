-- A call of each function, witnessed by its real contract: what it is handed, what the output held, the result, and what the output holds
-- afterwards. The contracts are the generated `Reads`: nothing is said of a body.
use Rattle.std.specs.Prelude.{List, ℕ}
use contract.Lifetimes.{Lfts}
use borrow.Fn.World.{ArgsD, ResD}
use denote.Triple.Clauses.{AtExit}
use borrow.Fn.Kinds.{ended_of}
use Rattle.frame_rules.specs.Numbers.{Identified, number_of, identified}
use Rattle.frame_to_hapcan.specs.contracts.to_hapcan as to-hapcan
use Rattle.frame_to_hapcan.proofs.to_hapcan.Kinds as to-hapcan-kinds
use Rattle.frame_to_hapcan.proofs.to_hapcan.Reads as to-hapcan-reads
use Rattle.frame_to_can.specs.contracts.to_can as to-can
use Rattle.frame_to_can.proofs.to_can.Kinds as to-can-kinds
use Rattle.frame_to_can.proofs.to_can.Reads as to-can-reads

-- `to_hapcan(i, d, held)` may give what has the number n, and leave f
pub data ToHapcan : ℕ → List ℕ → List ℕ → ℕ → List ℕ → Type 1 where
  call : (κs : Lfts 2) (a : ArgsD to-hapcan.signature κs) (r : ResD to-hapcan.signature κs)
      (s : AtExit (ended_of 2 to-hapcan-kinds.ps to-hapcan-kinds.r) κs) → to-hapcan-reads.Post κs a r s
      → ToHapcan a.0 a.1.0.now a.1.1.0.now (number_of r) s.1.1.0.now

-- `to_can(f, held)` may give what is r in number and identifier, and leave d
pub data ToCan : List ℕ → List ℕ → Identified → List ℕ → Type 1 where
  call : (κs : Lfts 2) (a : ArgsD to-can.signature κs) (r : ResD to-can.signature κs)
      (s : AtExit (ended_of 2 to-can-kinds.ps to-can-kinds.r) κs) → to-can-reads.Post κs a r s
      → ToCan a.0.now a.1.0.now (identified r) s.1.0.now
