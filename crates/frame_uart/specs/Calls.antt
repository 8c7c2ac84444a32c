-- A call of each function, witnessed by its real contract: what it is handed, what the output held, the result, and what the output holds
-- afterwards. The contracts are the generated `Reads`: nothing is said of a body.
use Rattle.std.specs.Prelude.{List, ℕ}
use contract.Lifetimes.{Lfts}
use borrow.Fn.World.{ArgsD, ResD}
use denote.Triple.Clauses.{AtExit}
use borrow.Fn.Kinds.{ended_of}
use Rattle.frame_rules.specs.Numbers.{number_of}
use Rattle.frame_wrap.specs.contracts.wrap as wrap
use Rattle.frame_wrap.proofs.wrap.Kinds as wrap-kinds
use Rattle.frame_wrap.proofs.wrap.Reads as wrap-reads
use Rattle.frame_unwrap.specs.contracts.unwrap as unwrap
use Rattle.frame_unwrap.proofs.unwrap.Kinds as unwrap-kinds
use Rattle.frame_unwrap.proofs.unwrap.Reads as unwrap-reads

-- `wrap(f, held)` may give what has the number n, and leave w
pub data Wrap : List ℕ → List ℕ → ℕ → List ℕ → Type 1 where
  call : (κs : Lfts 2) (a : ArgsD wrap.signature κs) (r : ResD wrap.signature κs) (s : AtExit (ended_of 2 wrap-kinds.ps wrap-kinds.r) κs)
      → wrap-reads.Post κs a r s → Wrap a.0.now a.1.0.now (number_of r) s.1.0.now

-- `unwrap(w, held)` may give what has the number n, and leave f
pub data Unwrap : List ℕ → List ℕ → ℕ → List ℕ → Type 1 where
  call : (κs : Lfts 2) (a : ArgsD unwrap.signature κs) (r : ResD unwrap.signature κs)
      (s : AtExit (ended_of 2 unwrap-kinds.ps unwrap-kinds.r) κs) → unwrap-reads.Post κs a r s
      → Unwrap a.0.now a.1.0.now (number_of r) s.1.0.now
