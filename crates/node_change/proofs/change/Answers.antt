-- `node_change::change` meets its contract: each arm knows what is done.
-- Assumes nothing.
use Rattle.node_change.proofs.change.Goals as goal

pub returns-in-Bootfl : goal.returns-in-Bootfl
returns-in-Bootfl c = (
  simp c.in-Bootfl.is,
  simp c.in-Bootfl.is c.set_bootfl.ensures,
)

pub returns-in-Written : goal.returns-in-Written
returns-in-Written c = (
  rw (
    c.in-Written.is,
    ← c.eight.ensures,
  ) c.put.ensures.0,
  rw (
    c.in-Written.is,
    ← c.eight.ensures,
  ) c.put.ensures.1,
)

pub returns-in-Erased : goal.returns-in-Erased
returns-in-Erased c = (
  simp c.in-Erased.is c.erase_flash.ensures.1,
  simp c.in-Erased.is,
)
