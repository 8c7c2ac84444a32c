-- `run_digest::with_byte` meets its contract: the digest is taken modulo 4,294,967,291 first, which changes nothing of what is left.
-- Assumes nothing.
use Rattle.run_digest.proofs.Laws.{low_first}
use Rattle.run_digest.proofs.with_byte.Goals as goal

pub returns : goal.returns
returns c = low_first c.args.d c.args.b
