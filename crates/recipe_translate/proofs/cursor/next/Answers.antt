-- `recipe_translate::cursor::next` meets its contract: the kind that it reads is the kind of what stands there. What is known
-- of the byte that it reads is known of all: it is below 256.
-- Assumes nothing.
use native.Mathlib.Omega.{arith}
use Rattle.base.proofs.Bytes.{bytes_by}
use Rattle.recipe_translate.proofs.Walking.{next_is}
use Rattle.recipe_translate.proofs.cursor.next.Goals as goal

pub returns : goal.returns
returns c =
    let input = c.args.input.now in (
      rw c.is_leave.ensures
          (next_is input c.args.c c.size_of_kind.result c.frames_of_kind.result c.size_of_kind.ensures.0 c.frames_of_kind.ensures.0),
      bytes_by input (λ i l. omega (arith, c.type_inv.input i)),
    )
