-- `node_port::frame_in` meets its contract: what unwrapping answers is what the bytes are.
-- Assumes nothing.
use mathlib.Core.Path.{refl}
use lib.ListN.{replicate}
use Rattle.node_port.proofs.Judging.{right, wrong}
use Rattle.node_port.proofs.frame_in.Goals as goal

pub returns-in-Ok : goal.returns-in-Ok
returns-in-Ok c =
    let u = c.unwrap in
    right c.args.bytes.now u.new.frame (replicate 12 0) refl u.result u.ensures.0 u.ensures.1 c.in-Ok.field-0 c.in-Ok.is

pub returns-in-Err : goal.returns-in-Err
returns-in-Err c =
    let u = c.unwrap in
    wrong c.args.bytes.now u.new.frame (replicate 12 0) refl u.result u.ensures.0 u.ensures.1 c.in-Err.field-0 c.in-Err.is
