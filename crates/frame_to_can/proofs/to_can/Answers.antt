-- `frame_to_can::to_can` meets its contract: what is known of every element of a lent slice, it is below 256, is known of the frame.
-- Assumes nothing.
use Rattle.std.proofs.Common.{◌-◌, length, drop, arith, length-drop}
use lib.Seq.{take_all}
use Rattle.std.proofs.lemmas.Grind.{common_steps}
use Rattle.base.proofs.Bytes.{bytes_by}
use Rattle.frame_rules.specs.Numbers.{to_can_number}
use Rattle.frame_to_can.proofs.to_can.Goals as goal

pub returns : goal.returns
unfolding to_can_number
returns c =
    let whole = take_all (length c.args.frame.now - 4) (drop 4 c.args.frame.now) (simp length-drop (omega arith)) in
    (grind (arith, common_steps), grind (arith, common_steps, whole), λ z. bytes_by c.args.frame.now (λ i l. omega (arith, c.type_inv.frame i)))
