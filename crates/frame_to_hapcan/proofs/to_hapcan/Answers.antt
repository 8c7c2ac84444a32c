-- `frame_to_hapcan::to_hapcan` meets its contract: the output is the head, with the data over the rest.
-- Assumes nothing.
use Rattle.std.proofs.Common.{◌≡◌, ℕ, ◌-◌, List, ◌++◌, length, drop, append-nil, arith, drop_of_length-le}
use Rattle.std.proofs.lemmas.Grind.{common_steps}
use borrow.Rule.Slice.PartMut.{put_mid}
use Rattle.frame_rules.specs.Frame.{head_of, hapcan_of}
use Rattle.frame_rules.specs.Numbers.{to_hapcan_number}
use Rattle.frame_to_hapcan.proofs.to_hapcan.Goals as goal

laid : (i : ℕ) (f d head : List ℕ) → head ≡ head_of i
    → put_mid 4 (length (head ++ drop 4 f) - 4) (head ++ drop 4 f) d ≡ hapcan_of i d
unfolding head_of hapcan_of
laid i f d head e = rw (e, drop_of_length-le (drop 4 f) {i = length (head_of i ++ drop 4 f) - 4} (omega arith), append-nil)

pub returns : goal.returns
unfolding to_hapcan_number
returns c =
    let e = laid c.args.identifier c.args.frame.now c.args.«data».now c.copy_from_slice.new.self in
    grind (arith, common_steps, e)
