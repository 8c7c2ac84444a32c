-- `node_reply::making::reply` meets its contract: the two bytes of the head are the type's parts, and the data are copied whole.
-- Assumes nothing.
use Rattle.std.proofs.Common.{rules, ◌≡◌, length, ◌++◌, ◌/◌, ◌%◌, ◌*◌, ◌+◌, []}
use mathlib.Core.Path.{◌∙◌, sym, refl}
use mathlib.Core.List.{append-nil}
use native.Mathlib.Omega.{arith}
use Rattle.base.specs.Parts.{listed}
use Rattle.base.proofs.Listed.{listed_all}
use Rattle.node_reply.proofs.making.reply.Goals as goal

pub returns : goal.returns
returns c =
    let d = c.args.d in
    let t = c.args.t in
    let below = c.requires in
    let eight : length d ≡ 8 = search (rules, c.well_formed) in
    let high : (16 * t + 1) / 256 % 256 ≡ t / 16 = omega (arith, below) in
    let low : (16 * t + 1) % 256 ≡ t % 16 * 16 + 1 = omega arith in
    let copied : c.copy_from_slice.new.self ++ [] ≡ listed d 0 8 =
    append-nil c.copy_from_slice.new.self ∙ c.copy_from_slice.ensures.after ∙ sym (listed_all d 8 eight) in
    rw (c.to_be_bytes.ensures, high, low, copied) refl
