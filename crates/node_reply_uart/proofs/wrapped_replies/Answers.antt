-- `node_reply_uart::wrapped_replies` meets its contract: each reply lies within the 24 bytes and each room within the 30. What each
-- wrapping answers and leaves is told by the laws of InPlace.antt.
-- Assumes nothing.
use mathlib.Core.Path.{◌≡◌, refl}
use native.Mathlib.Omega.{arith}
use lib.ListN.{length, length-append, length-drop, length-take, replicate}
use borrow.Author.Rules.{rules}
use borrow.Author.Tests.{eq-eqb, ne_eqb}
use Rattle.base.specs.Parts.{part}
use Rattle.base.proofs.Patched.{part_length}
use Rattle.node_reply_uart.proofs.InPlace.{is_done, filled, first_in_place, both_in_place}
use Rattle.node_reply_uart.proofs.wrapped_replies.Goals as goal

pub unwrap-requires : goal.unwrap-requires
unwrap-requires c =
    let full : length c.args.replies.bytes ≡ 24 = search rules in
    is_done (part c.args.replies.bytes 0 12) (replicate 15 0) c.wrap.new.wrapped c.wrap.result refl
    (part_length c.args.replies.bytes 0 12 (omega arith)) c.wrap.ensures.0

pub returns-then-count-eq1-clause-bytes : goal.returns-then-count-eq1-clause-bytes
returns-then-count-eq1-clause-bytes c =
    let r = c.args.replies in
    let full : length r.bytes ≡ 24 = search rules in
    simp (ne_eqb r.count 0 c.if-count-eq0.false, eq-eqb r.count 1 c.if-count-eq1.true)
    (first_in_place r.bytes full _
    (filled (part r.bytes 0 12) (replicate 15 0) _ c.wrap.result refl (part_length r.bytes 0 12 (omega arith))
    c.wrap.ensures.0 c.wrap.ensures.1))

pub unwrap-requires-2 : goal.unwrap-requires-2
unwrap-requires-2 c =
    let full : length c.args.replies.bytes ≡ 24 = search rules in
    let room : length c.wrap.new.wrapped ≡ 15 = c.wrap.auto.wrapped in
    is_done (part c.args.replies.bytes 12 12) _ c.wrap-2.new.wrapped c.wrap-2.result
    (simp (length-take, length-drop, length-append) (omega (arith, room))) (part_length c.args.replies.bytes 12 12 (omega arith))
    c.wrap-2.ensures.0

pub returns-clause-bytes : goal.returns-clause-bytes
returns-clause-bytes c =
    let r = c.args.replies in
    let full : length r.bytes ≡ 24 = search rules in
    let room : length c.wrap.new.wrapped ≡ 15 = c.wrap.auto.wrapped in
    simp (ne_eqb r.count 0 c.if-count-eq0.false, ne_eqb r.count 1 c.if-count-eq1.false)
    (both_in_place r.bytes full _ _ room
    (filled (part r.bytes 0 12) (replicate 15 0) _ c.wrap.result refl (part_length r.bytes 0 12 (omega arith))
    c.wrap.ensures.0 c.wrap.ensures.1)
    (filled (part r.bytes 12 12) _ _ c.wrap-2.result (simp (length-take, length-drop, length-append) (omega (arith, room)))
    (part_length r.bytes 12 12 (omega arith)) c.wrap-2.ensures.0 c.wrap-2.ensures.1))
