-- `hex_read::read_text` meets its contract. The loop keeps what the lines so far gave, and that the table marks it.
-- Assumes nothing.
use mathlib.Core.Path.{refl, sym}
use Rattle.hex_read.proofs.Answering.{fault_some}
use Rattle.hex_read.proofs.Walking.{kept_start, kept_done, kept_open, kept_bad, kept_fault, kept_next, nearer}
use Rattle.hex_read.proofs.read_text.Goals as goal

pub loop-at-init : goal.loop-at-init
loop-at-init c = kept_start c.args.text.now c.args.table.now c.requires

pub returns-in_default : goal.returns-in_default
returns-in_default c =
    let l = c.loop-at in
    kept_bad c.args.text.now l.table l.at l.number l.upper l.ended l.invariant c.loop-at-test.true (sym c.in_default.ensures)

pub returns-in-Err : goal.returns-in-Err
returns-in-Err c =
    let l = c.loop-at in
    kept_fault c.args.text.now l.table l.at l.number l.upper l.ended l.invariant c.loop-at-test.true c.in-Some.line (sym c.in-Some.ensures)
    _ c.in-Err.ensures.0 (fault_some c.in-Err.fault)

pub loop-at-smaller : goal.loop-at-smaller
loop-at-smaller c =
    let l = c.loop-at in
    nearer c.args.text.now l.table l.at l.number l.upper l.ended l.invariant c.loop-at-test.true c.in-Some.line (sym c.in-Some.ensures)

pub loop-at-preserved : goal.loop-at-preserved
loop-at-preserved c =
    let l = c.loop-at in
    kept_next c.args.text.now l.table l.at l.number l.upper l.ended l.invariant c.loop-at-test.true c.in-Some.line (sym c.in-Some.ensures)
    0 c.in_default-judge.ensures.0 refl _ c.in_default-judge.ensures.1 _ c.upper_behind-upper.ensures _ refl

pub returns-then-ended : goal.returns-then-ended
returns-then-ended c =
    let l = c.loop-at in
    kept_done c.args.text.now l.table l.at l.number l.upper l.ended l.invariant c.loop-at-test.false c.if-ended.true

pub returns : goal.returns
returns c =
    let l = c.loop-at in
    kept_open c.args.text.now l.table l.at l.number l.upper l.ended l.invariant c.loop-at-test.false c.if-ended.false
