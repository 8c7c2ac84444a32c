-- `hex_line::digits::pairs_of` meets its contract: before each turn the bytes read so far, with those of the digits left, are all.
-- Assumes nothing.
use mathlib.Core.Path.{◌∙◌, sym}
use native.Mathlib.Omega.{arith}
use Rattle.hex_line.proofs.Pairs.{done_start, bad_pair, turn, all_read}
use Rattle.hex_line.proofs.digits.pairs_of.Goals as goal

pub loop-i-init : goal.loop-i-init
loop-i-init c = done_start c.args.digits.now

pub returns-in_err-bytes : goal.returns-in_err-bytes
returns-in_err-bytes c =
    let l = c.loop-i in
    c.from_residual.ensures
    ∙ bad_pair c.args.digits.now l.bytes l.i l.invariant c.requires.0 c.requires.1 (omega arith) (sym c.in_err-bytes.ensures)

pub loop-i-preserved : goal.loop-i-preserved
loop-i-preserved c =
    let l = c.loop-i in
    turn c.args.digits.now l.bytes l.i l.invariant c.requires.0 c.requires.1 (omega arith) _ (sym c.in_ok-bytes.ensures)

pub returns : goal.returns
returns c = all_read c.args.digits.now c.loop-i.bytes c.loop-i.i c.loop-i.invariant c.requires.1 (omega arith)
