-- `differs_write::walk::look_over` meets its contract. Before each turn the walk is one that the items so far lead to (`Seen`); what is left
-- of the recipe falls.
-- Assumes nothing.
use mathlib.Core.Path.{◌∙◌, sym, ap}
use mathlib.Core.Bool.{not}
use borrow.Author.Tests.{eqb-true, not-false, not-true}
use native.Mathlib.Omega.{arith}
use Rattle.std.proofs.Common.{ℕ, List, get_or, Fits, w8}
use Rattle.base.specs.Parts.{Bytes}
use Rattle.base.proofs.Bytes.{bytes_by}
use Rattle.recipe.proofs.Answers.{numbered}
use Rattle.differs_write.proofs.Seeing.{seen_start, seen_open, seen_fault, seen_done, seen_block, dropped_room, seen_next_block, seen_next_other}
use Rattle.differs_write.proofs.walk.look_over.Goals as goal

bytes : (s : List ℕ) → ((i : ℕ) → Fits w8 (get_or s i 0)) → Bytes s
bytes s fits = bytes_by s (λ i l. omega (arith, fits i))

pub loop-w-init : goal.loop-w-init
loop-w-init c = seen_start c.args.recipe.now c.args.image.now c.args.last.now c.args.places.now c.requires.0 c.requires.1 c.requires.2

pub returns-in-Err : goal.returns-in-Err
returns-in-Err c = seen_fault c.loop-w.invariant _ c.loop-w-test.true c.in-Err.ensures (numbered c.in-Err.fault)

pub turn-requires : goal.turn-requires
turn-requires c =
    seen_block c.loop-w.invariant c.loop-w-test.true c.in_default.ensures (bytes _ c.type_inv.recipe) c.requires.0
    (eqb-true _ _ (sym c.is_block.ensures ∙ c.if-is_block.true))

pub bounds-places-w : goal.bounds-places-w
bounds-places-w c = dropped_room c.loop-w.invariant c.loop-w-test.true c.in_default.ensures

pub loop-w-preserved-then-is_block : goal.loop-w-preserved-then-is_block
loop-w-preserved-then-is_block c =
    seen_next_block c.loop-w.invariant c.loop-w-test.true c.in_default.ensures (bytes _ c.type_inv.recipe) c.turn.result c.turn.new.last c.next-w.result (sym c.is_block.ensures ∙ c.if-is_block.true) (ap not c.turn.ensures.0) c.turn.ensures.1 c.next-w.ensures

pub loop-w-preserved : goal.loop-w-preserved
loop-w-preserved c =
    seen_next_other c.loop-w.invariant c.loop-w-test.true c.in_default.ensures (bytes _ c.type_inv.recipe) c.next-w-else-is_block.result (sym c.is_block.ensures ∙ c.if-is_block.false) c.next-w-else-is_block.ensures

pub returns-then-not-w : goal.returns-then-not-w
returns-then-not-w c = seen_open c.loop-w.invariant c.loop-w-test.false (not-true _ c.if-not-w.true)

pub returns : goal.returns
returns c = seen_done c.loop-w.invariant c.loop-w-test.false (not-false _ c.if-not-w.false)
