-- `update_deliver::deliver` meets its contract: the translator is lent no more room than the answers have (proofs/Outcome), so that its own
-- refusal 26 stands for both, and accepted frames are handed over.
-- Assumes nothing.
use mathlib.Core.Path.{ap, sym}
use native.Mathlib.Omega.{arith}
use lib.ListN.{length}
use lib.Seq.{length-take-le}
use Rattle.recipe.specs.Translation.{in_numbers}
use Rattle.update_deliver.proofs.Outcome.{room_within, step_refused, step_fits, step_done}
use Rattle.update_deliver.proofs.deliver.Goals as goal

pub slice_bounds-translate-end : goal.slice_bounds-translate-end
slice_bounds-translate-end c =
    let a = c.args in
    omega (arith, c.room-most.ensures, (room_within (length a.frames.now) (length a.answers.now)).0)

pub slice_bounds-translate-end-2 : goal.slice_bounds-translate-end-2
slice_bounds-translate-end-2 c =
    let a = c.args in
    sym (length-take-le c.room-most.result a.frames.now
    (omega (arith, c.room-most.ensures, (room_within (length a.frames.now) (length a.answers.now)).0)))

pub hand_over-after-requires : goal.hand_over-after-requires
hand_over-after-requires c =
    let a = c.args in
    let room = c.room-most in
    let f = c.translate-translated in
    step_fits a.recipe.now a.node a.flash.now a.eeprom.now a.frames.now a.answers.now room.result (in_numbers f.result)
    f.new.output room.ensures f.ensures.0 f.ensures.1 _ (ap in_numbers c.in-Ok.is) f.auto.output

pub returns-in-Err : goal.returns-in-Err
returns-in-Err c =
    let a = c.args in
    let room = c.room-most in
    let f = c.translate-translated in
    step_refused a.recipe.now a.node a.flash.now a.eeprom.now a.frames.now a.answers.now room.result (in_numbers f.result)
    f.new.output room.ensures f.ensures.0 f.ensures.1 _ _ (ap in_numbers c.in-Err.is)

pub returns-in-Ok : goal.returns-in-Ok
returns-in-Ok c =
    let a = c.args in
    let room = c.room-most in
    let f = c.translate-translated in
    let h = c.hand_over-after in
    step_done a.recipe.now a.node a.flash.now a.eeprom.now a.frames.now a.answers.now room.result (in_numbers f.result)
    f.new.output room.ensures f.ensures.0 f.ensures.1 _ (ap in_numbers c.in-Ok.is) h.result h.new.flash
    h.new.eeprom h.new.answers h.ensures
