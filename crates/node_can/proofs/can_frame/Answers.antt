-- `node_can::can_frame` meets its contract: the record is tidied, and what is decided is done to the memories and answered over them, or
-- refused.
-- Assumes nothing.
use mathlib.Core.Path.{◌∙◌, refl, sym, ap}
use Rattle.std.specs.Prelude.{Ok, Err}
use Rattle.node_rules.specs.Internal.Effects.{effect_in_numbers}
use Rattle.node_can.proofs.Stepping.{stepped}
use Rattle.node_can.proofs.can_frame.Goals as goal

pub returns-in-Ok : goal.returns-in-Ok
returns-in-Ok c =
    stepped
    c.args.node c.args.frame.now c.args.flash.now c.args.eeprom.now c.tidy-n.result c.full-full.result
    (effect_in_numbers (Ok c.in-Ok.deed)) _ _ c.replies-replies.result c.going_on.result
    c.tidy-n.ensures
    c.full-full.ensures
    (ap effect_in_numbers (sym c.in-Ok.is) ∙ c.decide.ensures)
    c.change.ensures.0
    c.change.ensures.1
    c.replies-replies.ensures
    c.going_on.ensures

pub returns-in-Err : goal.returns-in-Err
returns-in-Err c =
    stepped
    c.args.node c.args.frame.now c.args.flash.now c.args.eeprom.now c.tidy-n.result c.full-full.result
    (effect_in_numbers (Err c.in-Err.refusal)) _ _ _ c.going_on-in-Err.result
    c.tidy-n.ensures
    c.full-full.ensures
    (ap effect_in_numbers (sym c.in-Err.is) ∙ c.decide.ensures)
    refl
    refl
    refl
    (simp (← c.afterwards.ensures) c.going_on-in-Err.ensures)
