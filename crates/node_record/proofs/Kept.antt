-- A tidy mode is kept, and of another nothing stays staged.
-- Assumes nothing.
use mathlib.Core.Path.{◌≡◌, refl, sym}
use mathlib.Core.Bool.{true, false, false≢true}
use Rattle.node_rules.specs.declared.Staged.TheVariants.{Nothing}
use Rattle.node_rules.specs.declared.Mode.{Mode}
use Rattle.node_rules.specs.declared.Mode.TheVariants.{Normal, Programming, Error, Waiting}
use Rattle.node_rules.specs.Record.{tidy_mode}
use Rattle.node_record.specs.Internal.Tidy.{is_tidy}

pub kept_mode : (m : Mode) → is_tidy m ≡ true → tidy_mode m ≡ m
kept_mode (Normal started) e = refl
kept_mode (Programming s) e = rw e refl
kept_mode Error e = refl
kept_mode Waiting e = refl

pub lost_mode : (m : Mode) → is_tidy m ≡ false → tidy_mode m ≡ Programming Nothing
lost_mode (Normal started) e = absurd (false≢true (sym e))
lost_mode (Programming s) e = rw e refl
lost_mode Error e = absurd (false≢true (sym e))
lost_mode Waiting e = absurd (false≢true (sym e))
