-- A record whose receiver is tidied, and whose mode is kept where it is tidy, is the tidied record: in place, part by part.
-- Assumes nothing.
use mathlib.Core.Path.{◌≡◌, refl}
use mathlib.Core.Bool.{true, false}
use Rattle.node_rules.specs.declared.Staged.TheVariants.{Nothing}
use Rattle.node_rules.specs.declared.Mode.TheVariants.{Programming}
use Rattle.node_rules.specs.declared.Receiver.{Receiver}
use Rattle.node_rules.specs.declared.Node.{Node}
use Rattle.node_rules.specs.Record.{receiving, held_of, with_mode, tidied}
use Rattle.node_record.specs.Internal.Tidy.{is_tidy}
use Rattle.node_record.proofs.Kept.{kept_mode, lost_mode}

-- the record with this in its receiver
abbrev pub with_receiver : Node → Receiver → Node
with_receiver n r = record { choices = n.choices; plate = n.plate; receiver = r; mode = n.mode }

module _ (n : Node) (r : Receiver) (e : r ≡ receiving (held_of n)) where
  pub kept_tidied : is_tidy n.mode ≡ true → with_receiver n r ≡ tidied n
  unfolding tidied
  kept_tidied t = rw (e, kept_mode n.mode t) refl

  pub lost_tidied : is_tidy n.mode ≡ false → with_mode (with_receiver n r) (Programming Nothing) ≡ tidied n
  unfolding tidied
  lost_tidied t = rw (e, lost_mode n.mode t) refl
