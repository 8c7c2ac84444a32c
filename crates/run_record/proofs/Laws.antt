-- A record written part by part is the record's bytes.
-- Assumes nothing.
use mathlib.Core.Path.{◌≡◌, refl}
use mathlib.Core.List.{List, ◌∷◌, ◌++◌}
use Prim.Native.Nat.{ℕ, ◌%◌}
use lib.ListN.{take}
use Rattle.node_rules.specs.declared.Node.{Node}
use Rattle.run_record.specs.Internal.Record.{pin_byte, mode_bytes, node_bytes}

-- the record's bytes, by what its parts are
pub written_out : (n : Node) (p : ℕ) (fixed held last : List ℕ) → p ≡ pin_byte n.choices.pin → fixed ≡ n.plate.fixed
    → held ≡ take 14 n.receiver.held → last ≡ mode_bytes n.mode
    → p ∷ (fixed ++ (n.plate.own.0 ∷ n.plate.group.0 ∷ n.receiver.count % 256 ∷ (held ++ last))) ≡ node_bytes n
unfolding node_bytes
written_out n p fixed held last pin six fourteen mode = rw (pin, six, fourteen, mode) refl
