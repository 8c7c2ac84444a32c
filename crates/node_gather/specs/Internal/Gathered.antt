-- Bytes that are held or skipped one after the other, up to the one with which fifteen are held; node_piece/proofs/Judging.antt
-- shows that a piece gives 10 for each of these but that one, which is judged.
use Rattle.std.specs.Prelude.{ℕ, suc, cond, List, [], ◌∷◌, eqb, Option, None, Result, Ok, Err}
use Rattle.frame_rules.specs.Wrapping.{inner_of, rightly_wrapped}
use Rattle.node_rules.specs.declared.Choices.{Choices}
use Rattle.node_rules.specs.declared.Receiver.{Receiver}
use Rattle.node_rules.specs.declared.Refusal.TheVariants.{Incomplete, BadFrame}
use Rattle.node_rules.specs.Record.{receiving, held_in}
use Rattle.node_rules.specs.Uart.{held_with, incomplete, held_after_bad}
use Rattle.node_port.specs.Internal.Port.{frame_in}
use Rattle.node_gather.specs.declared.Kept.{Kept}
use Rattle.node_gather.specs.declared.Gathering.{Gathering}

-- how many bytes, and what is then held
pub record Gathered : Type 0 where
  pub taken : ℕ
  pub held : List ℕ

abbrev pub gathered_none : List ℕ → Gathered
gathered_none xs = record { taken = 0; held = xs }

abbrev pub one_more : Gathered → Gathered
one_more g = record { taken = suc g.taken; held = g.held }

-- with xs held before
unfoldable pub gathered : List ℕ → List ℕ → Gathered
gathered xs [] = gathered_none xs
gathered xs (b ∷ bs) =
    one_more (cond (incomplete (held_with xs b)) (gathered (held_with xs b) bs) (gathered_none (held_with xs b)))

-- how many bytes stand before the first 0xAA
unfoldable pub skip_count : List ℕ → ℕ
skip_count [] = 0
skip_count (b ∷ bs) = cond (eqb b 0xAA) 0 (suc (skip_count bs))

-- how many bytes are skipped with so many held
abbrev pub start_of : ℕ → List ℕ → ℕ
start_of count bs = cond (eqb count 0) (skip_count bs) 0

-- the frame in fifteen bytes where nothing is held; none where something is, or they aren't fifteen, or no right frame
abbrev pub at_once : ℕ → List ℕ → Option (List ℕ)
at_once count w = cond (eqb count 0) (frame_in w) None

-- what these held bytes come to: no frame yet, a right frame, or a bad one; and what stays held where it is no right frame
abbrev pub came_to : Choices → List ℕ → Result (List ℕ) Kept
came_to c w =
    cond (incomplete w) (Err (record { refusal = Incomplete; receiver = receiving w }))
    (cond (rightly_wrapped w) (Ok (inner_of w)) (Err (record { refusal = BadFrame; receiver = receiving (held_after_bad c w) })))

-- all that is told of a piece behind what a receiver holds, where g is gathered
abbrev pub gathering_of : Choices → Gathered → Gathering
gathering_of c g = record { taken = g.taken; outcome = came_to c g.held }

abbrev pub gathered_by : Choices → Receiver → List ℕ → Gathering
gathered_by c r bs = gathering_of c (gathered (held_in r) bs)
