-- Any two outcomes that a contract allows for one input are equal: the whole answer, and both memories.
-- The contract is the generated `Reads`: nothing is said of a body.
use mathlib.Core.Path.{◌≡◌, ◌∙◌, sym, ap}
use contract.Lifetimes.{Lfts}
use borrow.Fn.World.{ArgsD, ResD}
use denote.Triple.Clauses.{AtExit}
use borrow.Fn.Kinds.{ended_of}
use Rattle.node_rules.specs.Uart.{UartStep}
use Rattle.node_rules.proofs.InNumbers.{same_uart_answer}
use Rattle.node_uart.specs.contracts.obeyed.{signature as obeyed-signature}
use Rattle.node_uart.proofs.obeyed.Kinds as obeyed-kinds
use Rattle.node_uart.proofs.obeyed.Reads as obeyed-reads
use Rattle.node_uart.specs.contracts.uart_byte.{signature as uart-byte-signature}
use Rattle.node_uart.proofs.uart_byte.Kinds as uart-byte-kinds
use Rattle.node_uart.proofs.uart_byte.Reads as uart-byte-reads

pub uart_byte_tight : (κs : Lfts 2) (a : ArgsD uart-byte-signature κs) (r r' : ResD uart-byte-signature κs)
    (s s' : AtExit (ended_of 2 uart-byte-kinds.ps uart-byte-kinds.r) κs)
    → uart-byte-reads.Post κs a r s → uart-byte-reads.Post κs a r' s'
    → (r ≡ r') × (s.1.1.0.now ≡ s'.1.1.0.now) × (s.1.1.1.0.now ≡ s'.1.1.1.0.now)
uart_byte_tight κs a r r' s s' p q =
    let e = p ∙ sym q in
    (same_uart_answer r r' (ap (λ (x : UartStep). x.answer) e), ap (λ (x : UartStep). x.flash) e, ap (λ (x : UartStep). x.eeprom) e)

pub obeyed_tight : (κs : Lfts 3) (a : ArgsD obeyed-signature κs) (r r' : ResD obeyed-signature κs)
    (s s' : AtExit (ended_of 3 obeyed-kinds.ps obeyed-kinds.r) κs)
    → obeyed-reads.Post κs a r s → obeyed-reads.Post κs a r' s'
    → (r ≡ r') × (s.1.1.0.now ≡ s'.1.1.0.now) × (s.1.1.1.0.now ≡ s'.1.1.1.0.now)
obeyed_tight κs a r r' s s' p q =
    let e = p ∙ sym q in
    (same_uart_answer r r' (ap (λ (x : UartStep). x.answer) e), ap (λ (x : UartStep). x.flash) e, ap (λ (x : UartStep). x.eeprom) e)
