-- Nothing is lost in document 01's numbers: what the code answers can be read back from them, so answers with the same numbers are the same.
use Rattle.std.proofs.Common.{ℕ, ◌≡◌, cond, eqb, Result, Ok, Err, refl, ap, sym, ◌∙◌}
use Rattle.node_rules.specs.declared.Refusal.{Refusal}
use Rattle.node_rules.specs.declared.Refusal.TheVariants.{WrongLength, ClosedPort, TakesNoFrame, Misshapen, IsResponse, NotHandled, NotForNode, IllegalAddress, NothingStaged, Incomplete, BadFrame}
use Rattle.node_rules.specs.declared.Node.{Node}
use Rattle.node_rules.specs.declared.Deed.{Deed}
use Rattle.node_rules.specs.declared.Replies.{Replies}
use Rattle.node_rules.specs.declared.Answer.{Answer as Handed}
use Rattle.node_rules.specs.declared.Restarted.{Restarted as Restart}
use Rattle.node_rules.specs.Numbered.{Effect, Answer, UartAnswer, Restarted}
use Rattle.node_rules.specs.Internal.Effects.{effect_in_numbers}
use Rattle.node_rules.specs.InNumbers.{refusal_number, outcome_in_numbers, answer_in_numbers, uart_outcome_in_numbers, uart_in_numbers, outcome_number, restarted_in_numbers}

-- the refusal of a number
abbrev refusal_of : ℕ → Refusal
refusal_of number =
    cond (eqb number 1) WrongLength
    (cond (eqb number 2) ClosedPort
    (cond (eqb number 3) TakesNoFrame
    (cond (eqb number 4) Misshapen
    (cond (eqb number 5) IsResponse
    (cond (eqb number 6) NotHandled
    (cond (eqb number 7) NotForNode
    (cond (eqb number 8) IllegalAddress
    (cond (eqb number 9) NothingStaged
    (cond (eqb number 10) Incomplete BadFrame)))))))))

abbrev read_back : {A : Type 0} → ℕ → A → Result A Refusal
read_back number done = cond (eqb number 0) (Ok done) (Err (refusal_of number))

-- a refusal is read back, as none has the number 0
refusal_back : {A : Type 0} (done : A) (r : Refusal) → read_back (refusal_number r) done ≡ Err r
refusal_back done WrongLength = refl
refusal_back done ClosedPort = refl
refusal_back done TakesNoFrame = refl
refusal_back done Misshapen = refl
refusal_back done IsResponse = refl
refusal_back done NotHandled = refl
refusal_back done NotForNode = refl
refusal_back done IllegalAddress = refl
refusal_back done NothingStaged = refl
refusal_back done Incomplete = refl
refusal_back done BadFrame = refl

-- and so are an effect, and the answers to a frame, a byte and a restart
abbrev effect_of : Effect → Result Deed Refusal
effect_of e = read_back e.number (record { reply = e.reply; memory = e.memory; next = e.next })

effect_back : (r : Result Deed Refusal) → effect_of (effect_in_numbers r) ≡ r
effect_back (Ok d) = refl
effect_back (Err r) = refusal_back _ r

abbrev answer_of : Answer → Handed 24
answer_of a = record { outcome = read_back a.number (record { count = a.count; bytes = a.replies }); node = a.node }

answer_back : (o : Result (Replies 24) Refusal) (n : Node) → answer_of (outcome_in_numbers o n) ≡ record { outcome = o; node = n }
answer_back (Ok r) n = refl
answer_back (Err r) n = ap (λ (o : Result (Replies 24) Refusal). record { outcome = o; node = n }) (refusal_back _ r)

abbrev uart_answer_of : UartAnswer → Handed 30
uart_answer_of a = record { outcome = read_back a.number (record { count = a.count; bytes = a.replies }); node = a.node }

uart_answer_back : (o : Result (Replies 30) Refusal) (n : Node)
    → uart_answer_of (uart_outcome_in_numbers o n) ≡ record { outcome = o; node = n }
uart_answer_back (Ok r) n = refl
uart_answer_back (Err r) n = ap (λ (o : Result (Replies 30) Refusal). record { outcome = o; node = n }) (refusal_back _ r)

abbrev restarted_of : Restarted → Restart
restarted_of a = record { outcome = read_back a.number tt; node = a.node }

restarted_back : (o : Result (Unit {0}) Refusal) (n : Node)
    → restarted_of (record { number = outcome_number o; node = n }) ≡ record { outcome = o; node = n }
restarted_back (Ok u) n = refl
restarted_back (Err r) n = ap (λ (o : Result (Unit {0}) Refusal). record { outcome = o; node = n }) (refusal_back _ r)

-- so what has the same numbers is the same
pub same_effect : (r r' : Result Deed Refusal) → effect_in_numbers r ≡ effect_in_numbers r' → r ≡ r'
same_effect r r' e = sym (effect_back r) ∙ ap effect_of e ∙ effect_back r'

pub same_answer : (a a' : Handed 24) → answer_in_numbers a ≡ answer_in_numbers a' → a ≡ a'
same_answer a a' e = sym (answer_back a.outcome a.node) ∙ ap answer_of e ∙ answer_back a'.outcome a'.node

pub same_uart_answer : (a a' : Handed 30) → uart_in_numbers a ≡ uart_in_numbers a' → a ≡ a'
same_uart_answer a a' e = sym (uart_answer_back a.outcome a.node) ∙ ap uart_answer_of e ∙ uart_answer_back a'.outcome a'.node

pub same_restarted : (a a' : Restart) → restarted_in_numbers a ≡ restarted_in_numbers a' → a ≡ a'
same_restarted a a' e = sym (restarted_back a.outcome a.node) ∙ ap restarted_of e ∙ restarted_back a'.outcome a'.node
