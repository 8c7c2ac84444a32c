-- What a frame or a byte can do to the mode. Only restart leaves error mode or waiting; programming is entered by 0x100 alone; normal
-- mode is never entered, and where a call leaves it so the mark stays. By what the table of handled types says of two requests, and the
-- three cases of what becomes of the mode.
-- Assumes nothing.
use Rattle.std.specs.Prelude.{Option, Some, None}
use mathlib.Core.Path.{◌≡◌, ◌∙◌, refl, sym}
use mathlib.Core.Bool.{Bool, true, false, ◌&&◌, not, false≢true}
use mathlib.Core.List.{List, [], ◌∷◌}
use mathlib.Core.Logic.{◌⊎◌, ⊎_elim, inl, inr}
use Prim.Native.Nat.{ℕ}
use lib.Dec.{eqb}
use borrow.Author.Tests.{eqb-true, not-false}
use Rattle.base.proofs.Choice.{by_cond, both_true}
use Rattle.memory_address.specs.Places.{full}
use Rattle.frame_rules.specs.Frame.{type_of}
use Rattle.frame_rules.specs.Wrapping.{inner_of}
use Rattle.node_rules.specs.declared.HandledIn.{HandledIn}
use Rattle.node_rules.specs.declared.HandledIn.TheVariants.{InNormal, InProgramming}
use Rattle.node_rules.specs.declared.Staged.{Staged}
use Rattle.node_rules.specs.declared.Staged.TheVariants.{Nothing, Read, Write, Erase}
use Rattle.node_rules.specs.declared.Mode.{Mode}
use Rattle.node_rules.specs.declared.Mode.TheVariants.{Normal, Programming, Error, Waiting}
use Rattle.node_rules.specs.declared.Request.{Request}
use Rattle.node_rules.specs.declared.Request.TheVariants.{EnterProgramming, WaitForRestart, HardwareType, FirmwareType, Description, DeviceId, LeaveProgramming, AddressFrame, DataFrame}
use Rattle.node_rules.specs.declared.Kind.{Kind}
use Rattle.node_rules.specs.declared.Node.{Node}
use Rattle.node_rules.specs.declared.Next.{Next}
use Rattle.node_rules.specs.declared.Next.TheVariants.{Stays, Programs, Waits}
use Rattle.node_rules.specs.Numbered.{Effect}
use Rattle.node_rules.specs.Record.{holding, held_of, tidy_mode, tidied}
use Rattle.node_rules.specs.Requests.{look_in, found, handled_types, is_programming, handled_here, staged_in, doing, asked, asked_by}
use Rattle.node_rules.specs.Outcomes.{is_deaf, refused, request_outcomes, type_outcomes, frame_outcomes, can_outcomes, asked_of, decided}
use Rattle.node_rules.specs.Step.{node_after, done, can_step}
use Rattle.node_rules.specs.Uart.{held_with, is_closed, uart_outcomes, held_after, held_decided, uart_step}
use Rattle.node_rules.proofs.Tidying.{still_held}
use Rattle.node_rules.proofs.Deciding.{Cases, unless_by}

-- ---- what the table says of two of its requests: 0x100 alone asks for programming, and 0x030 is handled in programming mode

abbrev in_programming : HandledIn → Bool
in_programming InNormal = false
in_programming InProgramming = true

abbrev asks_rightly : Request → ℕ → HandledIn → Bool
asks_rightly EnterProgramming t h = eqb t 0x100
asks_rightly WaitForRestart t h = true
asks_rightly HardwareType t h = true
asks_rightly FirmwareType t h = true
asks_rightly Description t h = true
asks_rightly DeviceId t h = true
asks_rightly LeaveProgramming t h = true
asks_rightly AddressFrame t h = in_programming h
asks_rightly DataFrame t h = true

abbrev all_right : List Kind → Bool
all_right [] = true
all_right (k ∷ ks) = asks_rightly k.request k.frame_type k.handled && all_right ks

table_right : all_right handled_types ≡ true
unfolding handled_types
table_right = refl

Says : ℕ → Option Kind → Type 0
Says t None = Unit {0}
Says t (Some k) = asks_rightly k.request t k.handled ≡ true

look_says : (ks : List Kind) (t : ℕ) → all_right ks ≡ true → Says t (look_in ks t)
unfolding Says
look_says [] t h = tt
look_says (k ∷ ks) t h =
    let p = both_true (asks_rightly k.request k.frame_type k.handled) (all_right ks) h in
    by_cond (Says t) (eqb k.frame_type t) _ _
    (λ e. rw (← (eqb-true k.frame_type t e)) p.0) (λ _. look_says ks t p.1)

found_says : (t : ℕ) → Says t (found t)
unfolding found
found_says t = look_says handled_types t table_right

-- ---- what a frame can come to

-- programming afterwards asks for programming before, or for 0x100
abbrev Allowed : Mode → List ℕ → Next → Type 0
Allowed m f Stays = Unit {0}
Allowed m f (Programs s) = (is_programming m ≡ true) ⊎ (type_of f ≡ 0x100)
Allowed m f Waits = Unit {0}

abbrev AllowedBy : Mode → List ℕ → Effect → Type 0
AllowedBy m f e = Allowed m f e.next

in_programming_lem : (h : HandledIn) (m : Mode) → in_programming h ≡ true → handled_here h m ≡ true → is_programming m ≡ true
in_programming_lem InNormal m e t = absurd (false≢true e)
in_programming_lem InProgramming m e t = t

doing_allowed : (n : Node) (f : List ℕ) (s : Staged) → AllowedBy n.mode f (doing s)
doing_allowed n f Nothing = tt
doing_allowed n f (Read a) = tt
doing_allowed n f (Write a) = tt
doing_allowed n f (Erase a) = tt

request_allowed : (n : Node) (f : List ℕ) (r : Request) (h : HandledIn) → asks_rightly r (type_of f) h ≡ true
    → handled_here h n.mode ≡ true → Cases (AllowedBy n.mode f) (request_outcomes r n.mode f) (asked r n.mode f)
request_allowed n f EnterProgramming h e t = inr (eqb-true (type_of f) 0x100 e)
request_allowed n f WaitForRestart h e t = tt
request_allowed n f HardwareType h e t = tt
request_allowed n f FirmwareType h e t = tt
request_allowed n f Description h e t = tt
request_allowed n f DeviceId h e t = tt
request_allowed n f LeaveProgramming h e t = tt
request_allowed n f AddressFrame h e t = (λ _. inl (in_programming_lem h n.mode e t), λ _. inl (in_programming_lem h n.mode e t))
request_allowed n f DataFrame h e t = (λ _. tt, λ _. doing_allowed n f (staged_in n.mode))

type_allowed : (n : Node) (f : List ℕ) (k : Option Kind) → Says (type_of f) k
    → Cases (AllowedBy n.mode f) (type_outcomes k n f) (asked_by k n.mode f)
unfolding Says
type_allowed n f None s = (λ _. tt, λ _. tt)
type_allowed n f (Some k) s =
    (λ _. tt, λ h. (λ _. tt, λ _. request_allowed n f k.request k.handled s (not-false (handled_here k.handled n.mode) h)))

frame_allowed : (n : Node) (f : List ℕ) → Cases (AllowedBy n.mode f) (frame_outcomes n f) (asked_of n f)
frame_allowed n f = (λ _. tt, λ _. (λ _. tt, λ _. type_allowed n f (found (type_of f)) (found_says (type_of f))))

-- ---- the mode afterwards

-- normal afterwards: normal before, with the same mark
after_normal : (x : Next) (n : Node) (b : Bool) → (node_after x n).mode ≡ Normal b → n.mode ≡ Normal b
after_normal Stays n b e = e
after_normal (Programs s) n b e = cc
after_normal Waits n b e = cc

-- programming afterwards and not before: a frame of type 0x100
after_programming : (x : Next) (n : Node) (f : List ℕ) → Allowed n.mode f x → is_programming n.mode ≡ false
    → is_programming (node_after x n).mode ≡ true → type_of f ≡ 0x100
after_programming Stays n f h p e = absurd (false≢true (sym p ∙ e))
after_programming (Programs s) n f h p e = ⊎_elim (λ q. absurd (false≢true (sym p ∙ q))) (λ t. t) h
after_programming Waits n f h p e = absurd (false≢true e)

-- a tidied record is in the mode it was in
pub tidy_normal : (m : Mode) (b : Bool) → tidy_mode m ≡ Normal b → m ≡ Normal b
tidy_normal (Normal c) b e = e
tidy_normal (Programming s) b e = cc
tidy_normal Error b e = cc
tidy_normal Waiting b e = cc

pub tidy_programming : (m : Mode) → is_programming (tidy_mode m) ≡ is_programming m
tidy_programming (Normal c) = refl
tidy_programming (Programming s) = refl
tidy_programming Error = refl
tidy_programming Waiting = refl

pub tidy_deaf : (m : Mode) → is_deaf (tidy_mode m) ≡ is_deaf m
tidy_deaf (Normal c) = refl
tidy_deaf (Programming s) = refl
tidy_deaf Error = refl
tidy_deaf Waiting = refl

-- ---- a CAN frame

module _ (n : Node) (f flash eeprom : List ℕ) where
  -- error mode and waiting stay
  pub can_deaf : is_deaf n.mode ≡ true → (can_step n f flash eeprom).answer.node ≡ tidied n
  unfolding can_step done decided tidied
  can_deaf d =
      by_cond (λ (e : Effect). node_after e.next (tidied n) ≡ tidied n) (not (full flash eeprom)) (refused 1) _ (λ _. refl)
      (λ _. rw (tidy_deaf n.mode ∙ d) refl)

  pub can_normal : (b : Bool) → (can_step n f flash eeprom).answer.node.mode ≡ Normal b → n.mode ≡ Normal b
  unfolding can_step done tidied
  can_normal b e = tidy_normal n.mode b (after_normal (decided (tidied n) (full flash eeprom) f).next (tidied n) b e)

  pub can_programming : is_programming n.mode ≡ false → is_programming (can_step n f flash eeprom).answer.node.mode ≡ true
      → type_of f ≡ 0x100
  unfolding can_step done decided tidied
  can_programming p e =
      after_programming (decided (tidied n) (full flash eeprom) f).next (tidied n) f
      (unless_by (AllowedBy (tidied n).mode f) (can_outcomes (tidied n) (full flash eeprom) f) (asked_of (tidied n) f)
      (λ _. tt, λ _. (λ _. tt, λ _. frame_allowed (tidied n) f)))
      (tidy_programming n.mode ∙ p) e

-- ---- a UART byte

module _ (n : Node) (b : ℕ) (flash eeprom : List ℕ) where
  -- what is held with the byte, and what that comes to
  abbrev with_byte : List ℕ
  with_byte = held_with (held_of (tidied n)) b

  abbrev comes_to : Effect
  comes_to = held_decided (tidied n) (full flash eeprom) with_byte

  pub uart_deaf : is_deaf n.mode ≡ true → (uart_step n b flash eeprom).answer.node ≡ tidied n
  unfolding uart_step done tidied
  uart_deaf d =
      let P : Effect → Type 0 = λ e. node_after e.next (holding (tidied n) (held_after e.number (tidied n) with_byte)) ≡ tidied n in
      by_cond P (not (full flash eeprom)) (refused 1) _ (λ _. still_held n)
      (λ _. by_cond P (is_closed n.choices.pin) (refused 2) _ (λ _. still_held n) (λ _. rw (tidy_deaf n.mode ∙ d) (still_held n)))

  pub uart_normal : (c : Bool) → (uart_step n b flash eeprom).answer.node.mode ≡ Normal c → n.mode ≡ Normal c
  unfolding uart_step done tidied
  uart_normal c e = tidy_normal n.mode c (after_normal comes_to.next (holding (tidied n) (held_after comes_to.number
      (tidied n) with_byte)) c e)

  pub uart_programming : is_programming n.mode ≡ false → is_programming (uart_step n b flash eeprom).answer.node.mode ≡ true
      → type_of (inner_of (held_with (held_of (tidied n)) b)) ≡ 0x100
  unfolding uart_step done tidied
  uart_programming p e =
      after_programming comes_to.next (holding (tidied n) (held_after comes_to.number (tidied n) with_byte)) (inner_of with_byte)
      (unless_by (AllowedBy (tidied n).mode (inner_of with_byte)) (uart_outcomes (tidied n) (full flash eeprom) b)
      (asked_of (tidied n) (inner_of with_byte))
      (λ _. tt, λ _. (λ _. tt, λ _. (λ _. tt, λ _. (λ _. tt, λ _. (λ _. tt, λ _. frame_allowed (tidied n) (inner_of with_byte)))))))
      (tidy_programming n.mode ∙ p) e
