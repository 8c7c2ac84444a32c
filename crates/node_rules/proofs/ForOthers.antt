-- What a frame for others can do: one in which neither (D2, D3) nor the frame's module and group are the own numbers. By a test over the
-- whole table of handled types: a "group" type is one of five, handled in normal mode, and 0x010 alone is addressed by zeros; every other
-- type is for the own numbers, and so gives 7.
-- Assumes nothing.
use Rattle.std.specs.Prelude.{Option, Some, None}
use mathlib.Core.Path.{◌≡◌, ◌∙◌, refl, sym, ap}
use mathlib.Core.Bool.{Bool, true, false, ◌&&◌, not, false≢true}
use mathlib.Core.List.{List, [], ◌∷◌}
use mathlib.Core.Logic.{◌⊎◌, ⊎_elim, inl, inr}
use Prim.Native.Nat.{ℕ}
use lib.Dec.{eqb}
use borrow.Author.Tests.{eqb-true, not-false}
use Rattle.base.proofs.Choice.{by_cond, both_true}
use Rattle.memory_address.specs.Places.{full}
use Rattle.frame_rules.specs.Frame.{type_of}
use Rattle.frame_rules.specs.Wrapping.{inner_of}
use Rattle.node_rules.specs.declared.HandledIn.{HandledIn}
use Rattle.node_rules.specs.declared.HandledIn.TheVariants.{InNormal, InProgramming}
use Rattle.node_rules.specs.declared.Mode.{Mode}
use Rattle.node_rules.specs.declared.Request.{Request}
use Rattle.node_rules.specs.declared.Request.TheVariants.{EnterProgramming, WaitForRestart, HardwareType, FirmwareType, Description, DeviceId, LeaveProgramming, AddressFrame, DataFrame}
use Rattle.node_rules.specs.declared.Addressing.{Addressing}
use Rattle.node_rules.specs.declared.Addressing.TheVariants.{AsGroup, AsNode, AllZero, OwnNumbers}
use Rattle.node_rules.specs.declared.Kind.{Kind}
use Rattle.node_rules.specs.declared.Node.{Node}
use Rattle.node_rules.specs.declared.Memory.{Memory}
use Rattle.node_rules.specs.declared.Memory.TheVariants.{Kept, Bootfl}
use Rattle.node_rules.specs.declared.Next.{Next}
use Rattle.node_rules.specs.declared.Next.TheVariants.{Stays, Waits}
use Rattle.node_rules.specs.declared.Reply.{Reply}
use Rattle.node_rules.specs.declared.Reply.TheVariants.{Silent}
use Rattle.node_rules.specs.Numbered.{Effect}
use Rattle.node_rules.specs.Record.{holding, held_of, tidied}
use Rattle.node_rules.specs.Requests.{handled_types, look_in, found, data_in, is_for, is_normal, is_programming, handled_here, asked, asked_by}
use Rattle.node_rules.specs.Outcomes.{request_outcomes, type_outcomes, frame_outcomes, can_outcomes, asked_of, decided}
use Rattle.node_rules.specs.Replies.{replying}
use Rattle.node_rules.specs.Step.{bootfl_set, flash_after, eeprom_after, node_after, done, can_step}
use Rattle.node_rules.specs.Uart.{held_with, uart_outcomes, held_after, held_decided, uart_step}
use Rattle.node_rules.specs.Others.{ByGroup, ByZero, ForOthers, LeftByOthers, emptied, LeftByOthersOnUart}
use Rattle.node_rules.proofs.Deciding.{Cases, unless_by}

-- ---- the table's own rule, a test over the whole of it

in_normal : HandledIn → Bool
in_normal InNormal = true
in_normal InProgramming = false

-- what a group request may ask, by its type; and what a frame with both numbers 0x00 may
fits_group : Request → ℕ → Bool
fits_group EnterProgramming t = false
fits_group WaitForRestart t = eqb t 0x101
fits_group HardwareType t = eqb t 0x103
fits_group FirmwareType t = eqb t 0x105
fits_group Description t = eqb t 0x10D
fits_group DeviceId t = eqb t 0x10F
fits_group LeaveProgramming t = false
fits_group AddressFrame t = false
fits_group DataFrame t = false

fits_zero : Request → ℕ → Bool
fits_zero EnterProgramming t = false
fits_zero WaitForRestart t = false
fits_zero HardwareType t = false
fits_zero FirmwareType t = false
fits_zero Description t = false
fits_zero DeviceId t = false
fits_zero LeaveProgramming t = eqb t 0x010
fits_zero AddressFrame t = false
fits_zero DataFrame t = false

fits : Addressing → Request → ℕ → HandledIn → Bool
fits AsGroup r t h = fits_group r t && in_normal h
fits AsNode r t h = true
fits AllZero r t h = fits_zero r t && not (in_normal h)
fits OwnNumbers r t h = true

fitting : Kind → Bool
fitting k = fits k.addressing k.request k.frame_type k.handled

all_fit : List Kind → Bool
all_fit [] = true
all_fit (k ∷ ks) = fitting k && all_fit ks

table_fits : all_fit handled_types ≡ true
unfolding handled_types all_fit fitting fits fits_group fits_zero in_normal
table_fits = refl

-- what is found fits, and has the type that was sought
FoundFits : ℕ → Option Kind → Type 0
FoundFits t (Some k) = (fitting k ≡ true) × (k.frame_type ≡ t)
FoundFits t None = Unit {0}

look_fits : (ks : List Kind) (t : ℕ) → all_fit ks ≡ true → FoundFits t (look_in ks t)
unfolding FoundFits all_fit
look_fits [] t e = tt
look_fits (k ∷ ks) t e =
    let p = both_true (fitting k) (all_fit ks) e in
    by_cond (FoundFits t) (eqb k.frame_type t) (Some k) (look_in ks t) (λ q. (p.0, eqb-true k.frame_type t q))
    (λ _. look_fits ks t p.1)

found_fits : (t : ℕ) → FoundFits t (found t)
unfolding found
found_fits t = look_fits handled_types t table_fits

-- ---- what a frame for others may come to

abbrev FromOthers : Node → List ℕ → Effect → Type 0
FromOthers n f e =
    ((e.memory ≡ Kept) ⊎ ((e.memory ≡ Bootfl 0x00) × ByZero n f))
    × ((e.next ≡ Stays) ⊎ ((e.next ≡ Waits) × (ByZero n f ⊎ ByGroup 0x101 n f)))
    × ((e.reply ≡ Silent) ⊎ (ByGroup 0x103 n f ⊎ (ByGroup 0x105 n f ⊎ (ByGroup 0x10D n f ⊎ ByGroup 0x10F n f))))

normal_here : (h : HandledIn) (m : Mode) → in_normal h ≡ true → handled_here h m ≡ true → is_normal m ≡ true
unfolding in_normal
normal_here InNormal m p q = q
normal_here InProgramming m p q = absurd (false≢true p)

programming_here : (h : HandledIn) (m : Mode) → not (in_normal h) ≡ true → handled_here h m ≡ true → is_programming m ≡ true
unfolding in_normal
programming_here InNormal m p q = absurd (false≢true p)
programming_here InProgramming m p q = q

module _ (t : ℕ) (n : Node) (f : List ℕ) (e : t ≡ type_of f) where
  -- what a request comes to, outcomes 8 and 9 in front
  abbrev Shown : Request → Type 0
  Shown r = Cases (FromOthers n f) (request_outcomes r n.mode f) (asked r n.mode f)

  group_others : (r : Request) → fits_group r t ≡ true → is_for AsGroup n.plate f ≡ true → is_normal n.mode ≡ true → Shown r
  unfolding fits_group
  group_others EnterProgramming p i m = absurd (false≢true p)
  group_others WaitForRestart p i m = (inl refl, inr (refl, inr (sym e ∙ eqb-true t 0x101 p, i, m)), inl refl)
  group_others HardwareType p i m = (inl refl, inl refl, inr (inl (sym e ∙ eqb-true t 0x103 p, i, m)))
  group_others FirmwareType p i m = (inl refl, inl refl, inr (inr (inl (sym e ∙ eqb-true t 0x105 p, i, m))))
  group_others Description p i m = (inl refl, inl refl, inr (inr (inr (inl (sym e ∙ eqb-true t 0x10D p, i, m)))))
  group_others DeviceId p i m = (inl refl, inl refl, inr (inr (inr (inr (sym e ∙ eqb-true t 0x10F p, i, m)))))
  group_others LeaveProgramming p i m = absurd (false≢true p)
  group_others AddressFrame p i m = absurd (false≢true p)
  group_others DataFrame p i m = absurd (false≢true p)

  zero_others : (r : Request) → fits_zero r t ≡ true → is_for AllZero n.plate f ≡ true → is_programming n.mode ≡ true → Shown r
  unfolding fits_zero
  zero_others EnterProgramming p i m = absurd (false≢true p)
  zero_others WaitForRestart p i m = absurd (false≢true p)
  zero_others HardwareType p i m = absurd (false≢true p)
  zero_others FirmwareType p i m = absurd (false≢true p)
  zero_others Description p i m = absurd (false≢true p)
  zero_others DeviceId p i m = absurd (false≢true p)
  zero_others LeaveProgramming p i m =
      let z : ByZero n f = (sym e ∙ eqb-true t 0x010 p, i, m) in (inr (refl, z), inr (refl, inl z), inl refl)
  zero_others AddressFrame p i m = absurd (false≢true p)
  zero_others DataFrame p i m = absurd (false≢true p)

  by_addressing : (a : Addressing) (r : Request) (h : HandledIn) → fits a r t h ≡ true → ForOthers n f
      → is_for a n.plate f ≡ true → handled_here h n.mode ≡ true → Shown r
  unfolding fits
  by_addressing AsGroup r h w o i m =
      let b = both_true (fits_group r t) (in_normal h) w in
      group_others r b.0 i (normal_here h n.mode b.1 m)
  by_addressing AsNode r h w o i m = absurd (false≢true (sym o.0 ∙ i))
  by_addressing AllZero r h w o i m =
      let b = both_true (fits_zero r t) (not (in_normal h)) w in
      zero_others r b.0 i (programming_here h n.mode b.1 m)
  by_addressing OwnNumbers r h w o i m = absurd (false≢true (sym o.1 ∙ i))

-- a refusal leaves all unchanged
type_others : (n : Node) (f : List ℕ) (k : Option Kind) → FoundFits (type_of f) k → ForOthers n f
    → Cases (FromOthers n f) (type_outcomes k n f) (asked_by k n.mode f)
unfolding FoundFits fitting
type_others n f None w o = (λ _. (inl refl, inl refl, inl refl), λ _. (inl refl, inl refl, inl refl))
type_others n f (Some k) w o = (
  λ _. (inl refl, inl refl, inl refl),
  λ h. (
    λ _. (inl refl, inl refl, inl refl),
    λ i. by_addressing k.frame_type n f w.1 k.addressing k.request k.handled w.0 o
        (not-false (is_for k.addressing n.plate f) i) (not-false (handled_here k.handled n.mode) h),
  ),
)

frame_others : (n : Node) (f : List ℕ) → ForOthers n f → Cases (FromOthers n f) (frame_outcomes n f) (asked_of n f)
frame_others n f o = (
  λ _. (inl refl, inl refl, inl refl),
  λ _. (λ _. (inl refl, inl refl, inl refl), λ _. type_others n f (found (type_of f)) (found_fits (type_of f)) o),
)

-- ---- what it leaves

flash_left : (n : Node) (f d flash : List ℕ) (m : Memory) → (m ≡ Kept) ⊎ ((m ≡ Bootfl 0x00) × ByZero n f) → flash_after m d flash ≡ flash
flash_left n f d flash m (inl e) = ap (λ (x : Memory). flash_after x d flash) e
flash_left n f d flash m (inr (e, z)) = ap (λ (x : Memory). flash_after x d flash) e

eeprom_left : (n : Node) (f d eeprom : List ℕ) (m : Memory) → (m ≡ Kept) ⊎ ((m ≡ Bootfl 0x00) × ByZero n f)
    → (eeprom_after m d eeprom ≡ eeprom) ⊎ ((eeprom_after m d eeprom ≡ bootfl_set eeprom 0x00) × ByZero n f)
eeprom_left n f d eeprom m (inl e) = inl (ap (λ (x : Memory). eeprom_after x d eeprom) e)
eeprom_left n f d eeprom m (inr (e, z)) = inr (ap (λ (x : Memory). eeprom_after x d eeprom) e, z)

-- a CAN frame for others, whatever the memories' lengths
pub can_others : (n : Node) (f flash eeprom : List ℕ) → ForOthers n f → LeftByOthers (tidied n) f flash eeprom (can_step n f flash eeprom)
unfolding can_step done decided tidied
can_others n f flash eeprom o =
    let t = tidied n in
    let e = decided t (full flash eeprom) f in
    let c = unless_by (FromOthers t f) (can_outcomes t (full flash eeprom) f) (asked_of t f)
    (λ _. (inl refl, inl refl, inl refl), λ _. (λ _. (inl refl, inl refl, inl refl), λ _. frame_others t f o)) in (
      flash_left t f (data_in f) flash e.memory c.0,
      eeprom_left t f (data_in f) eeprom e.memory c.0,
      ⊎_elim (λ x. inl (ap (λ (y : Next). node_after y t) x)) (λ x. inr (ap (λ (y : Next). node_after y t) x.0, x.1)) c.1,
      ⊎_elim (λ x. inl (ap (λ (y : Reply). (replying y t f (flash_after e.memory (data_in f) flash) (eeprom_after e.memory
          (data_in f) eeprom)).count) x)) (λ x. inr x) c.2,
    )

-- on UART the same but for held bytes, of the frame that the byte completes
pub uart_others : (n : Node) (b : ℕ) (flash eeprom : List ℕ) → ForOthers n (inner_of (held_with (held_of (tidied n)) b))
    → LeftByOthersOnUart (tidied n) (inner_of (held_with (held_of (tidied n)) b)) flash eeprom (uart_step n b flash eeprom)
unfolding uart_step done tidied
uart_others n b flash eeprom o =
    let t = tidied n in
    let xs = held_with (held_of t) b in
    let f = inner_of xs in
    let e = held_decided t (full flash eeprom) xs in
    let m = holding t (held_after e.number t xs) in
    let c = unless_by (FromOthers t f) (uart_outcomes t (full flash eeprom) b) (asked_of t f) (
      λ _. (inl refl, inl refl, inl refl),
      λ _. (
        λ _. (inl refl, inl refl, inl refl),
        λ _. (
          λ _. (inl refl, inl refl, inl refl),
          λ _. (λ _. (inl refl, inl refl, inl refl), λ _. (λ _. (inl refl, inl refl, inl refl), λ _. frame_others t f o)),
        ),
      ),
    ) in (
      flash_left t f (data_in f) flash e.memory c.0,
      eeprom_left t f (data_in f) eeprom e.memory c.0,
      ⊎_elim (λ x. inl (ap (λ (y : Next). emptied (node_after y m)) x)) (λ x. inr (
        ap (λ (y : Next). emptied (node_after y m)) x.0,
        x.1,
      )) c.1,
      ⊎_elim (λ x. inl (ap (λ (y : Reply). (replying y m f (flash_after e.memory (data_in f) flash) (eeprom_after e.memory
          (data_in f) eeprom)).count) x)) (λ x. inr x) c.2,
    )
