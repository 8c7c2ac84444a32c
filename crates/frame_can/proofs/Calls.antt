-- What the contract of each call says, by the parts of a call (specs/Calls.antt).
-- Assumes nothing.
use mathlib.Core.Path.{◌≡◌, ◌∙◌, refl, sym, ap}
use mathlib.Core.Bool.{true, false}
use mathlib.Core.List.{List}
use Prim.Native.Nat.{ℕ}
use lib.ListN.{length}
use Rattle.base.specs.Parts.{Bytes}
use Rattle.frame_rules.specs.Numbers.{Identified}
use Rattle.frame_rules.specs.Frame.{data_of, hapcan_of, identifier_of, legal_identifier, upper_flags}
use Rattle.frame_rules.specs.Numbers.{to_hapcan_number, to_can_number, identified_of}
use Rattle.frame_rules.proofs.Done.{to_hapcan_done, done_to_hapcan, to_can_done, done_to_can}
use Rattle.frame_rules.proofs.Numbered.{identified_number}
use Rattle.frame_can.specs.Calls.{ToHapcan, ToCan, call}

-- what each contract says of such a call, as far as 0 goes
to_hapcan_said : {i n : ℕ} {d held f : List ℕ} → ToHapcan i d held n f → (n ≡ to_hapcan_number i d (length held)) × (n ≡ 0 → f ≡ hapcan_of i d)
to_hapcan_said (call κs a r s p) = (p.0, λ z. rw z at p.1)

to_can_said : {f held d : List ℕ} {r : Identified} → ToCan f held r d
    → (r ≡ identified_of (to_can_number f (length held)) f) × (r.number ≡ 0 → d ≡ data_of f)
to_can_said (call κs a r s p) = (p.0, λ z. rw (sym (identified_number r) ∙ z) at p.1)

-- what a call that gave 0 was handed, and what it left
pub to_hapcan_gave : {i : ℕ} {d held f : List ℕ} → ToHapcan i d held 0 f
    → (length held ≡ 12) × (legal_identifier i ≡ true) × (length d ≡ 8) × (f ≡ hapcan_of i d)
to_hapcan_gave {i} {d} {held} c =
    let h = to_hapcan_done i d (length held) (sym (to_hapcan_said c).0) in (h.0, h.1, h.2, (to_hapcan_said c).1 refl)

pub to_can_gave : {i : ℕ} {f held d : List ℕ} → ToCan f held (record { number = 0; identifier = i }) d
    → (length held ≡ 8) × (length f ≡ 12) × (upper_flags f ≡ false) × (i ≡ identifier_of f) × (d ≡ data_of f)
to_can_gave {i} {f} {held} c =
    let e = ap (λ (r : Identified). r.number) (to_can_said c).0 in
    let h = to_can_done f (length held) (sym e) in
    (h.0, h.1, h.2, rw (← e) at (ap (λ (r : Identified). r.identifier) (to_can_said c).0), (to_can_said c).1 refl)

-- where a call gives 0, and what it then leaves
pub to_hapcan_gives : {i n : ℕ} {d held f : List ℕ} → ToHapcan i d held n f → length held ≡ 12 → legal_identifier i ≡ true → length d ≡ 8
    → (n ≡ 0) × (f ≡ hapcan_of i d)
to_hapcan_gives {i} {n} {d} {held} c h l e =
    let z = (to_hapcan_said c).0 ∙ done_to_hapcan i d (length held) h l e in (z, (to_hapcan_said c).1 z)

pub to_can_gives : {f held d : List ℕ} {r : Identified} → ToCan f held r d → length held ≡ 8 → length f ≡ 12 → upper_flags f ≡ false
    → (r ≡ record { number = 0; identifier = identifier_of f }) × (d ≡ data_of f)
to_can_gives {f} {held} c h l u =
    let z = rw (done_to_can f (length held) h l u) at (to_can_said c).0 in
    (z, (to_can_said c).1 (ap (λ (q : Identified). q.number) z))

-- a frame that was taken holds bytes, by the contract: a lent slice does, and to take it is to read it
pub to_can_bytes : {f held d : List ℕ} {r : Identified} → ToCan f held r d → r.number ≡ 0 → Bytes f
to_can_bytes (call κs a r s p) z = p.2 (sym (identified_number r) ∙ z)
