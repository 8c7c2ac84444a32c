-- One call after another, each whatever its function's real contract allows (`Calls`): both conversions take all that is legal and lose
-- nothing, each way round, and no two inputs share an outcome. The same of the definitions is in `Fields`.
-- Assumes nothing.
use mathlib.Core.Path.{◌≡◌, ◌∙◌, refl, sym, ap}
use mathlib.Core.Bool.{false}
use mathlib.Core.List.{List}
use Prim.Native.Nat.{ℕ, ◌≤◌}
use native.Mathlib.Omega.{arith}
use lib.ListN.{length, length-drop}
use borrow.Author.Tests.{le-leb}
use Rattle.frame_rules.specs.Numbers.{Identified}
use Rattle.frame_rules.specs.Frame.{data_of, identifier_of, legal_identifier, upper_flags}
use Rattle.frame_rules.proofs.Fields.{hapcan_length, hapcan_data, hapcan_no_upper_flags, hapcan_identifier, hapcan_injective}
use Rattle.frame_rules.proofs.Fields.{identifier_legal, identifier_hapcan, identifier_injective}
use Rattle.frame_can.specs.Calls.{ToHapcan, ToCan}
use Rattle.frame_can.proofs.Calls.{to_hapcan_gave, to_can_gave, to_hapcan_gives, to_can_gives, to_can_bytes}

-- CAN to HAPCAN to CAN, for every legal identifier and eight data bytes: both calls give 0, and the second the same identifier and data
pub can_hapcan_can : {i n : ℕ} {d held f room d' : List ℕ} {r : Identified} → i ≤ 0x1FFFFFFF → length d ≡ 8 → length held ≡ 12
    → length room ≡ 8 → ToHapcan i d held n f → ToCan f room r d'
    → (n ≡ 0) × (r ≡ record { number = 0; identifier = i }) × (d' ≡ d)
can_hapcan_can {i} {n} {d} {held} {f} legal e h h' c t =
    let g = to_hapcan_gives c h (le-leb i _ legal) e in
    let q = g.1 in
    let l : length f ≡ 12 = ap length q ∙ hapcan_length i d ∙ omega arith in
    let k = to_can_gives t h' l (ap upper_flags q ∙ hapcan_no_upper_flags i d) in
    (g.0, rw (ap identifier_of q ∙ hapcan_identifier i d) at k.0, k.1 ∙ ap data_of q ∙ hapcan_data i d)

-- HAPCAN to CAN to HAPCAN, for every twelve bytes without an upper flag: both calls give 0, and the second the same frame
pub hapcan_can_hapcan : {n : ℕ} {f room d held f' : List ℕ} {r : Identified} → length f ≡ 12 → upper_flags f ≡ false → length room ≡ 8
    → length held ≡ 12 → ToCan f room r d → ToHapcan r.identifier d held n f' → (r.number ≡ 0) × (n ≡ 0) × (f' ≡ f)
hapcan_can_hapcan {n} {f} {room} {d} {held} {f'} {r} l u h h' c t =
    let g = to_can_gives c h l u in
    let z = ap (λ (x : Identified). x.number) g.0 in
    let q = ap (λ (x : Identified). x.identifier) g.0 in
    let b = to_can_bytes c z in
    let m : length d ≡ 8 = ap length g.1 ∙ length-drop 4 f ∙ omega arith in
    let k = to_hapcan_gives t h' (ap legal_identifier q ∙ identifier_legal f b) m in
    (z, k.0, k.1 ∙ rw (q, g.1) (identifier_hapcan f l b u))

-- two identifiers with their data never share a frame
pub to_hapcan_injective : {i j : ℕ} {d e held held' f : List ℕ} → ToHapcan i d held 0 f → ToHapcan j e held' 0 f → (i ≡ j) × (d ≡ e)
to_hapcan_injective {i} {j} {d} {e} c t = hapcan_injective i j d e (sym (to_hapcan_gave c).3 ∙ (to_hapcan_gave t).3)

-- two frames never share an identifier with its data
pub to_can_injective : {i : ℕ} {f g held held' d : List ℕ} → ToCan f held (record { number = 0; identifier = i }) d
    → ToCan g held' (record { number = 0; identifier = i }) d → f ≡ g
to_can_injective {i} {f} {g} c t =
    let p = to_can_gave c in
    let q = to_can_gave t in
    identifier_injective f g p.1 q.1 (to_can_bytes c refl) (to_can_bytes t refl) p.2 q.2 (sym p.3 ∙ q.3) (sym p.4 ∙ q.4)
