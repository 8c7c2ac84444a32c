-- Any two outcomes that a contract allows for one input are equal: the whole result, and every cell afterwards. Of a part that is its bytes,
-- and where they lie. (The logic's own name of a reference, which no program sees, is new with each call.)
-- The contracts are the generated `Reads`: nothing is said of a body.
use mathlib.Core.Path.{◌≡◌, ◌∙◌, sym}
use mathlib.Core.Logic.{⊎_elim}
use Prim.Native.Nat.{ℕ, ◌<◌, ◌≤◌}
use contract.Lifetimes.{Lfts}
use borrow.Fn.World.{ArgsD, ResD}
use denote.Triple.Clauses.{AtExit}
use borrow.Fn.Kinds.{ended_of}
use Rattle.std.proofs.lemmas.Bool.{cases_lt}
use Rattle.run_stream.specs.contracts.part as part
use Rattle.run_stream.proofs.part.Kinds as part-kinds
use Rattle.run_stream.proofs.part.Reads as part-reads
use Rattle.run_stream.specs.contracts.lent as lent
use Rattle.run_stream.proofs.lent.Kinds as lent-kinds
use Rattle.run_stream.proofs.lent.Reads as lent-reads
use Rattle.run_stream.specs.contracts.number as number
use Rattle.run_stream.proofs.number.Kinds as number-kinds
use Rattle.run_stream.proofs.number.Reads as number-reads
use Rattle.run_stream.specs.contracts.short as short
use Rattle.run_stream.proofs.short.Kinds as short-kinds
use Rattle.run_stream.proofs.short.Reads as short-reads
use Rattle.run_stream.specs.contracts.fill as fill
use Rattle.run_stream.proofs.fill.Kinds as fill-kinds
use Rattle.run_stream.proofs.fill.Reads as fill-reads

pub part_tight : (κs : Lfts 1) (a : ArgsD part.signature κs) (r r' : ResD part.signature κs)
    (s s' : AtExit (ended_of 1 part-kinds.ps part-kinds.r) κs)
    → part-reads.Post κs a r s → part-reads.Post κs a r' s' → (r.now ≡ r'.now) × (r.ref_ptr ≡ r'.ref_ptr)
part_tight κs a r r' s s' p q = (p.0 ∙ sym q.0, p.1 ∙ sym q.1)

pub lent_tight : (κs : Lfts 1) (a : ArgsD lent.signature κs) (r r' : ResD lent.signature κs)
    (s s' : AtExit (ended_of 1 lent-kinds.ps lent-kinds.r) κs)
    → lent-reads.Post κs a r s → lent-reads.Post κs a r' s' → (r.now ≡ r'.now) × (r.ref_ptr ≡ r'.ref_ptr)
lent_tight κs a r r' s s' p q = (p.0 ∙ sym q.0, p.1 ∙ sym q.1)

-- what is so where enough bytes are left, and where fewer are, is one number
one_number : (n most : ℕ) (x y z : ℕ) → (most ≤ n → x ≡ z) × (n < most → x ≡ 0) → (most ≤ n → y ≡ z) × (n < most → y ≡ 0) → x ≡ y
one_number n most x y z p q =
    ⊎_elim (λ cut. p.1 cut ∙ sym (q.1 cut)) (λ whole. p.0 whole ∙ sym (q.0 whole)) (cases_lt n most)

pub number_tight : (κs : Lfts 1) (a : ArgsD number.signature κs) (r r' : ResD number.signature κs)
    (s s' : AtExit (ended_of 1 number-kinds.ps number-kinds.r) κs)
    → number-reads.Post κs a r s → number-reads.Post κs a r' s' → r ≡ r'
number_tight κs a r r' s s' p q = one_number _ _ r r' _ p q

pub short_tight : (κs : Lfts 1) (a : ArgsD short.signature κs) (r r' : ResD short.signature κs)
    (s s' : AtExit (ended_of 1 short-kinds.ps short-kinds.r) κs)
    → short-reads.Post κs a r s → short-reads.Post κs a r' s' → r ≡ r'
short_tight κs a r r' s s' p q = one_number _ _ r r' _ p q

pub fill_tight : (κs : Lfts 1) (a : ArgsD fill.signature κs) (r r' : ResD fill.signature κs)
    (s s' : AtExit (ended_of 1 fill-kinds.ps fill-kinds.r) κs)
    → fill-reads.Post κs a r s → fill-reads.Post κs a r' s' → s.0.now ≡ s'.0.now
fill_tight κs a r r' s s' p q = p ∙ sym q
