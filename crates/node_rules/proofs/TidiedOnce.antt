-- A tidied record in programming mode with a legal command staged stays as it is when it is tidied again. So a call may be read over the
-- record that the call before it left.
-- Assumes nothing.
use mathlib.Core.Path.{◌≡◌, refl, sym, ap}
use mathlib.Core.Bool.{Bool, true, false, cond}
use Rattle.node_rules.specs.declared.Staged.{Staged}
use Rattle.node_rules.specs.declared.Staged.TheVariants.{Nothing}
use Rattle.node_rules.specs.declared.Mode.{Mode}
use Rattle.node_rules.specs.declared.Mode.TheVariants.{Normal, Programming, Error, Waiting}
use Rattle.node_rules.specs.declared.Node.{Node}
use Rattle.node_rules.specs.Record.{holding, with_mode, held_of, legal_staged, tidy_mode, tidied}
use Rattle.node_rules.proofs.Tidying.{held_holdable, holding_tidy}

-- the tidied record in programming mode, with this staged
abbrev pub programming : Node → Staged → Node
programming n s = with_mode (tidied n) (Programming s)

-- tidied again it is as it was, where what is staged is legal
pub tidied_once : (n : Node) (s : Staged) → legal_staged s ≡ true → tidied (programming n s) ≡ programming n s
unfolding tidied
tidied_once n s h = holding_tidy (with_mode n (Programming s)) (held_of n) (held_holdable n.receiver) (rw h)

-- a record that is in programming mode once tidied
pub programming_is : (n : Node) (s : Staged) → (tidied n).mode ≡ Programming s → tidied n ≡ programming n s
unfolding tidied
programming_is n s e = ap (with_mode (holding n (held_of n))) e

-- what is staged of a tidied record is legal
pub tidied_legal : (n : Node) (s : Staged) → (tidied n).mode ≡ Programming s → legal_staged s ≡ true
unfolding tidied
tidied_legal n s = go n.mode
  where
    kept : (t : Staged) (b : Bool) → legal_staged t ≡ b → Programming (cond b t Nothing) ≡ Programming s → legal_staged s ≡ true
    kept t true e h = let q : t ≡ s = cc in rw q at e
    kept t false e h = let q : Nothing ≡ s = cc in ap legal_staged (sym q)

    go : (m : Mode) → tidy_mode m ≡ Programming s → legal_staged s ≡ true
    go (Normal started) e = cc
    go (Programming t) e = kept t (legal_staged t) refl e
    go Error e = cc
    go Waiting e = cc
