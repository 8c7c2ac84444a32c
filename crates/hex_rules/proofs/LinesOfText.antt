-- Lines joined to a text, each ending in LF, are its lines again, where none of them has an LF or a CR of its own: an LF is an empty line
-- in front of the lines behind it, and each character before it comes in front of that line.
-- Assumes nothing.
use mathlib.Core.Path.{◌≡◌, refl, ap, ◌∙◌}
use mathlib.Core.List.{List, [], ◌∷◌, ◌++◌}
use Prim.Native.Nat.{ℕ}
use borrow.Author.Tests.{ne_eqb}
use Rattle.hex_rules.specs.Text.{lf, cr, in_first, lines_of}
use Rattle.hex_rules.specs.Printing.{text_of}

-- a line that has no LF and no CR
abbrev pub Unbroken : List ℕ → Type 0
Unbroken [] = Unit {0}
Unbroken (c ∷ cs) = (c ≡ lf → ⊥) × (c ≡ cr → ⊥) × Unbroken cs

-- lines none of which has
abbrev pub AllUnbroken : List (List ℕ) → Type 0
AllUnbroken [] = Unit {0}
AllUnbroken (l ∷ ls) = Unbroken l × AllUnbroken ls

-- a line and its LF, and the lines of the text behind it
pub line_first : (line text : List ℕ) → Unbroken line → lines_of (line ++ (lf ∷ text)) ≡ line ∷ lines_of text
unfolding lines_of
line_first [] text h = refl
line_first (c ∷ cs) text h = simp (ne_eqb c lf h.0, ne_eqb c cr h.1) (ap (in_first c) (line_first cs text h.2))

pub lines_of_text : (lines : List (List ℕ)) → AllUnbroken lines → lines_of (text_of lines) ≡ lines
unfolding lines_of
lines_of_text [] h = refl
lines_of_text (l ∷ ls) h = line_first l (text_of ls) h.0 ∙ ap (λ (x : List (List ℕ)). l ∷ x) (lines_of_text ls h.1)
