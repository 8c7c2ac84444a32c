-- The kinds of item and their bytes. Document 01, "The recipe".
use Rattle.std.specs.Prelude.{ℕ, cond, eqb, Option, Some, None}
use Rattle.recipe.specs.declared.Kind.{Kind}
use Rattle.recipe.specs.declared.Kind.TheVariants.{Open, Block, Row, Leave}

-- "0x01 Open", "0x02 Block", "0x03 Row", "0x0F Leave"
abbrev pub code : Kind → ℕ
code Open = 0x01
code Block = 0x02
code Row = 0x03
code Leave = 0x0F

-- the kind that a byte names, where it names one
abbrev pub kind_named : ℕ → Option Kind
kind_named byte =
    cond (eqb byte 0x01) (Some Open)
    (cond (eqb byte 0x02) (Some Block) (cond (eqb byte 0x03) (Some Row) (cond (eqb byte 0x0F) (Some Leave) None)))
