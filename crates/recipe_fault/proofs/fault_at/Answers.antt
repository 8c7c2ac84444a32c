-- `recipe_fault::fault_at` meets its contract: its tests are the rules, in their order; behind the end there is no kind, an unknown one.
-- Assumes nothing.
use native.Mathlib.Omega.{arith}
use mathlib.Core.Path.{sym, ◌∙◌}
use lib.ListN.{get_or}
use Rattle.recipe.proofs.Naming.{named}
use Rattle.recipe_fault.proofs.Faulting.{many_there, behind_there, unknown_there, misplaced_there, short_there, illegal_there, faultless_there}
use Rattle.recipe_fault.proofs.fault_at.Goals as goal

pub returns-then-number-eq2049 : goal.returns-then-number-eq2049
returns-then-number-eq2049 c =
    let a = c.args in
    many_there a.input.now a.place a.number a.ended (omega arith)

pub returns-then-input-place : goal.returns-then-input-place
returns-then-input-place c =
    let a = c.args in
    behind_there a.input.now a.place a.number a.ended (λ e. omega arith) (omega arith)

pub returns-in_default : goal.returns-in_default
returns-in_default c =
    let a = c.args in
    unknown_there a.input.now a.place a.number a.ended (λ e. omega arith) (sym c.of.ensures ∙ c.in_default.is)

pub returns-then-out_of_place : goal.returns-then-out_of_place
returns-then-out_of_place c =
    let a = c.args in
    let kind = named (get_or a.input.now a.place 0) c.in-Some.kind (sym c.of.ensures ∙ c.in-Some.is) in
    misplaced_there a.input.now a.place a.number a.ended (λ e. omega arith) c.in-Some.kind kind
    (sym c.out_of_place.ensures ∙ c.if-out_of_place.true)

pub returns-then-input-place-2 : goal.returns-then-input-place-2
returns-then-input-place-2 c =
    let a = c.args in
    let kind = named (get_or a.input.now a.place 0) c.in-Some.kind (sym c.of.ensures ∙ c.in-Some.is) in
    short_there a.input.now a.place a.number a.ended (λ e. omega arith) c.in-Some.kind kind
    (sym c.out_of_place.ensures ∙ c.if-out_of_place.false) c.size_of_kind.result c.size_of_kind.ensures.0 (omega arith)

pub returns-then-is_illegal : goal.returns-then-is_illegal
returns-then-is_illegal c =
    let a = c.args in
    let kind = named (get_or a.input.now a.place 0) c.in-Some.kind (sym c.of.ensures ∙ c.in-Some.is) in
    illegal_there a.input.now a.place a.number a.ended (λ e. omega arith) c.in-Some.kind kind
    (sym c.out_of_place.ensures ∙ c.if-out_of_place.false) c.size_of_kind.result c.size_of_kind.ensures.0 (omega arith)
    c.address_of.result c.address_of.ensures.0 (sym c.is_illegal.ensures ∙ c.if-is_illegal.true)

pub returns : goal.returns
returns c =
    let a = c.args in
    let kind = named (get_or a.input.now a.place 0) c.in-Some.kind (sym c.of.ensures ∙ c.in-Some.is) in
    faultless_there a.input.now a.place a.number a.ended (λ e. omega arith) c.in-Some.kind kind
    (sym c.out_of_place.ensures ∙ c.if-out_of_place.false) c.size_of_kind.result c.size_of_kind.ensures.0 (omega arith)
    c.address_of.result c.address_of.ensures.0 (sym c.is_illegal.ensures ∙ c.if-is_illegal.false)
