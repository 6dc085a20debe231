-- The loop keeps `Checking`; each way out is one of its laws.
use native.Mathlib.Omega.{arith}
use Rattle.table.proofs.Answers.{let_pass}
use Rattle.table.proofs.Rows.{field_stands, no_field, none_checked, all_good, all_checked, refused_entry, passed_entry}
use borrow.Author.Rules.{rules}
use Rattle.table.proofs.fields.check_sets.Goals as goal

pub returns-in_default : goal.returns-in_default
returns-in_default c = no_field _ _ _ _ _ _ _ c.expect_field-stands.ensures c.in_default.is

pub all_allowed-requires : goal.all_allowed-requires
all_allowed-requires c =
    let room = (field_stands _ _ _ _ (let_pass c.expect_field-stands.ensures c.in-Ok.is)).fits in
    (omega (arith, c.requires), room)

pub returns-then-all_allowed : goal.returns-then-all_allowed
returns-then-all_allowed c =
    all_good _ _ _ _ _ _ _ c.expect_field-stands.ensures c.in-Ok.is (c.all_allowed.ensures c.if-all_allowed.true)

pub loop-k-init : goal.loop-k-init
loop-k-init c =
    none_checked _ _ _ _ _ _ _ c.expect_field-stands.ensures c.in-Ok.is

pub returns-in_default-set : goal.returns-in_default-set
returns-in_default-set c = refused_entry c.loop-k.invariant c.loop-k-test.true _ c.check_set-set.ensures c.in_default-set.is

pub loop-k-preserved : goal.loop-k-preserved
loop-k-preserved c =
    passed_entry c.loop-k.invariant c.loop-k-test.true _ c.check_set-set.ensures c.in-Ok-set.is

pub returns : goal.returns
returns c = all_checked c.loop-k.invariant (search rules)
