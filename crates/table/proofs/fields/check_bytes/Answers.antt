-- The loop keeps `Checking`; each way out is one of its laws.
use mathlib.Core.Path.{refl}
use Rattle.table.proofs.Answers.{let_pass}
use Rattle.table.proofs.Rows.{field_stands, no_field, none_checked, all_good, all_checked, bad_entry, good_entry, is_called, is_below}
use borrow.Author.Rules.{rules}
use Rattle.table.proofs.fields.check_bytes.Goals as goal

pub returns-in_default : goal.returns-in_default
returns-in_default c = no_field _ _ _ _ _ _ _ c.expect_field-stands.ensures c.in_default.is

pub all_below-requires : goal.all_below-requires
all_below-requires c = (field_stands _ _ _ _ (let_pass c.expect_field-stands.ensures c.in-Ok.is)).fits

pub returns-then-all_below : goal.returns-then-all_below
returns-then-all_below c =
    all_good _ _ _ _ _ _ _ c.expect_field-stands.ensures c.in-Ok.is
    (λ k h. is_below _ _ _ k (c.all_below.ensures c.if-all_below.true k h))

pub loop-k-init : goal.loop-k-init
loop-k-init c =
    none_checked _ _ _ _ _ _ _ c.expect_field-stands.ensures c.in-Ok.is

pub returns-then-limit-s : goal.returns-then-limit-s
returns-then-limit-s c = bad_entry c.loop-k.invariant (search rules) _ (is_called _ _ _ _ (search rules)) refl

pub loop-k-preserved : goal.loop-k-preserved
loop-k-preserved c = good_entry c.loop-k.invariant (search rules) (is_below _ _ _ _ (search rules))

pub returns : goal.returns
returns c = all_checked c.loop-k.invariant (search rules)
