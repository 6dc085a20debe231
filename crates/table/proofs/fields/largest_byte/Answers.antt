-- The slice gone through has as many bytes as there are entries, and each is its entry.
use Rattle.std.proofs.Common.{ap, arith, ◌∙◌, ◌<◌}
use Rattle.table.proofs.AtOnce.{none_seen, one_seen, all_seen, as_many, same_entry}
use Rattle.table.proofs.fields.largest_byte.Goals as goal
use Prim.Native.Nat.{max}

pub loop-byte-init : goal.loop-byte-init
loop-byte-init c = none_seen

pub loop-byte-preserved : goal.loop-byte-preserved
loop-byte-preserved c =
    let more : c.loop-byte.byte-index < c.args.n = rw (as_many c.args.s.now c.args.at c.args.n c.requires) at c.loop-byte-test.true in
    one_seen c.loop-byte.invariant more _ (c.max-top.ensures ∙ ap (max c.loop-byte.top) (same_entry c.args.s.now c.args.at c.args.n c.requires _ more))

pub returns : goal.returns
returns c = all_seen c.loop-byte.invariant (let e = as_many c.args.s.now c.args.at c.args.n c.requires in omega (arith, e, c.loop-byte-test.false))
