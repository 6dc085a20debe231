-- One number more.
use Rattle.std.proofs.Common.{sym, rules, arith, add-one}
use Rattle.std.proofs.lemmas.Grind.{common_steps}
use Rattle.tally.proofs.Sums.{one_added, none_more}
use Rattle.tally.proofs.add_numbers.Goals as goal

pub loop-k-init : goal.loop-k-init
loop-k-init c = record { same_length = search rules; so_far = sym (none_more _) }

pub loop-k-preserved : goal.loop-k-preserved
loop-k-preserved c =
    let more = one_added c.args.sums.now c.args.numbers.now c.loop-k.k c.loop-k-test.true c.requires in
    record {
      same_length = grind (arith, common_steps, c.loop-k.invariant.same_length);
      so_far = rw (add-one, more, c.loop-k.invariant.so_far, c.from.ensures) (search rules);
    }
