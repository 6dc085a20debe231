-- Byte after byte.
use mathlib.Core.Path.{sym}
use borrow.Author.Rules.{rules}
use Rattle.std.proofs.lemmas.List.{get_or-take}
use Rattle.sheet.proofs.Joining.{none_joined, one_joined, all_joined}
use Rattle.sheet.proofs.Whole.{puts_name}
use Rattle.sheet.proofs.put_name.Goals as goal

pub loop-byte-init : goal.loop-byte-init
loop-byte-init c = none_joined _ _ _ _ _

pub loop-byte-preserved : goal.loop-byte-preserved
loop-byte-preserved c =
    one_joined c.loop-byte.invariant (search rules)
    (rw (sym (get_or-take c.min-n.result c.args.name.now c.loop-byte.byte-index 0 (search rules))) c.put_byte-end.ensures.puts)
    c.put_byte-end.ensures.short

pub returns : goal.returns
returns c = let all_of = puts_name _ c.min-n.ensures (all_joined c.loop-byte.invariant (search rules)) in record { puts = all_of.0; short = all_of.1 }
