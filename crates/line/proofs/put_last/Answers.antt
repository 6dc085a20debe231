-- Two numbers after their names.
use mathlib.Core.Path.{sym}
use borrow.Author.Rules.{rules}
use Rattle.line.proofs.Puts.{named_more, named_last}
use Rattle.line.proofs.put_last.Goals as goal

pub returns : goal.returns
returns c =
    record {
      puts = rw (sym c.from.ensures, sym c.from-2.ensures) (named_more _ _ _ _ c.put_number-at.ensures.puts (named_last _ _ c.put_number.ensures.puts));
      short = search rules;
    }
