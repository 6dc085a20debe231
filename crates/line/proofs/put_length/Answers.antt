-- The first three numbers after their names.
use borrow.Author.Rules.{rules}
use Rattle.line.proofs.Puts.{named_more, named_last}
use Rattle.line.proofs.put_length.Goals as goal

pub returns : goal.returns
returns c =
    record {
      puts = named_more _ _ _ _ (rw c.from.ensures at c.put_number-at.ensures.puts)
          (named_more _ _ _ _ (rw c.from-2.ensures at c.put_number-at-2.ensures.puts) (named_last _ _ (rw c.from-3.ensures at c.put_number.ensures.puts)));
      short = search rules;
    }
