-- The numbers and the line's end after the name.
use Rattle.line.proofs.Puts.{puts_counts}
use Rattle.sheet.proofs.Joining.{row_after}
use Rattle.sheet.specs.Sheet.{refused_line}
use Rattle.sheet.proofs.write_refused.Goals as goal

pub returns : goal.returns
unfolding refused_line
returns c =
    let whole = row_after _ c.put_refused-at.ensures.puts (rw c.from.ensures at c.put_numbers.ensures.puts) in
    record { puts = whole; counts = puts_counts whole }
