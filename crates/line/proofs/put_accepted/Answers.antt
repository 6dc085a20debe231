-- Then the others, and the line's end.
use mathlib.Core.Path.{sym}
use Rattle.line.proofs.Puts.{line_length, line_last, line_more, line_end}
use Rattle.line.proofs.put_accepted.Goals as goal

pub returns : goal.returns
returns c =
    let last = line_more _ _ (line_end c.put_text.ensures) _ _ c.put_number-at-2.ensures.puts in
    let numbers = line_more _ _ last _ _ c.put_number-at.ensures.puts in
    rw (sym c.from.ensures, sym c.from-2.ensures)
    (line_length _ _ (line_last _ _ numbers _ _ c.put_last-at.ensures.puts) _ _ _ c.put_length-at.ensures.puts)
