-- Number, place and line end, one after the other.
use mathlib.Core.Path.{sym}
use Rattle.line.proofs.Puts.{line_more, line_end}
use Rattle.line.proofs.put_refused.Goals as goal

pub returns : goal.returns
returns c =
    rw (sym c.from.ensures) (line_more _ _ (line_more _ _ (line_end c.put_text.ensures) _ _ c.put_number-at-2.ensures.puts) _ _ c.put_number-at.ensures.puts)
