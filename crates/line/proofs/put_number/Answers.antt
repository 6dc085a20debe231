-- The name, then the digits that the kit wrote.
use Rattle.line.proofs.Decimal.{puts_number}
use Rattle.line.proofs.put_number.Goals as goal

pub returns : goal.returns
returns c =
    let known = c.decimal-size.ensures.len in
    let fits = c.ranges.n.fits in
    let o = puts_number _ _ _ fits known c.decimal-size.ensures.digits c.put_text-at.ensures c.put_text.ensures in
    record { puts = o.0; short = o.1 }
