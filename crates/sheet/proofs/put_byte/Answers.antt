-- Each way to write a byte.
use Rattle.sheet.proofs.Quoting.{quote_put, control_put, sign_put}
use Rattle.sheet.proofs.put_byte.Goals as goal

pub returns-then-b-eq34-clause-puts : goal.returns-then-b-eq34-clause-puts
returns-then-b-eq34-clause-puts c = quote_put c.if-b-eq34.true c.put_text.ensures

pub returns-then-is_ascii_control-clause-puts : goal.returns-then-is_ascii_control-clause-puts
returns-then-is_ascii_control-clause-puts c =
    control_put c.if-b-eq34.false c.if-is_ascii_control.ensures.cases c.put_text-then-is_ascii_control.ensures

pub returns-clause-puts : goal.returns-clause-puts
returns-clause-puts c = sign_put c.if-b-eq34.false c.if-is_ascii_control.ensures.cases c.put_text-2.ensures
