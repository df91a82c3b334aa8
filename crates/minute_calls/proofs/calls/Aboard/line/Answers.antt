-- `line` hands the bytes before the first zero to the processor.
use Rattle.std.proofs.Common.{rules, sym}
use Rattle.minute_calls.proofs.calls.Aboard.line.Goals as goal

pub returns-in_err-line-clause-number : goal.returns-in_err-line-clause-number
returns-in_err-line-clause-number c = simp (sym c.line_in-line.ensures) (search rules)

pub returns-in_err-line-clause-state : goal.returns-in_err-line-clause-state
returns-in_err-line-clause-state c = simp (sym c.line_in-line.ensures) c.line.ensures.state

pub returns-clause-number : goal.returns-clause-number
returns-clause-number c = simp (sym c.line_in-line.ensures) c.in_ok-line.ensures.number

pub returns-clause-state : goal.returns-clause-state
returns-clause-state c = simp (sym c.line_in-line.ensures) c.line.ensures.state
