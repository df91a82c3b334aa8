-- `argument_of` takes a word of one to six digits for its value, and refuses every other.
use Rattle.std.proofs.Common.{◌≡◌, sym, ◌∙◌, arith, rules, get_or}
use Rattle.std.specs.Prelude.{None}
use Rattle.wire.proofs.Lists.{all_stop, all_end}
use Rattle.command.specs.Grammar.{is_digit, argument_of}
use Rattle.command.proofs.DigitLaws.{hex_end, hex_room, digit_some, digit_none, out_of_size, in_size, not_digits, digits_are}
use Rattle.command.proofs.argument.argument_of.Goals as goal

pub returns-then-is_empty-w : goal.returns-then-is_empty-w
returns-then-is_empty-w c = sym (out_of_size c.args.w.now (rw c.is_empty.ensures at c.if-is_empty-w.true))

pub overflow_mul-n : goal.overflow_mul-n
overflow_mul-n c =
    let s = in_size c.args.w.now (rw c.is_empty.ensures at c.if-is_empty-w.false) in
    omega (arith, hex_room c.loop-b.n 0 c.loop-b.b-index (omega arith) (omega arith) (omega arith))

pub overflow_add-n : goal.overflow_add-n
overflow_add-n c =
    let s = in_size c.args.w.now (rw c.is_empty.ensures at c.if-is_empty-w.false) in
    let d = digit_some (get_or c.args.w.now c.loop-b.b-index 0) c.in_ok-n.field-0 c.in_ok-n.ensures in
    omega (arith, hex_room c.loop-b.n c.in_ok-n.field-0 c.loop-b.b-index (omega arith) d.2 (omega arith))

pub returns-in_err-n : goal.returns-in_err-n
returns-in_err-n c =
    let w = c.args.w.now in
    let f = digit_none (get_or w c.loop-b.b-index 0) c.in_err-n.ensures in
    let e : argument_of w ≡ None = not_digits w (all_stop is_digit w 0 c.loop-b.b-index (omega arith) f c.loop-b.invariant.2) in
    rw e (search rules)

pub returns : goal.returns
returns c =
    let w = c.args.w.now in
    let s = in_size w (rw c.is_empty.ensures at c.if-is_empty-w.false) in
    let e = all_end is_digit w 0 c.loop-b.b-index (omega arith) c.loop-b.invariant.2 in
    sym (digits_are w c.loop-b.n s e (sym c.loop-b.invariant.1 ∙ hex_end c.loop-b.n w c.loop-b.b-index (omega arith)))
