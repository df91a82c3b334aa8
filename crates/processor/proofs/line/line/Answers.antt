-- Buffers of another length are left as they were; those of their length are what a line is judged by.
use Rattle.std.proofs.Common.{◌≡◌, refl, sym, ap, ◌∙◌, true, false, rules, length}
use Rattle.causes.specs.declared.Cause.{Cause}
use Rattle.causes.specs.declared.Cause.TheVariants.{BufferOrState, LineBytes}
use Rattle.causes.specs.Causes.{cause_number, call_number}
use Rattle.echo.specs.Echo.{echo_bytes}
use Rattle.load.specs.Bitmap.{bitmap_bytes}
use Rattle.load.specs.Staging.{staging_bytes}
use Rattle.command.specs.Grammar.{bytes_ok}
use Rattle.state.specs.Limits.{within_limits}
use Rattle.take_line.specs.Line.{LineDone, line_lent}
use Rattle.processor.proofs.Lent.{failed, passed, other_second, other_last, line_unlent, line_judged}
use Rattle.processor.proofs.line.line.Goals as goal

pub returns-in_default-try_from : goal.returns-in_default-try_from
returns-in_default-try_from c =
    let a = c.args in
    let l : line_lent (length a.staging.now) (length a.bitmap.now) (length a.echo.now) ≡ false = other_second _ _ _ _ _ _ c.in_default-try_from.ensures.1 in
    let e = line_unlent a.state.now a.line.now a.staging.now a.bitmap.now a.echo.now l in
    record {
      number = ap (λ (d : LineDone). d.answer.number) e;
      state = ap (λ (d : LineDone). d.answer.state) e;
      sum = search rules;
      echo = ap (λ (d : LineDone). d.echo) e;
    }

pub returns-in_default-as_mut_array : goal.returns-in_default-as_mut_array
returns-in_default-as_mut_array c =
    let a = c.args in
    let l : line_lent (length a.staging.now) (length a.bitmap.now) (length a.echo.now) ≡ false = other_last _ _ _ c.in_default-as_mut_array.ensures.cases in
    let e = line_unlent a.state.now a.line.now a.staging.now a.bitmap.now a.echo.now l in
    record {
      number = ap (λ (d : LineDone). d.answer.number) e;
      state = ap (λ (d : LineDone). d.answer.state) e;
      sum = search rules;
      echo = ap (λ (d : LineDone). d.echo) e;
    }

pub returns-in_err-check : goal.returns-in_err-check
returns-in_err-check c =
    let a = c.args in
    let s : length a.staging.now ≡ staging_bytes = c.in-Ok.ensures.1.long in
    let b : length a.bitmap.now ≡ bitmap_bytes = c.in-Ok-try_from.ensures.1.long in
    let o : length a.echo.now ≡ echo_bytes = c.in-Some.ensures.cases.long in
    let x : Cause = c.in_err-check.field-0.0 in
    let f : (c.within_limits.result ≡ false) × (x ≡ BufferOrState) =
    failed c.within_limits.result _ _ x c.check.result c.check.ensures c.in_err-check.was in
    let n : call_number c.from_residual.result ≡ cause_number x = search rules in
    let e =
    line_judged a.state.now a.line.now a.staging.now a.bitmap.now a.echo.now false _ s b o (sym c.within_limits.ensures ∙ f.0) refl in
    record {
      number = n ∙ ap cause_number f.1 ∙ ap (λ (d : LineDone). d.answer.number) e;
      state = ap (λ (d : LineDone). d.answer.state) e;
      sum = search rules;
      echo = c.in-Some.ensures.cases.same ∙ ap (λ (d : LineDone). d.echo) e;
    }

pub returns-in_err-check-2 : goal.returns-in_err-check-2
returns-in_err-check-2 c =
    let a = c.args in
    let s : length a.staging.now ≡ staging_bytes = c.in-Ok.ensures.1.long in
    let b : length a.bitmap.now ≡ bitmap_bytes = c.in-Ok-try_from.ensures.1.long in
    let o : length a.echo.now ≡ echo_bytes = c.in-Some.ensures.cases.long in
    let w : within_limits a.state.now ≡ true =
    sym c.within_limits.ensures ∙ passed c.within_limits.result _ _ _ c.check.result c.check.ensures c.in_ok-check.was in
    let x : Cause = c.in_err-check-2.field-0.0 in
    let f : (c.bytes_ok.result ≡ false) × (x ≡ LineBytes) =
    failed c.bytes_ok.result _ _ x c.check-2.result c.check-2.ensures c.in_err-check-2.was in
    let n : call_number c.from_residual-in_err-check-2.result ≡ cause_number x = search rules in
    let e =
    line_judged a.state.now a.line.now a.staging.now a.bitmap.now a.echo.now true false s b o w (sym c.bytes_ok.ensures ∙ f.0) in
    record {
      number = n ∙ ap cause_number f.1 ∙ ap (λ (d : LineDone). d.answer.number) e;
      state = ap (λ (d : LineDone). d.answer.state) e;
      sum = search rules;
      echo = c.in-Some.ensures.cases.same ∙ ap (λ (d : LineDone). d.echo) e;
    }

pub returns : goal.returns
returns c =
    let a = c.args in
    let s : length a.staging.now ≡ staging_bytes = c.in-Ok.ensures.1.long in
    let b : length a.bitmap.now ≡ bitmap_bytes = c.in-Ok-try_from.ensures.1.long in
    let o : length a.echo.now ≡ echo_bytes = c.in-Some.ensures.cases.long in
    let w : within_limits a.state.now ≡ true =
    sym c.within_limits.ensures ∙ passed c.within_limits.result _ _ _ c.check.result c.check.ensures c.in_ok-check.was in
    let r : bytes_ok a.line.now ≡ true =
    sym c.bytes_ok.ensures ∙ passed c.bytes_ok.result _ _ _ c.check-2.result c.check-2.ensures c.in_ok-check-2.was in
    let e = line_judged a.state.now a.line.now a.staging.now a.bitmap.now a.echo.now true true s b o w r in
    let staging = c.in-Ok.ensures.1.same in
    let bitmap = c.in-Ok-try_from.ensures.1.same in
    record {
      number = (rw (staging, bitmap) at c.take_line.ensures.number) ∙ ap (λ (d : LineDone). d.answer.number) e;
      state = (rw (staging, bitmap) at c.take_line.ensures.state) ∙ ap (λ (d : LineDone). d.answer.state) e;
      sum = rw (← e) (rw (staging, bitmap) at c.take_line.ensures.sum);
      echo = (rw (staging, bitmap, c.in-Some.ensures.cases.same) at c.take_line.ensures.echo) ∙ ap (λ (d : LineDone). d.echo) e;
    }
