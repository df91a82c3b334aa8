-- A close that is judged wrong leaves all as it was. One that is judged right has what its packets and `end` require.
use Rattle.std.proofs.Common.{◌≡◌, sym, ap, ◌∙◌, true, false, ◌&&◌, arith, rules, length}
use Rattle.causes.specs.declared.Cause.{Cause}
use Rattle.causes.specs.declared.Cause.TheVariants.{BufferOrState}
use Rattle.causes.specs.Causes.{cause_number, call_number}
use Rattle.capacity.proofs.NumberLaws.{slots_in_packets, samples_byte}
use Rattle.output.specs.Output.{span_bytes}
use Rattle.end_interval.specs.End.{endable}
use Rattle.processor.specs.Close.{CloseDone, out_right}
use Rattle.processor.proofs.CallLaws.{CloseAccepted, close_right}
use Rattle.processor.proofs.Lent.{failed, passed, close_refused, close_carried}
use Rattle.processor.proofs.close.close.Goals.{In_ok-check}
use Rattle.processor.proofs.close.close.Goals as goal

pub returns-in_err-check : goal.returns-in_err-check
returns-in_err-check c =
    let a = c.args in
    let x : Cause = c.in_err-check.field-0.0 in
    let f : (c.is_right.result ≡ false) × (x ≡ BufferOrState) = failed c.is_right.result _ _ x c.check.result c.check.ensures c.in_err-check.was in
    let n : call_number c.from_residual.result ≡ cause_number x = search rules in
    let e = close_refused a.state.now a.time a.tables.now a.staging.now a.slots.now a.out.now (sym c.is_right.ensures ∙ f.0) in
    record {
      number = n ∙ ap cause_number f.1 ∙ ap (λ (d : CloseDone). d.answer.number) e;
      state = ap (λ (d : CloseDone). d.answer.state) e;
      summary = search rules;
      tables = ap (λ (d : CloseDone). d.tables) e;
      slots = ap (λ (d : CloseDone). d.slots) e;
      out = ap (λ (d : CloseDone). d.out) e;
    }

right_is : (l : In_ok-check)
    → let a = l.args in
    (endable a.state.now (length a.tables.now) (length a.staging.now) a.slots.now && out_right a.state.now.capacity (length a.out.now)) ≡ true
right_is l = sym l.is_right.ensures ∙ passed l.is_right.result _ _ _ l.check.result l.check.ensures l.in_ok-check.was

accepted : (l : In_ok-check)
    → let a = l.args in
    CloseAccepted a.state.now (length a.tables.now) (length a.staging.now) a.slots.now (length a.out.now)
accepted l =
    let a = l.args in
    close_right a.state.now (length a.tables.now) (length a.staging.now) a.slots.now (length a.out.now) (right_is l)

-- A state that is judged right is within its limits, so that its summary
-- is that of its interval.
pub summary_of-summary-requires : goal.summary_of-summary-requires
summary_of-summary-requires c = (accepted (goal.at.summary_of-summary-requires c).In_ok-check).limits

pub write_packets-requires : goal.write_packets-requires
write_packets-requires c =
    let k = accepted (goal.at.write_packets-requires c).In_ok-check in
    let capacity = c.args.state.now.capacity in
    record {
      s_value = (k.limits, k.lent.tables_are, k.out_is ∙ sym (ap span_bytes c.close_span-span.ensures));
      summary_value = c.summary_of-summary.ensures;
      many_in_bounds = rw c.close_span-span.ensures (
        omega (arith, k.lent.slots_are, slots_in_packets capacity),
        omega (arith, samples_byte capacity),
      );
    }

pub end-requires : goal.end-requires
end-requires c = (accepted (goal.at.end-requires c).In_ok-check).can_end

pub returns : goal.returns
returns c =
    let a = c.args in
    let e = close_carried a.state.now a.time a.tables.now a.staging.now a.slots.now a.out.now (right_is (goal.at.returns c).In_ok-check) in
    record {
      number = ap (λ (d : CloseDone). d.answer.number) e;
      state = c.end.ensures.state ∙ ap (λ (d : CloseDone). d.answer.state) e;
      summary = c.summary_of-summary.ensures ∙ ap (λ (d : CloseDone). d.answer.summary) e;
      tables = c.end.ensures.tables ∙ ap (λ (d : CloseDone). d.tables) e;
      slots = c.end.ensures.slots ∙ ap (λ (d : CloseDone). d.slots) e;
      out = (rw c.close_span-span.ensures at c.write_packets.ensures) ∙ ap (λ (d : CloseDone). d.out) e;
    }
