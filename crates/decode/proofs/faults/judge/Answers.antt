-- What is handed back has passed every test.
use Rattle.std.specs.Prelude.{Some, None, cond}
use Rattle.std.proofs.Common.{rules, ◌≡◌, true}
use Rattle.decode.specs.Read.{application_of, kind_of, fields_good, sum_good, body_good}
use Rattle.decode.proofs.Reading.{taken_by}
use Rattle.decode.proofs.faults.judge.Goals as goal

pub invariant_of-result : goal.invariant_of-result
invariant_of-result c =
    let xs = c.in-Ok.packet.now in
    let k = c.in_ok-kind.kind in
    let h : cond (fields_good xs) (kind_of (application_of xs)) None ≡ Some k = search rules in
    let s : sum_good xs ≡ true = search rules in
    let b : body_good (Some k) xs ≡ true = search rules in
    let t = taken_by xs k (search rules) h s b in
    record { taken = t.0; kind_is = t.1; body = b }
