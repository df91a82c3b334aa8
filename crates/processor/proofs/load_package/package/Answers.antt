-- Buffers of another length are left as they were; those of their length are what a package is staged in.
use Rattle.std.proofs.Common.{◌≡◌, refl, ap, ◌∙◌, Bool, true, false, not, cond, eqb, length, Ok, Err}
use Rattle.causes.specs.declared.Cause.TheVariants.{PackageSum}
use Rattle.causes.specs.Causes.{carried_out, package_sum, call_number}
use Rattle.echo.specs.Echo.{echo_bytes}
use Rattle.load.specs.Bitmap.{bitmap_bytes}
use Rattle.load.specs.Staging.{staging_bytes, received_sum, computed_sum}
use Rattle.take_package.specs.Judged.{number_of}
use Rattle.take_package.specs.Package.{package_lent}
use Rattle.processor.specs.Package.{PackageDone}
use Rattle.processor.proofs.Lent.{other_first, other_second, other_last, package_unlent, package_taken}
use Rattle.processor.proofs.load_package.package.Goals as goal

pub returns-in_default : goal.returns-in_default
returns-in_default c =
    let a = c.args in
    let l : package_lent (length a.staging.now) (length a.bitmap.now) (length a.echo.now) ≡ false =
    other_first _ _ _ _ _ _ c.in_default.ensures.cases in
    let e = package_unlent a.state.now a.bytes.now a.staging.now a.bitmap.now a.echo.now l in
    record {
      number = ap (λ (d : PackageDone). d.answer.number) e;
      state = ap (λ (d : PackageDone). d.answer.state) e;
      staging = ap (λ (d : PackageDone). d.staging) e;
      bitmap = ap (λ (d : PackageDone). d.bitmap) e;
      echo = ap (λ (d : PackageDone). d.echo) e;
    }

pub returns-in_default-as_mut_array : goal.returns-in_default-as_mut_array
returns-in_default-as_mut_array c =
    let a = c.args in
    let l : package_lent (length a.staging.now) (length a.bitmap.now) (length a.echo.now) ≡ false =
    other_second _ _ _ _ _ _ c.in_default-as_mut_array.ensures.cases in
    let e = package_unlent a.state.now a.bytes.now a.staging.now a.bitmap.now a.echo.now l in
    record {
      number = ap (λ (d : PackageDone). d.answer.number) e;
      state = ap (λ (d : PackageDone). d.answer.state) e;
      staging = c.in-Some.ensures.cases.same ∙ ap (λ (d : PackageDone). d.staging) e;
      bitmap = ap (λ (d : PackageDone). d.bitmap) e;
      echo = ap (λ (d : PackageDone). d.echo) e;
    }

pub returns-in_default-as_mut_array-2 : goal.returns-in_default-as_mut_array-2
returns-in_default-as_mut_array-2 c =
    let a = c.args in
    let l : package_lent (length a.staging.now) (length a.bitmap.now) (length a.echo.now) ≡ false =
    other_last _ _ _ c.in_default-as_mut_array-2.ensures.cases in
    let e = package_unlent a.state.now a.bytes.now a.staging.now a.bitmap.now a.echo.now l in
    record {
      number = ap (λ (d : PackageDone). d.answer.number) e;
      state = ap (λ (d : PackageDone). d.answer.state) e;
      staging = c.in-Some.ensures.cases.same ∙ ap (λ (d : PackageDone). d.staging) e;
      bitmap = c.in-Some-as_mut_array.ensures.cases.same ∙ ap (λ (d : PackageDone). d.bitmap) e;
      echo = ap (λ (d : PackageDone). d.echo) e;
    }

-- the answer of a package that is staged
told : {A : Type 0} (right : Bool) (u : A) → call_number (cond (not (not right)) (Ok u) (Err PackageSum)) ≡ cond right carried_out package_sum
told true u = refl
told false u = refl

pub returns : goal.returns
returns c =
    let a = c.args in
    let s : length a.staging.now ≡ staging_bytes = c.in-Some.ensures.cases.long in
    let b : length a.bitmap.now ≡ bitmap_bytes = c.in-Some-as_mut_array.ensures.cases.long in
    let o : length a.echo.now ≡ echo_bytes = c.in-Some-as_mut_array-2.ensures.cases.long in
    let same = c.in_ok-sent.ensures.0 in
    let right : Bool = c.sum_right-wrong.result in
    let r : right ≡ eqb (received_sum a.bytes.now) (computed_sum a.bytes.now) = rw same at c.sum_right-wrong.ensures in
    let n : number_of a.state.now a.bytes.now ≡ cond right carried_out package_sum = rw r c.in_ok-sent.ensures.2 in
    let e = package_taken a.state.now a.bytes.now a.staging.now a.bitmap.now a.echo.now s b o right n in
    record {
      number = ap call_number c.check.ensures ∙ told right _ ∙ ap (λ (d : PackageDone). d.answer.number) e;
      state = (rw same at c.stage.ensures.state) ∙ ap (λ (d : PackageDone). d.answer.state) e;
      staging = (rw (same, c.in-Some.ensures.cases.same) at c.stage.ensures.staging) ∙ ap (λ (d : PackageDone). d.staging) e;
      bitmap = (rw (same, c.in-Some-as_mut_array.ensures.cases.same) at c.stage.ensures.bitmap) ∙ ap (λ (d : PackageDone). d.bitmap) e;
      echo = (rw same at c.echo_staged.ensures) ∙ ap (λ (d : PackageDone). d.echo) e;
    }
