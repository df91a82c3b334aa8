-- Buffers of another length are left as they were; those of their length are what a packet is written from.
use Rattle.std.proofs.Common.{◌≡◌, refl, sym, ap, ◌∙◌, true, false, arith, ltb-true, ltb, length}
use Rattle.std.proofs.lemmas.Grind.{common_steps}
use Rattle.causes.specs.declared.Cause.{Cause}
use Rattle.causes.specs.declared.Cause.TheVariants.{BufferOrState, NotListed}
use Rattle.causes.specs.Causes.{cause_number, call_number}
use Rattle.tables.specs.Tables.{table_bytes}
use Rattle.packet.specs.Layout.{packet_bytes}
use Rattle.listing_packet.specs.Listing.{listing_packets}
use Rattle.state.specs.Limits.{within_limits}
use Rattle.processor.specs.Listing.{ListingDone, listing_lent}
use Rattle.processor.proofs.Lent.{failed, passed, other_last, listing_unlent, listing_judged}
use Rattle.processor.proofs.listing.listing.Goals.{In_ok-check, In_ok-check-2}
use Rattle.processor.proofs.listing.listing.Goals as goal

pub returns-in_default-as_mut_array : goal.returns-in_default-as_mut_array
returns-in_default-as_mut_array c =
    let a = c.args in
    let l : listing_lent (length a.tables.now) (length a.out.now) ≡ false = other_last _ _ _ c.in_default-as_mut_array.ensures.cases in
    let e = listing_unlent a.state.now a.i a.time a.tables.now a.out.now l in
    record { number = ap (λ (d : ListingDone). d.number) e; out = ap (λ (d : ListingDone). d.out) e }

within : (c : In_ok-check) → within_limits c.args.state.now ≡ true
within c = sym c.within_limits.ensures ∙ passed c.within_limits.result _ _ _ c.check.result c.check.ensures c.in_ok-check.was

listed : (c : In_ok-check-2) → ltb c.args.i listing_packets ≡ true
listed c = rw c.from.ensures at (passed (ltb c.from.result listing_packets) _ _ _ c.check-2.result c.check-2.ensures c.in_ok-check-2.was)

pub returns-in_err-check : goal.returns-in_err-check
returns-in_err-check c =
    let a = c.args in
    let t : length a.tables.now ≡ table_bytes = c.in-Ok.ensures.1.long in
    let o : length a.out.now ≡ packet_bytes = c.in-Some.ensures.cases.long in
    let x : Cause = c.in_err-check.field-0.0 in
    let f : (c.within_limits.result ≡ false) × (x ≡ BufferOrState) =
    failed c.within_limits.result _ _ x c.check.result c.check.ensures c.in_err-check.was in
    let n : call_number c.from_residual.result ≡ cause_number x = grind (arith, common_steps) in
    let e = listing_judged a.state.now a.i a.time a.tables.now a.out.now false _ t o (sym c.within_limits.ensures ∙ f.0) refl in
    record {
      number = n ∙ ap cause_number f.1 ∙ ap (λ (d : ListingDone). d.number) e;
      out = c.in-Some.ensures.cases.same ∙ ap (λ (d : ListingDone). d.out) e;
    }

pub returns-in_err-check-2 : goal.returns-in_err-check-2
returns-in_err-check-2 c =
    let a = c.args in
    let t : length a.tables.now ≡ table_bytes = c.in-Ok.ensures.1.long in
    let o : length a.out.now ≡ packet_bytes = c.in-Some.ensures.cases.long in
    let x : Cause = c.in_err-check-2.field-0.0 in
    let f : (ltb c.from.result listing_packets ≡ false) × (x ≡ NotListed) =
    failed (ltb c.from.result listing_packets) _ _ x c.check-2.result c.check-2.ensures c.in_err-check-2.was in
    let n : call_number c.from_residual-in_err-check-2.result ≡ cause_number x = grind (arith, common_steps) in
    let w : within_limits a.state.now ≡ true = within (goal.at.returns-in_err-check-2 c).In_ok-check in
    let e = listing_judged a.state.now a.i a.time a.tables.now a.out.now true false t o w (rw c.from.ensures at f.0) in
    record {
      number = n ∙ ap cause_number f.1 ∙ ap (λ (d : ListingDone). d.number) e;
      out = c.in-Some.ensures.cases.same ∙ ap (λ (d : ListingDone). d.out) e;
    }

pub write_listing-requires : goal.write_listing-requires
write_listing-requires c =
    let o : length c.in-Some.out.now ≡ packet_bytes = ap length c.in-Some.ensures.cases.same ∙ c.in-Some.ensures.cases.long in
    let l = ltb-true c.args.i listing_packets (listed (goal.at.write_listing-requires c).In_ok-check-2) in
    (o, omega (arith, c.from-2.ensures))
