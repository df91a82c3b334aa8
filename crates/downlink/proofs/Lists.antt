-- After every lawful list of calls to a fresh processor the ground reads what the tally keeps of a closed interval: no word of any call.
-- Assumes nothing.
use Rattle.std.proofs.Common.{sym, ap, ◌∙◌, subst, List, ℕ, ◌<◌, arith}
use Rattle.capacity.proofs.NumberLaws.{slots_in_packets}
use Rattle.samples.proofs.Places.{All-map}
use Rattle.samples.proofs.SelectionLaws.{slots_good}
use Rattle.output.specs.Output.{written}
use Rattle.tally.specs.Steps.{Done, after}
use Rattle.tally.specs.World.{World, fresh_world}
use Rattle.tally.specs.Calls.{Sent, Listing, written_listing, Answered, processor_step}
use Rattle.tally.specs.Tally.{Tally, fresh_tally, events_of, slots_for, sent_for, tally_step}
use Rattle.tally.specs.View.{view}
use Rattle.tally.specs.Demand3.{ClosedInterval, ListedPart, Right}
use Rattle.tally.proofs.Corollaries.{now_inv, close_now, listing_now}
use Rattle.tally.proofs.Intervals.{slots_are}
use Rattle.tally.proofs.Invariant.{Sizes, Inv}
use Rattle.tally.proofs.Requests.{sent_at}
use Rattle.tally.proofs.StepLaws.{each}
use Rattle.tally.proofs.Theorem.{step, sizes, fresh_view, fresh_inv}
use Rattle.downlink.specs.Downlink.{ReceivedWhole, Fits, Typed, Listed, Brought, ListReceived, NextReceived, NextListed}
use Rattle.downlink.proofs.Closed.{whole_received, world_fits}
use Rattle.downlink.proofs.Listed.{listing_listed}
use Rattle.downlink.proofs.Ranges.{tally_typed}

-- ---- one call

-- the packets that a close wrote
abbrev packets : Sent → List ℕ
packets e = written e.ended e.span

-- the packets of what the tally keeps
tally_received : {z : Sizes} (t : Tally) → Inv z t → (time : ℕ) → time < 4294967296 → ReceivedWhole (sent_for t time) (packets (sent_for t time))
unfolding view
tally_received t v time ht =
    let e = sent_at t v time in
    whole_received (sent_for t time)
    (subst Fits e
    (world_fits (view t) time (subst (λ (x : Sent). Typed x.ended) (sym e) (tally_typed t v time ht)) v.limits (slots_are t v)
    (slots_good (slots_for t) t.settings t.tables (events_of t) v.range)))
    (omega (arith, slots_are t v, slots_in_packets t.capacity))

module _ {z : Sizes} (t : Tally) (v : Inv z t) (d : Done World Answered) where
  interval_brought : (e : Sent) → ClosedInterval t d.answer.reply e → e.ended.time < 4294967296
      → ReceivedWhole (sent_for t e.ended.time) d.answer.reply.out
  interval_brought e c h =
      subst (ReceivedWhole (sent_for t e.ended.time)) (sym (c.out_is ∙ ap packets c.sent_is)) (tally_received t v e.ended.time h)

  listing_brought : (l : Listing) → ListedPart t d.answer.reply l → Listed t.tables l.i d.answer.reply.out
  listing_brought l p =
      subst (Listed t.tables l.i) (sym (p.out_is ∙ ap written_listing p.listing_is))
      (listing_listed _ l.time l.i p.i_below t.tables p.tables_are)

  brought : Right t d → Brought t d
  brought r = record {
    intervals = All-map _ _ interval_brought d.answer.facts.ended r.intervals;
    listings = All-map _ _ listing_brought d.answer.facts.listings r.listings;
  }

-- ---- any list of calls

pub list_received : ListReceived
list_received c tables staging bitmap cs l =
    each processor_step tally_step view (Inv (sizes c tables staging bitmap)) Right step cs
    (fresh_tally c tables staging bitmap) (fresh_world c tables staging bitmap)
    (fresh_inv c tables staging bitmap) (fresh_view c tables staging bitmap) l Brought (λ t d v r. brought t v d r)

-- ---- the next close

pub next_received : NextReceived
next_received c tables staging bitmap lt ls cs l time out ht lo =
    let t = after tally_step (fresh_tally c tables staging bitmap) cs in
    let q = close_now c tables staging bitmap cs l lt ls time out lo in
    record {
      carried = ap (λ r. r.number) q;
      received = subst (ReceivedWhole (sent_for t time)) (sym (ap (λ r. r.out) q)) (tally_received t (now_inv c tables staging bitmap cs l) time ht);
    }

-- ---- the next listing

pub next_listed : NextListed
next_listed c tables staging bitmap lt cs l i time out h lo =
    let t = after tally_step (fresh_tally c tables staging bitmap) cs in
    let q = (listing_now c tables staging bitmap cs l lt i time out lo).is_written h in
    record {
      carried = ap (λ r. r.number) q;
      listed = subst (Listed t.tables i) (sym (ap (λ r. r.out) q))
          (listing_listed _ time i h t.tables ((now_inv c tables staging bitmap cs l).sized.tables_are ∙ lt));
    }
