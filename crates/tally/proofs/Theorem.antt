-- Demand 3, proved: the law of each request gives one step for each call, and that every list of calls from a fresh processor.
-- Assumes nothing.
use Rattle.std.proofs.Common.{◌≡◌, refl, sym, ◌∙◌, subst, true, List, ℕ, ◌+◌, zero-add, arith, length}
use Rattle.capacity.specs.declared.Capacity.{Capacity}
use Rattle.samples.proofs.SelectionLaws.{filled_selected}
use Rattle.settings.specs.Settings.{fresh_settings}
use Rattle.load.specs.Staging.{fresh_addresses}
use Rattle.state.specs.State.{fresh_state}
use Rattle.state.specs.Limits.{within_limits}
use Rattle.processor.proofs.LimitsKept.{fresh_kept}
use Rattle.tally.specs.Steps.{Done}
use Rattle.tally.specs.World.{World, fresh_world, with_slots, Lending}
use Rattle.tally.specs.Calls.{Call, Answered, Made, processed_by, single_processed, SingleCall, processor_step}
use Rattle.tally.specs.Tally.{unwritten, Tally, fresh_tally, events_of, slots_for, Judged, tallied_by, single_tallied, tally_step}
use Rattle.tally.specs.View.{view_state, view}
use Rattle.tally.specs.Demand3.{Balanced, SamplesCounted, Moment, Right, takes, returned, demand3}
use Rattle.tally.proofs.Balance.{summary_balanced}
use Rattle.tally.proofs.Intervals.{samples_differ, summary_viewed}
use Rattle.tally.proofs.Invariant.{Sizes, Inv, limhi_most}
use Rattle.tally.proofs.SampleCounts.{summary_counted}
use Rattle.tally.proofs.Law.{Law, request_step}
use Rattle.tally.proofs.Requests.{single_law}
use Rattle.tally.proofs.Staged.{none_below, none_right, none_waits}
use Rattle.tally.proofs.States.{empty_slots, no_interval, no_commands_lem}
use Rattle.tally.proofs.StepLaws.{Step, followed, moves}

-- whatever is asked, by its law
pub step_by : {z : Sizes} {A : Type 0} (processed : World → A → Made) (tallied : Tally → Lending → A → Judged)
    → ((a : A) → Law (λ w. processed w a) (λ t l. tallied t l a)) → (t : Tally) (c : Call A) → Inv z t
    → Step view (Inv z) Right t (processed_by processed (view t) c) (tallied_by tallied t c)
unfolding processed_by tallied_by
step_by processed tallied law t c v = request_step t v _ _ (law c.request) c.lent

pub step : {z : Sizes} (t : Tally) (c : SingleCall) → Inv z t → Step view (Inv z) Right t (processor_step (view t) c) (tally_step t c)
step = step_by single_processed single_tallied single_law

pub moment : {z : Sizes} (t : Tally) → Inv z t → Moment t (view t)
unfolding view
moment t v = record {
  same = refl;
  limits = v.limits;
  summary_is = summary_viewed t v;
  balanced = subst Balanced (sym (summary_viewed t v)) (summary_balanced t);
  samples_counted = subst (SamplesCounted t) (sym (summary_viewed t v)) (summary_counted t);
  filled_are = filled_selected (slots_for t) t.settings t.tables (limhi_most t v) (events_of t);
  samples = samples_differ t v;
  staged_known = v.staged;
  commit_right = v.commit;
  commit_agrees = v.agrees;
}

-- ---- a fresh processor

module _ (c : Capacity) (tables staging bitmap : List ℕ) where
  abbrev start : Tally
  start = fresh_tally c tables staging bitmap

  abbrev pub sizes : Sizes
  sizes = record { tables = length tables; staging = length staging; bitmap = length bitmap }

  fresh_state_lem : fresh_state c ≡ view_state start
  unfolding fresh_state
  fresh_state_lem = λ i. record {
    frame = 0;
    interval = no_interval start refl i;
    settings = fresh_settings;
    commands = no_commands_lem i;
    staging = fresh_addresses;
    capacity = c;
  }

  pub fresh_view : fresh_world c tables staging bitmap ≡ view start
  unfolding view
  fresh_view = λ i. with_slots (view start) (fresh_state_lem i) (empty_slots start refl i)

  pub fresh_inv : Inv sizes start
  fresh_inv = record {
    limits = subst (λ s. within_limits s ≡ true) fresh_state_lem (fresh_kept c);
    range = tt;
    staged = none_below bitmap (λ i. unwritten);
    commit = λ w. none_right (λ i. unwritten);
    agrees = λ w. absurd (none_waits w);
    sized = record { hvstep_fits = omega arith; tables_are = refl; staging_is = refl; bitmap_is = refl };
  }

-- ---- the theorem

moved : (t : Tally) (d : Done World Answered) → Right t d
    → (view t).state.interval.taken + takes d.answer ≡ returned d.answer + d.next.state.interval.taken
unfolding view
moved t d r = r.events

pub demand_3 : demand3
unfolding fresh_state
demand_3 c tables staging bitmap cs l =
    let z = sizes c tables staging bitmap in
    let t = fresh_tally c tables staging bitmap in
    let w = fresh_world c tables staging bitmap in
    let v = fresh_inv c tables staging bitmap in
    let e = fresh_view c tables staging bitmap in
    record {
      followed = followed processor_step tally_step view (Inv z) Right step cs t w v e l Moment moment;
      events = sym (zero-add _)
          ∙ moves processor_step tally_step view (Inv z) Right step cs t w v e l (λ w. w.state.interval.taken) takes returned moved;
    }
