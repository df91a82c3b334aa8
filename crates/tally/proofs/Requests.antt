-- The law of each request: one clause for each in `law`, at the end. Assumes nothing.
use Rattle.std.proofs.Common.{◌≡◌, refl, sym, ap, ◌∙◌, subst, true, true≢false, List, [], ◌∷◌, ℕ, ◌≤◌, ◌<◌, arith, eqb-true, eqb}
use Rattle.std.proofs.Common.{length, length-append}
use borrow.Author.Tests.{not-true}
use Rattle.wire.specs.Bytes.{zeros}
use Rattle.wire.specs.Lists.{all}
use Rattle.wire.proofs.Lists.{decide}
use Rattle.sort.specs.declared.event.Event.{Event}
use Rattle.sort.specs.Event.{in_range}
use Rattle.packet.specs.TableSum.{table_sum}
use Rattle.settings.specs.declared.Settings.{Settings}
use Rattle.command.specs.declared.command.Command.{Command}
use Rattle.command.specs.declared.command.Command.TheVariants.{Set, Load}
use Rattle.command.specs.declared.command.Setting.TheVariants.{Limhi, Eonly, Toferror, Junk, Hv, Hvstep}
use Rattle.command.specs.Change.{settings_after}
use Rattle.load.proofs.BitmapLaws.{length_bitmap}
use Rattle.load.proofs.StagingLaws.{addresses_are, length_staging_after}
use Rattle.command_list.specs.declared.Waiting.{Waiting}
use Rattle.command_list.specs.CommandList.{given_at}
use Rattle.command_list.specs.Run.{settings_after_all, tables_after_all}
use Rattle.command_list.proofs.CommandListLaws.{waiting_with}
use Rattle.command_list.proofs.RunLaws.{length_tables_after_all}
use Rattle.load.specs.Staging.{staging_bytes, payload_bytes}
use Rattle.tables.specs.Tables.{table_bytes}
use Rattle.state.specs.Limits.{within_limits}
use Rattle.state.specs.State.{with_interval}
use Rattle.state.proofs.LimitLaws.{state_limits}
use Rattle.take_line.specs.Line.{state_after_line}
use Rattle.take_package.specs.Package.{is_staged}
use Rattle.end_interval.proofs.EndLaws.{ended_within}
use Rattle.processor.specs.Event.{event_done}
use Rattle.processor.specs.Reading.{reading_done}
use Rattle.processor.specs.Line.{line_done}
use Rattle.processor.specs.Package.{package_done}
use Rattle.processor.specs.Close.{close_span, close_done}
use Rattle.processor.specs.Listing.{listing_done}
use Rattle.processor.proofs.LimitsKept.{event_kept, reading_kept, line_kept, package_kept, close_kept}
use Rattle.tally.specs.World.{with_state, with_slots, own, all_own}
use Rattle.tally.specs.Calls.{Counts8, Request, event, reading, line, load_package, listing, answered, closed_with, nothing, one_event, one_ended}
use Rattle.tally.specs.Calls.{made, sent_in, ends, processed, close_processed, SingleRequest, asks, close, single_processed}
use Rattle.tally.specs.Tally.{Tally, events_of, selected, ranges_for, line_for, good_for}
use Rattle.tally.specs.Tally.{ended, sent_for, totals_of, frame_of, tallied, close_tallied, single_tallied}
use Rattle.tally.specs.View.{view_state, view}
use Rattle.tally.proofs.Balance.{summary_balanced}
use Rattle.tally.proofs.Intervals.{slots_are, summary_viewed, ended_right}
use Rattle.tally.proofs.Invariant.{all_snoc, Sizes, Inv, commands_most}
use Rattle.tally.proofs.Law.{Law, none_balanced, right_plain}
use Rattle.tally.proofs.Numbers.{event_number_lem, reading_number_lem, line_number_lem, package_number_lem, close_number_lem, listing_number_lem}
use Rattle.tally.proofs.Numbers.{event_range, line_accepted, package_passed, close_finds, listing_finds}
use Rattle.tally.proofs.Staged.{none_waits, line_known, ended_known, staged_known, line_right, line_agrees, ended_tables}
use Rattle.tally.proofs.States.{event_slots, event_interval, reading_interval, line_state, empty_slots, ended_state}

-- ---- an event

event_law : (e : Event) → Law (λ w. processed w (event e)) (λ t l. tallied t l (event e))
unfolding processed tallied view event_done
event_law e = record {
  refused = λ w h. record { left = rw h; none_taken = refl; balanced = tt };
  limits = λ w n h. event_kept w.state h w.buffers.tables w.buffers.slots e;
  between = λ w h. (decide (processed w (event e)).carried (λ q. rw q) (λ q. rw q), refl);
  of_tally = λ t v. record {
    alike = λ l. ap (λ (n : ℕ). eqb n 0) (event_number_lem t v l e);
    refusal = λ l q. ap answered (event_number_lem t v l e);
    same = λ q. rw (event_number_lem t v all_own e ∙ eqb-true _ 0 q) (λ i.
        made true (with_slots (view t) (with_interval (view_state t) (event_interval t v e i)) (event_slots t v e i)) (answered 0) one_event);
    kept = λ q lim. record {
      limits = lim;
      range = all_snoc (λ x. in_range x ≡ true) (events_of t) e v.range (event_range t e (eqb-true _ 0 q));
      staged = v.staged;
      commit = v.commit;
      agrees = v.agrees;
      sized = v.sized;
    };
    right = λ q. right_plain t _ refl (λ c. refl) refl refl (sym (length-append (events_of t) (e ∷ [])));
  };
}

-- ---- a reading

reading_law : (c : Counts8) → Law (λ w. processed w (reading c)) (λ t l. tallied t l (reading c))
unfolding processed tallied view reading_done
reading_law c = record {
  refused = λ w h. record { left = rw h; none_taken = refl; balanced = tt };
  limits = λ w n h. reading_kept w.state h c.counts c.below;
  between = λ w h. (decide (processed w (reading c)).carried (λ q. rw q) (λ q. rw q), refl);
  of_tally = λ t v. record {
    alike = λ l. ap (λ (n : ℕ). eqb n 0) (reading_number_lem t v l);
    refusal = λ l q. ap answered (reading_number_lem t v l);
    same = λ q. rw (reading_number_lem t v all_own ∙ eqb-true _ 0 q) (λ i.
        made true (with_state (view t) (with_interval (view_state t) (reading_interval t c.counts i))) (answered 0) nothing);
    kept = λ q lim. record {
      limits = lim;
      range = v.range;
      staged = v.staged;
      commit = v.commit;
      agrees = v.agrees;
      sized = v.sized;
    };
    right = λ q. right_plain t _ refl (λ c. refl) refl refl (omega arith);
  };
}

-- ---- a line

line_law : (bytes echo : List ℕ) → Law (λ w. processed w (line bytes echo)) (λ t l. tallied t l (line bytes echo))
unfolding processed tallied view line_done state_after_line
line_law bytes echo = record {
  refused = λ w h. record { left = rw h; none_taken = refl; balanced = tt };
  limits = λ w n h. line_kept w.state h bytes w.buffers.staging w.buffers.bitmap echo n;
  between = λ w h. (decide (processed w (line bytes echo)).carried (λ q. rw q) (λ q. rw q), refl);
  of_tally = λ t v. record {
    alike = λ l. ap (λ (n : ℕ). eqb n 0) (line_number_lem t v l bytes echo);
    refusal = λ l q. rw (line_number_lem t v l bytes echo, q);
    same = λ q. rw (line_number_lem t v all_own bytes echo ∙ eqb-true _ 0 q) (λ i.
        let s = line_state t v (line_for t bytes) (line_accepted t bytes echo (eqb-true _ 0 q)).room in
        made true (with_state (view t) (s i)) (tallied t all_own (line bytes echo)).done nothing);
    kept = λ q lim. record {
      limits = lim;
      range = v.range;
      staged = line_known t v (line_for t bytes);
      commit = line_right t v (line_for t bytes) (good_for t own) (line_accepted t bytes echo (eqb-true _ 0 q)).sound (λ g. g);
      agrees = let a = line_accepted t bytes echo (eqb-true _ 0 q) in line_agrees t v (line_for t bytes) a.free a.agrees;
      sized = v.sized;
    };
    right = λ q. right_plain t _ refl (λ c. refl) refl refl (omega arith);
  };
}

-- ---- a package

package_law : (bytes echo : List ℕ) → Law (λ w. processed w (load_package bytes echo)) (λ t l. tallied t l (load_package bytes echo))
unfolding processed tallied view package_done
package_law bytes echo = record {
  refused = λ w h. record { left = rw h; none_taken = refl; balanced = tt };
  limits = λ w n h. package_kept w.state h bytes w.buffers.staging w.buffers.bitmap echo;
  between = λ w h. (decide (processed w (load_package bytes echo)).carried (λ q. rw q) (λ q. rw q), refl);
  of_tally = λ t v. record {
    alike = λ l. ap is_staged (package_number_lem t v l bytes echo);
    refusal = λ l q. rw (package_number_lem t v l bytes echo, q);
    same = λ q. rw (package_number_lem t v all_own bytes echo, q, (package_passed t bytes echo q).passed.number_tells);
    kept = λ q lim.
        let k = package_passed t bytes echo q in
        record {
          limits = lim;
          range = v.range;
          staged = staged_known t v bytes echo q;
          commit = λ w. absurd (true≢false (sym w ∙ not-true _ k.passed.none_waits));
          agrees = λ w. absurd (true≢false (sym w ∙ not-true _ k.passed.none_waits));
          sized = record {
            hvstep_fits = v.sized.hvstep_fits;
            tables_are = v.sized.tables_are;
            staging_is = length_staging_after t.staging bytes t.addresses.next k.lengths.staging_is
                (rw (k.passed.is_formed, k.passed.is_fitting)) ∙ sym k.lengths.staging_is ∙ v.sized.staging_is;
            bitmap_is = length_bitmap t.bitmap t.addresses.next (payload_bytes bytes) _ ∙ v.sized.bitmap_is;
          };
        };
    right = λ q. right_plain t _ refl (λ c. refl) refl refl (omega arith);
  };
}

-- ---- a close

-- no command makes hvstep more than a byte
command_fits : (s : Settings) (c : Command) → s.hvstep < 256 → (settings_after s c).hvstep < 256
command_fits s (Set Limhi n) h = h
command_fits s (Set Eonly n) h = h
command_fits s (Set Toferror n) h = h
command_fits s (Set Junk n) h = h
command_fits s (Set Hv n) h = h
command_fits s (Set Hvstep n) h = omega arith
command_fits s (Load a y) h = h

commands_fit : (s : Settings) (ws : List Waiting) → s.hvstep < 256 → (settings_after_all s ws).hvstep < 256
unfolding settings_after_all
commands_fit s [] h = h
commands_fit s (w ∷ ws) h = commands_fit (settings_after s w.command) ws (command_fits s w.command h)

-- what the end of an interval makes of the world is the tally's
pub ends_is : {z : Sizes} (t : Tally) → Inv z t → ends (view t) ≡ view (ended t)
unfolding view
ends_is t v = λ i. record {
  state = ended_state t i;
  buffers = record {
    tables = tables_after_all t.tables t.staging t.addresses.reach (waiting_with t.commands.accepted t.commands.waiting i);
    staging = t.staging;
    bitmap = t.bitmap;
    slots = (ap zeros (slots_are t v) ∙ empty_slots (ended t) refl) i;
  };
}

-- and what is kept is kept, where tables and staging have their lengths
pub ended_kept : {z : Sizes} (t : Tally) → Inv z t → length t.tables ≡ table_bytes → length t.staging ≡ staging_bytes
    → Inv z (ended t)
ended_kept t v lt ls =
    let r = addresses_are t.addresses (state_limits (view_state t) v.limits).staging in
    let n = ranges_for t in
    let g = subst (λ ws. all (given_at n) ws ≡ true) (waiting_with t.commands.accepted t.commands.waiting) (commands_most t v).given in
    let k : t.addresses.reach ≤ length t.staging = omega (arith, r.1, ls) in
    record {
      limits = subst (λ s. within_limits s ≡ true) (ended_state t) (ended_within (view_state t) v.limits);
      range = tt;
      staged = ended_known t v;
      commit = λ w. absurd (none_waits w);
      agrees = λ w. absurd (none_waits w);
      sized = record {
        hvstep_fits = commands_fit t.settings t.commands.waiting v.sized.hvstep_fits;
        tables_are = length_tables_after_all t.staging n k t.tables t.commands.waiting lt g ∙ sym lt ∙ v.sized.tables_are;
        staging_is = v.sized.staging_is;
        bitmap_is = v.sized.bitmap_is;
      };
    }

-- what it hands to the packets is the tally's
pub sent_at : {z : Sizes} (t : Tally) → Inv z t → (time : ℕ) → sent_in (view t) time ≡ sent_for t time
unfolding view
sent_at t v time = λ i. record {
  ended = record {
    frame = frame_of t;
    time = time;
    totals = totals_of t;
    summary = summary_viewed t v i;
    settings = t.settings;
    sum = table_sum t.tables;
    slots = (selected t).slots;
  };
  span = close_span t.capacity;
}

one_none : {A : Type 0} (x : A) → x ∷ [] ≡ [] → ⊥
one_none x h = omega (arith, ap length h)

close_law : (time : ℕ) (out : List ℕ) → Law (λ w. close_processed w time out) (λ t l. close_tallied t l time out)
unfolding close_processed close_tallied view close_done
close_law time out = record {
  refused = λ w h. record { left = rw h; none_taken = rw h; balanced = rw h (none_balanced, tt) };
  limits = λ w n h. close_kept w.state h time w.buffers.tables w.buffers.staging w.buffers.slots out;
  between = λ w h.
      decide (close_processed w time out).carried
      (λ q. absurd (one_none _ (rw q at h))) (λ q. (rw q, rw q));
  of_tally = λ t v. record {
    alike = λ l. ap (λ (n : ℕ). eqb n 0) (close_number_lem t v l time out);
    refusal = λ l q. rw (close_number_lem t v l time out, q);
    same = λ q. rw (close_number_lem t v all_own time out ∙ eqb-true _ 0 q)
        (λ i. made true (ends_is t v i) (closed_with (sent_at t v time i)) (one_ended (sent_at t v time i)));
    kept = λ q lim. let f = close_finds t out (eqb-true _ 0 q) in ended_kept t v f.0 f.1;
    right = λ q. record {
      balanced = (summary_balanced t, tt);
      summaries_are = λ c. refl;
      intervals = (ended_right t v time, tt);
      tables_run = (ended_tables t v, tt);
      listings = tt;
      all_said = λ c x y. absurd (one_none _ x);
      events = omega arith;
    };
  };
}

-- ---- a listing

listing_law : (i time : ℕ) (out : List ℕ) → Law (λ w. processed w (listing i time out)) (λ t l. tallied t l (listing i time out))
unfolding processed tallied view listing_done
listing_law i time out = record {
  refused = λ w h. record { left = rw h; none_taken = refl; balanced = tt };
  limits = λ w n h. h;
  between = λ w h. (refl, refl);
  of_tally = λ t v. record {
    alike = λ l. ap (λ (n : ℕ). eqb n 0) (listing_number_lem t v l i time out);
    refusal = λ l q. rw (listing_number_lem t v l i time out, q);
    same = λ q. rw (listing_number_lem t v all_own i time out ∙ eqb-true _ 0 q);
    kept = λ q lim. v;
    right = λ q.
        let f = listing_finds t i out (eqb-true _ 0 q) in
        record {
          balanced = tt;
          summaries_are = λ c. refl;
          intervals = tt;
          tables_run = tt;
          listings = (record { listing_is = refl; tables_are = f.0; i_below = f.1; out_is = refl }, tt);
          all_said = λ c x y. absurd (one_none _ y);
          events = omega arith;
        };
  };
}

-- ---- every request

pub law : (a : Request) → Law (λ w. processed w a) (λ t l. tallied t l a)
law (event e) = event_law e
law (reading c) = reading_law c
law (line bytes echo) = line_law bytes echo
law (load_package bytes echo) = package_law bytes echo
law (listing i time out) = listing_law i time out

pub single_law : (a : SingleRequest) → Law (λ w. single_processed w a) (λ t l. single_tallied t l a)
unfolding single_processed single_tallied
single_law (asks a) = law a
single_law (close time out) = close_law time out
