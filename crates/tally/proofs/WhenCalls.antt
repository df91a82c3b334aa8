-- When each number comes, of a call to a world that is the tally's. Assumes nothing.
use Rattle.std.proofs.Common.{◌≡◌, refl, sym, ap, ◌∙◌, Bool, true, false, ◌&&◌, not, cond, List, [], ◌∷◌, ◌++◌, ℕ, ◌+◌, ◌≤◌, ◌<◌}
use Rattle.std.proofs.Common.{arith, leb-true, le-leb, lt-ltb, le-ltb, eqb-true, eq-eqb, ne_eqb, eqb, leb, ltb, length, get_or}
use Rattle.std.proofs.Common.{length-append}
use Rattle.std.proofs.Math.Bool.{false≢true}
use borrow.Author.Tests.{lt-leb, eqb-false}
use Rattle.causes.specs.Checks.{Check, number_by, none}
use Rattle.wire.specs.Lists.{all}
use Rattle.wire.proofs.Lists.{decide, and_false, and_split}
use Rattle.wire.proofs.Pieces.{table_at, each_all, each_fails}
use Rattle.sort.specs.declared.event.Event.{Event}
use Rattle.sort.specs.Event.{in_range}
use Rattle.sample_record.specs.Record.{record_good}
use Rattle.samples.proofs.SelectionLaws.{slots_good}
use Rattle.load.specs.Bitmap.{is_bad}
use Rattle.load.specs.Staging.{received_sum, computed_sum, formed, package_checks, staging_after}
use Rattle.load.proofs.BitmapLaws.{bitmap_tells}
use Rattle.command.specs.declared.command.Line.{Line}
use Rattle.command.specs.declared.command.Line.TheVariants.{Empty, Wrong}
use Rattle.command.specs.Asked.{traits_of, sum_agrees}
use Rattle.command.specs.Grammar.{bytes_ok, line_of}
use Rattle.command_list.specs.declared.Waiting.{Waiting}
use Rattle.command_list.specs.CommandList.{waiting_of, command_list_with}
use Rattle.command_list.proofs.CommandListLaws.{waiting_with}
use Rattle.take_event.specs.Event.{event_lent}
use Rattle.take_line.specs.Line.{line_lent, command_checks, sum_returned}
use Rattle.take_package.specs.Package.{package_lent, is_staged}
use Rattle.end_interval.specs.End.{end_lent}
use Rattle.output.specs.Output.{span_bytes}
use Rattle.processor.specs.Reading.{reading_done}
use Rattle.processor.specs.Close.{close_span, out_right}
use Rattle.processor.specs.Listing.{listing_lent}
use Rattle.tally.specs.Steps.{Done}
use Rattle.tally.specs.World.{World, Lending, all_own, own}
use Rattle.tally.specs.Calls.{Counts8, event, reading, line, load_package, listing, answered, closed_with}
use Rattle.tally.specs.Calls.{Answered, processed, processed_by, close_processed, single_processed, SingleRequest, asks, close, owning}
use Rattle.tally.specs.Calls.{processor_step}
use Rattle.tally.specs.Tally.{Wrote, unwritten, by_right, by_wrong, is_wrong, Tally, events_of, slots_for, lent_to, load_waits_for, full_for}
use Rattle.tally.specs.Tally.{totals_of, line_for, good_for, sum_for, event_joined, read}
use Rattle.tally.specs.Tally.{event_number_for, reading_number_for, line_number_for, package_number_for, close_sound_for, close_number_for}
use Rattle.tally.specs.Tally.{listing_number_for}
use Rattle.tally.specs.Tally.{line_taken, package_placed, sent_for, tallied, tallied_by, close_tallied, single_tallied, tally_step}
use Rattle.tally.specs.View.{view}
use Rattle.tally.specs.Texts.{value_of, CommandText, change, load_zero, load_at, ask, commit, text_of}
use Rattle.tally.specs.When.{reply_of, number_of, FieldsInRange, end_of, LentRight, LentWhen, EventWhen, ReadingWhen, Blocked, SomeBad}
use Rattle.tally.specs.When.{Differs}
use Rattle.tally.specs.When.{sum_by, waiting_by, addresses_by, Accepted, CommandWhen, InRangesNow, LineWhen, Placed, PackageWhen}
use Rattle.tally.specs.When.{ListingWhen}
use Rattle.tally.proofs.StepLaws.{shown}
use Rattle.tally.proofs.Intervals.{slots_are}
use Rattle.tally.proofs.Invariant.{Sizes, Inv}
use Rattle.tally.proofs.Loading.{waits_loads, loads_wait}
use Rattle.tally.proofs.Numbers.{event_number_lem, reading_number_lem, line_number_lem, package_number_lem, close_number_lem, listing_number_lem}
use Rattle.tally.proofs.States.{totals_snoc}
use Rattle.tally.proofs.TextLaws.{meant, text_meant}
use Rattle.tally.proofs.ParsedLaws.{none_written}
use Rattle.tally.proofs.WhenLaws.{fails, two_equal, three_equal, one_where, one_only, slots_say, slots_said, fields_say, fields_said}
use Rattle.tally.proofs.WhenLaws.{line_says, line_said}
use Rattle.tally.proofs.WhenLaws.{command_ok_lem, command_number, six, seven, fifteen, sixteen, no_number, package_says, package_said}

-- ---- with the own buffers

-- the byte's writer
wrong_is : (w : Wrote) → is_wrong w ≡ true → w ≡ by_wrong
wrong_is unwritten h = absurd (false≢true h)
wrong_is by_right h = absurd (false≢true h)
wrong_is by_wrong h = refl

module _ {z : Sizes} (t : Tally) (v : Inv z t) where
  -- what the tally was asked, as the processor would have done it
  abbrev pub done_for : SingleRequest → Done World Answered
  done_for a = shown view (tally_step t (owning a))

  reading_left : (c : Counts8) → length t.interval.readings < 60 → (done_for (asks (reading c))).next ≡ view (read t c.counts)
  unfolding tallied_by single_tallied tallied reading_number_for
  reading_left c m = simp (lt-ltb _ _ m)

  reading_more : (c : Counts8) → (view (read t c.counts)).state.interval.readings ≡ length t.interval.readings + 1
  unfolding view
  reading_more c = length-append t.interval.readings (c.counts ∷ [])

  totals_more : (c : Counts8) (i : ℕ) → i < 8
      → get_or (view (read t c.counts)).state.interval.totals i 0 ≡ get_or (totals_of t) i 0 + get_or c.counts i 0
  unfolding view
  totals_more c i h =
      ap (λ (l : List ℕ). get_or l i 0) (sym (totals_snoc t.interval.readings c.counts))
      ∙ table_at (λ k. get_or (totals_of t) k 0 + get_or c.counts k 0) 8 i h

  reading_answers : (c : Counts8) (b : Bool) → ltb (length t.interval.readings) 60 ≡ b
      → reply_of (done_for (asks (reading c))) ≡ answered (cond b 0 3)
  unfolding tallied_by single_tallied tallied reading_number_for
  reading_answers c true q = simp q
  reading_answers c false q = simp q

  pub reading_when : (c : Counts8) → ReadingWhen t c (done_for (asks (reading c)))
  reading_when c = record {
    after_most = λ m. reading_answers c false (le-ltb _ _ m);
    taken = λ m. reading_answers c true (lt-ltb _ _ m);
    counted = λ m. ap (λ (w : World). w.state.interval.readings) (reading_left c m) ∙ reading_more c;
    added = λ m i h. ap (λ (w : World). get_or w.state.interval.totals i 0) (reading_left c m) ∙ totals_more c i h;
  }

  module _ (lt : length t.tables ≡ 62985) where
    event_answers : (e : Event) (b c : Bool) → in_range e ≡ b → ltb (length (events_of t)) 1000000 ≡ c
        → reply_of (done_for (asks (event e))) ≡ answered (cond b (cond c 0 3) 2)
    unfolding tallied_by single_tallied tallied event_number_for
    event_answers e true true r q = simp (eq-eqb _ _ lt, eq-eqb _ _ (slots_are t v), r, q)
    event_answers e true false r q = simp (eq-eqb _ _ lt, eq-eqb _ _ (slots_are t v), r, q)
    event_answers e false c r q = simp (eq-eqb _ _ lt, eq-eqb _ _ (slots_are t v), r)

    event_left : (e : Event) → FieldsInRange e → length (events_of t) < 1000000 → (done_for (asks (event e))).next ≡ view (event_joined t e)
    unfolding tallied_by single_tallied tallied event_number_for
    event_left e r m = simp (eq-eqb _ _ lt, eq-eqb _ _ (slots_are t v), fields_said e r, lt-ltb _ _ m)

    event_more : (e : Event) → (view (event_joined t e)).state.interval.taken ≡ length (events_of t) + 1
    unfolding view
    event_more e = length-append (events_of t) (e ∷ [])

    pub event_when : (e : Event) → EventWhen t e (done_for (asks (event e)))
    event_when e = record {
      over_range = λ n. event_answers e false _ (fails (in_range e) (fields_say e) n) refl;
      after_most = λ r m. event_answers e true false (fields_said e r) (le-ltb _ _ m);
      taken = λ r m. event_answers e true true (fields_said e r) (lt-ltb _ _ m);
      counted = λ r m. ap (λ (w : World). w.state.interval.taken) (event_left e r m) ∙ event_more e;
    }

    pub listing_when : (i time : ℕ) (out : List ℕ) → length out ≡ 272
        → ListingWhen t i time out (done_for (asks (listing i time out))).answer.reply
    unfolding tallied_by single_tallied tallied listing_number_for
    listing_when i time out lo = record {
      none_of_these = λ m. simp (eq-eqb _ _ lt, eq-eqb _ _ lo, le-ltb _ _ m);
      is_written = λ m. simp (eq-eqb _ _ lt, eq-eqb _ _ lo, lt-ltb _ _ m);
    }

    pub close_when : length t.staging ≡ 62985 → (time : ℕ) (out : List ℕ) → length out ≡ span_bytes (close_span t.capacity)
        → (done_for (close time out)).answer.reply ≡ closed_with (sent_for t time)
    unfolding tallied_by single_tallied close_tallied close_number_for
    close_when ls time out lo =
        simp (
          eq-eqb _ _ lt,
          eq-eqb _ _ ls,
          eq-eqb _ _ (slots_are t v),
          eq-eqb _ _ lo,
          slots_good (slots_for t) t.settings t.tables (events_of t) v.range,
        )

  -- ---- what lines and packages go by

  blocked_is : Blocked t → load_waits_for t ≡ true
  blocked_is b = le-leb 1 _ (waits_loads t.commands.waiting b.0 b.1 b.2)

  free_is : (Blocked t → ⊥) → load_waits_for t ≡ false
  free_is n = fails (load_waits_for t) (λ q. loads_wait t.commands.waiting (leb-true 1 _ q)) n

  bad_is : SomeBad t → good_for t own ≡ false
  bad_is b = each_fails (λ i. not (is_wrong (t.wrote i))) _ b.0 b.1 (rw b.2)

  good_is : (SomeBad t → ⊥) → good_for t own ≡ true
  good_is n =
      each_all (λ i. not (is_wrong (t.wrote i))) _
      (λ i h. ap not (fails (is_wrong (t.wrote i)) (λ q. (i, h, wrong_is (t.wrote i) q)) n))

  agrees_is : (x : CommandText) → (Differs t x → ⊥) → sum_agrees (traits_of (meant x)).sum (sum_for t own) ≡ true
  agrees_is (change k n) h = refl
  agrees_is (load_zero n) h = refl
  agrees_is (load_at a) h = refl
  agrees_is (ask a y) h = refl
  agrees_is (commit a y s) h = decide (eqb (value_of s) (sum_for t own)) (λ q. q) (λ q. absurd (h (eqb-false _ _ q)))

  differs_is : (x : CommandText) → Differs t x → sum_agrees (traits_of (meant x)).sum (sum_for t own) ≡ false
  differs_is (change k n) h = absurd h
  differs_is (load_zero n) h = absurd h
  differs_is (load_at a) h = absurd h
  differs_is (ask a y) h = absurd h
  differs_is (commit a y s) h = ne_eqb _ _ h

  -- what an accepted command leaves in the state
  record Left (x : CommandText) (w : World) : Type 0 where
    counted : w.state.commands.accepted ≡ t.commands.accepted + 1
    waiting_are : waiting_of w.state.commands ≡ t.commands.waiting ++ waiting_by x
    addresses_are : w.state.staging ≡ addresses_by t.addresses x
    sum_is : sum_returned (meant x) (sum_for t own) ≡ sum_by t x

  now_waiting : (ws : List Waiting) → waiting_of (command_list_with (t.commands.accepted + 1) ws) ≡ ws
  now_waiting = waiting_with (t.commands.accepted + 1)

  left : (x : CommandText) → Left x (view (line_taken t (meant x)))
  unfolding view
  left (change k n) = record { counted = refl; waiting_are = now_waiting _; addresses_are = refl; sum_is = refl }
  left (load_zero n) = record { counted = refl; waiting_are = now_waiting _; addresses_are = refl; sum_is = refl }
  left (load_at a) = record { counted = refl; waiting_are = now_waiting _; addresses_are = refl; sum_is = refl }
  left (ask a y) = record { counted = refl; waiting_are = now_waiting _; addresses_are = refl; sum_is = refl }
  left (commit a y s) = record { counted = refl; waiting_are = now_waiting _; addresses_are = refl; sum_is = refl }

  module _ (ls : length t.staging ≡ 62985) (lb : length t.bitmap ≡ 7874) where
    -- ---- a line

    module _ (echo : List ℕ) (le : length echo ≡ 128) where
      abbrev line_done_for : List ℕ → Done World Answered
      line_done_for bytes = done_for (asks (line bytes echo))

      -- its number is what it answers
      line_answers : (bytes : List ℕ) (n : ℕ) → line_number_for t all_own bytes echo ≡ n → number_of (line_done_for bytes) ≡ n
      unfolding tallied_by single_tallied tallied
      line_answers bytes n e = rw e (decide (eqb n 0) (λ q. rw q (sym (eqb-true n 0 q))) (λ q. rw q))

      line_bytes_lem : (bytes : List ℕ) → bytes_ok bytes ≡ false → line_number_for t all_own bytes echo ≡ 4
      unfolding line_number_for
      line_bytes_lem bytes q = rw (eq-eqb _ _ ls, eq-eqb _ _ lb, eq-eqb _ _ le, q)

      -- where its bytes are right its number is that of its command
      line_behind : (bytes : List ℕ) (l : Line) → bytes_ok bytes ≡ true → line_for t bytes ≡ l
          → line_number_for t all_own bytes echo ≡ number_by (command_checks (load_waits_for t) (full_for t) (good_for t own) (sum_for t own) l)
      unfolding line_number_for
      line_behind bytes l q e =
          rw (eq-eqb _ _ ls, eq-eqb _ _ lb, eq-eqb _ _ le, q)
          (ap (λ (x : Line). number_by (command_checks (load_waits_for t) (full_for t) (good_for t own) (sum_for t own) x)) e)

      -- what it leaves, where it is accepted
      line_leaves : (bytes : List ℕ) (l : Line) → line_number_for t all_own bytes echo ≡ 0 → line_for t bytes ≡ l
          → ((line_done_for bytes).next ≡ view (line_taken t l)) × ((line_done_for bytes).answer.reply.sum ≡ sum_returned l (sum_for t own))
      unfolding tallied_by single_tallied tallied
      line_leaves bytes l n e =
          (rw n (ap (λ (x : Line). view (line_taken t x)) e), rw n (ap (λ (x : Line). sum_returned x (sum_for t own)) e))

      accepted_by : (x : CommandText) → line_number_for t all_own (text_of x) echo ≡ 0 → line_for t (text_of x) ≡ meant x
          → Accepted t x (line_done_for (text_of x))
      accepted_by x n e =
          let d = line_leaves (text_of x) (meant x) n e in
          let w = left x in
          record {
            number_is = line_answers (text_of x) 0 n;
            sum_is = d.1 ∙ w.sum_is;
            counted = ap (λ (w : World). w.state.commands.accepted) d.0 ∙ w.counted;
            waiting_are = ap (λ (w : World). waiting_of w.state.commands) d.0 ∙ w.waiting_are;
            addresses_are = ap (λ (w : World). w.state.staging) d.0 ∙ w.addresses_are;
          }

      command_when : (x : CommandText) → InRangesNow t x → CommandWhen t x (line_done_for (text_of x))
      command_when x r =
          let waits : Bool = load_waits_for t in
          let full : Bool = full_for t in
          let good : Bool = good_for t own in
          let sum : ℕ = sum_for t own in
          let e : line_for t (text_of x) ≡ meant x = text_meant _ _ x r in
          let b = line_behind (text_of x) (meant x) (command_ok_lem _ _ x r) e in
          let by : (n : ℕ) → command_number x waits full good sum ≡ n → number_of (line_done_for (text_of x)) ≡ n =
          λ n h. line_answers (text_of x) n (b ∙ h) in
          record {
            load_waits_lem = λ u w. by 6 (six x waits full good sum u (blocked_is w));
            after_most = λ f m. by 7 (seven x waits full good sum (λ u. free_is (f u)) (le-leb _ _ m));
            byte_bad = λ f m u g. by 15 (fifteen x waits full good sum (λ u. free_is (f u)) (lt-leb _ _ m) u (bad_is g));
            sum_differs_lem = λ f m g d. by 16
                (sixteen x waits full good sum (λ u. free_is (f u)) (lt-leb _ _ m) (λ u. ap not (good_is g)) (differs_is x d));
            accepted = λ f m g d.
                accepted_by x
                (b ∙ no_number x waits full good sum (λ u. free_is (f u)) (lt-leb _ _ m) (λ u. ap not (good_is (g u))) (agrees_is x d)) e;
          }

      -- the empty line
      empty_is : line_for t [] ≡ Empty
      unfolding line_of
      empty_is = refl

      empty_counts : (view (line_taken t Empty)).state.commands.accepted ≡ t.commands.accepted
      unfolding view
      empty_counts = refl

      pub line_when : LineWhen t line_done_for
      line_when =
          let e = line_behind [] Empty refl empty_is in
          record {
            other_bytes = λ bytes n. line_answers bytes 4 (line_bytes_lem bytes (fails (bytes_ok bytes) (line_says bytes) n));
            wrong = λ bytes k n w.
                line_answers bytes 5
                (line_behind bytes Wrong (line_said bytes k) (none_written _ _ bytes n (λ x. w x.0 x.1 x.2)));
            empty = line_answers [] 0 e;
            none_counted_lem = ap (λ (w : World). w.state.commands.accepted) (line_leaves [] Empty e empty_is).0 ∙ empty_counts;
            commands = command_when;
          }

    -- ---- a package

    module _ (p echo : List ℕ) (le : length echo ≡ 128) where
      abbrev package_done_for : Done World Answered
      package_done_for = done_for (asks (load_package p echo))

      package_answers : (n : ℕ) → package_number_for t all_own p echo ≡ n → number_of package_done_for ≡ n
      unfolding tallied_by single_tallied tallied
      package_answers n e = rw e (decide (is_staged n) (λ q. rw q) (λ q. rw q))

      package_leaves : (n : ℕ) → package_number_for t all_own p echo ≡ n → is_staged n ≡ true → package_done_for.next ≡ view (package_placed t p)
      unfolding tallied_by single_tallied tallied
      package_leaves n e s = rw (e, s)

      -- the bits after it, where it fits
      bits : end_of t p ≤ 62985 → (i : ℕ)
          → is_bad (view (package_placed t p)).buffers.bitmap i
          ≡ cond (leb t.addresses.next i && ltb i (end_of t p)) (not (eqb (received_sum p) (computed_sum p))) (is_bad t.bitmap i)
      unfolding view
      bits m i = bitmap_tells t.bitmap t.addresses.next i (not (eqb (received_sum p) (computed_sum p))) _ (omega (arith, m, lb))

      placed : (bad : Bool) (d : Done World Answered) → d.next ≡ view (package_placed t p) → end_of t p ≤ 62985
          → not (eqb (received_sum p) (computed_sum p)) ≡ bad → Placed t p bad d
      unfolding view staging_after
      placed bad d e m b =
          let w : (i : ℕ) → is_bad d.next.buffers.bitmap i ≡ _ = λ i. ap (λ (w : World). is_bad w.buffers.bitmap i) e ∙ bits m i in
          record {
            staging_is = ap (λ (w : World). w.buffers.staging) e;
            next_is = ap (λ (w : World). w.state.staging.next) e;
            reach_is = ap (λ (w : World). w.state.staging.reach) e;
            marked = λ i h k. w i ∙ rw (le-leb t.addresses.next i h, lt-ltb i (end_of t p) k) b;
            before = λ i h. w i ∙ rw (lt-leb t.addresses.next i h);
            behind = λ i h. w i ∙ rw (le-ltb i (end_of t p) h, and_false);
          }

      package_placed_lem : (n : ℕ) (bad : Bool) → package_number_for t all_own p echo ≡ n → is_staged n ≡ true → end_of t p ≤ 62985
          → not (eqb (received_sum p) (computed_sum p)) ≡ bad → (number_of package_done_for ≡ n) × Placed t p bad package_done_for
      package_placed_lem n bad e s m b = (package_answers n e, placed bad package_done_for (package_leaves n e s) m b)

      pub package_when : PackageWhen t p package_done_for
      unfolding package_number_for
      package_when = record {
        load_waits_lem = λ b. package_answers 6 (rw (eq-eqb _ _ ls, eq-eqb _ _ lb, eq-eqb _ _ le, blocked_is b));
        not_formed = λ f n. package_answers 8
            (rw (eq-eqb _ _ ls, eq-eqb _ _ lb, eq-eqb _ _ le, free_is f, fails (formed p) (package_says p) n));
        past_end = λ f q m. package_answers 9 (rw (eq-eqb _ _ ls, eq-eqb _ _ lb, eq-eqb _ _ le, free_is f, package_said p q, lt-leb _ _ m));
        sum_wrong = λ f q m d. package_placed_lem 10 true
            (rw (eq-eqb _ _ ls, eq-eqb _ _ lb, eq-eqb _ _ le, free_is f, package_said p q, le-leb _ _ m, ne_eqb _ _ d)) refl m (ap not (ne_eqb _ _ d));
        right = λ f q m d. package_placed_lem 0 false
            (rw (eq-eqb _ _ ls, eq-eqb _ _ lb, eq-eqb _ _ le, free_is f, package_said p q, le-leb _ _ m, eq-eqb _ _ d)) refl m (ap not (eq-eqb _ _ d));
      }

-- ---- what is lent

close_says : (t : Tally) (l : Lending) (time : ℕ) (out : List ℕ) → close_sound_for t l out ≡ true → LentRight t l (close time out)
close_says t l time out h =
    let b = lent_to t l in
    let s = and_split (end_lent t.capacity (length b.tables) (length b.staging) b.slots) (out_right t.capacity (length out)) h in
    let r = and_split _ (all record_good b.slots) s.0 in
    let q = three_equal _ _ _ _ _ _ r.0 in
    (q.0, q.1, q.2, eqb-true _ _ s.1, slots_say b.slots r.1)

close_said : (t : Tally) (l : Lending) (time : ℕ) (out : List ℕ) → LentRight t l (close time out) → close_sound_for t l out ≡ true
close_said t l time out h =
    rw (eq-eqb _ _ h.0, eq-eqb _ _ h.1, eq-eqb _ _ h.2, eq-eqb _ _ h.3, slots_said (lent_to t l).slots h.4)

reading_is : {z : Sizes} (t : Tally) → Inv z t → (l : Lending) (c : Counts8)
    → number_of (processor_step (view t) (record { lent = l; request = asks (reading c) })) ≡ reading_number_for t
unfolding processed_by single_processed processed view reading_done
reading_is t v l c = reading_number_lem t v l

-- by a first check of what is lent, and those behind it, none of which has the number 1
lent_by : (t : Tally) (l : Lending) (a : SingleRequest) (b : Bool) (cs : List Check) {n : ℕ} → n ≡ number_by ((b, 1) ∷ cs)
    → (b ≡ true → LentRight t l a) → (LentRight t l a → b ≡ true) → none (λ k. eqb k 1) cs ≡ true → LentWhen t l a n
lent_by t l a b cs e says said o = record {
  other_length = λ n. e ∙ one_where _ b cs says said n;
  right_lengths = λ h q. one_only _ b cs says said o h (sym e ∙ q);
}

-- of each call, by the number that the tally gives it
pub lent_when : {z : Sizes} (t : Tally) → Inv z t → (l : Lending) (a : SingleRequest)
    → LentWhen t l a (number_of (processor_step (view t) (record { lent = l; request = a })))
unfolding processed_by single_processed processed close_processed
    event_number_for reading_number_for line_number_for package_number_for close_number_for listing_number_for
lent_when t v l (asks (event e)) =
    lent_by t l (asks (event e)) (event_lent t.capacity (length (lent_to t l).tables) (length (lent_to t l).slots))
    ((in_range e, 2) ∷ (ltb (length (events_of t)) 1000000, 3) ∷ [])
    (event_number_lem t v l e) (two_equal _ _ _ _) (λ h. rw (eq-eqb _ _ h.0, eq-eqb _ _ h.1)) refl
lent_when t v l (asks (reading c)) =
    lent_by t l (asks (reading c)) true ((ltb (length t.interval.readings) 60, 3) ∷ []) (reading_is t v l c) (λ q. tt) (λ h. refl) refl
lent_when t v l (asks (line bytes echo)) =
    lent_by t l (asks (line bytes echo)) (line_lent (length (lent_to t l).staging) (length (lent_to t l).bitmap) (length echo))
    ((bytes_ok bytes, 4) ∷ command_checks (load_waits_for t) (full_for t) (good_for t l.bitmap) (sum_for t l.staging) (line_for t bytes))
    (line_number_lem t v l bytes echo) (three_equal _ _ _ _ _ _) (λ h. rw (eq-eqb _ _ h.0, eq-eqb _ _ h.1, eq-eqb _ _ h.2)) refl
lent_when t v l (asks (load_package p echo)) =
    lent_by t l (asks (load_package p echo)) (package_lent (length (lent_to t l).staging) (length (lent_to t l).bitmap) (length echo))
    ((not (load_waits_for t), 6) ∷ package_checks p t.addresses.next)
    (package_number_lem t v l p echo) (three_equal _ _ _ _ _ _) (λ h. rw (eq-eqb _ _ h.0, eq-eqb _ _ h.1, eq-eqb _ _ h.2)) refl
lent_when t v l (asks (listing i time out)) =
    lent_by t l (asks (listing i time out)) (listing_lent (length (lent_to t l).tables) (length out)) ((ltb i 250, 14) ∷ [])
    (listing_number_lem t v l i time out) (two_equal _ _ _ _) (λ h. rw (eq-eqb _ _ h.0, eq-eqb _ _ h.1)) refl
lent_when t v l (close time out) =
    lent_by t l (close time out) (close_sound_for t l out) [] (close_number_lem t v l time out)
    (close_says t l time out) (close_said t l time out) refl
