-- What follows from demand 3 for the next call after any lawful list: when each number comes. Assumes nothing.
use Rattle.std.proofs.Common.{◌≡◌, refl, sym, ap, ◌∙◌, subst, true, List, [], ℕ, length}
use Rattle.sort.specs.declared.event.Event.{Event}
use Rattle.capacity.specs.declared.Capacity.{Capacity}
use Rattle.output.specs.Output.{span_bytes}
use Rattle.processor.specs.Close.{close_span}
use Rattle.tally.specs.Steps.{Done, after, Lawful}
use Rattle.tally.specs.World.{World, fresh_world}
use Rattle.tally.specs.Calls.{event, reading, line, load_package, listing, closed_with, Answered, processed_by}
use Rattle.tally.specs.Calls.{SingleRequest, asks, close, SingleCall, owning, processor_step}
use Rattle.tally.specs.Tally.{Tally, fresh_tally, sent_for, tally_step}
use Rattle.tally.specs.View.{view}
use Rattle.tally.specs.Texts.{text_of}
use Rattle.tally.specs.When.{number_of, LentWhen, EventWhen, ReadingWhen, CommandWhen, LineWhen, PackageWhen, ListingWhen, Numbers}
use Rattle.tally.specs.When.{numbers_when}
use Rattle.tally.proofs.Invariant.{Inv}
use Rattle.tally.proofs.StepLaws.{lawful_view, inv_after}
use Rattle.tally.proofs.Theorem.{step, sizes, fresh_view, fresh_inv, demand_3}
use Rattle.tally.proofs.WhenCalls.{lent_when, done_for, event_when, reading_when, line_when, package_when, close_when, listing_when}

owns_all_lem : (w : World) (a : SingleRequest) → (processor_step w (owning a)).owned ≡ true
unfolding processed_by
owns_all_lem w a = refl

module _ (c : Capacity) (tables staging bitmap : List ℕ) (cs : List SingleCall)
    (l : Lawful processor_step (fresh_world c tables staging bitmap) cs) where
  -- the tally at that moment, and what the processor makes of a call then
  abbrev pub now : Tally
  now = after tally_step (fresh_tally c tables staging bitmap) cs

  abbrev pub next_now : SingleCall → Done World Answered
  next_now k = processor_step (after processor_step (fresh_world c tables staging bitmap) cs) k

  pub now_inv : Inv (sizes c tables staging bitmap) now
  now_inv =
      let z = sizes c tables staging bitmap in
      let t = fresh_tally c tables staging bitmap in
      let v = fresh_inv c tables staging bitmap in
      inv_after processor_step tally_step view (Inv z) _ step cs t v
      (lawful_view processor_step tally_step view (Inv z) _ step cs t (fresh_world c tables staging bitmap) v (fresh_view c tables staging bitmap) l)

  now_done : (a : SingleRequest) → next_now (owning a) ≡ done_for now now_inv a
  now_done a =
      ap (λ (w : World). processor_step w (owning a)) (demand_3 c tables staging bitmap cs l).followed.ending
      ∙ (step now (owning a) now_inv).same (λ q. owns_all_lem (view now) a)

  -- what holds of the tally's call holds of the processor's
  as_tallied : (P : Done World Answered → Type 0) (a : SingleRequest) → P (done_for now now_inv a) → P (next_now (owning a))
  as_tallied P a h = subst P (sym (now_done a)) h

  module _ (lt : length tables ≡ 62985) where
    tables_now : length now.tables ≡ 62985
    tables_now = now_inv.sized.tables_are ∙ lt

    -- an event in its ranges is refused only after 1,000,000 events since the last close
    pub event_now : (e : Event) → EventWhen now e (next_now (owning (asks (event e))))
    event_now e = as_tallied (EventWhen now e) (asks (event e)) (event_when now now_inv tables_now e)

    -- a listing is refused only where i is none of the 250, and brings down the tally's tables
    pub listing_now : (i time : ℕ) (out : List ℕ) → length out ≡ 272
        → ListingWhen now i time out (next_now (owning (asks (listing i time out)))).answer.reply
    listing_now i time out lo =
        as_tallied (λ d. ListingWhen now i time out d.answer.reply) (asks (listing i time out))
        (listing_when now now_inv tables_now i time out lo)

    -- a close is never refused, and hands out what the tally has
    pub close_now : length staging ≡ 62985 → (time : ℕ) (out : List ℕ) → length out ≡ span_bytes (close_span now.capacity)
        → (next_now (owning (close time out))).answer.reply ≡ closed_with (sent_for now time)
    close_now ls time out lo =
        as_tallied (λ d. d.answer.reply ≡ closed_with (sent_for now time)) (close time out)
        (close_when now now_inv tables_now (now_inv.sized.staging_is ∙ ls) time out lo)

  -- every call and every number
  numbers_now : length tables ≡ 62985 → length staging ≡ 62985 → length bitmap ≡ 7874 → Numbers now next_now
  numbers_now lt ls lb =
      let s = now_inv.sized.staging_is ∙ ls in
      let b = now_inv.sized.bitmap_is ∙ lb in
      record {
        lent = λ k a. subst (λ (w : World). LentWhen now k a (number_of (processor_step w (record { lent = k; request = a }))))
            (sym (demand_3 c tables staging bitmap cs l).followed.ending) (lent_when now now_inv k a);
        events = event_now lt;
        readings = λ r. as_tallied (ReadingWhen now r) (asks (reading r)) (reading_when now now_inv r);
        lines = λ echo le. line_now echo (line_when now now_inv s b echo le);
        packages = λ p echo le. as_tallied (PackageWhen now p) (asks (load_package p echo)) (package_when now now_inv s b p echo le);
        closes = close_now lt ls;
        listings = listing_now lt;
      }
    where
      line_now : (echo : List ℕ) → LineWhen now (λ bytes. done_for now now_inv (asks (line bytes echo)))
          → LineWhen now (λ bytes. next_now (owning (asks (line bytes echo))))
      line_now echo w = record {
        other_bytes = λ bytes h. as_tallied (λ d. number_of d ≡ 4) (asks (line bytes echo)) (w.other_bytes bytes h);
        wrong = λ bytes h n x. as_tallied (λ d. number_of d ≡ 5) (asks (line bytes echo)) (w.wrong bytes h n x);
        empty = as_tallied (λ d. number_of d ≡ 0) (asks (line [] echo)) w.empty;
        none_counted_lem = as_tallied (λ d. d.next.state.commands.accepted ≡ now.commands.accepted) (asks (line [] echo))
            w.none_counted_lem;
        commands = λ x r. as_tallied (CommandWhen now x) (asks (line (text_of x) echo)) (w.commands x r);
      }

pub numbers_when_lem : numbers_when
numbers_when_lem c tables staging bitmap lt ls lb cs l = numbers_now c tables staging bitmap cs l lt ls lb
