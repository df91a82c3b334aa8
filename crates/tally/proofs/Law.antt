-- What is to be shown of one request, by what it makes of a world and what the tally makes of it, and what follows for a call: no word
-- of any request. Assumes nothing.
use Rattle.std.proofs.Common.{◌≡◌, refl, sym, ap, ◌∙◌, subst, true, false, true≢false, [], ℕ, ◌+◌, zero-add, arith, length}
use Rattle.std.proofs.Common.{length-append}
use Rattle.std.proofs.Math.Bool.{false≢true}
use Rattle.std.proofs.Math.ListN.{length-replicate}
use Rattle.wire.specs.Bytes.{total}
use Rattle.wire.proofs.Lists.{decide}
use Rattle.command_list.specs.CommandList.{most_commands, command_list_with}
use Rattle.state.specs.Limits.{within_limits}
use Rattle.end_interval.specs.End.{no_summary}
use Rattle.wire.specs.Lists.{All}
use Rattle.tally.specs.Steps.{Done}
use Rattle.tally.specs.World.{World, Lending, all_own, owns_all, lend, others_lent}
use Rattle.tally.specs.Calls.{Reply, nothing, Answered, Made, given}
use Rattle.tally.specs.Tally.{Tally, events_of, Judged, tallied_as}
use Rattle.tally.specs.View.{view_state, view}
use Rattle.tally.specs.Demand3.{Balanced, taken_in, Right}
use Rattle.tally.proofs.StepLaws.{shown, LawfulDone, Step}
use Rattle.tally.proofs.Invariant.{Sizes, Inv, commands_most}
use Rattle.tally.proofs.Lending.{own_all, back_same, others_same}

-- a refused request leaves the world, and hands out nothing
pub record Refused (w : World) (m : Made) : Type 0 where
  pub left : m ≡ record { carried = false; next = w; reply = m.reply; facts = nothing }
  pub none_taken : taken_in m.reply.summaries ≡ 0
  pub balanced : All Balanced m.reply.summaries

-- what a request that is carried out is to come to
abbrev pub carried_as : Judged → Made
carried_as j = record { carried = true; next = view j.next; reply = j.done; facts = j.facts }

-- of a world that is the tally's
pub record OfTally (z : Sizes) (t : Tally) (processed : World → Made) (tallied : Tally → Lending → Judged) : Type 0 where
  -- carried out or refused alike, and refused with the same answer, whatever is lent
  pub alike : (l : Lending) → (processed (lend l (view t))).carried ≡ (tallied t l).carried
  pub refusal : (l : Lending) → (tallied t l).carried ≡ false → (processed (lend l (view t))).reply ≡ (tallied t l).refused
  -- carried out where the own buffers are lent: world, answer, facts
  pub same : (tallied t all_own).carried ≡ true → processed (view t) ≡ carried_as (tallied t all_own)
  pub kept : (tallied t all_own).carried ≡ true → within_limits (view_state (tallied t all_own).next) ≡ true → Inv z (tallied t all_own).next
  pub right : (tallied t all_own).carried ≡ true → Right t (given all_own (view t) (carried_as (tallied t all_own)))

pub record Law (processed : World → Made) (tallied : Tally → Lending → Judged) : Type 0 where
  -- from any world, reached or not
  pub refused : (w : World) → (processed w).carried ≡ false → Refused w (processed w)
  pub limits : (w : World) → length w.state.commands.waiting ≡ most_commands → within_limits w.state ≡ true
      → within_limits (processed w).next.state ≡ true
  pub between : (w : World) → (processed w).facts.ended ≡ []
      → ((processed w).next.state.settings ≡ w.state.settings) × ((processed w).next.buffers.tables ≡ w.buffers.tables)
  pub of_tally : {z : Sizes} (t : Tally) → Inv z t → OfTally z t processed tallied

-- ---- from one request to one call

pub none_balanced : Balanced no_summary
unfolding total
none_balanced = record { boxes = refl; priorities = refl; gains = refl; samples = refl }

-- what hands out no interval and no listing is right, if it takes what it should
pub right_plain : (t : Tally) (d : Done World Answered) → d.answer.reply.summaries ≡ []
    → (d.carried ≡ true → d.answer.reply.out ≡ [])
    → d.answer.facts.ended ≡ [] → d.answer.facts.listings ≡ []
    → length (events_of t) + d.answer.facts.takes ≡ d.next.state.interval.taken → Right t d
right_plain t d a o e f h = record {
  balanced = rw a tt;
  summaries_are = λ q. a ∙ rw e;
  intervals = rw e tt;
  tables_run = rw e tt;
  listings = rw f tt;
  all_said = λ q x y. o q;
  events = rw a (omega (arith, h));
}

in_view : (u : Tally) → within_limits (view u).state ≡ true → within_limits (view_state u) ≡ true
unfolding view
in_view u h = h

-- a refused call, as the tally says it
abbrev pub refused_as : World → Lending → Reply → Done World Answered
refused_as w l r = record {
  carried = false;
  owned = owns_all l;
  next = w;
  answer = record { reply = r; facts = nothing; others = others_lent l };
}

pub refused_given : (l : Lending) (w : World) (m : Made) → Refused (lend l w) m → given l w m ≡ refused_as w l m.reply
refused_given l w m r = ap (given l w) r.left ∙ (λ i. record {
  carried = false;
  owned = owns_all l;
  next = back_same l w i;
  answer = record { reply = m.reply; facts = nothing; others = others_same l w i };
})

view_taken : (t : Tally) → length (events_of t) + 0 ≡ (view t).state.interval.taken
unfolding view
view_taken t = omega arith

refused_right : (t : Tally) (l : Lending) (m : Made) → Refused (lend l (view t)) m → Right t (refused_as (view t) l m.reply)
refused_right t l m r = record {
  balanced = r.balanced;
  summaries_are = λ q. absurd (false≢true q);
  intervals = tt;
  tables_run = tt;
  listings = tt;
  all_said = λ q. absurd (false≢true q);
  events = view_taken t ∙ sym (zero-add _) ∙ ap (λ (n : ℕ). n + (view t).state.interval.taken) (sym r.none_taken);
}

module _ {z : Sizes} (t : Tally) (v : Inv z t) (processed : World → Made) (tallied : Tally → Lending → Judged) (law : Law processed tallied) where
  abbrev of : OfTally z t processed tallied
  of = law.of_tally t v

  places_for_commands : length (command_list_with t.commands.accepted t.commands.waiting).waiting ≡ most_commands
  places_for_commands = let w = commands_most t v in simp (length-append, length-replicate) (omega (arith, w.waiters_most, w.accepted_most))

  abbrev Ok : Lending → Type 0
  Ok l =
      (tallied t l).carried ≡ true
      → (given l (view t) (processed (lend l (view t))) ≡ shown view (tallied_as t l (tallied t l)))
      × (Inv z (tallied_as t l (tallied t l)).next × Right t (given l (view t) (processed (lend l (view t)))))

  view_limits : within_limits (processed (view t)).next.state ≡ true
  unfolding view
  view_limits = law.limits (view t) places_for_commands v.limits

  own_ok : Ok all_own
  own_ok q =
      let s = of.same q in
      let g = ap (given all_own (view t)) s in
      let lim : within_limits (view (tallied t all_own).next).state ≡ true =
      subst (λ (m : Made). within_limits m.next.state ≡ true) s view_limits in (
        g ∙ rw q,
        (
          rw q (of.kept q (in_view _ lim)),
          subst (Right t) (sym g) (of.right q),
        ),
      )

  pub request_step : (l : Lending)
      → Step view (Inv z) Right t (given l (view t) (processed (lend l (view t)))) (tallied_as t l (tallied t l))
  request_step l = decide (tallied t l).carried when_carried when_refused
    where
      d : Done World Answered
      d = given l (view t) (processed (lend l (view t)))

      o : Done Tally Answered
      o = tallied_as t l (tallied t l)

      when_carried : (tallied t l).carried ≡ true → Step view (Inv z) Right t d o
      when_carried q =
          let c : d.carried ≡ true = of.alike l ∙ q in
          let ok : LawfulDone d → _ = λ h. own_all Ok l (h c) own_ok q in
          record {
            same = λ h. (ok h).0;
            idle = λ n. absurd (true≢false (sym c ∙ n));
            kept = λ h. (ok h).1.0;
            right = λ h. (ok h).1.1;
          }

      when_refused : (tallied t l).carried ≡ false → Step view (Inv z) Right t d o
      when_refused q =
          let c : d.carried ≡ false = of.alike l ∙ q in
          let r = law.refused (lend l (view t)) c in
          let g = refused_given l (view t) _ r in
          let e : d ≡ shown view o = g ∙ ap (refused_as (view t) l) (of.refusal l q) ∙ rw q in
          record {
            same = λ h. e;
            idle = λ n. ap (λ (x : Done World Answered). x.next) g;
            kept = λ h. rw q v;
            right = λ h. subst (Right t) (sym g) (refused_right t l _ r);
          }
