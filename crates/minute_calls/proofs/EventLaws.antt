-- One more event record leads on from the state and slots of those before it. Assumes nothing.
use Rattle.std.proofs.Common.{◌≡◌, refl, ap, ◌∙◌, List, ℕ, suc, ◌+◌, get_or, take, drop, arith}
use Rattle.std.proofs.Math.Logic.{⊎_elim}
use Rattle.std.proofs.Math.Nat.{eq-or-lt_of_le, not-suc-le-zero}
use Rattle.state.specs.declared.State.{State}
use Rattle.stream.specs.Record.{record_done}
use Rattle.minute_calls.specs.Events.{body_of, ran_of, EventsRun}

-- ---- no record, and one more

module _ (s : State) (tables slots bytes : List ℕ) where
  pub events_none : EventsRun s tables slots bytes 0 s slots
  unfolding ran_of
  events_none = record { many = 0; used_are = refl; kinds = λ i h. absurd (not-suc-le-zero h); state_is = refl; slots_are = refl }

  pub events_more : (used : ℕ) (after : State) (left body : List ℕ) → EventsRun s tables slots bytes used after left
      → get_or bytes used 0 ≡ 1 → body ≡ take 7 (drop (used + 1) bytes)
      → let d = record_done after tables left body in EventsRun s tables slots bytes (used + 8) d.answer.state d.slots
  unfolding ran_of
  events_more used after left body r k e =
      let is : body ≡ body_of bytes r.many = e ∙ ap (λ (n : ℕ). take 7 (drop (n + 1) bytes)) r.used_are in
      record {
        many = suc r.many;
        used_are = omega (arith, r.used_are);
        kinds = λ i h. ⊎_elim (λ q. rw q (rw r.used_are at k)) (λ q. r.kinds i q) (eq-or-lt_of_le (omega arith));
        state_is = λ j. (record_done (r.state_is j) tables (r.slots_are j) (is j)).answer.state;
        slots_are = λ j. (record_done (r.state_is j) tables (r.slots_are j) (is j)).slots;
      }
