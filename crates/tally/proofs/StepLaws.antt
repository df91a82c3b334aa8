-- From one call to every list of calls, once for all: no word of telescopes. Assumes nothing.
use Rattle.std.proofs.Common.{◌≡◌, refl, sym, ap, ap₂, ◌∙◌, subst, true, false, List, [], ◌∷◌, map, ℕ, ◌+◌, arith}
use Rattle.wire.specs.Bytes.{total}
use Rattle.tally.specs.Steps.{Done, replies, after, Lawful, Idle, Always, Each, Followed}

-- what the tally was tally, as the processor would have done it
abbrev pub shown : {W T R : Type 0} → (T → W) → Done T R → Done W R
shown view d = record { carried = d.carried; owned = d.owned; next = view d.next; answer = d.answer }

abbrev pub LawfulDone : {W R : Type 0} → Done W R → Type 0
LawfulDone d = d.carried ≡ true → d.owned ≡ true

-- all that is to be shown of one call, which a world that is the tally's processor as d, and of which the tally was tally as o
pub record Step {W T R : Type 0} (view : T → W) (Inv : T → Type 0) (Right : T → Done W R → Type 0)
    (t : T) (d : Done W R) (o : Done T R) : Type 0 where
  -- whether it is carried out, what it lends, the world and the answer: one equation
  pub same : LawfulDone d → d ≡ shown view o
  pub idle : d.carried ≡ false → d.next ≡ view t
  pub kept : LawfulDone d → Inv o.next
  pub right : LawfulDone d → Right t d

module _ {W T R C : Type 0} (processor : W → C → Done W R) (tally : T → C → Done T R) (view : T → W) (Inv : T → Type 0)
    (Right : T → Done W R → Type 0) (step : (t : T) (c : C) → Inv t → Step view Inv Right t (processor (view t) c) (tally t c)) where
  module _ (t : T) (c : C) (cs : List C) (v : Inv t) (l : Lawful processor (view t) (c ∷ cs)) where
    this : processor (view t) c ≡ shown view (tally t c)
    this = (step t c v).same l.0

    next_is : (processor (view t) c).next ≡ view (tally t c).next
    next_is = ap (λ (d : Done W R). d.next) this

    next_inv : Inv (tally t c).next
    next_inv = (step t c v).kept l.0

    rest : Lawful processor (view (tally t c).next) cs
    rest = subst (λ w. Lawful processor w cs) next_is l.1

  all_answers : (cs : List C) (t : T) → Inv t → Lawful processor (view t) cs → replies processor (view t) cs ≡ replies tally t cs
  unfolding replies
  all_answers [] t v l = refl
  all_answers (c ∷ cs) t v l =
      ap₂ (λ (r : R) (rs : List R). r ∷ rs) (ap (λ (d : Done W R). d.answer) (this t c cs v l))
      (ap (λ (w : W). replies processor w cs) (next_is t c cs v l)
      ∙ all_answers cs (tally t c).next (next_inv t c cs v l) (rest t c cs v l))

  all_ending : (cs : List C) (t : T) → Inv t → Lawful processor (view t) cs → after processor (view t) cs ≡ view (after tally t cs)
  unfolding after
  all_ending [] t v l = refl
  all_ending (c ∷ cs) t v l =
      ap (λ (w : W). after processor w cs) (next_is t c cs v l)
      ∙ all_ending cs (tally t c).next (next_inv t c cs v l) (rest t c cs v l)

  all_idle : (cs : List C) (t : T) → Inv t → Lawful processor (view t) cs → Idle processor (view t) cs
  all_idle [] t v l = tt
  all_idle (c ∷ cs) t v l = (
    (step t c v).idle,
    subst (λ w. Idle processor w cs) (sym (next_is t c cs v l)) (all_idle cs (tally t c).next (next_inv t c cs v l) (rest t c cs v l)),
  )

  -- what holds of each call, if it follows from what is known of it: here for any property
  all_each : (P : T → Done W R → Type 0) → ((t : T) (d : Done W R) → Inv t → Right t d → P t d)
      → (cs : List C) (t : T) → Inv t → Lawful processor (view t) cs → Each processor tally P t (view t) cs
  all_each P f [] t v l = tt
  all_each P f (c ∷ cs) t v l = (
    f t (processor (view t) c) v ((step t c v).right l.0),
    subst (λ w. Each processor tally P (tally t c).next w cs) (sym (next_is t c cs v l))
        (all_each P f cs (tally t c).next (next_inv t c cs v l) (rest t c cs v l)),
  )

  all_moments : (M : T → W → Type 0) → ((t : T) → Inv t → M t (view t))
      → (cs : List C) (t : T) → Inv t → Lawful processor (view t) cs → Always processor tally M t (view t) cs
  all_moments M m [] t v l = m t v
  all_moments M m (c ∷ cs) t v l = (
    m t v,
    subst (λ w. Always processor tally M (tally t c).next w cs) (sym (next_is t c cs v l))
        (all_moments M m cs (tally t c).next (next_inv t c cs v l) (rest t c cs v l)),
  )

  -- a number of the world that each call raises by what it gains and lowers by what it hands out
  module _ (m : W → ℕ) (gains hands : R → ℕ)
      (moved : (t : T) (d : Done W R) → Right t d → m (view t) + gains d.answer ≡ hands d.answer + m d.next) where
    all_moved : (cs : List C) (t : T) → Inv t → Lawful processor (view t) cs
        → m (view t) + total (map gains (replies processor (view t) cs))
        ≡ total (map hands (replies processor (view t) cs)) + m (after processor (view t) cs)
    unfolding replies after total
    all_moved [] t v l = omega arith
    all_moved (c ∷ cs) t v l =
        let d = processor (view t) c in
        let a = moved t d ((step t c v).right l.0) in
        let b : m d.next + total (map gains (replies processor d.next cs))
        ≡ total (map hands (replies processor d.next cs)) + m (after processor d.next cs) =
        subst (λ w. m w + total (map gains (replies processor w cs)) ≡ total (map hands (replies processor w cs)) + m (after processor w cs))
        (sym (next_is t c cs v l)) (all_moved cs (tally t c).next (next_inv t c cs v l) (rest t c cs v l)) in
        omega (arith, a, b)

  -- ---- from any world that is the tally's

  module _ (cs : List C) (t : T) (w : W) (v : Inv t) (e : w ≡ view t) (l : Lawful processor w cs) where
    pub lawful_view : Lawful processor (view t) cs
    lawful_view = subst (λ x. Lawful processor x cs) e l

    pub each : (P : T → Done W R → Type 0) → ((t : T) (d : Done W R) → Inv t → Right t d → P t d) → Each processor tally P t w cs
    each P f = subst (λ x. Each processor tally P t x cs) (sym e) (all_each P f cs t v lawful_view)

    pub moves : (m : W → ℕ) (gains hands : R → ℕ)
        → ((t : T) (d : Done W R) → Right t d → m (view t) + gains d.answer ≡ hands d.answer + m d.next)
        → m w + total (map gains (replies processor w cs)) ≡ total (map hands (replies processor w cs)) + m (after processor w cs)
    moves m gains hands f =
        subst (λ x. m x + total (map gains (replies processor x cs)) ≡ total (map hands (replies processor x cs)) + m (after processor x cs)) (sym e)
        (all_moved m gains hands f cs t v lawful_view)

    pub followed : (Moment : T → W → Type 0) → ((t : T) → Inv t → Moment t (view t)) → Followed processor tally view Moment Right t w cs
    followed M m = record {
      answers = ap (λ (x : W). replies processor x cs) e ∙ all_answers cs t v lawful_view;
      ending = ap (λ (x : W). after processor x cs) e ∙ all_ending cs t v lawful_view;
      moments = subst (λ x. Always processor tally M t x cs) (sym e) (all_moments M m cs t v lawful_view);
      idle = subst (λ x. Idle processor x cs) (sym e) (all_idle cs t v lawful_view);
      right = each Right (λ t d v r. r);
    }

  -- what is kept is so after every list
  pub inv_after : (cs : List C) (t : T) → Inv t → Lawful processor (view t) cs → Inv (after tally t cs)
  unfolding after
  inv_after [] t v l = v
  inv_after (c ∷ cs) t v l = inv_after cs (tally t c).next (next_inv t c cs v l) (rest t c cs v l)
