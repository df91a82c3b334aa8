-- The number of a conversion, and what the two calls do one after the other. Assumes nothing.
use Rattle.std.proofs.Common.{Option, Some, None, ◌≡◌, refl, sym, ap, ◌∙◌, Bool, true, false, not, cond, List, [], ◌∷◌, ◌++◌, ℕ}
use Rattle.std.proofs.Common.{◌+◌, ◌*◌, ◌≤◌, arith, eqb, length, take, set, eq-eqb, ne_eqb, eqb-true}
use Rattle.std.proofs.Math.Bool.{false≢true}
use borrow.Author.Tests.{eqb-false, not-true}
use Rattle.causes.specs.Causes.{carried_out, buffer_or_state, body_fault, no_first_code}
use Rattle.causes.specs.Checks.{Check, number_by, Passed}
use Rattle.causes.proofs.CheckLaws.{all_passed, passed_first, number_before, number_behind}
use Rattle.wire.specs.Lists.{EachBelow}
use Rattle.wire.specs.Pieces.{each}
use Rattle.wire.proofs.Lists.{decide, and_left, and_right}
use Rattle.wire.proofs.Pieces.{each_at, each_all, each_start}
use Rattle.rate_code.specs.declared.editions.Edition.{Edition}
use Rattle.rate_code.specs.Editions.{first_mark, converted_mark, is_first, edition_of, mark_in, code_of, least_of, exact_by}
use Rattle.rate_code.proofs.EditionLaws.{own_exact, second_exact, edition_again}
use Rattle.packet.specs.Layout.{packet_bytes, body_at, frame_at, mark_at, sum_at, code_bytes}
use Rattle.packet.specs.Packet.{summed}
use Rattle.decode.specs.declared.kind.Kind.{Kind}
use Rattle.decode.specs.declared.kind.Kind.TheVariants.{Rate, Sample, Beacon}
use Rattle.decode.specs.Read.{application_of, kind_of, mark_of, code_at, rate_at, codes_good, body_good, read_checks, read_number}
use Rattle.decode.proofs.Reading.{passed, accepted_is, accepted_length, accepted_body, accepted_rate, accepted_beacon}
use Rattle.decode.proofs.Reading.{rate_accepted, beacon_accepted, rate_codes, beacon_codes}
use Rattle.ground.specs.Ground.{contents, read_of}
use Rattle.converter.specs.Convert.{rates_in, rate_count_of, recoded, convertible, rates_exact, convert_checks, convert_number, Converted, convert_done}
use Rattle.converter.specs.ConvertTheorems.{with_mark, ThereAndBack, BackAndThere, ConvertedRead}
use Rattle.ground.proofs.Answers.{read_accepted}
use Rattle.converter.proofs.Recoded.{rates_fit, sum_recoded, mark_recoded, rate_recoded, twice, unchanged}
use Rattle.converter.proofs.Reread.{application_same, header_same, rate_good_lem, rate_same, beacon_good_lem, beacon_same}

-- ---- the rates of an accepted packet

good_by : (xs : List ℕ) (k : Option Kind) → body_good k xs ≡ true → codes_good (rates_in k) xs ≡ true
unfolding codes_good
good_by xs (Some Rate) h = rate_codes xs (accepted_rate xs h)
good_by xs (Some Sample) h = sym (each_start _)
good_by xs (Some Beacon) h = beacon_codes xs (accepted_beacon xs h)
good_by xs None h = sym (each_start _)

-- have good codes
pub rates_good : (xs : List ℕ) → read_number xs ≡ 0 → codes_good (rate_count_of xs) xs ≡ true
rates_good xs e = good_by xs (kind_of (application_of xs)) (accepted_body xs (kind_of (application_of xs)) e refl)

-- ---- the number

module _ (wanted n : ℕ) (xs : List ℕ) where
  abbrev behind : List Check
  behind = (convertible wanted xs, body_fault) ∷ (rates_exact wanted (rate_count_of xs) xs, no_first_code) ∷ []

  -- what the reader takes is judged further behind the length of `out`, and what it refuses is refused
  pub number_taken : read_number xs ≡ 0 → convert_number wanted n xs ≡ cond (eqb n packet_bytes) (number_by behind) buffer_or_state
  unfolding convert_number read_number
  number_taken h =
      ap (λ (m : ℕ). cond (eqb n packet_bytes) m buffer_or_state)
      (number_behind (read_checks xs) behind (all_passed (read_checks xs) refl h))

  pub number_untaken : (read_number xs ≡ 0 → ⊥) → convert_number wanted n xs ≡ cond (eqb n packet_bytes) (read_number xs) buffer_or_state
  unfolding convert_number read_number
  number_untaken h = ap (λ (m : ℕ). cond (eqb n packet_bytes) m buffer_or_state) (number_before (read_checks xs) behind h)

  module _ (l : n ≡ packet_bytes) where
    -- what the reader refuses has its number
    pub number_refused : (read_number xs ≡ 0 → ⊥) → convert_number wanted n xs ≡ read_number xs
    unfolding convert_number read_number
    number_refused h = rw (eq-eqb n packet_bytes l) (number_before (read_checks xs) behind h)

    -- what it takes is judged further
    pub number_accepted : read_number xs ≡ 0 → convert_number wanted n xs ≡ number_by behind
    unfolding convert_number read_number
    number_accepted h = rw (eq-eqb n packet_bytes l) (number_behind (read_checks xs) behind (all_passed (read_checks xs) refl h))

  -- what a packet that is converted has passed
  pub record Passes : Type 0 where
    pub out_is : n ≡ packet_bytes
    pub accepted : read_number xs ≡ 0
    pub right : convertible wanted xs ≡ true
    pub exact : rates_exact wanted (rate_count_of xs) xs ≡ true

  pub passes : convert_number wanted n xs ≡ 0 → Passes
  unfolding convert_number
  passes e =
      let p = all_passed (convert_checks wanted n xs) refl e in
      record {
        out_is = eqb-true n packet_bytes p.0;
        accepted = accepted_is xs p.1.0 p.1.1.0 p.1.1.1.0;
        right = p.1.1.1.1.0;
        exact = p.1.1.1.1.1.0;
      }

  pub number_passes : Passes → convert_number wanted n xs ≡ 0
  number_passes p = number_accepted p.out_is p.accepted ∙ simp (p.right, p.exact)

  -- what one has passed that gets 17
  pub record Inexact : Type 0 where
    pub out_is : n ≡ packet_bytes
    pub accepted : read_number xs ≡ 0
    pub right : convertible wanted xs ≡ true
    pub inexact : rates_exact wanted (rate_count_of xs) xs ≡ false

  abbrev before : List Check
  before = (eqb n packet_bytes, buffer_or_state) ∷ read_checks xs ++ (convertible wanted xs, body_fault) ∷ []

  passed_all : rates_exact wanted (rate_count_of xs) xs ≡ true → Passed before → convert_number wanted n xs ≡ 0
  unfolding convert_number
  passed_all q p = number_behind before ((rates_exact wanted (rate_count_of xs) xs, no_first_code) ∷ []) p ∙ ap (λ (b : Bool). cond b 0 no_first_code) q

  pub seventeen : convert_number wanted n xs ≡ no_first_code → Inexact
  unfolding convert_number
  seventeen e =
      let exact : Bool = rates_exact wanted (rate_count_of xs) xs in
      let p = passed_first (eqb no_first_code) before ((exact, no_first_code) ∷ []) refl (eq-eqb _ _ (sym e)) in
      record {
        out_is = eqb-true n packet_bytes p.0;
        accepted = accepted_is xs p.1.0 p.1.1.0 p.1.1.1.0;
        right = p.1.1.1.1.0;
        inexact = decide exact (λ q. absurd (omega (arith, e, passed_all q p))) (λ q. q);
      }

-- ---- the two editions

-- a packet to be converted is in the other edition
other_by : (w m : Bool) → cond w (not m) m ≡ true → m ≡ not w
other_by true true h = absurd (false≢true h)
other_by true false h = refl
other_by false true h = refl
other_by false false h = absurd (false≢true h)

pub other_edition : (wanted : ℕ) (xs : List ℕ) → convertible wanted xs ≡ true → is_first (mark_of xs) ≡ not (is_first wanted)
unfolding convertible
other_edition wanted xs h = other_by (is_first wanted) (is_first (mark_of xs)) (and_right (not (eqb (rate_count_of xs) 0)) _ h)

-- and has rates
has_rates : (wanted : ℕ) (xs : List ℕ) → convertible wanted xs ≡ true → eqb (rate_count_of xs) 0 ≡ false
unfolding convertible
has_rates wanted xs h = not-true _ (and_left _ _ h)

-- to the second edition no rate loses a bit
pub exact_there : (wanted n : ℕ) (xs : List ℕ) → is_first wanted ≡ false → is_first (mark_of xs) ≡ true → codes_good n xs ≡ true
    → rates_exact wanted n xs ≡ true
unfolding rates_exact codes_good
exact_there wanted n xs f m g = each_all _ n (λ i h. second_exact wanted (mark_of xs) (code_at xs i) f m (each_at _ n i h g))

-- an edition's own mark says the same of a packet as any other of its marks
pub same_convertible : (wanted : ℕ) (xs : List ℕ) → convertible (mark_in (edition_of wanted)) xs ≡ convertible wanted xs
unfolding convertible
same_convertible wanted xs = decide (is_first wanted) (λ t. rw t refl) (λ f. rw f refl)

pub same_exact : (wanted n : ℕ) (xs : List ℕ) → rates_exact (mark_in (edition_of wanted)) n xs ≡ rates_exact wanted n xs
unfolding rates_exact
same_exact wanted n xs =
    ap (λ (e : Edition). each n (λ i. eqb (least_of e (code_of e (rate_at xs i))) (rate_at xs i))) (edition_again (edition_of wanted))

-- ---- the converted packet

module _ (wanted : ℕ) (xs : List ℕ) (h : wanted ≤ converted_mark) (acc : read_number xs ≡ 0) where
  lx : length xs ≡ packet_bytes
  lx = accepted_length xs acc

  -- whose body has no fault and whose contents are the same is accepted, and read as before
  reread_as : (k : Option Kind) → kind_of (application_of xs) ≡ k → let ys = recoded wanted (rates_in k) xs in
      body_good k ys ≡ true → contents k ys ≡ with_mark wanted (contents k xs)
      → (read_number ys ≡ 0) × (read_of ys ≡ with_mark wanted (read_of xs))
  reread_as k q g same =
      let n : ℕ = rates_in k in
      let ys : List ℕ = recoded wanted n xs in
      let fits = rates_fit k in
      let kind : kind_of (application_of ys) ≡ k = ap kind_of (application_same wanted n xs lx fits) ∙ q in
      let z : read_number ys ≡ 0 =
      accepted_is ys (header_same wanted n xs lx fits ∙ (passed xs acc).0) (sum_recoded wanted n xs lx fits)
      (ap (λ (t : Option Kind). body_good t ys) kind ∙ g) in
      (z, read_accepted ys k z kind ∙ same ∙ ap (with_mark wanted) (sym (read_accepted xs k acc q)))

  -- so of both kinds that have rates
  reread : (k : Option Kind) → kind_of (application_of xs) ≡ k → eqb (rates_in k) 0 ≡ false → rates_exact wanted (rates_in k) xs ≡ true
      → let ys = recoded wanted (rates_in k) xs in (read_number ys ≡ 0) × (read_of ys ≡ with_mark wanted (read_of xs))
  reread (Some Rate) q ne e =
      let g = rate_good_lem wanted xs lx h (accepted_rate xs (accepted_body xs (Some Rate) acc q)) in
      reread_as (Some Rate) q (rate_accepted _ g) (rate_same wanted xs lx e)
  reread (Some Sample) q ne e = absurd (false≢true (sym ne))
  reread (Some Beacon) q ne e =
      let g = beacon_good_lem wanted xs lx h (accepted_beacon xs (accepted_body xs (Some Beacon) acc q)) in
      reread_as (Some Beacon) q (beacon_accepted _ g) (beacon_same wanted xs lx e)
  reread None q ne e = absurd (false≢true (sym ne))

-- ---- the calls

-- what a call leaves that is carried out
pub done_is : (wanted : ℕ) (xs out : List ℕ) → Passes wanted (length out) xs
    → convert_done wanted xs out ≡ record { number = carried_out; out = recoded wanted (rate_count_of xs) xs }
unfolding convert_done
done_is wanted xs out p = rw (number_passes wanted (length out) xs p)

-- and one that is refused
pub done_refused : (wanted : ℕ) (xs out : List ℕ) (n : ℕ) → convert_number wanted (length out) xs ≡ n → (n ≡ 0 → ⊥)
    → convert_done wanted xs out ≡ record { number = n; out = out }
unfolding convert_done
done_refused wanted xs out n e h = rw (e, ne_eqb n 0 h)

-- by 1 whatever comes with an `out` of another length, and by its number what the reader refuses
pub done_length : (wanted : ℕ) (xs out : List ℕ) → (length out ≡ packet_bytes → ⊥)
    → convert_done wanted xs out ≡ record { number = buffer_or_state; out = out }
unfolding convert_number
done_length wanted xs out h = done_refused wanted xs out buffer_or_state (simp (ne_eqb (length out) packet_bytes h)) (λ e. omega (arith, e))

pub done_unread : (wanted : ℕ) (xs out : List ℕ) → length out ≡ packet_bytes → (read_number xs ≡ 0 → ⊥)
    → convert_done wanted xs out ≡ record { number = read_number xs; out = out }
done_unread wanted xs out l h = done_refused wanted xs out (read_number xs) (number_refused wanted (length out) xs l h) h

-- which leaves `out` as it was
pub kept_unread : (wanted : ℕ) (xs out : List ℕ) → (read_number xs ≡ 0 → ⊥) → out ≡ (convert_done wanted xs out).out
kept_unread wanted xs out h =
    decide (eqb (length out) packet_bytes)
    (λ t. sym (ap (λ (d : Converted). d.out) (done_unread wanted xs out (eqb-true (length out) packet_bytes t) h)))
    (λ f. sym (ap (λ (d : Converted). d.out) (done_length wanted xs out (eqb-false (length out) packet_bytes f))))

-- by 13 what the reader takes but is no packet to convert, by 17 one with a rate that has no code
module _ (wanted : ℕ) (xs out : List ℕ) (l : length out ≡ packet_bytes) (acc : read_number xs ≡ 0) where
  pub done_fault : convertible wanted xs ≡ false → convert_done wanted xs out ≡ record { number = body_fault; out = out }
  done_fault h =
      done_refused wanted xs out body_fault (number_accepted wanted (length out) xs l acc ∙ simp h) (λ e. omega (arith, e))

  pub done_inexact : convertible wanted xs ≡ true → rates_exact wanted (rate_count_of xs) xs ≡ false
      → convert_done wanted xs out ≡ record { number = no_first_code; out = out }
  done_inexact h x =
      done_refused wanted xs out no_first_code (number_accepted wanted (length out) xs l acc ∙ simp (h, x)) (λ e. omega (arith, e))

pub number_is : (wanted : ℕ) (xs out : List ℕ) → (convert_done wanted xs out).number ≡ convert_number wanted (length out) xs
unfolding convert_done
number_is wanted xs out = refl

-- ---- reading, both ways

pub converted_read : ConvertedRead
converted_read wanted xs out h e =
    let p = passes wanted (length out) xs (sym (number_is wanted xs out) ∙ e) in
    let k : Option Kind = kind_of (application_of xs) in
    ap (λ (d : Converted). read_of d.out) (done_is wanted xs out p)
    ∙ (reread wanted xs h p.accepted k refl (has_rates wanted xs p.right) p.exact).1

-- ---- one call after the other, back to the edition of the packet

module _ (a b : ℕ) (xs out : List ℕ) (h : a ≤ converted_mark) (way : is_first b ≡ not (is_first a)) (bytes : EachBelow 256 xs)
    (p : Passes a (length out) xs) where
  abbrev n : ℕ
  n = rate_count_of xs

  abbrev ys : List ℕ
  ys = recoded a n xs

  fits : body_at + code_bytes * n ≤ frame_at
  fits = rates_fit (kind_of (application_of xs))

  long : length xs ≡ packet_bytes
  long = accepted_length xs p.accepted

  good : codes_good n xs ≡ true
  good = rates_good xs p.accepted

  same : is_first b ≡ is_first (mark_of xs)
  same = way ∙ sym (other_edition a xs p.right)

  count_same : rate_count_of ys ≡ n
  count_same = ap (λ (m : ℕ). rates_in (kind_of m)) (application_same a n xs long fits)

  back_right : convertible b ys ≡ true
  unfolding convertible
  back_right =
      rw (count_same, has_rates a xs p.right, mark_recoded a n xs long fits, way) (back_by (is_first a))
    where
      back_by : (w : Bool) → cond (not w) (not w) w ≡ true
      back_by true = refl
      back_by false = refl

  back_exact : rates_exact b (rate_count_of ys) ys ≡ true
  unfolding rates_exact codes_good
  back_exact =
      rw count_same
      (each_all _ n (λ i l.
      ap (exact_by b) (rate_recoded a n xs long fits p.exact i l)
      ∙ own_exact b (mark_of xs) (code_at xs i) same (each_at _ n i l good)))

  back_passes : (out' : List ℕ) → length out' ≡ packet_bytes → Passes b (length out') ys
  back_passes out' l = record {
    out_is = l;
    accepted = (reread a xs h p.accepted (kind_of (application_of xs)) refl (has_rates a xs p.right) p.exact).0;
    right = back_right;
    exact = back_exact;
  }

  back : (out' : List ℕ) → length out' ≡ packet_bytes
      → convert_done b ys out' ≡ record { number = carried_out; out = summed (take sum_at (set xs mark_at b)) }
  back out' l =
      let t = twice a b n xs long fits bytes good p.exact same in
      done_is b ys out' (back_passes out' l)
      ∙ ap (λ (m : ℕ). record { number = carried_out; out = recoded b m ys }) count_same
      ∙ ap (λ (zs : List ℕ). record { number = carried_out; out = zs }) t

-- the same of what the first call leaves
after : (a b : ℕ) (xs out out' : List ℕ) → a ≤ converted_mark → is_first b ≡ not (is_first a) → EachBelow 256 xs
    → length out' ≡ packet_bytes → (convert_done a xs out).number ≡ carried_out
    → convert_done b (convert_done a xs out).out out' ≡ record { number = carried_out; out = summed (take sum_at (set xs mark_at b)) }
after a b xs out out' h way bytes l e =
    let p = passes a (length out) xs (sym (number_is a xs out) ∙ e) in
    ap (λ (d : Converted). convert_done b d.out out') (done_is a xs out p) ∙ back a b xs out h way bytes p out' l

-- its mark stays
kept_whole : (wanted b : ℕ) (xs out : List ℕ) → (convert_done wanted xs out).number ≡ carried_out → mark_of xs ≡ b
    → summed (take sum_at (set xs mark_at b)) ≡ xs
kept_whole wanted b xs out e m =
    let p = passes wanted (length out) xs (sym (number_is wanted xs out) ∙ e) in
    unchanged xs b (accepted_length xs p.accepted) (passed xs p.accepted).1.0 m

pub there_and_back : ThereAndBack
there_and_back xs out out' bytes l e =
    let p = passes converted_mark (length out) xs (sym (number_is converted_mark xs out) ∙ e) in
    let m : mark_of xs ≡ first_mark = eqb-true (mark_of xs) first_mark (other_edition converted_mark xs p.right) in
    after converted_mark first_mark xs out out' (omega arith) refl bytes l e
    ∙ ap (λ (zs : List ℕ). record { number = carried_out; out = zs }) (kept_whole converted_mark first_mark xs out e m)

pub back_and_there : BackAndThere
back_and_there xs out out' bytes l e =
    let t = after first_mark converted_mark xs out out' (omega arith) refl bytes l e in
    (t, λ m. ap (λ (d : Converted). d.out) t ∙ kept_whole first_mark converted_mark xs out e m)
