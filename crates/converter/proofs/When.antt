-- When a packet is converted, and with which number it is refused otherwise, by what the reader says of it. Assumes nothing.
use Rattle.std.proofs.Common.{Option, Some, ◌≡◌, refl, sym, ap, subst, ◌∙◌, ⊎_elim, Bool, true, false, not, cond, List, ℕ, ◌<◌}
use Rattle.std.proofs.Common.{arith, eqb, length, get_or, eq-eqb, ne_eqb, eqb-true}
use Rattle.std.proofs.Math.Bool.{false≢true}
use Rattle.causes.specs.Causes.{carried_out}
use Rattle.causes.proofs.CheckLaws.{lowest}
use Rattle.wire.proofs.Lists.{decide}
use Rattle.wire.proofs.Pieces.{table_at, length_table, each_at, each_all, each_fails}
use Rattle.rate_code.specs.Rate.{count_limit, rate_code}
use Rattle.rate_code.specs.Editions.{first_mark, converted_mark, is_first, exact_by}
use Rattle.rate_code.proofs.Codes.{code_valid_lem}
use Rattle.rate_code.proofs.EditionLaws.{by_below, own_exact}
use Rattle.packet.specs.Layout.{packet_bytes}
use Rattle.decode.specs.declared.kind.Kind.{Kind}
use Rattle.decode.specs.declared.kind.Kind.TheVariants.{Rate, Sample, Beacon}
use Rattle.decode.specs.Read.{application_of, kind_of, mark_of, code_at, rate_at, rates_of, codes_good, read_number}
use Rattle.ground.specs.Ground.{Packet, accepted, contents, read_of}
use Rattle.ground.proofs.Answers.{read_accepted, number_read, kind_read}
use Rattle.converter.specs.Convert.{rates_in, rate_count_of, convertible, rates_exact, convert_checks, convert_number, convert_done}
use Rattle.converter.specs.ConvertTheorems.{Taken, OfRates, InFirst, rates_for, rates_read, HasFirst, EachFirst, SomeNoFirst, leaves}
use Rattle.converter.specs.ConvertTheorems.{SecondWhen, FirstWhen, ConvertedWhen, OtherLength, NeverThere, LowestConverted}
use Rattle.converter.proofs.Converts.{rates_good, seventeen, number_is, other_edition, exact_there, number_passes}
use Rattle.converter.proofs.Converts.{done_length, done_unread, done_fault, done_inexact}

-- ---- counts and first-edition codes

-- a count that the first edition keeps whole has a code there, and one that it does not has none
has_exact : (n : ℕ) → HasFirst n → exact_by first_mark n ≡ true
has_exact n h = ap (exact_by first_mark) (sym h.2) ∙ own_exact first_mark first_mark h.0 refl h.1

none_inexact : (n : ℕ) → n < count_limit → (HasFirst n → ⊥) → exact_by first_mark n ≡ false
none_inexact n l h = decide (exact_by first_mark n) (λ q. absurd (h (rate_code n, code_valid_lem n l, eqb-true _ _ q))) (λ q. q)

-- ---- what the reader says of an accepted packet

module _ (xs : List ℕ) (t : Taken xs) where
  acc : read_number xs ≡ 0
  acc = sym (number_read xs) ∙ t

  -- its kind
  kind_is : (k : Option Kind) → (read_of xs).kind ≡ k → kind_of (application_of xs) ≡ k
  kind_is k e = sym (kind_read xs acc) ∙ e

  -- it has no rates if it is a sample packet
  no_rates : (read_of xs).kind ≡ Some Sample → (wanted : ℕ) → convertible wanted xs ≡ false
  unfolding convertible
  no_rates e wanted = rw (kind_is (Some Sample) e)

  -- a packet of rates: how many, which, and the mark
  module _ (r : OfRates xs) where
    some_rates : eqb (rate_count_of xs) 0 ≡ false
    some_rates = ⊎_elim (λ (e : (read_of xs).kind ≡ Some Rate). rw (kind_is (Some Rate) e)) (λ (e : (read_of xs).kind ≡ Some Beacon). rw (kind_is (Some Beacon) e)) r

    mark_by : (k : Option Kind) → kind_of (application_of xs) ≡ k → (contents k xs).mark ≡ mark_of xs → (read_of xs).mark ≡ mark_of xs
    mark_by k q e = ap (λ (p : Packet). p.mark) (read_accepted xs k acc q) ∙ e

    mark_is : (read_of xs).mark ≡ mark_of xs
    unfolding contents accepted
    mark_is =
        ⊎_elim (λ (e : (read_of xs).kind ≡ Some Rate). mark_by (Some Rate) (kind_is (Some Rate) e) refl)
        (λ (e : (read_of xs).kind ≡ Some Beacon). mark_by (Some Beacon) (kind_is (Some Beacon) e) refl) r

    rates_by : (k : Option Kind) → kind_of (application_of xs) ≡ k → rates_for k (contents k xs) ≡ rates_of (rates_in k) xs
        → rates_read xs ≡ rates_of (rate_count_of xs) xs
    rates_by k q e =
        (λ i. rates_for ((kind_read xs acc ∙ q) i) (read_accepted xs k acc q i)) ∙ e ∙ ap (λ (t : Option Kind). rates_of (rates_in t) xs) (sym q)

    rates_are : rates_read xs ≡ rates_of (rate_count_of xs) xs
    unfolding contents accepted
    rates_are =
        ⊎_elim (λ (e : (read_of xs).kind ≡ Some Rate). rates_by (Some Rate) (kind_is (Some Rate) e) refl)
        (λ (e : (read_of xs).kind ≡ Some Beacon). rates_by (Some Beacon) (kind_is (Some Beacon) e) refl) r

    many : length (rates_read xs) ≡ rate_count_of xs
    unfolding rates_of
    many = ap length rates_are ∙ length_table _ (rate_count_of xs)

    rate_is : (i : ℕ) → i < rate_count_of xs → get_or (rates_read xs) i 0 ≡ rate_at xs i
    unfolding rates_of
    rate_is i l = ap (λ (ns : List ℕ). get_or ns i 0) rates_are ∙ table_at _ (rate_count_of xs) i l

    -- its edition
    in_first : InFirst xs → is_first (mark_of xs) ≡ true
    in_first f = eq-eqb _ _ (sym mark_is ∙ f)

    in_second : (InFirst xs → ⊥) → is_first (mark_of xs) ≡ false
    in_second f = ne_eqb _ _ (λ e. f (mark_is ∙ e))

    judged : (wanted : ℕ) (m : Bool) → is_first (mark_of xs) ≡ m → convertible wanted xs ≡ cond (is_first wanted) (not m) m
    unfolding convertible
    judged wanted m e = rw (some_rates, e)

    -- each rate has a first-edition code, or one has none
    each_exact : EachFirst xs → rates_exact first_mark (rate_count_of xs) xs ≡ true
    unfolding rates_exact
    each_exact h =
        each_all _ (rate_count_of xs) (λ i l.
        has_exact (rate_at xs i) (subst HasFirst (rate_is i l) (h i (omega (arith, many)))))

    some_inexact : SomeNoFirst xs → rates_exact first_mark (rate_count_of xs) xs ≡ false
    unfolding rates_exact codes_good
    some_inexact s =
        let i = s.0 in
        let l : i < rate_count_of xs = omega (arith, s.1, many) in
        let b = by_below (mark_of xs) (code_at xs i) (each_at _ (rate_count_of xs) i l (rates_good xs acc)) in
        each_fails _ (rate_count_of xs) i l (none_inexact (rate_at xs i) b (λ k. s.2 (subst HasFirst (sym (rate_is i l)) k)))

-- ---- the two calls

module _ (xs out : List ℕ) (l : length out ≡ packet_bytes) where
  not_taken : (wanted : ℕ) → (Taken xs → ⊥) → convert_done wanted xs out ≡ leaves out (read_of xs).number
  not_taken wanted h =
      done_unread wanted xs out l (λ z. h (number_read xs ∙ z)) ∙ ap (leaves out) (sym (number_read xs))

  passing : (wanted : ℕ) (t : Taken xs) → convertible wanted xs ≡ true → rates_exact wanted (rate_count_of xs) xs ≡ true
      → (convert_done wanted xs out).number ≡ carried_out
  passing wanted t c x =
      number_is wanted xs out
      ∙ number_passes wanted (length out) xs (record { out_is = l; accepted = acc xs t; right = c; exact = x })

  second_when : SecondWhen xs out
  second_when = record {
    converted = λ t r f.
        let e = in_first xs t r f in
        passing converted_mark t (judged xs t r converted_mark true e)
        (exact_there converted_mark (rate_count_of xs) xs refl e (rates_good xs (acc xs t)));
    sample = λ t k. done_fault converted_mark xs out l (acc xs t) (no_rates xs t k converted_mark);
    already = λ t r f. done_fault converted_mark xs out l (acc xs t) (judged xs t r converted_mark false (in_second xs t r f));
    unread = λ h. not_taken converted_mark h;
  }

  first_when : FirstWhen xs out
  first_when = record {
    converted = λ t r f h. passing first_mark t (judged xs t r first_mark false (in_second xs t r f)) (each_exact xs t r h);
    inexact = λ t r f s.
        done_inexact first_mark xs out l (acc xs t) (judged xs t r first_mark false (in_second xs t r f)) (some_inexact xs t r s);
    sample = λ t k. done_fault first_mark xs out l (acc xs t) (no_rates xs t k first_mark);
    already = λ t r f. done_fault first_mark xs out l (acc xs t) (judged xs t r first_mark true (in_first xs t r f));
    unread = λ h. not_taken first_mark h;
  }

pub converted_when : ConvertedWhen
converted_when xs out l = (second_when xs out l, first_when xs out l)

pub other_length : OtherLength
other_length xs out h = (done_length converted_mark xs out h, done_length first_mark xs out h)

pub never_there : NeverThere
never_there xs out e =
    let s = seventeen converted_mark (length out) xs (sym (number_is converted_mark xs out) ∙ e) in
    let m = other_edition converted_mark xs s.right in
    false≢true (sym s.inexact ∙ exact_there converted_mark (rate_count_of xs) xs refl m (rates_good xs s.accepted))

pub lowest_converted : LowestConverted
unfolding convert_done convert_number
lowest_converted xs out =
    (lowest (convert_checks converted_mark (length out) xs) refl refl, lowest (convert_checks first_mark (length out) xs) refl refl)
