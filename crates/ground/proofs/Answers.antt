-- The reader answers an accepted packet by its kind, and a refused one with its number and no records. Assumes nothing.
use Rattle.std.specs.Prelude.{Option, Some, None, ◌≡◌, refl, true, cond, List, [], ℕ, eqb, length, take, drop}
use Rattle.std.proofs.Common.{sym, ap, ◌∙◌, eqb-true, eq-eqb, ne_eqb, leb-true}
use Rattle.std.proofs.lemmas.Bool.{eqb-false}
use Rattle.wire.proofs.Lists.{and_left, decide}
use Rattle.wire.specs.Bytes.{zeros}
use Rattle.packet.specs.Layout.{beacon_rate_count}
use Rattle.rate_code.specs.Editions.{mark_number, mark_from}
use Rattle.rate_code.proofs.EditionLaws.{mark_numbered}
use Rattle.packet.specs.Layout.{body_at, body_bytes, packet_bytes, rate_count}
use Rattle.decode.specs.declared.kind.Kind.{Kind}
use Rattle.decode.specs.declared.kind.Kind.TheVariants.{Rate, Sample, Beacon}
use Rattle.decode.specs.Limits.{last_mark}
use Rattle.decode.specs.Read.{application_of, sequence_of, time_of, frame_of, mark_of, kind_of, rates_of, settings_of, sum_of, end_good, body_good, read_number}
use Rattle.decode.proofs.Reading.{accepted_length, accepted_rate, accepted_beacon, rate_end, beacon_end_lem}
use Rattle.ground.specs.Ground.{Packet, no_settings, refused, accepted, contents, read_of, contents_of, told_of, is_sample, samples_in, records_of}

pub samples_length : (xs : List ℕ) → samples_in xs ≡ true → length xs ≡ packet_bytes
unfolding samples_in
samples_length xs h = accepted_length xs (eqb-true (read_number xs) 0 (and_left _ _ h))

-- the answer for an accepted packet, by its kind, and for a refused one
pub read_accepted : (xs : List ℕ) (k : Option Kind) → read_number xs ≡ 0 → kind_of (application_of xs) ≡ k → read_of xs ≡ contents k xs
unfolding read_of
read_accepted xs k e q = rw (eq-eqb _ _ e, q)

pub read_refused : (xs : List ℕ) → (read_number xs ≡ 0 → ⊥) → read_of xs ≡ refused (read_number xs)
unfolding read_of
read_refused xs ne = rw (ne_eqb _ _ ne)

-- its number, and an accepted packet's kind, are those that were judged by
number_by_lem : (xs : List ℕ) (k : Option Kind) → (contents k xs).number ≡ 0
unfolding contents accepted refused
number_by_lem xs (Some Rate) = refl
number_by_lem xs (Some Sample) = refl
number_by_lem xs (Some Beacon) = refl
number_by_lem xs None = refl

pub number_read : (xs : List ℕ) → (read_of xs).number ≡ read_number xs
unfolding refused
number_read xs =
    let k : Option Kind = kind_of (application_of xs) in
    decide (eqb (read_number xs) 0)
    (λ q.
    let z : read_number xs ≡ 0 = eqb-true (read_number xs) 0 q in
    ap (λ (p : Packet). p.number) (read_accepted xs k z refl) ∙ number_by_lem xs k ∙ sym z)
    (λ q. ap (λ (p : Packet). p.number) (read_refused xs (eqb-false (read_number xs) 0 q)))

kind_by : (xs : List ℕ) (k : Option Kind) → (contents k xs).kind ≡ k
unfolding contents accepted refused
kind_by xs (Some Rate) = refl
kind_by xs (Some Sample) = refl
kind_by xs (Some Beacon) = refl
kind_by xs None = refl

pub kind_read : (xs : List ℕ) → read_number xs ≡ 0 → (read_of xs).kind ≡ kind_of (application_of xs)
kind_read xs z =
    let k : Option Kind = kind_of (application_of xs) in ap (λ (p : Packet). p.kind) (read_accepted xs k z refl) ∙ kind_by xs k

-- the records of an accepted sample packet; none of another kind, and none of a refused packet
pub the_records : (xs : List ℕ) (k : Option Kind) → read_number xs ≡ 0 → kind_of (application_of xs) ≡ k
    → records_of xs ≡ cond (is_sample k) (take body_bytes (drop body_at xs)) []
unfolding records_of samples_in
the_records xs k e q = rw (eq-eqb _ _ e, q)

pub no_records : (xs : List ℕ) → (read_number xs ≡ 0 → ⊥) → records_of xs ≡ []
unfolding records_of samples_in
no_records xs ne = rw (ne_eqb _ _ ne)

-- ---- what is handed back

-- the mark of rates has its number again
mark_told : (xs : List ℕ) → end_good xs ≡ true → mark_number (mark_from (mark_of xs)) ≡ mark_of xs
mark_told xs e = mark_numbered (mark_of xs) (leb-true (mark_of xs) last_mark (and_left _ _ e))

-- what is handed back of a packet without fault tells what it holds
told_is : (xs : List ℕ) (k : Kind) → body_good (Some k) xs ≡ true
    → told_of (record { application = application_of xs; sequence = sequence_of xs; time = time_of xs; frame = frame_of xs; contents = contents_of k xs })
    (contents_of k xs)
    ≡ contents (Some k) xs
unfolding contents accepted
told_is xs Rate e =
    ap (λ (m : ℕ). accepted (Some Rate) xs m (rates_of rate_count xs) (settings_of xs) (sum_of xs) (zeros beacon_rate_count) 0)
    (mark_told xs (rate_end xs (accepted_rate xs e)))
told_is xs Sample e = refl
told_is xs Beacon e =
    ap (λ (m : ℕ). accepted (Some Beacon) xs m (zeros rate_count) no_settings 0 (rates_of beacon_rate_count xs) 0)
    (mark_told xs (beacon_end_lem xs (accepted_beacon xs e)))

-- and so what is read of it
pub told_read : (xs : List ℕ) (k : Kind) → read_number xs ≡ 0 → kind_of (application_of xs) ≡ Some k → body_good (Some k) xs ≡ true
    → told_of (record { application = application_of xs; sequence = sequence_of xs; time = time_of xs; frame = frame_of xs; contents = contents_of k xs })
    (contents_of k xs)
    ≡ read_of xs
told_read xs k z q e = told_is xs k e ∙ sym (read_accepted xs (Some k) z q)
