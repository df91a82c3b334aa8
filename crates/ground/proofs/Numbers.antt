-- The reader's number is the lowest that applies, and 11 for every application number but those of the three kinds. Assumes nothing.
use Rattle.std.specs.Prelude.{Option, Some, None, ◌≡◌, refl, ◌⊎◌, Bool, true, false, ◌&&◌, List, ℕ, ◌+◌, ◌*◌, ◌≤◌, ◌<◌, leb, eqb, length}
use Rattle.std.proofs.Common.{sym, ap, subst, ◌∙◌, inl, inr, arith, ne_eqb, leb-true}
use Rattle.std.proofs.Math.Bool.{false≢true}
use Rattle.causes.specs.Causes.{no_header}
use Rattle.causes.proofs.CheckLaws.{lowest}
use Rattle.wire.proofs.Lists.{and_false, and_left, and_right, decide}
use Rattle.wire.specs.Bytes.{at16}
use Rattle.wire.proofs.Pieces.{each_at}
use Rattle.rate_code.specs.Editions.{valid_by}
use Rattle.packet.specs.Layout.{packet_bytes}
use Rattle.packet.specs.Packet.{sample_application, application_of_sample}
use Rattle.decode.specs.declared.kind.Kind.{Kind}
use Rattle.decode.specs.declared.kind.Kind.TheVariants.{Rate, Sample, Beacon}
use Rattle.decode.specs.Limits.{last_sample}
use Rattle.decode.specs.Read.{application_of, kind_of, is_kind, fields_good, header_good, codes_good, body_good, read_checks, read_number}
use Rattle.decode.proofs.Reading.{passed, accepted_body, accepted_rate, accepted_beacon, rate_codes, rate_end, beacon_codes, beacon_end_lem}
use Rattle.ground.specs.Ground.{Packet, refused, accepted, contents}
use Rattle.ground.specs.Theorems.{LowestRead, TakenAs, TakenCodes, OtherNumber, ListingNotRead}
use Rattle.ground.proofs.Answers.{read_accepted, read_refused, no_records, number_read}

pub lowest_read : LowestRead
unfolding read_number
lowest_read xs = rw (number_read xs) (lowest (read_checks xs) refl refl)

-- by its kind
kind_taken : (xs : List ℕ) (k : Option Kind) → is_kind k ≡ true → body_good k xs ≡ true
    → (((contents k xs).kind ≡ Some Rate) ⊎ ((contents k xs).kind ≡ Some Sample) ⊎ ((contents k xs).kind ≡ Some Beacon)) × ((contents k xs).mark ≤ 2)
unfolding contents accepted
kind_taken xs (Some Rate) i g = (inl refl, leb-true _ _ (and_left _ _ (rate_end xs (accepted_rate xs g))))
kind_taken xs (Some Sample) i g = (inr (inl refl), omega arith)
kind_taken xs (Some Beacon) i g = (inr (inr refl), leb-true _ _ (and_left _ _ (beacon_end_lem xs (accepted_beacon xs g))))
kind_taken xs None i g = absurd (false≢true i)

header_kind : (xs : List ℕ) → header_good xs ≡ true → is_kind (kind_of (application_of xs)) ≡ true
unfolding header_good
header_kind xs h = and_right (eqb (length xs) packet_bytes && fields_good xs) _ h

pub taken_as : TakenAs
taken_as xs e =
    let z : read_number xs ≡ 0 = sym (number_read xs) ∙ e in
    let k : Option Kind = kind_of (application_of xs) in
    subst (λ (p : Packet). ((p.kind ≡ Some Rate) ⊎ (p.kind ≡ Some Sample) ⊎ (p.kind ≡ Some Beacon)) × (p.mark ≤ 2))
    (sym (read_accepted xs k z refl)) (kind_taken xs k (header_kind xs (passed xs z).0) (accepted_body xs k z refl))

-- the codes of a body without fault, by its kind
abbrev is_rate : Option Kind → Bool
is_rate (Some Rate) = true
is_rate (Some Sample) = false
is_rate (Some Beacon) = false
is_rate None = false

abbrev is_beacon : Option Kind → Bool
is_beacon (Some Rate) = false
is_beacon (Some Sample) = false
is_beacon (Some Beacon) = true
is_beacon None = false

abbrev CodesTaken : List ℕ → (i : ℕ) → Packet → Type 0
CodesTaken xs i p =
    (p.kind ≡ Some Rate → i < 124 → valid_by p.mark (at16 xs (11 + 2 * i)) ≡ true)
    × (p.kind ≡ Some Beacon → i < 15 → valid_by p.mark (at16 xs (11 + 2 * i)) ≡ true)

kind_codes : (xs : List ℕ) (k : Option Kind) (i : ℕ) → body_good k xs ≡ true → CodesTaken xs i (contents k xs)
unfolding contents accepted refused codes_good
kind_codes xs (Some Rate) i g =
    (λ q h. each_at _ 124 i h (rate_codes xs (accepted_rate xs g)), λ q. absurd (false≢true (ap is_beacon q)))
kind_codes xs (Some Sample) i g = (λ q. absurd (false≢true (ap is_rate q)), λ q. absurd (false≢true (ap is_beacon q)))
kind_codes xs (Some Beacon) i g =
    (λ q. absurd (false≢true (ap is_rate q)), λ q h. each_at _ 15 i h (beacon_codes xs (accepted_beacon xs g)))
kind_codes xs None i g = (λ q. absurd (false≢true (ap is_rate q)), λ q. absurd (false≢true (ap is_beacon q)))

pub taken_codes : TakenCodes
taken_codes xs i e =
    let z : read_number xs ≡ 0 = sym (number_read xs) ∙ e in
    let k : Option Kind = kind_of (application_of xs) in
    subst (CodesTaken xs i) (sym (read_accepted xs k z refl)) (kind_codes xs k i (accepted_body xs k z refl))

-- no kind has the number
no_kind : (a : ℕ) → (a ≡ 605 → ⊥) → (a ≡ 624 → ⊥) → (606 ≤ a → a ≤ 616 → ⊥) → kind_of a ≡ None
unfolding kind_of
no_kind a r b s =
    decide (leb sample_application a && leb a (application_of_sample last_sample))
    (λ q. absurd (s (leb-true _ _ (and_left _ _ q)) (leb-true _ _ (and_right (leb sample_application a) _ q))))
    (λ q. rw (ne_eqb a 605 r, ne_eqb a 624 b, q))

-- what has no number of a kind has no header
no_header_lem : (xs : List ℕ) → kind_of (application_of xs) ≡ None → read_number xs ≡ no_header
unfolding read_number header_good
no_header_lem xs e = rw (e, and_false (eqb (length xs) packet_bytes && fields_good xs))

pub other_number : OtherNumber
other_number xs r b s =
    let e = no_header_lem xs (no_kind (application_of xs) r b s) in
    let ne : read_number xs ≡ 0 → ⊥ = λ z. omega arith in
    (read_refused xs ne ∙ ap refused e, no_records xs ne)

pub listing_not_read : ListingNotRead
listing_not_read xs e = other_number xs (λ q. omega arith) (λ q. omega arith) (λ l h. omega arith)
