-- Converting a rate or beacon packet from one edition of the rate code to the other (document 02, Point 6). Assumes nothing.
use Rattle.std.specs.Prelude.{ℕ, Bool, not, cond, ◌&&◌, Option, Some, None, List, [], ◌∷◌, ◌++◌, eqb, length, take, set}
use Rattle.causes.specs.Causes.{carried_out, buffer_or_state, body_fault, no_first_code}
use Rattle.causes.specs.Checks.{Check, number_by}
use Rattle.wire.specs.Bytes.{put}
use Rattle.wire.specs.Pieces.{each}
use Rattle.rate_code.specs.Editions.{first_mark, converted_mark, is_first, exact_by}
use Rattle.packet.specs.Layout.{packet_bytes, body_at, mark_at, sum_at, rate_count, beacon_rate_count}
use Rattle.packet.specs.Packet.{summed, codes}
use Rattle.decode.specs.declared.kind.Kind.{Kind}
use Rattle.decode.specs.declared.kind.Kind.TheVariants.{Rate, Sample, Beacon}
use Rattle.decode.specs.Read.{application_of, kind_of, mark_of, rate_at, rates_of, read_checks}

-- how many rates a packet of the kind has
abbrev pub rates_in : Option Kind → ℕ
rates_in (Some Rate) = rate_count
rates_in (Some Sample) = 0
rates_in (Some Beacon) = beacon_rate_count
rates_in None = 0

abbrev pub rate_count_of : List ℕ → ℕ
rate_count_of xs = rates_in (kind_of (application_of xs))

-- ---- the packet

-- "Each rate's least count stays, byte 269 becomes 2 (converted), or 0 on the way back, the sum is renewed and every other byte stays":
-- of a packet with n rates, to the edition of the mark that is wanted
unfoldable pub recoded : (wanted n : ℕ) → List ℕ → List ℕ
recoded wanted n xs = summed (take sum_at (put (set xs mark_at wanted) body_at (codes wanted (rates_of n xs))))

-- ---- the number

-- 13: "A sample packet, or one already in the edition wanted, gets 13"
unfoldable pub convertible : (wanted : ℕ) → List ℕ → Bool
convertible wanted xs =
    not (eqb (rate_count_of xs) 0) && cond (is_first wanted) (not (is_first (mark_of xs))) (is_first (mark_of xs))

-- 17: each rate's least count is that of a code in the edition wanted; to the second that is always so (`SecondWhen` in
-- ConvertTheorems.antt)
unfoldable pub rates_exact : (wanted n : ℕ) → List ℕ → Bool
rates_exact wanted n xs = each n (λ i. exact_by wanted (rate_at xs i))

-- the tests in their order, with out of n bytes: what the reader refuses is refused here too, with its number
abbrev pub convert_checks : (wanted n : ℕ) → List ℕ → List Check
convert_checks wanted n xs =
    (eqb n packet_bytes, buffer_or_state)
    ∷ read_checks xs
    ++ (convertible wanted xs, body_fault)
    ∷ (rates_exact wanted (rate_count_of xs) xs, no_first_code)
    ∷ []

unfoldable pub convert_number : (wanted n : ℕ) → List ℕ → ℕ
convert_number wanted n xs = number_by (convert_checks wanted n xs)

-- ---- the calls

-- what a call answers, and leaves in the lent buffer `out`
pub record Converted : Type 0 where
  pub number : ℕ
  pub out : List ℕ

-- a refused packet leaves `out` as it was
abbrev pub converted_by : (number wanted : ℕ) → (packet out : List ℕ) → Converted
converted_by number wanted packet out =
    record {
      number = number;
      out = cond (eqb number carried_out) (recoded wanted (rate_count_of packet) packet) out;
    }

unfoldable pub convert_done : (wanted : ℕ) → (packet out : List ℕ) → Converted
convert_done wanted packet out = converted_by (convert_number wanted (length out) packet) wanted packet out

-- what `to_second` does, and `to_first`
abbrev pub to_second : (packet out : List ℕ) → Converted
to_second packet out = convert_done converted_mark packet out

abbrev pub to_first : (packet out : List ℕ) → Converted
to_first packet out = convert_done first_mark packet out
