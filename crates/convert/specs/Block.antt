-- What the program makes of a block of its input: the bytes that it writes, and what it counts (document 02, Point 6, and what
-- docs/DECISIONS.md says of the program). Assumes nothing.
use Rattle.std.specs.Prelude.{ℕ, zero, suc, ◌+◌, Bool, cond, ◌&&◌, List, ◌++◌, eqb, ltb, take, drop}
use Rattle.causes.specs.Causes.{carried_out, no_header, packet_sum, body_fault, no_first_code}
use Rattle.packet.specs.Layout.{packet_bytes}
use Rattle.decode.specs.Read.{read_number}
use Rattle.converter.specs.Convert.{convert_done}
use Rattle.convert.specs.declared.counts.Counts.{Counts}

-- ---- one packet

-- a packet is written in the edition wanted, and where converting it is refused as it is
abbrev pub written : (wanted : ℕ) → List ℕ → List ℕ
written wanted xs = (convert_done wanted xs xs).out

-- the number of a conversion
abbrev pub number_of : (wanted : ℕ) → List ℕ → ℕ
number_of wanted xs = (convert_done wanted xs xs).number

-- nothing is counted yet
abbrev pub none_counted : Counts
none_counted = record { converted = 0; passed = 0; headers = 0; sums = 0; bodies = 0; codes = 0 }

-- one more where the test passes, up to the largest number of 64 bits, which no run reaches
abbrev pub more : ℕ → Bool → ℕ
more n b = cond (b && ltb n 18446744073709551615) (n + 1) n

-- by the number with which the reader refuses it, or else by that of the conversion: a packet that the reader takes and that needs no
-- conversion, which gets 13, is passed on
unfoldable pub counted_by : Counts → (read number : ℕ) → Counts
counted_by c read number =
    record {
      converted = more c.converted (eqb number carried_out);
      passed = more c.passed (eqb read carried_out && eqb number body_fault);
      headers = more c.headers (eqb read no_header);
      sums = more c.sums (eqb read packet_sum);
      bodies = more c.bodies (eqb read body_fault);
      codes = more c.codes (eqb number no_first_code);
    }

abbrev pub counted : (wanted : ℕ) → Counts → List ℕ → Counts
counted wanted c xs = counted_by c (read_number xs) (number_of wanted xs)

-- ---- a block

-- its first n packets, and what stands behind them as it is
unfoldable pub written_all : (wanted n : ℕ) → List ℕ → List ℕ
written_all wanted zero xs = xs
written_all wanted (suc n) xs = written wanted (take packet_bytes xs) ++ written_all wanted n (drop packet_bytes xs)

unfoldable pub counted_all : (wanted n : ℕ) → Counts → List ℕ → Counts
counted_all wanted zero c xs = c
counted_all wanted (suc n) c xs = counted_all wanted n (counted wanted c (take packet_bytes xs)) (drop packet_bytes xs)
