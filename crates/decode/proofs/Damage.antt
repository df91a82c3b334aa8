-- A packet of bytes with a right sum has a wrong one when one byte is another, and then gets 11 or 12. Assumes nothing.
use Rattle.std.specs.Prelude.{◌≡◌, refl, ◌⊎◌, true, false, List, [], ◌∷◌, ◌++◌, ℕ, zero, suc, ◌+◌, ◌%◌, ◌≤◌, ◌<◌, length, take}
use Rattle.std.specs.Prelude.{get_or, set}
use Rattle.std.proofs.Common.{sym, ap, ◌∙◌, inl, inr, ⊎_elim, arith, eq-or-lt_of_le, get_or-set_same, get_or-set_other, get_or-take}
use Rattle.std.proofs.Common.{length-take-le, eqb-true, ne_eqb}
use Rattle.std.proofs.Math.Logic.{⊎_map}
use Rattle.std.proofs.Math.Seq.{take-set-lt, take-set-le}
use Rattle.causes.specs.Causes.{no_header, packet_sum}
use Rattle.causes.specs.Checks.{itself}
use Rattle.causes.proofs.CheckLaws.{number_lowest}
use Rattle.wire.specs.Bytes.{one, total, be16, be32, words}
use Rattle.wire.specs.Lists.{EachBelow}
use Rattle.settings.specs.declared.Settings.{Settings}
use Rattle.rate_code.specs.Rate.{count_limit}
use Rattle.rate_code.specs.Editions.{code_by}
use Rattle.wire.specs.Pieces.{runs}
use Rattle.packet.specs.declared.stamp.Stamp.{Stamp}
use Rattle.packet.specs.Layout.{sum_at, packet_bytes, secondary_flag}
use Rattle.packet.specs.Packet.{header, summed, enveloped, trailer, packet_of, codes, settings_bytes}
use Rattle.decode.specs.Read.{sum_good, read_checks, read_number}
use Rattle.decode.specs.Damage.{OneByteOff}
use Rattle.decode.specs.Ranges.{StampFits}
use Rattle.wire.proofs.Lists.{each_append}
use Rattle.wire.proofs.Pieces.{words_runs}
use Rattle.rate_code.proofs.EditionLaws.{by_fits}
use Rattle.decode.proofs.Accepted.{flags_le}

-- ---- the sum of a list with another number at i

total_set : (xs : List ℕ) (i v : ℕ) → i < length xs → total (set xs i v) + get_or xs i 0 ≡ total xs + v
unfolding total
total_set [] i v h = absurd (omega arith)
total_set (x ∷ xs) zero v h = omega arith
total_set (x ∷ xs) (suc i) v h = omega (arith, total_set xs i v (omega arith))

-- two numbers below 256 that differ by a difference of sums with one remainder are one
remainders : (s t old v : ℕ) → old < 256 → v < 256 → t + old ≡ s + v → s % 256 ≡ t % 256 → v ≡ old
remainders s t old v ho hv e r = omega arith

module _ (xs : List ℕ) (lx : length xs ≡ packet_bytes) (bytes : EachBelow 256 xs) (right : sum_good xs ≡ true) where
  sum_is : get_or xs sum_at 0 ≡ total (take sum_at xs) % 256
  unfolding sum_good
  sum_is = eqb-true _ _ right

  module _ (i v : ℕ) (hv : v < 256) (ne : v ≡ get_or xs i 0 → ⊥) where
    before_sum : i < sum_at → sum_good (set xs i v) ≡ false
    unfolding sum_good
    before_sum h =
        let ys : List ℕ = take sum_at xs in
        let ly : length ys ≡ sum_at = length-take-le sum_at xs (omega arith) in
        let old : get_or ys i 0 ≡ get_or xs i 0 = get_or-take sum_at xs i 0 h in
        let t : take sum_at (set xs i v) ≡ set ys i v = take-set-lt sum_at xs i v h in
        let b : get_or (set xs i v) sum_at 0 ≡ get_or xs sum_at 0 = get_or-set_other xs i sum_at v 0 (λ q. omega arith) in
        let e : total (set ys i v) + get_or ys i 0 ≡ total ys + v = total_set ys i v (omega arith) in
        ne_eqb _ _ (λ q. ne (remainders (total ys) (total (set ys i v)) (get_or xs i 0) v (bytes i) hv (omega arith)
        (sym sum_is ∙ sym b ∙ q ∙ ap (λ (l : List ℕ). total l % 256) t)))

    at_sum : i ≡ sum_at → sum_good (set xs i v) ≡ false
    unfolding sum_good
    at_sum h =
        let t : take sum_at (set xs i v) ≡ take sum_at xs = take-set-le sum_at xs i v (omega arith) in
        let b : get_or (set xs i v) i 0 ≡ v = get_or-set_same xs i v 0 (omega arith) in
        ne_eqb _ _ (λ q. ne (sym b
        ∙ ap (λ (k : ℕ). get_or (set xs i v) k 0) h
        ∙ q
        ∙ ap (λ (l : List ℕ). total l % 256) t
        ∙ sym sum_is
        ∙ ap (λ (k : ℕ). get_or xs k 0) (sym h)))

    set_wrong : i < packet_bytes → sum_good (set xs i v) ≡ false
    set_wrong h = let k : i ≤ sum_at = omega arith in ⊎_elim at_sum before_sum (eq-or-lt_of_le k)

  -- the sum is no longer right
  pub sum_wrong : (ys : List ℕ) → OneByteOff xs ys → sum_good ys ≡ false
  sum_wrong ys d = ap sum_good d.rest ∙ set_wrong d.place d.byte d.byte_fits d.differs (omega (arith, d.inside))

-- what has a wrong sum gets 11 or 12
pub wrong_number : (xs : List ℕ) → sum_good xs ≡ false → (read_number xs ≡ no_header) ⊎ (read_number xs ≡ packet_sum)
unfolding read_number
wrong_number xs e =
    let r = number_lowest itself no_header packet_sum (read_checks xs) refl (inr (inl (e, refl))) in
    ⊎_map sym (λ q. omega arith) (eq-or-lt_of_le r.0)

-- ---- written packets are lists of bytes

abbrev pub Bytes : List ℕ → Type 0
Bytes [] = Unit
Bytes (x ∷ xs) = (x < 256) × Bytes xs

pub bytes_below : (xs : List ℕ) → Bytes xs → EachBelow 256 xs
bytes_below [] b k = omega arith
bytes_below (x ∷ xs) b zero = b.0
bytes_below (x ∷ xs) b (suc k) = bytes_below xs b.1 k

bytes_runs : (piece : ℕ → List ℕ) (m : ℕ) → ((x : ℕ) → x < m → Bytes (piece x)) → (xs : List ℕ) → EachBelow m xs
    → EachBelow 256 (runs piece xs)
unfolding runs
bytes_runs piece m h [] l = λ k. omega arith
bytes_runs piece m h (x ∷ xs) l =
    each_append 256 (piece x) (runs piece xs) (bytes_below (piece x) (h x (l 0))) (bytes_runs piece m h xs (λ k. l (suc k)))

pub bytes_codes : (mark : ℕ) (ns : List ℕ) → EachBelow count_limit ns → EachBelow 256 (codes mark ns)
unfolding codes
bytes_codes mark ns h = bytes_runs (λ n. be16 (code_by mark n)) count_limit (λ n l. omega (arith, by_fits mark n l)) ns h

pub bytes_words : (ws : List ℕ) → EachBelow 4294967296 ws → EachBelow 256 (words ws)
bytes_words ws h = rw (words_runs ws) (bytes_runs be32 4294967296 (λ w l. omega arith) ws h)

pub bytes_settings : (s : Settings) (sum : ℕ) → s.limhi < 65536 → s.hvstep < 256 → sum < 16777216
    → EachBelow 256 (settings_bytes s sum)
unfolding settings_bytes
bytes_settings s sum l h m = bytes_below (settings_bytes s sum) (omega (arith, flags_le s))

bytes_header : (a q t : ℕ) → a < secondary_flag → t < 4294967296 → EachBelow 256 (header a q t)
unfolding header
bytes_header a q t ha ht = bytes_below (header a q t) (omega arith)

bytes_trailer : (st : Stamp) → st.frame < 65536 → st.mark < 256 → st.last ≡ 0 → EachBelow 256 (trailer st)
unfolding trailer
bytes_trailer st hf hm hl = bytes_below (trailer st) (omega arith)

-- a packet of any kind, and one of rates, samples or beacons
pub bytes_enveloped : (a q t : ℕ) (inner : List ℕ) → a < secondary_flag → t < 4294967296 → EachBelow 256 inner
    → EachBelow 256 (enveloped a q t inner)
unfolding enveloped summed
bytes_enveloped a q t inner ha ht hi =
    let I : List ℕ = header a q t ++ inner in
    let v : ℕ = total I % 256 in
    each_append 256 I (one v) (each_append 256 (header a q t) inner (bytes_header a q t ha ht) hi) (bytes_below (one v) (omega arith))

pub bytes_packet : (a marks : ℕ) (st : Stamp) (body : List ℕ) → a < secondary_flag → marks < 256 → StampFits marks st → EachBelow 256 body
    → EachBelow 256 (packet_of a st body)
bytes_packet a marks st body ha hm h hb =
    let T = bytes_trailer st h.frame_fits (omega (arith, h.mark_fits)) h.last_is in
    bytes_enveloped a st.sequence st.time (body ++ trailer st) ha h.time_fits (each_append 256 body (trailer st) hb T)
