-- The packets' lengths, and that header, body, trailer and sum, put one behind the other, are the packet. Assumes nothing.
use Rattle.std.proofs.Common.{◌≡◌, refl, sym, ap, ◌∙◌, List, ◌++◌, append-nil, ℕ, ◌+◌, ◌*◌, ◌%◌, ◌≤◌, ◌<◌, arith, length, take}
use Rattle.std.proofs.Common.{get_or, length-append, drop_of_length-le}
use Rattle.wire.specs.Bytes.{put, one, total, words, be16, zeros}
use Rattle.wire.proofs.Bytes.{then, take_put, length_put, length_words}
use Rattle.wire.proofs.Pieces.{runs_append, runs_take, length_runs, length_runs_take}
use Rattle.settings.specs.declared.Settings.{Settings}
use Rattle.packet.specs.declared.stamp.Stamp.{Stamp}
use Rattle.rate_code.specs.Editions.{code_by}
use Rattle.packet.specs.Layout.{application_at, body_at, inner_bytes, sum_at, packet_bytes, body_bytes, frame_at}
use Rattle.boxes.specs.Boxes.{box_count, total_count}
use Rattle.packet.specs.Layout.{record_count, beacon_rate_count, beacon_unused}
use Rattle.packet.specs.Packet.{rate_application, sample_application, beacon_application, header, summed, enveloped, trailer, packet_of}
use Rattle.packet.specs.Packet.{codes, settings_bytes, rate_body, beacon_body, rate_packet, sample_packet, beacon_packet}

pub length_header : (a q t : ℕ) → length (header a q t) ≡ body_at
unfolding header
length_header a q t = refl

length_trailer : (st : Stamp) → length (trailer st) ≡ 4
unfolding trailer
length_trailer st = refl

length_settings : (s : Settings) (sum : ℕ) → length (settings_bytes s sum) ≡ 8
unfolding settings_bytes
length_settings s sum = refl

pub length_codes : (mark : ℕ) (ns : List ℕ) → length (codes mark ns) ≡ 2 * length ns
unfolding codes
length_codes mark ns = length_runs (λ n. be16 (code_by mark n)) 2 (λ n. refl) ns

pub length_codes_take : (mark : ℕ) (ns : List ℕ) (i : ℕ) → i ≤ length ns → length (codes mark (take i ns)) ≡ 2 * i
unfolding codes
length_codes_take mark ns i h = length_runs_take (λ n. be16 (code_by mark n)) 2 (λ n. refl) ns i h

pub codes_append : (mark : ℕ) (ms ns : List ℕ) → codes mark ms ++ codes mark ns ≡ codes mark (ms ++ ns)
unfolding codes
codes_append mark ms ns = sym (runs_append (λ n. be16 (code_by mark n)) ms ns)

-- one code more
pub codes_take : (mark : ℕ) (ns : List ℕ) (i : ℕ) → i < length ns
    → codes mark (take (i + 1) ns) ≡ codes mark (take i ns) ++ be16 (code_by mark (get_or ns i 0))
unfolding codes
codes_take mark ns i h = runs_take (λ n. be16 (code_by mark n)) ns i h

-- ---- header and sum around 260 bytes of any kind

pub length_summand : (a q t : ℕ) (inner : List ℕ) → length inner ≡ inner_bytes → length (header a q t ++ inner) ≡ sum_at
length_summand a q t inner h = simp (length-append, length_header) (omega arith)

pub length_enveloped : (a q t : ℕ) (inner : List ℕ) → length inner ≡ inner_bytes → length (enveloped a q t inner) ≡ packet_bytes
unfolding enveloped summed
length_enveloped a q t inner h =
    length-append (header a q t ++ inner) _ ∙ omega (arith, length_summand a q t inner h)

-- what is put behind all else is the end
pub sum_written : {z : List ℕ} (y : List ℕ) (v : ℕ) → length y ≡ packet_bytes → z ≡ put y sum_at (one v) → v ≡ total (take sum_at y) % 256
    → z ≡ summed (take sum_at y)
unfolding summed put
sum_written {z} y v l e ev =
    let none : length y ≤ sum_at + 1 = omega arith in
    e
    ∙ ap (λ (r : List ℕ). take sum_at y ++ one v ++ r) (drop_of_length-le y none)
    ∙ append-nil (take sum_at y ++ one v)
    ∙ ap (λ (n : ℕ). take sum_at y ++ one n) ev

module _ {x y z : List ℕ} (xs : List ℕ) (lx : length xs ≡ packet_bytes) (a : ℕ) where
  pub envelope_written : (q t : ℕ) (inner : List ℕ) → length inner ≡ inner_bytes → x ≡ put xs application_at (header a q t)
      → y ≡ put x body_at inner → z ≡ summed (take sum_at y) → z ≡ enveloped a q t inner
  unfolding enveloped
  envelope_written q t inner li ex ey ez =
      let H : List ℕ = header a q t in
      let e : y ≡ put xs 0 (H ++ inner) = then xs 0 H inner body_at ex ey (omega (arith, length_header a q t)) (omega arith) in
      ez ∙ ap summed (ap (take sum_at) e ∙ take_put (H ++ inner) xs 0 sum_at (omega (arith, length_summand a q t inner li)) (omega arith))

-- ---- rate, sample and beacon packets

pub length_inner : (st : Stamp) (body : List ℕ) → length body ≡ body_bytes → length (body ++ trailer st) ≡ inner_bytes
length_inner st body h = simp (length-append, length_trailer) (omega arith)

pub length_packet : (a : ℕ) (st : Stamp) (body : List ℕ) → length body ≡ body_bytes → length (packet_of a st body) ≡ packet_bytes
length_packet a st body h = length_enveloped a _ _ _ (length_inner st body h)

pub packet_written : {x y w z : List ℕ} (xs : List ℕ) (a : ℕ) (st : Stamp) (body : List ℕ)
    → length xs ≡ packet_bytes → length body ≡ body_bytes
    → x ≡ put xs application_at (header a st.sequence st.time) → y ≡ put x body_at body → w ≡ put y frame_at (trailer st)
    → z ≡ summed (take sum_at w) → z ≡ packet_of a st body
packet_written {x} xs a st body lx lb ex ey ew ez =
    let H : List ℕ = header a st.sequence st.time in
    let l : length x ≡ packet_bytes =
    ap length ex ∙ length_put H xs 0 (omega (arith, length_header a st.sequence st.time)) ∙ lx in
    envelope_written xs lx a _ _ (body ++ trailer st) (length_inner st body lb) ex
    (then x body_at body (trailer st) frame_at ey ew (omega arith) (omega arith))
    ez

pub length_rate_body : (mark : ℕ) (totals boxes : List ℕ) (s : Settings) (sum : ℕ) → length totals ≡ total_count → length boxes ≡ box_count
    → length (rate_body mark totals boxes s sum) ≡ body_bytes
length_rate_body mark totals boxes s sum lt lb = simp (length-append, length_codes, length_settings) (omega arith)

pub length_rate : (st : Stamp) (totals boxes : List ℕ) (s : Settings) (sum : ℕ) → length totals ≡ total_count → length boxes ≡ box_count
    → length (rate_packet st totals boxes s sum) ≡ packet_bytes
unfolding rate_packet
length_rate st totals boxes s sum lt lb =
    length_packet rate_application st (rate_body st.mark totals boxes s sum) (length_rate_body st.mark totals boxes s sum lt lb)

pub length_sample_body : (records : List ℕ) → length records ≡ record_count → length (words records) ≡ body_bytes
length_sample_body records h = length_words records ∙ omega arith

pub length_sample : (st : Stamp) (records : List ℕ) → length records ≡ record_count → length (sample_packet st records) ≡ packet_bytes
unfolding sample_packet
length_sample st records h = length_packet (sample_application + st.mark) st (words records) (length_sample_body records h)

pub length_beacon_body : (mark : ℕ) (rates : List ℕ) → length rates ≡ beacon_rate_count → length (beacon_body mark rates) ≡ body_bytes
length_beacon_body mark rates h = length-append (codes mark rates) (zeros beacon_unused) ∙ omega (arith, length_codes mark rates)

pub length_beacon : (st : Stamp) (rates : List ℕ) → length rates ≡ beacon_rate_count → length (beacon_packet st rates) ≡ packet_bytes
unfolding beacon_packet
length_beacon st rates h = length_packet beacon_application st (beacon_body st.mark rates) (length_beacon_body st.mark rates h)
