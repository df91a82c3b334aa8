-- What a reader finds in a packet that was written: header, sum, the body's bytes and those behind them. Assumes nothing.
use Rattle.std.specs.Prelude.{◌≡◌, refl, Bool, true, ◌&&◌, List, [], ◌++◌, ℕ, suc, ◌+◌, ◌*◌, ◌/◌, ◌%◌, ◌≤◌, ◌<◌, length, take, drop}
use Rattle.std.specs.Prelude.{get_or}
use Rattle.std.proofs.Common.{sym, ap, ◌∙◌, append_assoc, append-nil, arith, mul-le-mul_left, length-append, take_at, drop_at}
use Rattle.std.proofs.Common.{get_or-append-add, eq-eqb}
use Rattle.std.proofs.Math.ListN.{get_or-append}
use Rattle.std.proofs.Math.Seq.{get_or_at}
use Rattle.wire.specs.Bytes.{one, be16, be32, at16, words, total}
use Rattle.wire.specs.Pieces.{runs}
use Rattle.wire.proofs.Bytes.{value16, value32}
use Rattle.wire.proofs.Pieces.{length_runs, runs_at, words_runs}
use Rattle.packet.specs.declared.stamp.Stamp.{Stamp}
use Rattle.rate_code.specs.Editions.{code_by}
use Rattle.packet.specs.Layout.{application_at, sequence_at, length_at, zero_at, body_at, inner_bytes, sum_at, body_bytes}
use Rattle.packet.specs.Layout.{secondary_flag, sequence_flags, sequence_counts, length_field}
use Rattle.packet.specs.Packet.{header, summed, enveloped, trailer, packet_of, codes}
use Rattle.decode.specs.Read.{application_of, sequence_of, time_of, frame_of, mark_of, last_of, kind_of, is_kind, code_at, record_at}
use Rattle.decode.specs.Read.{fields_good, header_good, sum_good}
use Rattle.packet.proofs.Written.{length_header, length_summand, length_enveloped, length_inner}

-- ---- an index behind a first part of n elements, and one in a first part

pub behind : (a b : List ℕ) (n k : ℕ) → length a ≡ n → get_or (a ++ b) (n + k) 0 ≡ get_or b k 0
behind a b n k h = rw (← h) (get_or-append-add a b k 0)

pub within : (a b : List ℕ) (k : ℕ) → k < length a → get_or (a ++ b) k 0 ≡ get_or a k 0
within a b k h = get_or-append a b 0 k h

-- two tests that pass
pub both : {a b : Bool} → a ≡ true → b ≡ true → (a && b) ≡ true
both p q = λ i. p i && q i

-- the sum behind any 271 bytes is right
pub summed_good : (xs : List ℕ) → length xs ≡ sum_at → sum_good (summed xs) ≡ true
unfolding sum_good summed
summed_good xs l =
    let v : ℕ = total xs % 256 in
    eq-eqb _ _ (get_or_at xs v [] 0 sum_at l ∙ ap (λ (x : List ℕ). total x % 256) (sym (take_at xs (one v) sum_at l)))

-- ---- header and sum around 260 bytes of any kind

module _ (a q t : ℕ) (inner : List ℕ) (li : length inner ≡ inner_bytes) where
  abbrev E : List ℕ
  E = enveloped a q t inner

  application_word : at16 E application_at ≡ secondary_flag + a
  unfolding enveloped summed header
  application_word = value16 (secondary_flag + a)

  sequence_word : at16 E sequence_at ≡ sequence_flags * sequence_counts + q % sequence_counts
  unfolding enveloped summed header
  sequence_word = value16 (sequence_flags * sequence_counts + q % sequence_counts)

  length_word : at16 E length_at ≡ length_field
  unfolding enveloped summed header
  length_word = refl

  zero_back : get_or E zero_at 0 ≡ 0
  unfolding enveloped summed header
  zero_back = refl

  pub time_back : time_of E ≡ t
  unfolding enveloped summed header
  time_back = value32 t

  pub sequence_back : q < sequence_counts → sequence_of E ≡ q
  sequence_back h = ap (λ (n : ℕ). n % sequence_counts) sequence_word ∙ omega arith

  pub inner_at : (i : ℕ) → i < inner_bytes → get_or E (body_at + i) 0 ≡ get_or inner i 0
  unfolding enveloped summed
  inner_at i h =
      let H : List ℕ = header a q t in
      within (H ++ inner) _ (body_at + i) (omega (arith, length_summand a q t inner li)) ∙ behind H inner body_at i (length_header a q t)

  pub sum_back : sum_good E ≡ true
  unfolding enveloped
  sum_back = summed_good (header a q t ++ inner) (length_summand a q t inner li)

  module _ (ha : a < secondary_flag) where
    pub application_back : application_of E ≡ a
    application_back = ap (λ (n : ℕ). n % secondary_flag) application_word ∙ omega arith

    pub fields_back : fields_good E ≡ true
    unfolding fields_good
    fields_back =
        both (both (both (eq-eqb _ _ (ap (λ (n : ℕ). n / secondary_flag) application_word ∙ omega arith))
        (eq-eqb _ _ (ap (λ (n : ℕ). n / sequence_counts) sequence_word ∙ omega arith)))
        (eq-eqb _ _ length_word))
        (eq-eqb _ _ zero_back)

    pub header_back : is_kind (kind_of a) ≡ true → header_good E ≡ true
    unfolding header_good
    header_back k =
        both (both (eq-eqb _ _ (length_enveloped a q t inner li)) fields_back)
        (ap (λ (n : ℕ). is_kind (kind_of n)) application_back ∙ k)

-- ---- a rate, sample or beacon packet

module _ (a : ℕ) (st : Stamp) (body : List ℕ) (lb : length body ≡ body_bytes) where
  abbrev P : List ℕ
  P = packet_of a st body

  byte_at : (i : ℕ) → i < inner_bytes → get_or P (body_at + i) 0 ≡ get_or (body ++ trailer st) i 0
  byte_at = inner_at a st.sequence st.time (body ++ trailer st) (length_inner st body lb)

  pub body_at_lem : (i : ℕ) → i < body_bytes → get_or P (body_at + i) 0 ≡ get_or body i 0
  body_at_lem i h = byte_at i (omega arith) ∙ within body (trailer st) i (omega arith)

  trailer_at : (i : ℕ) → i < 4 → get_or P (body_at + (body_bytes + i)) 0 ≡ get_or (trailer st) i 0
  trailer_at i h = byte_at (body_bytes + i) (omega arith) ∙ behind body (trailer st) body_bytes i lb

  pub frame_back : frame_of P ≡ st.frame
  unfolding trailer
  frame_back = (λ i. 256 * trailer_at 0 (omega arith) i + trailer_at 1 (omega arith) i) ∙ value16 st.frame

  pub mark_back : mark_of P ≡ st.mark
  unfolding trailer
  mark_back = trailer_at 2 (omega arith)

  pub last_back : last_of P ≡ st.last
  unfolding trailer
  last_back = trailer_at 3 (omega arith)

  -- the body as a part
  pub body_part : take body_bytes (drop body_at P) ≡ body
  unfolding enveloped summed
  body_part =
      let H : List ℕ = header a st.sequence st.time in
      let R : List ℕ = trailer st ++ one (total (H ++ (body ++ trailer st)) % 256) in
      let s : P ≡ H ++ (body ++ R) = simp append_assoc in
      ap (λ (l : List ℕ). take body_bytes (drop body_at l)) s
      ∙ ap (take body_bytes) (drop_at H (body ++ R) body_at (length_header a st.sequence st.time))
      ∙ take_at body R body_bytes lb

  -- byte j of piece i, where the body begins with pieces of k bytes each
  piece_at : (piece : ℕ → List ℕ) (k : ℕ) (size : (x : ℕ) → length (piece x) ≡ k) (xs rest : List ℕ) → body ≡ runs piece xs ++ rest
      → (i j at : ℕ) → i < length xs → j < k → at ≡ body_at + (k * i + j) → get_or P at 0 ≡ get_or (piece (get_or xs i 0)) j 0
  piece_at piece k size xs rest e i j at h l q =
      let R : List ℕ = runs piece xs in
      let lr : length R ≡ k * length xs = length_runs piece k size xs in
      let more : k * suc i ≤ k * length xs = mul-le-mul_left k h in
      let le : length R + length rest ≡ body_bytes = sym (length-append R rest) ∙ ap length (sym e) ∙ lb in
      ap (λ (n : ℕ). get_or P n 0) q
      ∙ body_at_lem (k * i + j) (omega arith)
      ∙ ap (λ (b : List ℕ). get_or b (k * i + j) 0) e
      ∙ within R rest (k * i + j) (omega arith)
      ∙ runs_at piece k size xs i j h l

  -- code i, and record i
  pub code_back : (mark : ℕ) (ns rest : List ℕ) → body ≡ codes mark ns ++ rest → (i : ℕ) → i < length ns
      → code_at P i ≡ code_by mark (get_or ns i 0)
  unfolding codes
  code_back mark ns rest e i h =
      let c : (j at : ℕ) → j < 2 → at ≡ body_at + (2 * i + j) → get_or P at 0 ≡ get_or (be16 (code_by mark (get_or ns i 0))) j 0 =
      λ j at. piece_at (λ n. be16 (code_by mark n)) 2 (λ n. refl) ns rest e i j at h in
      let e₀ = c 0 (body_at + 2 * i) (omega arith) (omega arith) in
      let e₁ = c 1 (body_at + 2 * i + 1) (omega arith) (omega arith) in
      (λ k. 256 * e₀ k + e₁ k) ∙ value16 (code_by mark (get_or ns i 0))

  pub record_back : (ws : List ℕ) → body ≡ words ws → (i : ℕ) → i < length ws → record_at P i ≡ get_or ws i 0
  record_back ws e i h =
      let w : ℕ = get_or ws i 0 in
      let r : (j at : ℕ) → j < 4 → at ≡ body_at + (4 * i + j) → get_or P at 0 ≡ get_or (be32 w) j 0 =
      λ j at. piece_at be32 4 (λ n. refl) ws [] (e ∙ words_runs ws ∙ sym (append-nil (runs be32 ws))) i j at h in
      let e₀ = r 0 (body_at + 4 * i) (omega arith) (omega arith) in
      let e₁ = r 1 (body_at + 4 * i + 1) (omega arith) (omega arith) in
      let e₂ = r 2 (body_at + 4 * i + 2) (omega arith) (omega arith) in
      let e₃ = r 3 (body_at + 4 * i + 3) (omega arith) (omega arith) in
      (λ k. 16777216 * e₀ k + 65536 * e₁ k + 256 * e₂ k + e₃ k) ∙ value32 w
