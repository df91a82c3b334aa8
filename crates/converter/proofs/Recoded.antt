-- Which bytes a packet has after converting, and that twice gives the packet with its mark changed. Assumes nothing.
use Rattle.std.proofs.Common.{Option, Some, None, ◌≡◌, refl, sym, ap, ◌∙◌, ◌⊎◌, inl, inr, true, List, ◌++◌, ℕ, zero, suc, ◌+◌, ◌-◌}
use Rattle.std.proofs.Common.{◌*◌, ◌/◌, ◌%◌, ◌≤◌, ◌<◌, arith, mul-le-mul_left, length, take, get_or, set, length-set, length-append}
use Rattle.std.proofs.Common.{eqb, ltb, get_or-take, get_or-set_same, get_or-set_other, ext_get_or, take-suc, take_all}
use Rattle.std.proofs.Common.{length-take-le, eqb-true, ltb-true, ltb-false}
use Rattle.std.proofs.Math.Seq.{set-get_or}
use borrow.Author.Tests.{eqb-false}
use Rattle.wire.specs.Bytes.{put, one, be16, at16, total}
use Rattle.wire.specs.Lists.{EachBelow}
use Rattle.wire.specs.Pieces.{runs}
use Rattle.wire.proofs.Bytes.{length_put, put_inside, put_before, put_behind, value16}
use Rattle.wire.proofs.Lists.{decide}
use Rattle.wire.proofs.Pieces.{runs_at, length_table, table_at, each_at, each_all, same_table}
use Rattle.rate_code.specs.declared.editions.Edition.{Edition}
use Rattle.rate_code.specs.Editions.{is_first, edition_of, mark_in, code_of, code_by, least_by, valid_by}
use Rattle.rate_code.proofs.EditionLaws.{edition_again, by_valid, by_below, by_valid_again, same_code}
use Rattle.packet.specs.Layout.{packet_bytes, body_at, frame_at, mark_at, sum_at, code_bytes}
use Rattle.packet.specs.Packet.{summed, codes}
use Rattle.packet.proofs.Written.{length_codes}
use Rattle.decode.specs.declared.kind.Kind.{Kind}
use Rattle.decode.specs.declared.kind.Kind.TheVariants.{Rate, Sample, Beacon}
use Rattle.decode.specs.Read.{mark_of, code_at, rate_at, rates_of, codes_good, sum_good}
use Rattle.decode.proofs.Back.{within, summed_good}
use Rattle.converter.specs.Convert.{rates_in, recoded, rates_exact}

-- ---- the rates of a packet

-- they stand before the frame
pub rates_fit : (k : Option Kind) → body_at + code_bytes * rates_in k ≤ frame_at
rates_fit (Some Rate) = omega arith
rates_fit (Some Sample) = omega arith
rates_fit (Some Beacon) = omega arith
rates_fit None = omega arith

length_rates : (n : ℕ) (xs : List ℕ) → length (rates_of n xs) ≡ n
unfolding rates_of
length_rates n xs = length_table _ n

-- the codes of n rates in bytes
pub length_new : (wanted n : ℕ) (xs : List ℕ) → length (codes wanted (rates_of n xs)) ≡ code_bytes * n
length_new wanted n xs = length_codes wanted (rates_of n xs) ∙ ap (λ (k : ℕ). code_bytes * k) (length_rates n xs)

-- an edition's own mark gives the codes of any other of its marks
pub same_codes : (wanted n : ℕ) (xs : List ℕ) → codes (mark_in (edition_of wanted)) (rates_of n xs) ≡ codes wanted (rates_of n xs)
unfolding codes
same_codes wanted n xs =
    ap (λ (e : Edition). runs (λ m. be16 (code_of e m)) (rates_of n xs)) (edition_again (edition_of wanted))

-- ---- one conversion, of n rates that stand before the frame

module _ (wanted n : ℕ) (xs : List ℕ) (lx : length xs ≡ packet_bytes) (fits : body_at + code_bytes * n ≤ frame_at) where
  abbrev base : List ℕ
  base = set xs mark_at wanted

  abbrev rates : List ℕ
  rates = rates_of n xs

  -- the packet before its sum is renewed
  abbrev unsummed : List ℕ
  unsummed = put base body_at (codes wanted rates)

  length_base : length base ≡ packet_bytes
  length_base = length-set xs mark_at wanted ∙ lx

  length_unsummed : length unsummed ≡ packet_bytes
  length_unsummed = length_put (codes wanted rates) base body_at (omega (arith, length_new wanted n xs, length_base, fits)) ∙ length_base

  length_taken : length (take sum_at unsummed) ≡ sum_at
  length_taken = length-take-le sum_at unsummed (omega (arith, length_unsummed))

  pub length_recoded : length (recoded wanted n xs) ≡ packet_bytes
  unfolding recoded summed
  length_recoded = length-append (take sum_at unsummed) _ ∙ omega (arith, length_taken)

  pub sum_recoded : sum_good (recoded wanted n xs) ≡ true
  unfolding recoded
  sum_recoded = summed_good (take sum_at unsummed) length_taken

  -- a byte before the sum
  byte_at : (i : ℕ) → i < sum_at → get_or (recoded wanted n xs) i 0 ≡ get_or unsummed i 0
  unfolding recoded summed
  byte_at i h = within (take sum_at unsummed) _ i (omega (arith, length_taken, h)) ∙ get_or-take sum_at unsummed i 0 h

  -- one outside the codes
  outside : (i : ℕ) → i < sum_at → (i < body_at) ⊎ (body_at + code_bytes * n ≤ i) → get_or (recoded wanted n xs) i 0 ≡ get_or base i 0
  outside i h (inl l) = byte_at i h ∙ put_before (codes wanted rates) base body_at i (omega (arith, length_base)) l
  outside i h (inr l) =
      byte_at i h ∙ put_behind (codes wanted rates) base body_at i (omega (arith, length_base)) (omega (arith, length_new wanted n xs, l))

  -- "every other byte stays"
  pub kept : (i : ℕ) → i < sum_at → (i ≡ mark_at → ⊥) → (i < body_at) ⊎ (body_at + code_bytes * n ≤ i)
      → get_or (recoded wanted n xs) i 0 ≡ get_or xs i 0
  kept i h o s = outside i h s ∙ get_or-set_other xs mark_at i wanted 0 o

  pub mark_recoded : mark_of (recoded wanted n xs) ≡ wanted
  mark_recoded = outside mark_at (omega arith) (inr (omega (arith, fits))) ∙ get_or-set_same xs mark_at wanted 0 (omega (arith, lx))

  -- byte j of code i
  pub code_byte : (i j at : ℕ) → i < n → j < code_bytes → at ≡ body_at + (code_bytes * i + j)
      → get_or (recoded wanted n xs) at 0 ≡ get_or (be16 (code_by wanted (rate_at xs i))) j 0
  unfolding codes rates_of
  code_byte i j at h l e =
      let new = codes wanted rates in
      let more : code_bytes * suc i ≤ code_bytes * n = mul-le-mul_left code_bytes h in
      ap (λ (k : ℕ). get_or (recoded wanted n xs) k 0) e
      ∙ byte_at (body_at + (code_bytes * i + j)) (omega (arith, more, l, fits))
      ∙ put_inside new base body_at (code_bytes * i + j) (omega (arith, length_base)) (omega (arith, more, l, length_new wanted n xs))
      ∙ runs_at (λ m. be16 (code_by wanted m)) code_bytes (λ m. refl) rates i j (omega (arith, h, length_rates n xs)) l
      ∙ ap (λ (m : ℕ). get_or (be16 (code_by wanted m)) j 0) (table_at _ n i h)

  pub code_recoded : (i : ℕ) → i < n → code_at (recoded wanted n xs) i ≡ code_by wanted (rate_at xs i)
  code_recoded i h =
      let e₀ = code_byte i 0 (body_at + code_bytes * i) h (omega arith) (omega arith) in
      let e₁ = code_byte i 1 (body_at + code_bytes * i + 1) h (omega arith) (omega arith) in
      (λ k. 256 * e₀ k + e₁ k) ∙ value16 (code_by wanted (rate_at xs i))

  -- codes of the edition wanted, where those before were good
  pub codes_recoded : codes_good n xs ≡ true → codes_good n (recoded wanted n xs) ≡ true
  unfolding codes_good
  codes_recoded g =
      each_all _ n (λ i h.
      let b = by_below (mark_of xs) (code_at xs i) (each_at _ n i h g) in
      (λ k. valid_by (mark_recoded k) (code_recoded i h k)) ∙ by_valid wanted (rate_at xs i) b)

  -- "Each rate's least count stays", where the edition wanted has it
  module _ (exact : rates_exact wanted n xs ≡ true) where
    pub rate_recoded : (i : ℕ) → i < n → rate_at (recoded wanted n xs) i ≡ rate_at xs i
    unfolding rates_exact
    rate_recoded i h = (λ k. least_by (mark_recoded k) (code_recoded i h k)) ∙ eqb-true _ _ (each_at _ n i h exact)

    pub rates_recoded : rates_of n (recoded wanted n xs) ≡ rates_of n xs
    unfolding rates_of
    rates_recoded = same_table n _ _ rate_recoded

-- ---- two conversions, the second to the edition from which the first came

-- the bytes of a number that stands in two bytes
word_byte : (xs : List ℕ) (at j : ℕ) → EachBelow 256 xs → j < 2 → get_or (be16 (at16 xs at)) j 0 ≡ get_or xs (at + j) 0
word_byte xs at zero b h = let e : at + 0 ≡ at = omega arith in rw e (omega (arith, b (at + 1)))
word_byte xs at (suc zero) b h = omega (arith, b (at + 1))
word_byte xs at (suc (suc j)) b h = absurd (omega arith)

module _ (a b n : ℕ) (xs : List ℕ) (lx : length xs ≡ packet_bytes) (fits : body_at + code_bytes * n ≤ frame_at) (bytes : EachBelow 256 xs)
    (good : codes_good n xs ≡ true) (exact : rates_exact a n xs ≡ true) (same : is_first b ≡ is_first (mark_of xs)) where
  abbrev ys : List ℕ
  ys = recoded a n xs

  ly : length ys ≡ packet_bytes
  ly = length_recoded a n xs lx fits

  -- code i is again that of xs
  code_again : (i : ℕ) → i < n → code_by b (rate_at ys i) ≡ code_at xs i
  unfolding codes_good
  code_again i h =
      ap (code_by b) (rate_recoded a n xs lx fits exact i h)
      ∙ same_code b (mark_of xs) (rate_at xs i) same
      ∙ by_valid_again (mark_of xs) (code_at xs i) (each_at _ n i h good)

  in_code : (i j at : ℕ) → i < n → j < code_bytes → at ≡ body_at + (code_bytes * i + j) → get_or (recoded b n ys) at 0 ≡ get_or xs at 0
  in_code i j at h l e =
      let k : body_at + code_bytes * i + j ≡ at = omega (arith, e) in
      code_byte b n ys ly fits i j at h l e
      ∙ ap (λ (c : ℕ). get_or (be16 c) j 0) (code_again i h)
      ∙ word_byte xs (body_at + code_bytes * i) j bytes l
      ∙ ap (λ (m : ℕ). get_or xs m 0) k

  in_codes : (i : ℕ) → body_at ≤ i → i < body_at + code_bytes * n → get_or (recoded b n ys) i 0 ≡ get_or xs i 0
  in_codes i f t =
      let k : ℕ = (i - body_at) / code_bytes in
      let j : ℕ = (i - body_at) % code_bytes in
      let e : i ≡ body_at + (code_bytes * k + j) = omega (arith, f) in
      in_code k j i (omega (arith, t, e)) (omega arith) e

  not_mark : (i : ℕ) → i < sum_at → (i ≡ mark_at → ⊥) → get_or (recoded b n ys) i 0 ≡ get_or xs i 0
  not_mark i h o =
      decide (ltb i body_at)
      (λ q. let s = inl (ltb-true i body_at q) in kept b n ys ly fits i h o s ∙ kept a n xs lx fits i h o s)
      (λ q.
      decide (ltb i (body_at + code_bytes * n))
      (λ p. in_codes i (ltb-false i body_at q) (ltb-true i (body_at + code_bytes * n) p))
      (λ p. let s = inr (ltb-false i (body_at + code_bytes * n) p) in kept b n ys ly fits i h o s ∙ kept a n xs lx fits i h o s))

  twice_at : (i : ℕ) → i < sum_at → get_or (recoded b n ys) i 0 ≡ get_or (set xs mark_at b) i 0
  twice_at i h =
      decide (eqb i mark_at)
      (λ q.
      let e = eqb-true i mark_at q in
      rw e (mark_recoded b n ys ly fits ∙ sym (get_or-set_same xs mark_at b 0 (omega (arith, lx)))))
      (λ q. let o = eqb-false i mark_at q in not_mark i h o ∙ sym (get_or-set_other xs mark_at i b 0 o))

  -- the packet, with its mark changed and the sum renewed
  pub twice : recoded b n ys ≡ summed (take sum_at (set xs mark_at b))
  unfolding recoded
  twice =
      let new : List ℕ = unsummed b n ys ly fits in
      let old : List ℕ = set xs mark_at b in
      let lv : length (take sum_at old) ≡ sum_at = length-take-le sum_at old (omega (arith, length-set xs mark_at b, lx)) in
      ap summed (ext_get_or 0 (take sum_at new) (take sum_at old) (length_taken b n ys ly fits ∙ sym lv) (λ i h.
      let l : i < sum_at = omega (arith, h, length_taken b n ys ly fits) in
      get_or-take sum_at new i 0 l ∙ sym (byte_at b n ys ly fits i l) ∙ twice_at i l ∙ sym (get_or-take sum_at old i 0 l)))

-- ---- a packet whose mark stays is the packet

-- its own sum renewed
own_sum : (xs : List ℕ) → length xs ≡ packet_bytes → sum_good xs ≡ true → summed (take sum_at xs) ≡ xs
unfolding sum_good summed
own_sum xs l g =
    let e = eqb-true (get_or xs sum_at 0) (total (take sum_at xs) % 256) g in
    ap (λ (v : ℕ). take sum_at xs ++ one v) (sym e)
    ∙ sym (take-suc xs sum_at 0 (omega (arith, l)))
    ∙ take_all (suc sum_at) xs (omega (arith, l))

-- its own mark set
own_mark : (xs : List ℕ) (b : ℕ) → mark_of xs ≡ b → set xs mark_at b ≡ xs
own_mark xs b e = ap (set xs mark_at) (sym e) ∙ set-get_or xs mark_at 0

pub unchanged : (xs : List ℕ) (b : ℕ) → length xs ≡ packet_bytes → sum_good xs ≡ true → mark_of xs ≡ b
    → summed (take sum_at (set xs mark_at b)) ≡ xs
unchanged xs b l g e = ap (λ (ys : List ℕ). summed (take sum_at ys)) (own_mark xs b e) ∙ own_sum xs l g
