-- Three rates of 0 are converted to three of 0, so that a beacon packet of the archive is converted as with its twelve. Assumes nothing.
use Rattle.std.proofs.Common.{◌≡◌, refl, sym, ap, ◌∙◌, Bool, true, ◌&&◌, List, [], ◌∷◌, ◌++◌, ℕ, ◌+◌, ◌-◌, ◌≤◌, ◌<◌, arith}
use Rattle.std.proofs.Common.{eqb, ltb, ltb-true, ltb-false, length, set, take, get_or, length-set, get_or-set_other, ext_get_or}
use Rattle.std.proofs.Math.Bool.{and-true}
use Rattle.std.proofs.Math.ListN.{get_or-replicate}
use Rattle.wire.specs.Bytes.{put, be16, zeros}
use Rattle.wire.specs.Pieces.{runs, each}
use Rattle.wire.proofs.Bytes.{length_put, put_put, put_inside, put_before, put_behind}
use Rattle.wire.proofs.Lists.{decide}
use Rattle.wire.proofs.Pieces.{each_all, each_join}
use Rattle.rate_code.specs.declared.editions.Edition.{Edition}
use Rattle.rate_code.specs.declared.editions.Edition.TheVariants.{First, Second}
use Rattle.rate_code.specs.Rate.{rate_code, shift, least_from, least_count}
use Rattle.rate_code.specs.Second.{second_code, second_least}
use Rattle.rate_code.specs.Editions.{edition_of, code_of, least_of, exact_by}
use Rattle.packet.specs.Layout.{packet_bytes, mark_at, sum_at}
use Rattle.packet.specs.Packet.{summed, codes}
use Rattle.packet.proofs.Written.{codes_append}
use Rattle.decode.specs.Read.{rate_at, rates_of, zeros_good}
use Rattle.ground.proofs.Archive.{byte, rate, rates_three}
use Rattle.converter.specs.Convert.{rates_exact, recoded}
use Rattle.converter.specs.ConvertTheorems.{ArchiveConverted}
use Rattle.converter.proofs.Recoded.{length_new}

-- what stands there already changes nothing
put_same : (w : List ℕ) (at : ℕ) (vs : List ℕ) → at + length vs ≤ length w
    → ((i : ℕ) → i < length vs → get_or w (at + i) 0 ≡ get_or vs i 0) → put w at vs ≡ w
put_same w at vs h same =
    ext_get_or 0 (put w at vs) w (length_put vs w at h) (λ i m.
    decide (ltb i at) (λ q. put_before vs w at i (omega arith) (ltb-true i at q))
    (λ q. decide (ltb i (at + length vs))
    (λ r.
    let low : at ≤ i = ltb-false i at q in
    let high : i < at + length vs = ltb-true i _ r in
    let e : i ≡ at + (i - at) = omega arith in
    let inside : i - at < length vs = omega arith in
    rw e (put_inside vs w at (i - at) (omega arith) inside ∙ sym (same (i - at) inside)))
    (λ r. put_behind vs w at i (omega arith) (ltb-false i _ r))))

-- 0 has the code 0 in either edition, which is its own least count
zero_code : (e : Edition) → code_of e 0 ≡ 0
unfolding rate_code shift least_from second_code
zero_code First = refl
zero_code Second = refl

zero_least : (e : Edition) → eqb (least_of e (code_of e 0)) 0 ≡ true
unfolding rate_code shift least_from least_count second_code second_least
zero_least First = refl
zero_least Second = refl

zero_codes : (wanted : ℕ) → codes wanted (0 ∷ 0 ∷ 0 ∷ []) ≡ zeros 6
unfolding codes runs
zero_codes wanted = (λ k. runs (λ n. be16 n) (zero_code (edition_of wanted) k ∷ zero_code (edition_of wanted) k ∷ zero_code (edition_of wanted) k ∷ []))

zero_exact : (wanted : ℕ) → exact_by wanted 0 ≡ true
zero_exact wanted = zero_least (edition_of wanted)

module _ (wanted : ℕ) (xs : List ℕ) (l : length xs ≡ packet_bytes) (z : zeros_good 35 6 xs ≡ true) where
  exact_three : rates_exact wanted 15 xs ≡ rates_exact wanted 12 xs
  unfolding rates_exact
  exact_three =
      let p : ℕ → Bool = λ i. exact_by wanted (rate_at xs i) in
      let all : each 3 (λ j. p (12 + j)) ≡ true = each_all _ 3 (λ j h. ap (exact_by wanted) (rate xs z j h) ∙ zero_exact wanted) in
      each_join 12 3 p ∙ ap (λ (b : Bool). each 12 p && b) all ∙ and-true (each 12 p)

  -- the packet with its mark, and with twelve codes
  abbrev marked : List ℕ
  marked = set xs mark_at wanted

  abbrev twelve : List ℕ
  twelve = codes wanted (rates_of 12 xs)

  length_twelve : length twelve ≡ 24
  length_twelve = length_new wanted 12 xs

  still_zero : (i : ℕ) → i < 6 → get_or (put marked 11 twelve) (35 + i) 0 ≡ get_or (zeros 6) i 0
  still_zero i h =
      put_behind twelve marked 11 (35 + i) (omega (arith, l, length-set xs mark_at wanted)) (omega (arith, length_twelve))
      ∙ get_or-set_other xs mark_at (35 + i) wanted 0 (λ e. omega arith)
      ∙ byte xs z i h
      ∙ sym (get_or-replicate 6 i 0 0 h)

  put_three : put marked 11 (codes wanted (rates_of 15 xs)) ≡ put marked 11 twelve
  put_three =
      ap (λ (rs : List ℕ). put marked 11 (codes wanted rs)) (rates_three xs z)
      ∙ ap (put marked 11) (sym (codes_append wanted (rates_of 12 xs) (0 ∷ 0 ∷ 0 ∷ [])) ∙ ap (λ (v : List ℕ). twelve ++ v) (zero_codes wanted))
      ∙ sym (put_put marked 11 twelve (zeros 6) 35 (omega (arith, length_twelve)) (omega (arith, l, length-set xs mark_at wanted)))
      ∙ put_same (put marked 11 twelve) 35 (zeros 6)
      (omega (arith, l, length-set xs mark_at wanted, length_put twelve marked 11 (omega (arith, l, length_twelve, length-set xs mark_at wanted))))
      still_zero

  recoded_three : recoded wanted 15 xs ≡ recoded wanted 12 xs
  unfolding recoded
  recoded_three = ap (λ (ys : List ℕ). summed (take sum_at ys)) put_three

pub archive_converted : ArchiveConverted
archive_converted wanted xs l z = (exact_three wanted xs l z, recoded_three wanted xs l z)
