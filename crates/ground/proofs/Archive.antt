-- Three rates of 0 behind the twelve beacons leave a beacon packet as it was judged and read before they were there. Assumes nothing.
use Rattle.std.proofs.Common.{◌≡◌, refl, sym, ap, ◌∙◌, Bool, true, ◌&&◌, List, [], ◌∷◌, ◌++◌, ℕ, ◌+◌, ◌*◌, ◌<◌, arith, eqb, eqb-true, get_or}
use Rattle.std.proofs.Math.Bool.{and-true}
use Rattle.wire.specs.Pieces.{table, each}
use Rattle.wire.proofs.Pieces.{each_at, each_all, each_same, each_join}
use Rattle.rate_code.specs.declared.editions.Edition.{Edition}
use Rattle.rate_code.specs.declared.editions.Edition.TheVariants.{First, Second}
use Rattle.rate_code.specs.Rate.{least_count, code_valid}
use Rattle.rate_code.specs.Second.{second_least, second_valid}
use Rattle.rate_code.specs.Editions.{edition_of, least_of, valid_of, least_by, valid_by}
use Rattle.decode.specs.Read.{mark_of, code_at, rate_at, rates_of, codes_good, zeros_good, end_good, beacon_good}
use Rattle.ground.specs.Theorems.{ArchiveBeacons}

-- 0 is a code of either edition, that of no event
zero_valid : (e : Edition) → valid_of e 0 ≡ true
unfolding code_valid second_valid
zero_valid First = refl
zero_valid Second = refl

zero_least : (e : Edition) → least_of e 0 ≡ 0
unfolding least_count second_least
zero_least First = refl
zero_least Second = refl

module _ (xs : List ℕ) (z : zeros_good 35 6 xs ≡ true) where
  pub byte : (i : ℕ) → i < 6 → get_or xs (35 + i) 0 ≡ 0
  unfolding zeros_good
  byte i h = eqb-true _ _ (each_at _ 6 i h z)

  code : (j : ℕ) → j < 3 → code_at xs (12 + j) ≡ 0
  code j h =
      let a : 11 + 2 * (12 + j) ≡ 35 + 2 * j = omega arith in
      let b : 11 + 2 * (12 + j) + 1 ≡ 35 + (2 * j + 1) = omega arith in
      let first = ap (λ (n : ℕ). get_or xs n 0) a ∙ byte (2 * j) (omega arith) in
      let second = ap (λ (n : ℕ). get_or xs n 0) b ∙ byte (2 * j + 1) (omega arith) in
      λ k. 256 * first k + second k

  pub rate : (j : ℕ) → j < 3 → rate_at xs (12 + j) ≡ 0
  rate j h = ap (least_by (mark_of xs)) (code j h) ∙ zero_least (edition_of (mark_of xs))

  pub rates_three : rates_of 15 xs ≡ rates_of 12 xs ++ 0 ∷ 0 ∷ 0 ∷ []
  unfolding rates_of table
  rates_three = λ k. rates_of 12 xs ++ rate 0 (omega arith) k ∷ rate 1 (omega arith) k ∷ rate 2 (omega arith) k ∷ []

  codes_three : codes_good 15 xs ≡ codes_good 12 xs
  unfolding codes_good
  codes_three =
      let p : ℕ → Bool = λ i. valid_by (mark_of xs) (code_at xs i) in
      let all : each 3 (λ j. p (12 + j)) ≡ true =
      each_all _ 3 (λ j h. ap (valid_by (mark_of xs)) (code j h) ∙ zero_valid (edition_of (mark_of xs))) in
      each_join 12 3 p ∙ ap (λ (b : Bool). each 12 p && b) all ∙ and-true (each 12 p)

  zeros_six : zeros_good 41 226 xs ≡ zeros_good 35 232 xs
  unfolding zeros_good
  zeros_six =
      let q : ℕ → Bool = λ i. eqb (get_or xs (35 + i) 0) 0 in
      each_same 226 (λ i. eqb (get_or xs (41 + i) 0) 0) (λ i. q (6 + i))
      (λ i h. let e : 41 + i ≡ 35 + (6 + i) = omega arith in ap (λ (n : ℕ). eqb (get_or xs n 0) 0) e)
      ∙ ap (λ (b : Bool). b && each 226 (λ i. q (6 + i))) (sym z)
      ∙ sym (each_join 6 226 q)

  judged : beacon_good xs ≡ (codes_good 12 xs && zeros_good 35 232 xs && end_good xs)
  unfolding beacon_good
  judged = λ k. codes_three k && zeros_six k && end_good xs

pub archive_beacons : ArchiveBeacons
archive_beacons xs z = (judged xs z, rates_three xs z)
