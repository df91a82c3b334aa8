-- What the laws of both editions say, by the mark. Assumes nothing.
use Rattle.std.specs.Prelude.{◌≡◌, refl, true, false, cond, ℕ, ◌≤◌, ◌<◌, eqb}
use Rattle.std.proofs.Common.{ap, ◌∙◌, arith, eq-eqb, eqb-true}
use Rattle.std.proofs.lemmas.Bool.{eqb-false}
use Rattle.wire.proofs.Lists.{decide}
use Rattle.rate_code.specs.declared.editions.Edition.{Edition}
use Rattle.rate_code.specs.declared.editions.Edition.TheVariants.{First, Second}
use Rattle.rate_code.specs.Laws.{CodeLaws}
use Rattle.rate_code.specs.Rate.{count_limit}
use Rattle.rate_code.specs.Editions.{first_mark, second_mark, converted_mark, mark_number, mark_from, is_first, edition_of, mark_in}
use Rattle.rate_code.specs.Editions.{code_of, least_of, valid_of, code_by, least_by, valid_by, exact_by}
use Rattle.rate_code.proofs.Codes.{code_laws}
use Rattle.rate_code.proofs.SecondCodes.{second_laws, first_exact, first_valid}

-- the laws hold of the edition that the mark stands for
edition_laws : (mark : ℕ) → CodeLaws (code_by mark) (least_by mark) (valid_by mark)
edition_laws mark = go (edition_of mark)
  where
    go : (e : Edition) → CodeLaws (code_of e) (least_of e) (valid_of e)
    go First = code_laws
    go Second = second_laws

module _ (mark n : ℕ) (h : n < count_limit) where
  -- a code fits 16 bits
  pub by_fits : code_by mark n < 65536
  by_fits = (edition_laws mark).fits n h

  -- what counts have are valid codes
  pub by_valid : valid_by mark (code_by mark n) ≡ true
  by_valid = (edition_laws mark).coded n h

  -- the least count of a count's code is at most the count
  pub by_le : least_by mark (code_by mark n) ≤ n
  by_le = (edition_laws mark).at_most n h

  -- and has the same code again
  pub by_again : code_by mark (least_by mark (code_by mark n)) ≡ code_by mark n
  by_again = (edition_laws mark).again n h

module _ (mark c : ℕ) (h : valid_by mark c ≡ true) where
  -- the least count of a valid code is a count
  pub by_below : least_by mark c < count_limit
  by_below = (edition_laws mark).below c h

  -- and has that code
  pub by_valid_again : code_by mark (least_by mark c) ≡ c
  by_valid_again = (edition_laws mark).valid_again c h

-- marks of one edition give one code and one least count
pub same_code : (a b n : ℕ) → is_first a ≡ is_first b → code_by a n ≡ code_by b n
same_code a b n e = λ i. code_of (cond (e i) First Second) n

same_least : (a b c : ℕ) → is_first a ≡ is_first b → least_by a c ≡ least_by b c
same_least a b c e = λ i. least_of (cond (e i) First Second) c

-- an edition has the least counts of its own codes
pub own_exact : (a mark c : ℕ) → is_first a ≡ is_first mark → valid_by mark c ≡ true → exact_by a (least_by mark c) ≡ true
own_exact a mark c e h =
    eq-eqb _ _ (ap (least_by a) (same_code a mark (least_by mark c) e ∙ by_valid_again mark c h) ∙ same_least a mark c e)

-- and the second those of the first
pub second_exact : (a mark c : ℕ) → is_first a ≡ false → is_first mark ≡ true → valid_by mark c ≡ true → exact_by a (least_by mark c) ≡ true
second_exact a mark c f m h = rw (f, m) (eq-eqb _ _ (first_exact c (rw m at h)))

-- and takes every code that the first does
pub second_takes : (a mark c : ℕ) → is_first a ≡ false → valid_by mark c ≡ true → valid_by a c ≡ true
second_takes a mark c f h = rw f (decide (is_first mark) (λ q. first_valid c (rw q at h)) (λ q. rw q at h))

-- ---- the marks

-- a mark that the reader takes has its number
pub mark_numbered : (n : ℕ) → n ≤ converted_mark → mark_number (mark_from n) ≡ n
mark_numbered n h =
    decide (is_first n)
    (λ t. rw t (omega (arith, eqb-true n first_mark t)))
    (λ f. decide (eqb n second_mark)
    (λ t. rw (f, t) (omega (arith, eqb-true n second_mark t)))
    (λ g. rw (f, g) (omega (arith, h, eqb-false n first_mark f, eqb-false n second_mark g))))

-- an edition's own mark stands for it, as any of its marks does
pub edition_again : (e : Edition) → edition_of (mark_in e) ≡ e
edition_again First = refl
edition_again Second = refl

pub mark_again : (mark : ℕ) → is_first (mark_in (edition_of mark)) ≡ is_first mark
mark_again mark = decide (is_first mark) (λ t. rw t) (λ f. rw f)
