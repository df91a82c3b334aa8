-- What the checks of a load package say, and that a staged package keeps staging's length and addresses. Assumes nothing.
use Rattle.std.proofs.Common.{◌≡◌, refl, sym, ◌∙◌, Bool, true, false, ◌&&◌, cond, List, ℕ, ◌+◌, ◌≤◌, arith, leb, eqb, length, leb-true, le-leb, eqb-true}
use Rattle.wire.proofs.Bytes.{length_part, length_put}
use Rattle.wire.proofs.Lists.{and_left, and_right, and_split}
use Rattle.causes.specs.Causes.{carried_out, package_form, past_staging, package_sum}
use Rattle.load.specs.Staging.{staging_bytes, count_field, payload_bytes, payload, formed, fits, placeable}
use Rattle.load.specs.Staging.{received_sum, computed_sum, package_number, staging_after, addresses_after, fresh_addresses, addresses_within}
use Rattle.load.specs.declared.staging.Addresses.{Addresses}

-- what a well formed package is
pub record Formed (p : List ℕ) : Type 0 where
  pub counted : 2 ≤ count_field p
  pub matching : length p ≡ 2 + count_field p

pub formed_is : (p : List ℕ) → formed p ≡ true → Formed p
unfolding formed
formed_is p h =
    let l = and_left (leb 2 (length p) && leb 2 (count_field p)) (eqb (length p) (2 + count_field p)) h in
    let r = and_right (leb 2 (length p) && leb 2 (count_field p)) (eqb (length p) (2 + count_field p)) h in
    record {
      counted = leb-true 2 (count_field p) (and_right (leb 2 (length p)) (leb 2 (count_field p)) l);
      matching = eqb-true (length p) (2 + count_field p) r;
    }

pub length_payload : (p : List ℕ) → formed p ≡ true → length (payload p) ≡ payload_bytes p
length_payload p h = let f = formed_is p h in length_part p 2 (payload_bytes p) (omega arith)

-- a package that is placed is well formed, and stays within staging
pub placeable_formed : (p : List ℕ) (next : ℕ) → placeable p next ≡ true → formed p ≡ true
placeable_formed p next h = and_left (formed p) (fits p next) h

pub placeable_fits : (p : List ℕ) (next : ℕ) → placeable p next ≡ true → next + payload_bytes p ≤ staging_bytes
placeable_fits p next h = leb-true (next + payload_bytes p) staging_bytes (and_right (formed p) (fits p next) h)

pub fits_room : (p : List ℕ) (next : ℕ) → fits p next ≡ true → next + payload_bytes p ≤ staging_bytes
fits_room p next h = leb-true (next + payload_bytes p) staging_bytes h

-- a package answered neither 8 nor 9 is staged
number_by_lem : (a b c : Bool) (k : ℕ) → cond a (cond b (cond c carried_out package_sum) past_staging) package_form ≡ k
    → (k ≡ package_form → ⊥) → (k ≡ past_staging → ⊥) → (a && b) ≡ true
number_by_lem true true c k e n8 n9 = refl
number_by_lem true false c k e n8 n9 = absurd (n9 (sym e))
number_by_lem false b c k e n8 n9 = absurd (n8 (sym e))

pub number_placeable : (p : List ℕ) (next : ℕ) → (package_number p next ≡ package_form → ⊥) → (package_number p next ≡ past_staging → ⊥)
    → placeable p next ≡ true
unfolding package_number
number_placeable p next n8 n9 =
    number_by_lem (formed p) (fits p next) (eqb (received_sum p) (computed_sum p)) (package_number p next) refl n8 n9

-- staging keeps its length
pub length_staging_after : (staging p : List ℕ) (next : ℕ) → length staging ≡ staging_bytes → placeable p next ≡ true
    → length (staging_after staging next p) ≡ staging_bytes
unfolding staging_after
length_staging_after staging p next l h =
    let q : length (payload p) ≡ payload_bytes p = length_payload p (placeable_formed p next h) in
    length_put (payload p) staging next (omega (arith, placeable_fits p next h)) ∙ l

-- ---- addresses

-- their limits as facts, and back
pub addresses_are : (a : Addresses) → addresses_within a ≡ true → (a.next ≤ a.reach) × (a.reach ≤ staging_bytes)
addresses_are a h = let p = and_split _ _ h in (leb-true _ _ p.0, leb-true _ _ p.1)

pub addresses_whole : (a : Addresses) → a.next ≤ a.reach → a.reach ≤ staging_bytes → addresses_within a ≡ true
addresses_whole a h g = rw (le-leb _ _ h, le-leb _ _ g)

-- fresh addresses are within their limits
pub fresh_addresses_lem : addresses_within fresh_addresses ≡ true
fresh_addresses_lem = refl

-- and so are those after a package that fits
pub addresses_after_lem : (a : Addresses) (p : List ℕ) → addresses_within a ≡ true → fits p a.next ≡ true
    → addresses_within (addresses_after a p) ≡ true
addresses_after_lem a p h f =
    let w = addresses_are a h in
    let r = leb-true (a.next + payload_bytes p) staging_bytes f in
    addresses_whole (addresses_after a p) (omega arith) (omega arith)
