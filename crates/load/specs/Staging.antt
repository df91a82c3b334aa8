-- Load packages (document 01, "Commands and loads" and "Causes and their numbers"). Assumes nothing.
use Rattle.std.specs.Prelude.{ℕ, ◌+◌, ◌-◌, ◌%◌, max, Bool, ◌&&◌, List, [], ◌∷◌, leb, eqb, length, take, drop}
use Rattle.causes.specs.Causes.{package_form, past_staging, package_sum}
use Rattle.causes.specs.Checks.{Check, number_by}
use Rattle.wire.specs.Bytes.{at16, total, put}
use Rattle.tables.specs.Tables.{table_bytes}
use Rattle.load.specs.declared.staging.Addresses.{Addresses}

-- "Staging is 62,985 lent bytes", as many as the tables
abbrev pub staging_bytes : ℕ
staging_bytes = table_bytes

-- "A package is a 16-bit N, then N − 2 bytes, then their sum modulo 65,536"
abbrev pub count_field : List ℕ → ℕ
count_field p = at16 p 0

abbrev pub payload_bytes : List ℕ → ℕ
payload_bytes p = count_field p - 2

abbrev pub payload : List ℕ → List ℕ
payload p = take (payload_bytes p) (drop 2 p)

abbrev pub received_sum : List ℕ → ℕ
received_sum p = at16 p (count_field p)

abbrev pub computed_sum : List ℕ → ℕ
computed_sum p = total (payload p) % 65536

-- neither "no N" nor "N below 2 or not matching the bytes"
unfoldable pub formed : List ℕ → Bool
formed p = leb 2 (length p) && leb 2 (count_field p) && eqb (length p) (2 + count_field p)

-- not "package passes staging's end"
abbrev pub fits : List ℕ → (next : ℕ) → Bool
fits p next = leb (next + payload_bytes p) staging_bytes

-- such a package is staged, whether its sum is right (0) or wrong (10)
abbrev pub placeable : List ℕ → (next : ℕ) → Bool
placeable p next = formed p && fits p next

-- its causes: 8 "no N, N below 2 or not matching the bytes", 9 "package passes staging's end", 10 "package sum wrong"
abbrev pub package_checks : (p : List ℕ) (next : ℕ) → List Check
package_checks p next =
    (formed p, package_form) ∷ (fits p next, past_staging) ∷ (eqb (received_sum p) (computed_sum p), package_sum) ∷ []

unfoldable pub package_number : (p : List ℕ) (next : ℕ) → ℕ
package_number p next = number_by (package_checks p next)

-- ---- staging and its addresses

-- "Bytes go to the next address, which moves past them, reach too"
unfoldable pub staging_after : (staging : List ℕ) (next : ℕ) (p : List ℕ) → List ℕ
staging_after staging next p = put staging next (payload p)

abbrev pub addresses_after : Addresses → (p : List ℕ) → Addresses
addresses_after a p = record { next = a.next + payload_bytes p; reach = max a.reach (a.next + payload_bytes p) }

-- "Fresh: .. staging addresses 0"; "load 0 sets both to 0"
abbrev pub fresh_addresses : Addresses
fresh_addresses = record { next = 0; reach = 0 }

-- "next address ≤ reach ≤ 62,985"
abbrev pub addresses_within : Addresses → Bool
addresses_within a = leb a.next a.reach && leb a.reach staging_bytes
