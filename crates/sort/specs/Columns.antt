-- The two columns (document 01, "One event", rules 3 and 4). Assumes nothing.
use Rattle.std.specs.Prelude.{cond, List, [], ◌∷◌, ℕ, ◌/◌, leb, ℤ, pos, negsuc, ◌+ℤ◌, ◌-ℤ◌, Option, Some, None}

-- "Floor goes towards minus infinity": -(a + 1) is negsuc a, and its quotient is -(a / d + 1)
abbrev pub floor_z : ℤ → ℕ → ℤ
floor_z (pos a) d = pos (a / d)
floor_z (negsuc a) d = negsuc (a / d)

-- "u = E − K + T − Ktof + 65,536"
abbrev pub u_of : (e k t ktof : ℕ) → ℤ
u_of e k t ktof = pos e -ℤ pos k +ℤ pos t -ℤ pos ktof +ℤ pos 65536

-- "f_m is now floor(u / 3,584)" (document 02, Point 2). Other files go by the laws of this name alone
unfoldable pub mass_column : ℤ → ℤ
mass_column u = floor_z u 3584

-- "f_e = floor((Ktof + 360,448 − T) / 4,096)"
unfoldable pub energy_column : (t ktof : ℕ) → ℤ
energy_column t ktof = floor_z (pos ktof +ℤ pos 360448 -ℤ pos t) 4096

-- rule 4: a column from 0 to 127 is inside the matrix
unfoldable pub bounded : ℤ → Option ℕ
bounded (pos a) = cond (leb a 127) (Some a) None
bounded (negsuc a) = None

-- "At u = 3,584 the column .. is 1; at 458,751 it is 127 and at 458,752 out of bounds .. and by −1 (column −1), 0 and 3,583 (column 0)"
-- (document 02, Point 2): u, and its column
abbrev pub column_cases : List (ℤ × ℤ)
column_cases =
    (negsuc 0, negsuc 0) ∷ (pos 0, pos 0) ∷ (pos 3583, pos 0) ∷ (pos 3584, pos 1) ∷ (pos 458751, pos 127) ∷ (pos 458752, pos 128) ∷ []
