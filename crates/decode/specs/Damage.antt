-- A list of bytes with one of them another. Assumes nothing.
use Rattle.std.specs.Prelude.{ℕ, ◌<◌, ◌≡◌, List, length, get_or, set}

-- ys is xs but for one byte
pub record OneByteOff (xs ys : List ℕ) : Type 0 where
  pub place : ℕ
  pub byte : ℕ
  pub inside : place < length xs
  pub byte_fits : byte < 256
  pub differs : byte ≡ get_or xs place 0 → ⊥
  pub rest : ys ≡ set xs place byte
