-- A byte that is the number of no kind. Assumes nothing.
use Rattle.std.proofs.Common.{◌≡◌, sym, ℕ}
use Rattle.stream.specs.declared.kind.Kind.{Kind}
use Rattle.stream.specs.declared.kind.Kind.TheVariants.{
  Event,
  Reading,
  Line,
  Close,
  Package,
  Listing,
  Gather,
  Gathered,
  State,
  Show,
  Slots,
}
use Rattle.stream.specs.Kind.{kind_number}

-- it is none of those that a contract of the records names
pub no_kind : (byte : ℕ) → ((k : Kind) → kind_number k ≡ byte → ⊥) →
    (byte ≡ 1 → ⊥)
    × (byte ≡ 2 → ⊥)
    × (byte ≡ 3 → ⊥)
    × (byte ≡ 4 → ⊥)
    × (byte ≡ 5 → ⊥)
    × (byte ≡ 7 → ⊥)
    × (byte ≡ 8 → ⊥)
    × (byte ≡ 9 → ⊥)
    × (byte ≡ 20 → ⊥)
    × (byte ≡ 21 → ⊥)
    × (byte ≡ 22 → ⊥)
no_kind byte none = (
  λ e. none Event (sym e),
  λ e. none Reading (sym e),
  λ e. none Line (sym e),
  λ e. none Close (sym e),
  λ e. none Package (sym e),
  λ e. none Listing (sym e),
  λ e. none Gather (sym e),
  λ e. none Gathered (sym e),
  λ e. none State (sym e),
  λ e. none Show (sym e),
  λ e. none Slots (sym e),
)
