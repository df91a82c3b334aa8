-- The default counts are zeros.
use Rattle.std.proofs.Common.{ℕ, ◌≡◌, ◌<◌, ◌∙◌, List, length, sym, arith}
use Rattle.std.specs.Prelude.{get_or}
use Rattle.std.proofs.lemmas.List.{ext_get_or, get_or-replicate, length-replicate}
use Rattle.wire.specs.Bytes.{zeros}
use Rattle.state.proofs.interval.fresh.Goals as goal

zeros_are : (xs : List ℕ) (n : ℕ) → length xs ≡ n → ((i d : ℕ) → i < n → get_or xs i d ≡ 0) → xs ≡ zeros n
zeros_are xs n l h =
    ext_get_or 0 xs (zeros n) (l ∙ sym (length-replicate n 0)) (λ i m.
    let k : i < n = omega (arith, m, l) in h i 0 k ∙ sym (get_or-replicate n i 0 0 k))

pub returns : goal.returns
returns c =
    let b = c.default.ensures.0 in
    let n = c.default.ensures.1 in
    λ i. record {
      taken = 0;
      counts = record { boxes = zeros_are _ 116 b.long b.at i; beacons = zeros_are _ 12 n.long n.at i };
      samples = record { slots = record { used = 0; replaced = 0 }; eligible = 0 };
      readings = 0;
      totals = zeros 8;
    }
