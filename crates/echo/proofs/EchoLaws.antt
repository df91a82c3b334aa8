-- Laws of echoes: what is written so far, and zeros behind it. Assumes nothing.
use Rattle.std.proofs.Common.{◌≡◌, ℕ, ◌-◌, ◌/◌, ◌%◌, ◌^◌, ◌≤◌, ◌<◌, List, ◌++◌, length, take, sym, ap, ◌∙◌, arith, take_all}
use Rattle.std.proofs.Math.ListN.{length-replicate}
use Rattle.std.specs.Int.{w32, to_be_bytes}
use Rattle.wire.specs.Bytes.{put, zeros}
use Rattle.wire.specs.Pieces.{runs}
use Rattle.wire.specs.Text.{hex2}
use Rattle.wire.proofs.Bytes.{take_put, length_put}
use Rattle.wire.proofs.Pieces.{padded_is}
use Rattle.echo.specs.Echo.{echo_bytes, echoed, hex8}

-- zeros to the end behind what is written
pub echo_is : {x : List ℕ} (xs p : List ℕ) (n : ℕ) → length xs ≡ echo_bytes → take n xs ≡ p → length p ≡ n → n ≤ echo_bytes
    → x ≡ put xs n (zeros (echo_bytes - n)) → x ≡ echoed p
echo_is {x} xs p n lx e lp h q =
    let lz : length (zeros (echo_bytes - n)) ≡ echo_bytes - n = length-replicate {A = ℕ} (echo_bytes - n) 0 in
    let lq : length (put xs n (zeros (echo_bytes - n))) ≡ echo_bytes = length_put (zeros (echo_bytes - n)) xs n (omega arith) ∙ lx in
    q
    ∙ sym (take_all echo_bytes (put xs n (zeros (echo_bytes - n))) (omega arith))
    ∙ take_put (zeros (echo_bytes - n)) xs n echo_bytes (omega arith) (omega arith)
    ∙ ap (λ (l : List ℕ). l ++ zeros (echo_bytes - n)) e
    ∙ sym (padded_is echo_bytes n p lp)

-- a text behind what is written
pub behind : {x y p q r : List ℕ} → x ≡ p → y ≡ x ++ q → q ≡ r → y ≡ p ++ r
behind e f g = f ∙ (λ i. e i ++ g i)

-- the digits of a number's bytes are the number's
pub hex8_is : (v : ℕ) → v < 2 ^ 32 → runs hex2 (to_be_bytes w32 v) ≡ hex8 v
unfolding runs
hex8_is v h = let e : v / 16777216 % 256 ≡ v / 16777216 = omega arith in rw e
