-- A number that was put into a run of bytes is read from it. Assumes nothing.
use Rattle.std.specs.Prelude.{◌≡◌, List, ◌++◌, ℕ, ◌+◌, ◌*◌, ◌/◌, ◌%◌, ◌≤◌, ◌<◌, length, take, drop, get_or}
use mathlib.Core.Path.{sym, ap, ◌∙◌}
use native.Mathlib.Omega.{arith}
use lib.ListN.{length-append, get_or-append}
use lib.Seq.{length-take-le, get_or-append-add}
use Rattle.wire.specs.Bytes.{put, one, be16, be32, at8, at16, at32}

-- an element inside the run that is put
pub put_inside : (vs xs : List ℕ) (at k : ℕ) → at ≤ length xs → k < length vs → get_or (put xs at vs) (at + k) 0 ≡ get_or vs k 0
unfolding put
put_inside vs xs at k h l =
    let T : List ℕ = take at xs in
    let D : List ℕ = drop (at + length vs) xs in
    let lt : length T ≡ at = length-take-le at xs h in
    get_or-append (T ++ vs) D 0 (at + k) (simp (length-append, lt) (omega arith))
    ∙ ap (λ (n : ℕ). get_or (T ++ vs) (n + k) 0) (sym lt)
    ∙ get_or-append-add T vs k 0

-- a number's bytes hold the number
pub value16 : (v : ℕ) → 256 * (v / 256) + v % 256 ≡ v
value16 v = omega arith

pub value32 : (v : ℕ) → 16777216 * (v / 16777216) + 65536 * (v / 65536 % 256) + 256 * (v / 256 % 256) + v % 256 ≡ v
value32 v = omega arith

reads_at : (vs xs : List ℕ) (i : ℕ) → i + length vs ≤ length xs → (k : ℕ) → k < length vs → get_or (put xs i vs) (i + k) 0 ≡ get_or vs k 0
reads_at vs xs i h k l = put_inside vs xs i k (omega arith) l

pub reads8 : (xs : List ℕ) (i v : ℕ) → i + 1 ≤ length xs → at8 (put xs i (one v)) i ≡ v
reads8 xs i v h = ap (λ (n : ℕ). get_or (put xs i (one v)) n 0) (omega arith) ∙ reads_at (one v) xs i h 0 (omega arith)

pub reads16 : (xs : List ℕ) (i v : ℕ) → i + 2 ≤ length xs → at16 (put xs i (be16 v)) i ≡ v
reads16 xs i v h =
    let r = reads_at (be16 v) xs i h in
    let first : get_or (put xs i (be16 v)) i 0 ≡ v / 256 =
    ap (λ (n : ℕ). get_or (put xs i (be16 v)) n 0) (omega arith) ∙ r 0 (omega arith) in
    omega (arith, first, r 1 (omega arith), value16 v)

pub reads32 : (xs : List ℕ) (i v : ℕ) → i + 4 ≤ length xs → at32 (put xs i (be32 v)) i ≡ v
reads32 xs i v h =
    let r = reads_at (be32 v) xs i h in
    let first : get_or (put xs i (be32 v)) i 0 ≡ v / 16777216 =
    ap (λ (n : ℕ). get_or (put xs i (be32 v)) n 0) (omega arith) ∙ r 0 (omega arith) in
    omega (arith, first, r 1 (omega arith), r 2 (omega arith), r 3 (omega arith), value32 v)
