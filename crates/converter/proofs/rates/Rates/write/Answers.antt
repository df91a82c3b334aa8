-- `write` has put, after i turns, the codes wanted of the first i rates one behind the other.
use Rattle.std.proofs.Common.{ℕ, ◌+◌, ◌*◌, ◌≡◌, refl, sym, ap, ◌∙◌, List, ◌++◌, arith, length}
use Rattle.wire.specs.Bytes.{put, be16, one}
use Rattle.wire.proofs.Bytes.{then, put_nil}
use Rattle.wire.specs.Pieces.{runs, table}
use Rattle.wire.proofs.Pieces.{table_more, runs_one}
use Rattle.rate_code.specs.Editions.{mark_in, code_of, code_by}
use Rattle.rate_code.proofs.EditionLaws.{edition_again}
use Rattle.packet.specs.Layout.{body_at, code_bytes}
use Rattle.packet.specs.Packet.{codes}
use Rattle.packet.proofs.Written.{codes_append}
use Rattle.decode.specs.Read.{rates_of, rate_at}
use Rattle.converter.proofs.Recoded.{length_new}
use Rattle.converter.proofs.rates.Rates.write.Goals as goal

-- one code more
rates_more : (mark i : ℕ) (xs : List ℕ) → codes mark (rates_of i xs) ++ be16 (code_by mark (rate_at xs i)) ≡ codes mark (rates_of (i + 1) xs)
unfolding rates_of codes
rates_more mark i xs =
    let piece : ℕ → List ℕ = λ n. be16 (code_by mark n) in
    ap (λ (l : List ℕ). codes mark (rates_of i xs) ++ l) (sym (runs_one piece (rate_at xs i)))
    ∙ codes_append mark (rates_of i xs) (one (rate_at xs i))
    ∙ ap (codes mark) (sym (table_more _ i))

pub loop-i-init : goal.loop-i-init
unfolding codes rates_of runs table
loop-i-init c = (put_nil _ _, refl)

pub loop-i-preserved : goal.loop-i-preserved
loop-i-preserved c =
    let a = c.args in
    let xs = a.self.now.packet.now in
    let i = c.loop-i.i in
    let w = mark_in a.wanted in
    let old : List ℕ = codes w (rates_of i xs) in
    let lc : length old ≡ code_bytes * i = length_new w i xs in
    let r = c.encode-code.ensures ∙ (λ k. code_of (sym (edition_again a.wanted) k) (c.rate.ensures.0 k)) in (
      then a.out.now body_at old (be16 _) (body_at + code_bytes * i) c.loop-i.invariant.0 c.put.ensures
          (omega arith) (omega (arith, c.requires, a.self.now.fits))
          ∙ ap (λ (v : ℕ). put a.out.now body_at (old ++ be16 v)) r
          ∙ ap (put a.out.now body_at) (rates_more w i xs),
      omega arith,
    )
