-- `put_whole` fills whole bytes of the bitmap.
use Rattle.std.proofs.Common.{◌≡◌, ℕ, ◌+◌, ◌-◌, ap, ◌∙◌, arith, rules, length, take, drop, replicate}
use Rattle.wire.specs.Bytes.{put}
use Rattle.wire.proofs.Bytes.{put_mid_lem, length_part}
use Rattle.load.proofs.BitmapLaws.{filled_bits}
use Rattle.load.proofs.bitmap.put_whole.Goals as goal

pub returns : goal.returns
returns c =
    let a = c.args in
    let xs = a.bitmap.now in
    let v = c.eight_bits.result in
    let n : length (take (a.first + a.many - a.first) (drop a.first xs)) ≡ a.many = length_part xs a.first (a.first + a.many - a.first) (omega arith) ∙ omega arith in
    let e : c.fill.new.self ≡ replicate a.many v = c.fill.ensures.after (λ y h. h) ∙ ap (λ (m : ℕ). replicate m v) n in
    put_mid_lem a.first (a.first + a.many) xs c.fill.new.self (omega arith) (omega arith)
    ∙ ap (put xs a.first) (e ∙ ap (replicate a.many) c.eight_bits.ensures)
    ∙ filled_bits xs a.first a.many a.bad (search rules) (omega arith)
