-- Laws of a block that is written packet by packet. Assumes nothing.
use Rattle.std.proofs.Common.{ℕ, zero, suc, ◌+◌, ◌*◌, ◌≤◌, ◌≡◌, refl, sym, ap, ◌∙◌, List, ◌++◌, append_assoc, arith, eqb, length}
use Rattle.std.proofs.Common.{take, drop, length-drop, drop-drop, length-take-le}
use Rattle.std.proofs.Math.Seq.{take-append-add, drop-append-add}
use Rattle.causes.specs.Causes.{carried_out}
use Rattle.wire.specs.Bytes.{put}
use Rattle.wire.proofs.Lists.{choice}
use Rattle.packet.specs.Layout.{packet_bytes}
use Rattle.decode.specs.Read.{application_of, kind_of}
use Rattle.converter.specs.Convert.{rate_count_of, recoded, convert_number, convert_done}
use Rattle.converter.proofs.Recoded.{rates_fit, length_recoded}
use Rattle.convert.specs.declared.counts.Counts.{Counts}
use Rattle.convert.specs.Block.{written, counted, written_all, counted_all}

-- ---- lists

-- a run put behind the front of a list
put_append : (a xs vs : List ℕ) (at : ℕ) → put (a ++ xs) (length a + at) vs ≡ a ++ put xs at vs
unfolding put
put_append a xs vs at =
    let e : length a + at + length vs ≡ length a + (at + length vs) = omega arith in
    rw (e, take-append-add a xs at, drop-append-add a xs (at + length vs)) (simp append_assoc)

-- what stands behind i + 1 packets stands i packets behind the first
behind : (i : ℕ) (xs : List ℕ) → drop (packet_bytes * i) (drop packet_bytes xs) ≡ drop (packet_bytes * suc i) xs
behind i xs =
    let e : packet_bytes + packet_bytes * i ≡ packet_bytes * suc i = omega arith in
    drop-drop (packet_bytes * i) packet_bytes xs ∙ ap (λ (n : ℕ). drop n xs) e

-- i packets stand behind the first, where i + 1 stand in all
rest_fits : (i : ℕ) (xs : List ℕ) → packet_bytes * suc i ≤ length xs → packet_bytes * i ≤ length (drop packet_bytes xs)
rest_fits i xs h = omega (arith, length-drop packet_bytes xs)

-- ---- one packet

-- it stays as long as it was
pub length_written : (wanted : ℕ) (xs : List ℕ) → length xs ≡ packet_bytes → length (written wanted xs) ≡ packet_bytes
unfolding convert_done
length_written wanted xs l =
    choice (λ (ys : List ℕ). length ys ≡ packet_bytes) (eqb (convert_number wanted (length xs) xs) carried_out)
    (recoded wanted (rate_count_of xs) xs) xs
    (λ q. length_recoded wanted (rate_count_of xs) xs l (rates_fit (kind_of (application_of xs))))
    (λ q. l)

-- ---- packet after packet

module _ (wanted : ℕ) where
  -- the first, where i + 1 stand in all
  length_first : (i : ℕ) (xs : List ℕ) → packet_bytes * suc i ≤ length xs → length (written wanted (take packet_bytes xs)) ≡ packet_bytes
  length_first i xs h = length_written wanted (take packet_bytes xs) (length-take-le packet_bytes xs (omega arith))

  -- what stands behind those that are written is as it was
  pub rest_kept : (i : ℕ) (xs : List ℕ) → packet_bytes * i ≤ length xs
      → drop (packet_bytes * i) (written_all wanted i xs) ≡ drop (packet_bytes * i) xs
  unfolding written_all
  rest_kept zero xs h = refl
  rest_kept (suc i) xs h =
      let w : List ℕ = written wanted (take packet_bytes xs) in
      let rest : List ℕ = drop packet_bytes xs in
      let e : packet_bytes * suc i ≡ length w + packet_bytes * i = omega (arith, length_first i xs h) in
      ap (λ (n : ℕ). drop n (w ++ written_all wanted i rest)) e
      ∙ drop-append-add w (written_all wanted i rest) (packet_bytes * i)
      ∙ rest_kept i rest (rest_fits i xs h)
      ∙ behind i xs

  -- the next is put behind them
  pub next_written : (i : ℕ) (xs : List ℕ) → packet_bytes * suc i ≤ length xs
      → put (written_all wanted i xs) (packet_bytes * i) (written wanted (take packet_bytes (drop (packet_bytes * i) xs)))
      ≡ written_all wanted (suc i) xs
  unfolding written_all put
  next_written zero xs h =
      let w : List ℕ = written wanted (take packet_bytes xs) in
      let e : 0 + length w ≡ packet_bytes = omega (arith, length_first 0 xs h) in
      ap (λ (n : ℕ). w ++ drop n xs) e
  next_written (suc i) xs h =
      let w : List ℕ = written wanted (take packet_bytes xs) in
      let rest : List ℕ = drop packet_bytes xs in
      let done : List ℕ = written_all wanted i rest in
      let e : packet_bytes * suc i ≡ length w + packet_bytes * i = omega (arith, length_first (suc i) xs h) in
      let next : List ℕ = written wanted (take packet_bytes (drop (packet_bytes * suc i) xs)) in
      ap (λ (n : ℕ). put (w ++ done) n next) e
      ∙ put_append w done next (packet_bytes * i)
      ∙ ap (λ (ys : List ℕ). w ++ put done (packet_bytes * i) (written wanted (take packet_bytes ys))) (sym (behind i xs))
      ∙ ap (λ (ys : List ℕ). w ++ ys) (next_written i rest (rest_fits (suc i) xs h))

  -- and counted after them
  pub next_counted : (i : ℕ) (c : Counts) (xs : List ℕ)
      → counted wanted (counted_all wanted i c xs) (take packet_bytes (drop (packet_bytes * i) xs)) ≡ counted_all wanted (suc i) c xs
  unfolding counted_all
  next_counted zero c xs = refl
  next_counted (suc i) c xs =
      let first : Counts = counted wanted c (take packet_bytes xs) in
      let rest : List ℕ = drop packet_bytes xs in
      ap (λ (ys : List ℕ). counted wanted (counted_all wanted i first rest) (take packet_bytes ys)) (sym (behind i xs))
      ∙ next_counted i first rest
