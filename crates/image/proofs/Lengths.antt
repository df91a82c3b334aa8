-- The lengths of an image's parts. Assumes nothing.
use Rattle.std.proofs.Common.{◌≡◌, ◌∙◌, List, ◌++◌, ℕ, arith, length, length-append}
use Rattle.wire.specs.Bytes.{be32, words}
use Rattle.wire.proofs.Bytes.{length_words}
use Rattle.counts.specs.declared.Counts.{Counts}
use Rattle.command_list.specs.declared.CommandList.{CommandList}
use Rattle.state.specs.declared.interval.Interval.{Interval}
use Rattle.image.specs.Image.{low, two, counts_bytes, readings_bytes, interval_bytes, commands_bytes, command_list_bytes}
use Rattle.image.proofs.ListLaws.{length_commands}

pub length_counts : (c : Counts) → length c.boxes ≡ 116 → length c.beacons ≡ 12 → length (counts_bytes c) ≡ 512
length_counts c h k =
    length-append (words c.boxes) (words c.beacons) ∙ omega (arith, h, k, length_words c.boxes, length_words c.beacons)

module _ (i : Interval) (b : length i.counts.boxes ≡ 116) (n : length i.counts.beacons ≡ 12) where
  abbrev T : List ℕ
  T = be32 i.taken

  abbrev C : List ℕ
  C = counts_bytes i.counts

  abbrev U : List ℕ
  U = two (low i.samples.slots.used) (low i.samples.slots.replaced)

  pub length_to_counts : length (T ++ C) ≡ 516
  length_to_counts = length-append T C ∙ omega (arith, length_counts i.counts b n)

  pub length_to_use : length ((T ++ C) ++ U) ≡ 524
  length_to_use = length-append (T ++ C) U ∙ omega (arith, length_to_counts)

  pub length_interval : length i.totals ≡ 8 → length (interval_bytes i) ≡ 560
  length_interval t =
      length-append ((T ++ C) ++ U) (readings_bytes i.readings i.totals)
      ∙ omega (arith, t, length_to_use, length-append (be32 i.readings) (words i.totals), length_words i.totals)

pub length_command_list : (o : CommandList) → length o.waiting ≡ 32 → length (command_list_bytes o) ≡ 200
length_command_list o w =
    length-append (two (low o.accepted) (low o.waiters)) (commands_bytes o.waiting)
    ∙ omega (arith, w, length_commands o.waiting)
