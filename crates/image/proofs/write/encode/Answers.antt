-- `encode` puts the parts in a row, and they are the whole image.
use Rattle.std.proofs.Common.{rules, ℕ, ◌≡◌, refl, ◌∙◌, List, ◌++◌, arith, length, length-append}
use Rattle.wire.specs.Bytes.{be16}
use Rattle.wire.proofs.Bytes.{then, put_all}
use Rattle.image.specs.Image.{two, interval_bytes, settings_image, command_list_bytes, added_bytes, image_of}
use Rattle.image.proofs.Lengths.{length_interval, length_command_list}
use Rattle.image.proofs.write.encode.Goals as goal

pub returns : goal.returns
unfolding image_of
returns c =
    let xs = c.args.image.now in
    let t = c.args.s in
    let F : List ℕ = be16 t.frame in
    let I : List ℕ = interval_bytes t.interval in
    let S : List ℕ = settings_image t.settings in
    let O : List ℕ = command_list_bytes t.commands in
    let A : List ℕ = two t.staging.next t.staging.reach in
    let boxes : length t.interval.counts.boxes ≡ 116 = search rules in
    let beacons : length t.interval.counts.beacons ≡ 12 = search rules in
    let totals : length t.interval.totals ≡ 8 = search rules in
    let waiting : length t.commands.waiting ≡ 32 = search rules in
    let l1 : length (F ++ I) ≡ 562 = length-append F I ∙ omega (arith, length_interval t.interval boxes beacons totals) in
    let l2 : length ((F ++ I) ++ S) ≡ 566 = length-append (F ++ I) S ∙ omega (arith, l1) in
    let l3 : length (((F ++ I) ++ S) ++ O) ≡ 766 =
    length-append ((F ++ I) ++ S) O ∙ omega (arith, l2, length_command_list t.commands waiting) in
    let l4 : length ((((F ++ I) ++ S) ++ O) ++ A) ≡ 774 = length-append (((F ++ I) ++ S) ++ O) A ∙ omega (arith, l3) in
    let E : List ℕ = added_bytes t in
    let l5 : length (((((F ++ I) ++ S) ++ O) ++ A) ++ E) ≡ 778 = length-append ((((F ++ I) ++ S) ++ O) ++ A) E ∙ omega (arith, l4) in
    then xs 0 ((((F ++ I) ++ S) ++ O) ++ A) E 774
    (then xs 0 (((F ++ I) ++ S) ++ O) A 766
    (then xs 0 ((F ++ I) ++ S) O 566
    (then xs 0 (F ++ I) S 562 (then xs 0 F I 2 c.put.ensures c.put_interval.ensures refl (omega arith))
    c.put_settings.ensures (omega (arith, l1)) (omega arith))
    c.put_command_list.ensures (omega (arith, l2)) (omega arith))
    c.put_two.ensures (omega (arith, l3)) (omega arith))
    c.put-2.ensures (omega (arith, l4)) (omega arith)
    ∙ put_all xs _ (omega (arith, l5))
