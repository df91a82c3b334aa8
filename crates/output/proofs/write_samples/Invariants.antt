-- Each turn of `write_samples` adds one sample packet behind those that are written.
use Rattle.std.proofs.Common.{◌≡◌, length}
use Rattle.wire.specs.Bytes.{put}
use Rattle.packet.specs.Packet.{packet_bytes}
use Rattle.output.specs.Output.{samples_of}
use Rattle.output.proofs.write_samples.Given as goal

abbrev pub invariant-loop-i : goal.invariant-loop-i
invariant-loop-i l = (l.out ≡ put l.initial.out packet_bytes (samples_of l.frame l.time l.slots l.s.first l.i)) × (length l.out ≡ length l.initial.out)
