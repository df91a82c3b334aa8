-- A record of no kind changes nothing aboard. Assumes nothing.
use Rattle.std.proofs.Common.{◌≡◌, List, ℕ}
use Rattle.std.proofs.lemmas.Bool.{ne_eqb}
use Rattle.state.specs.declared.State.{State}
use Rattle.stream.specs.declared.kind.Kind.{Kind}
use Rattle.stream.specs.Kind.{kind_number}
use Rattle.stream.proofs.KindLaws.{no_kind}
use Rattle.replay_calls.specs.Calls.{kind_done, carried}

pub no_call : (byte : ℕ) → ((k : Kind) → kind_number k ≡ byte → ⊥) → (s : State) (tables staging bitmap slots echo body : List ℕ)
    → kind_done byte s tables staging bitmap slots echo body ≡ carried s tables staging bitmap slots echo
unfolding kind_done
no_call byte none s tables staging bitmap slots echo body =
    let n = no_kind byte none in
    rw (ne_eqb byte 1 n.0, ne_eqb byte 2 n.1, ne_eqb byte 3 n.2, ne_eqb byte 4 n.3, ne_eqb byte 5 n.4, ne_eqb byte 20 n.8, ne_eqb byte 22 n.10)
