-- A record of replay, carried out on the ground. Assumes nothing.
use Rattle.std.specs.Prelude.{cond, List, ℕ, eqb, length}
use Rattle.wire.specs.Bytes.{zeros}
use Rattle.gatherer.specs.declared.Gathered.{Gathered}
use Rattle.gatherer.specs.GatherTheorems.{Gatherer, given, fresh_gatherer}

-- what has come, and the table buffer that it was put into
abbrev pub gatherer : Gathered → (table : List ℕ) → Gatherer
gatherer g table = record { gathered = g; tables = table }

-- 8 gives its body to the gatherer, 9 starts a fresh one with a table of zeros; no other record changes what is gathered
unfoldable pub ground_out : (kind : ℕ) → Gatherer → (body : List ℕ) → Gatherer
ground_out kind g body = cond (eqb kind 8) (given g body) (cond (eqb kind 9) (fresh_gatherer (zeros (length g.tables))) g)
