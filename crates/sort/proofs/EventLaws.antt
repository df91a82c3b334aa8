-- Laws of an event's fields and of its outcome. Assumes nothing.
use Rattle.std.proofs.Common.{◌≡◌, refl, Bool, true, false, ◌&&◌, cond, List, ℕ, ◌+◌, ◌*◌, ◌%◌, ◌≤◌, ◌<◌, get_or, arith, leb, ltb, leb-true, ltb-false}
use Rattle.wire.proofs.Lists.{and_split}
use Rattle.settings.specs.declared.Settings.{Settings}
use Rattle.boxes.specs.Boxes.{box_count, beacon_count, junk_box}
use Rattle.std.specs.Prelude.{Option, Some, None, IfSome}
use Rattle.sort.specs.declared.event.Event.{Event}
use Rattle.sort.specs.declared.sorting.Outcome.{Outcome}
use Rattle.sort.specs.declared.sorting.Outcome.TheVariants.{Discarded}
use Rattle.sort.specs.Columns.{u_of, mass_column, energy_column, bounded}
use Rattle.sort.specs.Event.{in_range, gain_of, channel_of}
use Rattle.sort.specs.Matrix.{box_used, beacon_used, matrix_of, cell_of}
use Rattle.sort.specs.Sorting.{Words, discards, event_words, located, in_matrix, outcome_of}
use Rattle.sort.specs.Boxes.{CellNames, OutcomeNames}

-- the fields of an event in range
pub in_range_lem : (e : Event) → in_range e ≡ true → (e.t ≤ 511) × (e.high ≤ 4095) × (e.low ≤ 2047)
in_range_lem e h =
    let p = and_split (leb e.t 511 && leb e.high 4095) (leb e.low 2047) h in
    let q = and_split (leb e.t 511) (leb e.high 4095) p.0 in
    (leb-true _ _ q.0, leb-true _ _ q.1, leb-true _ _ p.1)

-- the channel used has 11 bits
pub channel_fits : (e : Event) → in_range e ≡ true → channel_of e < 2048
channel_fits e h = go (gain_of e) refl
  where
    go : (t : Bool) → ltb 2047 e.high ≡ t → cond t e.low e.high < 2048
    go true q = omega (arith, in_range_lem e h)
    go false q = omega (arith, ltb-false 2047 e.high q)

-- a cell names a box from 7 to 116, and a beacon from 1 to 12 if it names one
pub box_used_lem : (b : ℕ) → (junk_box ≤ box_used b) × (box_used b ≤ box_count)
box_used_lem b = go (leb junk_box b && leb b box_count) refl
  where
    go : (t : Bool) → (leb junk_box b && leb b box_count) ≡ t → (junk_box ≤ cond t b junk_box) × (cond t b junk_box ≤ box_count)
    go true q = let p = and_split (leb junk_box b) (leb b box_count) q in (leb-true _ _ p.0, leb-true _ _ p.1)
    go false q = omega arith

pub beacon_used_lem : (n : ℕ) → IfSome (beacon_used n) (λ b. (1 ≤ b) × (b ≤ beacon_count))
beacon_used_lem n = go (leb 1 n && leb n beacon_count) refl
  where
    go : (t : Bool) → (leb 1 n && leb n beacon_count) ≡ t → IfSome (cond t (Some n) None) (λ b. (1 ≤ b) × (b ≤ beacon_count))
    go true q = let p = and_split (leb 1 n) (leb n beacon_count) q in (leb-true _ _ p.0, leb-true _ _ p.1)
    go false q = tt

pub cell_names : (m : List ℕ) (i j : ℕ) → CellNames (cell_of m i j)
unfolding cell_of
cell_names m i j =
    let at : ℕ = 3 * (128 * i + j) in
    let b = box_used_lem (get_or m at 0 % 128) in
    (b.0, b.1, beacon_used_lem (get_or m (at + 1) 0))

located_names : (gain : Bool) (a b : Option ℕ) (m : List ℕ) → OutcomeNames (located gain a b m)
located_names gain (Some i) (Some j) m = cell_names m i j
located_names gain (Some i) None m = tt
located_names gain None b m = tt

in_matrix_names : (gain : Bool) (w : Words) (m : List ℕ) → OutcomeNames (in_matrix gain w m)
unfolding in_matrix
in_matrix_names gain w m =
    located_names gain
    (bounded (mass_column (u_of w.energy w.k w.flight w.ktof)))
    (bounded (energy_column w.flight w.ktof))
    m

or_discarded : (t : Bool) (o : Outcome) → OutcomeNames o → OutcomeNames (cond t Discarded o)
or_discarded true o h = tt
or_discarded false o h = h

-- every outcome names boxes and beacons that there are
pub outcome_names : (s : Settings) (tables : List ℕ) (e : Event) → OutcomeNames (outcome_of s tables e)
unfolding outcome_of
outcome_names s tables e = or_discarded (discards s e) _ (in_matrix_names (gain_of e) (event_words tables e) (matrix_of tables))
