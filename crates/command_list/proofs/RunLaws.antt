-- The waiting commands one after the other: what they make of settings, tables and staging addresses stays in its limits. Assumes nothing.
use Rattle.std.proofs.Common.{◌≡◌, refl, sym, ap, ◌∙◌, Bool, true, false, cond, List, [], ◌∷◌, ℕ, suc, ◌+◌, ◌≤◌, ◌<◌, add-one, leb}
use Rattle.std.proofs.Common.{length, drop, get_or, drop_of_length-le, drop-cons}
use Rattle.wire.specs.Lists.{all}
use Rattle.wire.proofs.Lists.{and_left, and_right}
use Rattle.settings.specs.declared.Settings.{Settings}
use Rattle.settings.specs.Settings.{settings_within}
use Rattle.tables.specs.Tables.{table_bytes}
use Rattle.load.specs.declared.staging.Addresses.{Addresses}
use Rattle.load.specs.Staging.{addresses_within, fresh_addresses}
use Rattle.load.proofs.LoadLaws.{length_loaded}
use Rattle.load.proofs.StagingLaws.{fresh_addresses_lem}
use Rattle.command.specs.declared.command.Command.{Command}
use Rattle.command.specs.declared.command.Command.TheVariants.{Set, Load}
use Rattle.command.specs.declared.ranges.Ranges.{Ranges}
use Rattle.command.specs.Change.{settings_after, tables_after}
use Rattle.command.specs.Grammar.{command_ok}
use Rattle.command.proofs.CommandLaws.{settings_kept}
use Rattle.command_list.specs.declared.Waiting.{Waiting}
use Rattle.command_list.specs.CommandList.{filler, loads_in, given_at}
use Rattle.command_list.specs.Run.{settings_after_all, tables_after_all, addresses_after_all}

-- ---- one after the other

-- what `after` makes of a list, where it takes one step for each element
module _ {S W : Type 0} (step : S → W → S) (after : S → List W → S) (none : (s : S) → after s [] ≡ s)
    (more : (s : S) (w : W) (ws : List W) → after s (w ∷ ws) ≡ after (step s w) ws) where
  run_step : (s : S) (ws : List W) (d : W) (i : ℕ) → i < length ws → after (step s (get_or ws i d)) (drop (i + 1) ws) ≡ after s (drop i ws)
  run_step s ws d i h = sym (rw (add-one, drop-cons ws i d h) (more s (get_or ws i d) (drop (suc i) ws)))

  run_end : (s : S) (ws : List W) (i : ℕ) → length ws ≤ i → after s (drop i ws) ≡ s
  run_end s ws i h = ap (after s) (drop_of_length-le ws h) ∙ none s

pub settings_step : (s : Settings) (ws : List Waiting) (i : ℕ) → i < length ws
    → settings_after_all (settings_after s (get_or ws i filler).command) (drop (i + 1) ws) ≡ settings_after_all s (drop i ws)
unfolding settings_after_all
settings_step s ws i h = run_step (λ s w. settings_after s w.command) settings_after_all (λ s. refl) (λ s w ws. refl) s ws filler i h

pub settings_end : (s : Settings) (ws : List Waiting) (i : ℕ) → length ws ≤ i → settings_after_all s (drop i ws) ≡ s
unfolding settings_after_all
settings_end s ws i h = run_end (λ s w. settings_after s w.command) settings_after_all (λ s. refl) (λ s w ws. refl) s ws i h

module _ (staging : List ℕ) (reach : ℕ) where
  pub tables_step : (tables : List ℕ) (ws : List Waiting) (i : ℕ) → i < length ws
      → tables_after_all (tables_after tables staging reach (get_or ws i filler).command) staging reach (drop (i + 1) ws)
      ≡ tables_after_all tables staging reach (drop i ws)
  unfolding tables_after_all
  tables_step tables ws i h =
      run_step (λ t w. tables_after t staging reach w.command) (λ t ws. tables_after_all t staging reach ws) (λ t. refl) (λ t w ws. refl)
      tables ws filler i h

  pub tables_end : (tables : List ℕ) (ws : List Waiting) (i : ℕ) → length ws ≤ i → tables_after_all tables staging reach (drop i ws) ≡ tables
  unfolding tables_after_all
  tables_end tables ws i h =
      run_end (λ t w. tables_after t staging reach w.command) (λ t ws. tables_after_all t staging reach ws) (λ t. refl) (λ t w ws. refl)
      tables ws i h

-- ---- within the limits

-- the settings stay in their ranges
pub settings_all : (s : Settings) (ranges : Ranges) (ws : List Waiting) → settings_within ranges.limhi s ≡ true
    → all (given_at ranges) ws ≡ true → settings_within ranges.limhi (settings_after_all s ws) ≡ true
unfolding settings_after_all
settings_all s ranges [] h k = h
settings_all s ranges (w ∷ ws) h k =
    settings_all (settings_after s w.command) ranges ws (settings_kept s w.command ranges h (and_left (given_at ranges w) (all (given_at ranges) ws) k))
    (and_right (given_at ranges w) (all (given_at ranges) ws) k)

-- the tables keep their length
module _ (staging : List ℕ) (ranges : Ranges) (fits : ranges.reach ≤ length staging) where
  length_tables_after : (tables : List ℕ) (c : Command) → length tables ≡ table_bytes → command_ok c ranges ≡ true
      → length (tables_after tables staging ranges.reach c) ≡ table_bytes
  length_tables_after tables (Set k n) l h = l
  length_tables_after tables (Load a y) l h = length_loaded tables staging a y ranges.reach l h fits

  pub length_tables_after_all : (tables : List ℕ) (ws : List Waiting) → length tables ≡ table_bytes → all (given_at ranges) ws ≡ true
      → length (tables_after_all tables staging ranges.reach ws) ≡ table_bytes
  unfolding tables_after_all
  length_tables_after_all tables [] l k = l
  length_tables_after_all tables (w ∷ ws) l k =
      length_tables_after_all (tables_after tables staging ranges.reach w.command) ws
      (length_tables_after tables w.command l (and_left (given_at ranges w) (all (given_at ranges) ws) k))
      (and_right (given_at ranges w) (all (given_at ranges) ws) k)

-- the addresses stay within theirs
pub addresses_all : (a : Addresses) (ws : List Waiting) → addresses_within a ≡ true → addresses_within (addresses_after_all a ws) ≡ true
addresses_all a ws h = go (leb 1 (loads_in ws))
  where
    go : (b : Bool) → addresses_within (cond b fresh_addresses a) ≡ true
    go true = fresh_addresses_lem
    go false = h
