-- What the waiting commands do at a close (document 01, "One event": "then waiting commands run in order"). Assumes nothing.
use Rattle.std.specs.Prelude.{ℕ, cond, List, [], ◌∷◌, leb}
use Rattle.settings.specs.declared.Settings.{Settings}
use Rattle.load.specs.declared.staging.Addresses.{Addresses}
use Rattle.load.specs.Staging.{fresh_addresses}
use Rattle.command.specs.Change.{settings_after, tables_after}
use Rattle.command_list.specs.declared.Waiting.{Waiting}
use Rattle.command_list.specs.CommandList.{loads_in}

-- the settings after them
unfoldable pub settings_after_all : Settings → List Waiting → Settings
settings_after_all s [] = s
settings_after_all s (w ∷ ws) = settings_after_all (settings_after s w.command) ws

-- the tables after them
unfoldable pub tables_after_all : (tables staging : List ℕ) (reach : ℕ) → List Waiting → List ℕ
tables_after_all tables staging reach [] = tables
tables_after_all tables staging reach (w ∷ ws) = tables_after_all (tables_after tables staging reach w.command) staging reach ws

-- the staging addresses after them: "Both addresses are 0 once it has run"
abbrev pub addresses_after_all : Addresses → List Waiting → Addresses
addresses_after_all a ws = cond (leb 1 (loads_in ws)) fresh_addresses a
