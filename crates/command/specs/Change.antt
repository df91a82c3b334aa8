-- What a waiting command makes of the settings and of the tables (document 01, "Commands and loads"). Assumes nothing.
use Rattle.std.specs.Prelude.{ℕ, ◌%◌, List, eqb}
use Rattle.settings.specs.declared.Settings.{Settings}
use Rattle.load.specs.Load.{loaded}
use Rattle.command.specs.declared.command.Setting.{Setting}
use Rattle.command.specs.declared.command.Setting.TheVariants.{Limhi, Eonly, Toferror, Junk, Hv, Hvstep}
use Rattle.command.specs.declared.command.Command.{Command}
use Rattle.command.specs.declared.command.Command.TheVariants.{Set, Load}

-- the settings with one of them at n: a flag is set by 1, and hvstep is a byte
abbrev pub changed : Settings → Setting → ℕ → Settings
changed s Limhi n =
    record { limhi = n; eonly = s.eonly; toferror = s.toferror; junk = s.junk; hv = s.hv; hvstep = s.hvstep }
changed s Eonly n =
    record { limhi = s.limhi; eonly = eqb n 1; toferror = s.toferror; junk = s.junk; hv = s.hv; hvstep = s.hvstep }
changed s Toferror n =
    record { limhi = s.limhi; eonly = s.eonly; toferror = eqb n 1; junk = s.junk; hv = s.hv; hvstep = s.hvstep }
changed s Junk n =
    record { limhi = s.limhi; eonly = s.eonly; toferror = s.toferror; junk = eqb n 1; hv = s.hv; hvstep = s.hvstep }
changed s Hv n =
    record { limhi = s.limhi; eonly = s.eonly; toferror = s.toferror; junk = s.junk; hv = eqb n 1; hvstep = s.hvstep }
changed s Hvstep n =
    record { limhi = s.limhi; eonly = s.eonly; toferror = s.toferror; junk = s.junk; hv = s.hv; hvstep = n % 256 }

-- a load changes the tables, and none of the settings
abbrev pub settings_after : Settings → Command → Settings
settings_after s (Set k n) = changed s k n
settings_after s (Load a y) = s

-- "load a y packs the reach"; no other command changes the tables
abbrev pub tables_after : (tables staging : List ℕ) (reach : ℕ) → Command → List ℕ
tables_after tables staging reach (Set k n) = tables
tables_after tables staging reach (Load a y) = loaded tables staging a y reach
