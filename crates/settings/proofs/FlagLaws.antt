-- The settings of their own flags are the settings. Assumes nothing.
use Rattle.std.proofs.Common.{◌≡◌, refl, Bool, true, false}
use Rattle.settings.specs.declared.Settings.{Settings}
use Rattle.settings.specs.Settings.{settings_flags, settings_by}

abbrev of : Settings → (hv eonly toferror junk : Bool) → Settings
of s hv eonly toferror junk =
    record { limhi = s.limhi; eonly = eonly; toferror = toferror; junk = junk; hv = hv; hvstep = s.hvstep }

pub flags_back : (s : Settings) → settings_by (settings_flags s) s.limhi s.hvstep ≡ s
flags_back s = go s.hv s.eonly s.toferror s.junk
  where
    go : (a b c d : Bool) → settings_by (settings_flags (of s a b c d)) s.limhi s.hvstep ≡ of s a b c d
    go true true true true = refl
    go true true true false = refl
    go true true false true = refl
    go true true false false = refl
    go true false true true = refl
    go true false true false = refl
    go true false false true = refl
    go true false false false = refl
    go false true true true = refl
    go false true true false = refl
    go false true false true = refl
    go false true false false = refl
    go false false true true = refl
    go false false true false = refl
    go false false false true = refl
    go false false false false = refl
