-- The settings of document 01, "One event" (Fresh) and "Commands and loads", and their flags ("Packets"). Assumes nothing.
use Rattle.std.specs.Prelude.{ℕ, ◌+◌, ◌*◌, Bool, false, leb}
use Rattle.wire.specs.Bits.{bit_of, is_set}
use Rattle.settings.specs.declared.Settings.{Settings}

-- "Fresh: .. LIMHI 500, all other settings 0"
abbrev pub fresh_settings : Settings
fresh_settings = record { limhi = 500; eonly = false; toferror = false; junk = false; hv = false; hvstep = 0 }

-- "limhi (0 to 2c0), eonly, toferror, junk, hv (0 or 1), hvstep (0 to ff)": of these only LIMHI's type has other values, and the
-- capacity says which is its largest
abbrev pub settings_within : (limhi : ℕ) → Settings → Bool
settings_within limhi s = leb s.limhi limhi

-- ---- the settings that are on or off, in one byte: "261 hv 128 + Eonly 64 + toferror 32 + junk 16"

abbrev pub hv_flag : ℕ
hv_flag = 128

abbrev pub eonly_flag : ℕ
eonly_flag = 64

abbrev pub toferror_flag : ℕ
toferror_flag = 32

abbrev pub junk_flag : ℕ
junk_flag = 16

abbrev pub settings_flags : Settings → ℕ
settings_flags s =
    hv_flag * bit_of s.hv + eonly_flag * bit_of s.eonly + toferror_flag * bit_of s.toferror + junk_flag * bit_of s.junk

-- the settings of such a byte; its other bits are ignored
abbrev pub settings_by : (flags limhi hvstep : ℕ) → Settings
settings_by flags limhi hvstep = record {
  limhi = limhi;
  eonly = is_set flags eonly_flag;
  toferror = is_set flags toferror_flag;
  junk = is_set flags junk_flag;
  hv = is_set flags hv_flag;
  hvstep = hvstep;
}
