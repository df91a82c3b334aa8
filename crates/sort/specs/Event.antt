-- An event's fields (document 01, "One event"). Assumes nothing.
use Rattle.std.specs.Prelude.{ℕ, Bool, ◌&&◌, cond, leb, ltb}
use Rattle.sort.specs.declared.event.Event.{Event}

-- "time-of-flight channel t 0 to 511, high channel 0 to 4095, low channel 0 to 2047"
abbrev pub in_range : Event → Bool
in_range e = leb e.t 511 && leb e.high 4095 && leb e.low 2047

-- rule 2: "High channel ≤ 2047: gain 0 .. Otherwise gain 1"
abbrev pub gain_of : Event → Bool
gain_of e = ltb 2047 e.high

-- the "channel used": the high one at gain 0, the low one at gain 1
abbrev pub channel_of : Event → ℕ
channel_of e = cond (gain_of e) e.low e.high
