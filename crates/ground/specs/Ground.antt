-- What the ground reader answers for any bytes (document 01, "Packets" and "What is handed on"). Assumes nothing.
use Rattle.std.specs.Prelude.{ℕ, Bool, true, false, cond, ◌&&◌, Option, Some, None, Result, Ok, Err, List, [], eqb, take, drop}
use Rattle.causes.specs.declared.Cause.{Cause}
use Rattle.causes.specs.Causes.{carried_out, cause_number}
use Rattle.wire.specs.Bytes.{zeros}
use Rattle.settings.specs.declared.Settings.{Settings}
use Rattle.rate_code.specs.Editions.{mark_number, mark_from}
use Rattle.decode.specs.declared.kind.Kind.{Kind}
use Rattle.decode.specs.declared.kind.Kind.TheVariants.{Rate, Sample, Beacon}
use Rattle.packet.specs.Layout.{body_at, body_bytes, rate_count, beacon_rate_count}
use Rattle.decode.specs.Read.{application_of, sequence_of, time_of, frame_of, mark_of, kind_of, rates_of, settings_of, sum_of, read_number}
use Rattle.ground.specs.declared.Packet as taken
use Rattle.ground.specs.declared.Contents as own
use Rattle.ground.specs.declared.Contents.TheVariants as of_kind

-- what the reader says of any bytes, in one record: what a packet's kind has not is zero, and of a refused packet all but the number
pub record Packet : Type 0 where
  -- 0, or why the packet is refused
  pub number : ℕ
  pub kind : Option Kind
  pub application : ℕ
  pub sequence : ℕ
  pub time : ℕ
  pub frame : ℕ
  -- the edition of the rates' codes, byte 269 of a rate or beacon packet
  pub mark : ℕ
  -- the least counts of eight totals and 116 boxes
  pub rates : List ℕ
  pub settings : Settings
  -- the sum of all table words modulo 2^24
  pub sum : ℕ
  -- the least counts of twelve beacons, then of eligible, replaced and dropped events (document 02, Point 7)
  pub beacon_rates : List ℕ
  -- which of the sample packets
  pub p : ℕ

-- settings of zeros
abbrev pub no_settings : Settings
no_settings = record { limhi = 0; eonly = false; toferror = false; junk = false; hv = false; hvstep = 0 }

-- a refused packet: "otherwise the lowest number that applies is given, and the result's fields other than the state are zero"
unfoldable pub refused : ℕ → Packet
refused n =
    record {
      number = n;
      kind = None;
      application = 0;
      sequence = 0;
      time = 0;
      frame = 0;
      mark = 0;
      rates = zeros rate_count;
      settings = no_settings;
      sum = 0;
      beacon_rates = zeros beacon_rate_count;
      p = 0;
    }

-- an accepted one: "The reader returns kind, header and frame number", with what its kind has
unfoldable pub accepted : Option Kind → List ℕ → (mark : ℕ) → List ℕ → Settings → ℕ → List ℕ → ℕ → Packet
accepted kind xs mark rates settings sum beacon_rates p =
    record {
      number = carried_out;
      kind = kind;
      application = application_of xs;
      sequence = sequence_of xs;
      time = time_of xs;
      frame = frame_of xs;
      mark = mark;
      rates = rates;
      settings = settings;
      sum = sum;
      beacon_rates = beacon_rates;
      p = p;
    }

-- ".. with a rate packet's rates, settings and table sum, a beacon's rates, or p", and the mark of rates (document 02, Point 5);
-- what a kind has not is zero
unfoldable pub contents : Option Kind → List ℕ → Packet
contents (Some Rate) xs = accepted (Some Rate) xs (mark_of xs) (rates_of rate_count xs) (settings_of xs) (sum_of xs) (zeros beacon_rate_count) 0
contents (Some Sample) xs = accepted (Some Sample) xs 0 (zeros rate_count) no_settings 0 (zeros beacon_rate_count) (mark_of xs)
contents (Some Beacon) xs = accepted (Some Beacon) xs (mark_of xs) (zeros rate_count) no_settings 0 (rates_of beacon_rate_count xs) 0
contents None xs = refused carried_out

-- what `read` answers
unfoldable pub read_of : List ℕ → Packet
read_of xs = cond (eqb (read_number xs) carried_out) (contents (kind_of (application_of xs)) xs) (refused (read_number xs))

-- what `read` hands back of a packet's own bytes
abbrev pub contents_of : Kind → List ℕ → own.Contents
contents_of Rate xs = of_kind.Rate (mark_from (mark_of xs)) (rates_of rate_count xs) (settings_of xs) (sum_of xs)
contents_of Sample xs = of_kind.Sample (mark_of xs)
contents_of Beacon xs = of_kind.Beacon (mark_from (mark_of xs)) (rates_of beacon_rate_count xs)

-- what `read` hands back, as that record
abbrev pub told_of : taken.Packet → own.Contents → Packet
told_of h (of_kind.Rate mark rates settings sum) = record {
  number = carried_out;
  kind = Some Rate;
  application = h.application;
  sequence = h.sequence;
  time = h.time;
  frame = h.frame;
  mark = mark_number mark;
  rates = rates;
  settings = settings;
  sum = sum;
  beacon_rates = zeros beacon_rate_count;
  p = 0;
}
told_of h (of_kind.Sample p) = record {
  number = carried_out;
  kind = Some Sample;
  application = h.application;
  sequence = h.sequence;
  time = h.time;
  frame = h.frame;
  mark = 0;
  rates = zeros rate_count;
  settings = no_settings;
  sum = 0;
  beacon_rates = zeros beacon_rate_count;
  p = p;
}
told_of h (of_kind.Beacon mark beacon_rates) = record {
  number = carried_out;
  kind = Some Beacon;
  application = h.application;
  sequence = h.sequence;
  time = h.time;
  frame = h.frame;
  mark = mark_number mark;
  rates = zeros rate_count;
  settings = no_settings;
  sum = 0;
  beacon_rates = beacon_rates;
  p = 0;
}

abbrev pub told : Result taken.Packet Cause → Packet
told (Ok packet) = told_of packet packet.contents
told (Err cause) = refused (cause_number cause)

-- whether the kind is that of samples
abbrev pub is_sample : Option Kind → Bool
is_sample (Some Rate) = false
is_sample (Some Sample) = true
is_sample (Some Beacon) = false
is_sample None = false

-- an accepted sample packet
unfoldable pub samples_in : List ℕ → Bool
samples_in xs = eqb (read_number xs) carried_out && is_sample (kind_of (application_of xs))

-- what `records` answers: "the sample records as a part of the packet itself, bytes 11-266, and of any other or refused packet an
-- empty part"
unfoldable pub records_of : List ℕ → List ℕ
records_of xs = cond (samples_in xs) (take body_bytes (drop body_at xs)) []
