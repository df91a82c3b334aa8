-- The values that a packet is written from (document 01, "Packets" and "State limits"). Assumes nothing.
use Rattle.std.specs.Prelude.{ℕ, ◌≤◌, ◌<◌, ◌≡◌, true, List, length}
use Rattle.wire.specs.Lists.{EachBelow, all}
use Rattle.boxes.specs.Boxes.{box_count, total_count}
use Rattle.settings.specs.declared.Settings.{Settings}
use Rattle.sample_record.specs.Record.{record_good}
use Rattle.packet.specs.declared.stamp.Stamp.{Stamp}
use Rattle.rate_code.specs.Rate.{count_limit}
use Rattle.packet.specs.Layout.{sequence_counts, record_count, beacon_rate_count}
use Rattle.decode.specs.Limits.{largest_limhi}

-- the sequence count has 14 bits, the time 32, the frame number 16; byte 269 goes to `marks`, the last edition or the last p;
-- byte 270 is zero
pub record StampFits (marks : ℕ) (stamp : Stamp) : Type 0 where
  pub sequence_fits : stamp.sequence < sequence_counts
  pub time_fits : stamp.time < 4294967296
  pub frame_fits : stamp.frame < 65536
  pub mark_fits : stamp.mark ≤ marks
  pub last_is : stamp.last ≡ 0

-- eight totals and 116 boxes that have codes, settings in their ranges, a sum modulo 2^24
pub record RateValues (totals boxes : List ℕ) (s : Settings) (sum : ℕ) : Type 0 where
  pub totals_are : length totals ≡ total_count
  pub boxes_are : length boxes ≡ box_count
  pub totals_fit : EachBelow count_limit totals
  pub boxes_fit : EachBelow count_limit boxes
  pub limhi_fits : s.limhi ≤ largest_limhi
  pub hvstep_fits : s.hvstep < 256
  pub sum_fits : sum < 16777216

-- 64 records of 32 bits, each "zero or of box 6 to 116"
pub record SampleValues (records : List ℕ) : Type 0 where
  pub records_are : length records ≡ record_count
  pub records_fit : EachBelow 4294967296 records
  pub records_good_lem : all record_good records ≡ true

-- fifteen rates of a beacon packet that have codes
pub record BeaconValues (rates : List ℕ) : Type 0 where
  pub rates_are : length rates ≡ beacon_rate_count
  pub rates_fit : EachBelow count_limit rates
