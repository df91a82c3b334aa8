-- When each number comes, after every lawful list of calls to a fresh processor (document 01, "Causes and their numbers"; document 02,
-- Points 1 and 4): one field for each number, from what the tally keeps and the call's arguments, with none of the calls' own checks.
-- Assumes nothing.
use Rattle.std.specs.Prelude.{◌≡◌, ◌≢◌, ◌⊎◌, Bool, true, false, List, [], ◌∷◌, ◌++◌, ℕ, ◌+◌, ◌-◌, ◌%◌, ◌≤◌, ◌<◌, max, length, get_or, take}
use Rattle.wire.specs.Bytes.{at16, total, put}
use Rattle.wire.specs.Lists.{All}
use Rattle.capacity.specs.declared.Capacity.{Capacity}
use Rattle.capacity.specs.Capacity.{numbers_of}
use Rattle.sample_record.specs.Record.{record_box}
use Rattle.sort.specs.declared.event.Event.{Event}
use Rattle.load.specs.declared.staging.Addresses.{Addresses}
use Rattle.load.specs.Bitmap.{is_bad}
use Rattle.load.specs.Staging.{payload, received_sum}
use Rattle.command.specs.declared.command.Command.TheVariants.{Set, Load}
use Rattle.command_list.specs.declared.Waiting.{Waiting}
use Rattle.command_list.specs.CommandList.{waiting_of}
use Rattle.output.specs.Output.{span_bytes}
use Rattle.processor.specs.Close.{close_span}
use Rattle.tally.specs.Steps.{Done, after, Lawful}
use Rattle.tally.specs.World.{World, fresh_world, Lending}
use Rattle.tally.specs.Calls.{Counts8, event, reading, line, load_package, listing, Reply, answered, listed, closed_with}
use Rattle.tally.specs.Calls.{written_listing}
use Rattle.tally.specs.Calls.{Answered, SingleRequest, asks, close, SingleCall, owning, processor_step}
use Rattle.tally.specs.Tally.{by_wrong, Tally, fresh_tally, events_of, slots_for, totals_of, lent_to, sent_for, listing_for, tally_step}
use Rattle.tally.specs.Demand3.{CommitWaits}
use Rattle.tally.specs.Texts.{LineBytes, value_of, CommandText, change, load_zero, load_at, ask, commit, text_of, InRanges}

abbrev pub reply_of : Done World Answered → Reply
reply_of d = d.answer.reply

abbrev pub number_of : Done World Answered → ℕ
number_of d = (reply_of d).number

-- ---- what is lent: "lent buffer (not line, package or packet) of other length"

-- "at close, each slot zero or of box 6 to 116"
abbrev pub SlotRight : ℕ → Type 0
SlotRight x = (x ≡ 0) ⊎ ((6 ≤ record_box x) × (record_box x ≤ 116))

-- of a line and of a package: "Staging is 62,985 lent bytes", a bit for each, "The echo buffer has 128 bytes"
abbrev pub StagingLent : Tally → Lending → (echo : List ℕ) → Type 0
StagingLent t l echo = (length (lent_to t l).staging ≡ 62985) × (length (lent_to t l).bitmap ≡ 7874) × (length echo ≡ 128)

-- the lengths of what each call is lent: tables of 62,985 bytes, slots and a close's output by the capacity, 272 bytes for a listing
abbrev pub LentRight : Tally → Lending → SingleRequest → Type 0
LentRight t l (asks (event e)) = (length (lent_to t l).tables ≡ 62985) × (length (lent_to t l).slots ≡ slots_for t)
LentRight t l (asks (reading c)) = Unit {0}
LentRight t l (asks (line bytes echo)) = StagingLent t l echo
LentRight t l (asks (load_package p echo)) = StagingLent t l echo
LentRight t l (asks (listing i time out)) = (length (lent_to t l).tables ≡ 62985) × (length out ≡ 272)
LentRight t l (close time out) =
    (length (lent_to t l).tables ≡ 62985) × (length (lent_to t l).staging ≡ 62985) × (length (lent_to t l).slots ≡ slots_for t)
    × (length out ≡ span_bytes (close_span t.capacity)) × All SlotRight (lent_to t l).slots

-- 1 comes there and nowhere else: no list of calls makes a state over a limit
pub record LentWhen (t : Tally) (l : Lending) (a : SingleRequest) (n : ℕ) : Type 0 where
  pub other_length : (LentRight t l a → ⊥) → n ≡ 1
  pub right_lengths : LentRight t l a → n ≢ 1

-- ---- an event

-- "time-of-flight channel t 0 to 511, high channel 0 to 4095, low channel 0 to 2047"
abbrev pub FieldsInRange : Event → Type 0
FieldsInRange e = (e.t ≤ 511) × (e.high ≤ 4095) × (e.low ≤ 2047)

pub record EventWhen (t : Tally) (e : Event) (d : Done World Answered) : Type 0 where
  -- "event field over its range"
  pub over_range : (FieldsInRange e → ⊥) → reply_of d ≡ answered 2
  -- "event after 1,000,000 events"
  pub after_most : FieldsInRange e → 1000000 ≤ length (events_of t) → reply_of d ≡ answered 3
  pub taken : FieldsInRange e → length (events_of t) < 1000000 → reply_of d ≡ answered 0
  -- and it is one event more
  pub counted : FieldsInRange e → length (events_of t) < 1000000 → d.next.state.interval.taken ≡ length (events_of t) + 1

-- ---- a reading

pub record ReadingWhen (t : Tally) (c : Counts8) (d : Done World Answered) : Type 0 where
  -- "reading after 60 readings"
  pub after_most : 60 ≤ length t.interval.readings → reply_of d ≡ answered 3
  pub taken : length t.interval.readings < 60 → reply_of d ≡ answered 0
  pub counted : length t.interval.readings < 60 → d.next.state.interval.readings ≡ length t.interval.readings + 1
  -- "A reading adds eight 16-bit counts to eight totals"
  pub added : length t.interval.readings < 60 → (i : ℕ) → i < 8
      → get_or d.next.state.interval.totals i 0 ≡ get_or (totals_of t) i 0 + get_or c.counts i 0

-- ---- a line

-- "a load waits"
abbrev pub Blocked : Tally → Type 0
Blocked t = (a : ℕ) × (y : ℕ) × CommitWaits t.commands.waiting a y

-- "a staged byte is bad": one below the reach "was last written by a package with a wrong sum"
abbrev pub SomeBad : Tally → Type 0
SomeBad t = (i : ℕ) × (i < t.addresses.reach) × (t.wrote i ≡ by_wrong)

-- "those bytes' sum": of the staged bytes below the reach
abbrev pub sum_below : Tally → ℕ
sum_below t = total (take t.addresses.reach t.staging)

-- 6 is about these: "load, load 0, loadat", and "for ask and commit too"
abbrev pub uses_staging : CommandText → Bool
uses_staging (change k n) = false
uses_staging (load_zero n) = true
uses_staging (load_at a) = true
uses_staging (ask a y) = true
uses_staging (commit a y sum) = true

-- 15 is about these: an ask checks "that no byte below the reach was last written by a package with a wrong sum", and a commit "likewise"
abbrev pub uses_bytes : CommandText → Bool
uses_bytes (change k n) = false
uses_bytes (load_zero n) = false
uses_bytes (load_at a) = false
uses_bytes (ask a y) = true
uses_bytes (commit a y sum) = true

-- "commit's sum differs from that of the bytes lent below the reach"
abbrev pub Differs : Tally → CommandText → Type 0
Differs t (change k n) = ⊥
Differs t (load_zero n) = ⊥
Differs t (load_at a) = ⊥
Differs t (ask a y) = ⊥
Differs t (commit a y sum) = value_of sum ≢ sum_below t

-- what an accepted command comes to: an ask "returns those bytes' sum"
abbrev pub sum_by : Tally → CommandText → ℕ
sum_by t (change k n) = 0
sum_by t (load_zero n) = 0
sum_by t (load_at a) = 0
sum_by t (ask a y) = sum_below t
sum_by t (commit a y sum) = 0

-- "Waiting until close: limhi .., hvstep"; a commit "waits as load did"
abbrev pub waiting_by : CommandText → List Waiting
waiting_by (change k n) = record { command = Set k (value_of n) } ∷ []
waiting_by (load_zero n) = []
waiting_by (load_at a) = []
waiting_by (ask a y) = []
waiting_by (commit a y sum) = record { command = Load (value_of a) (value_of y) } ∷ []

-- "load 0 sets both to 0"; loadat sets the next address
abbrev pub addresses_by : Addresses → CommandText → Addresses
addresses_by s (change k n) = s
addresses_by s (load_zero n) = record { next = 0; reach = 0 }
addresses_by s (load_at a) = record { next = value_of a; reach = s.reach }
addresses_by s (ask a y) = s
addresses_by s (commit a y sum) = s

pub record Accepted (t : Tally) (x : CommandText) (d : Done World Answered) : Type 0 where
  pub number_is : number_of d ≡ 0
  pub sum_is : (reply_of d).sum ≡ sum_by t x
  -- "The sequence counts accepted commands"
  pub counted : d.next.state.commands.accepted ≡ t.commands.accepted + 1
  pub waiting_are : waiting_of d.next.state.commands ≡ t.commands.waiting ++ waiting_by x
  pub addresses_are : d.next.state.staging ≡ addresses_by t.addresses x

-- no load waits where the command uses staging
abbrev pub Free : Tally → CommandText → Type 0
Free t x = uses_staging x ≡ true → Blocked t → ⊥

-- a line that is the text of a command in its ranges
pub record CommandWhen (t : Tally) (x : CommandText) (d : Done World Answered) : Type 0 where
  -- "a load waits"
  pub load_waits_lem : uses_staging x ≡ true → Blocked t → number_of d ≡ 6
  -- "32 commands this frame"
  pub after_most : Free t x → 32 ≤ t.commands.accepted → number_of d ≡ 7
  -- "15 when a staged byte is bad, after 7"
  pub byte_bad : Free t x → t.commands.accepted < 32 → uses_bytes x ≡ true → SomeBad t → number_of d ≡ 15
  -- "16 when commit's sum differs .., after 15"
  pub sum_differs_lem : Free t x → t.commands.accepted < 32 → (SomeBad t → ⊥) → Differs t x → number_of d ≡ 16
  pub accepted : Free t x → t.commands.accepted < 32 → (uses_bytes x ≡ true → SomeBad t → ⊥) → (Differs t x → ⊥) → Accepted t x d

abbrev pub InRangesNow : Tally → CommandText → Type 0
InRangesNow t x = InRanges t.addresses.reach (numbers_of t.capacity).limhi x

-- every line, by its bytes
pub record LineWhen (t : Tally) (d : (bytes : List ℕ) → Done World Answered) : Type 0 where
  -- "line over 80 or other byte"
  pub other_bytes : (bytes : List ℕ) → (LineBytes bytes → ⊥) → number_of (d bytes) ≡ 4
  -- "unknown keyword, wrong argument": the text of no command in its ranges
  pub wrong : (bytes : List ℕ) → LineBytes bytes → bytes ≢ [] → ((x : CommandText) → InRangesNow t x → bytes ≢ text_of x)
      → number_of (d bytes) ≡ 5
  -- "Empty line: .. it answers 0 and is no command, also after 32"
  pub empty : number_of (d []) ≡ 0
  pub none_counted_lem : (d []).next.state.commands.accepted ≡ t.commands.accepted
  pub commands : (x : CommandText) → InRangesNow t x → CommandWhen t x (d (text_of x))

-- ---- a package

-- "A package is a 16-bit N, then N − 2 bytes, then their sum modulo 65,536"; not "no N, N below 2 or not matching the bytes"
abbrev pub PackageFormed : (p : List ℕ) → Type 0
PackageFormed p = (2 ≤ length p) × (2 ≤ at16 p 0) × (length p ≡ at16 p 0 + 2)

-- where it ends in staging
abbrev pub end_of : Tally → (p : List ℕ) → ℕ
end_of t p = t.addresses.next + (at16 p 0 - 2)

-- "Bytes go to the next address, which moves past them, reach too"
pub record Placed (t : Tally) (p : List ℕ) (bad : Bool) (d : Done World Answered) : Type 0 where
  pub staging_is : d.next.buffers.staging ≡ put t.staging t.addresses.next (payload p)
  pub next_is : d.next.state.staging.next ≡ end_of t p
  pub reach_is : d.next.state.staging.reach ≡ max t.addresses.reach (end_of t p)
  -- its bytes are bad or not by its sum, the others as before
  pub marked : (i : ℕ) → t.addresses.next ≤ i → i < end_of t p → is_bad d.next.buffers.bitmap i ≡ bad
  pub before : (i : ℕ) → i < t.addresses.next → is_bad d.next.buffers.bitmap i ≡ is_bad t.bitmap i
  pub behind : (i : ℕ) → end_of t p ≤ i → is_bad d.next.buffers.bitmap i ≡ is_bad t.bitmap i

pub record PackageWhen (t : Tally) (p : List ℕ) (d : Done World Answered) : Type 0 where
  -- "a load waits (.. package)"
  pub load_waits_lem : Blocked t → number_of d ≡ 6
  -- "no N, N below 2 or not matching the bytes"
  pub not_formed : (Blocked t → ⊥) → (PackageFormed p → ⊥) → number_of d ≡ 8
  -- "package passes staging's end"
  pub past_end : (Blocked t → ⊥) → PackageFormed p → 62985 < end_of t p → number_of d ≡ 9
  -- "package sum wrong": such a package is placed too
  pub sum_wrong : (Blocked t → ⊥) → PackageFormed p → end_of t p ≤ 62985 → received_sum p ≢ total (payload p) % 65536
      → (number_of d ≡ 10) × Placed t p true d
  pub right : (Blocked t → ⊥) → PackageFormed p → end_of t p ≤ 62985 → received_sum p ≡ total (payload p) % 65536
      → (number_of d ≡ 0) × Placed t p false d

-- ---- a listing

pub record ListingWhen (t : Tally) (i time : ℕ) (out : List ℕ) (r : Reply) : Type 0 where
  -- "A call writes packet i, 0 to 249, of the table's 250"; "14 when i .. is none of these"
  pub none_of_these : 250 ≤ i → r ≡ listed 14 out
  pub is_written : i < 250 → r ≡ listed 0 (written_listing (listing_for t i time))

-- ---- every call

-- what the next call answers, with the own buffers but in `lent`, and with echo and output of the right length
pub record Numbers (t : Tally) (d : SingleCall → Done World Answered) : Type 0 where
  pub lent : (l : Lending) (a : SingleRequest) → LentWhen t l a (number_of (d (record { lent = l; request = a })))
  pub events : (e : Event) → EventWhen t e (d (owning (asks (event e))))
  pub readings : (c : Counts8) → ReadingWhen t c (d (owning (asks (reading c))))
  pub lines : (echo : List ℕ) → length echo ≡ 128 → LineWhen t (λ bytes. d (owning (asks (line bytes echo))))
  pub packages : (p echo : List ℕ) → length echo ≡ 128 → PackageWhen t p (d (owning (asks (load_package p echo))))
  -- a close is never refused
  pub closes : (time : ℕ) (out : List ℕ) → length out ≡ span_bytes (close_span t.capacity)
      → reply_of (d (owning (close time out))) ≡ closed_with (sent_for t time)
  pub listings : (i time : ℕ) (out : List ℕ) → length out ≡ 272
      → ListingWhen t i time out (reply_of (d (owning (asks (listing i time out)))))

-- from a fresh processor of every capacity, tables, staging and bitmap of their lengths, after every lawful list of calls
abbrev pub numbers_when : Type 0
numbers_when =
    (c : Capacity) (tables staging bitmap : List ℕ) → length tables ≡ 62985 → length staging ≡ 62985 → length bitmap ≡ 7874
    → (cs : List SingleCall) → Lawful processor_step (fresh_world c tables staging bitmap) cs
    → Numbers (after tally_step (fresh_tally c tables staging bitmap) cs)
    (λ k. processor_step (after processor_step (fresh_world c tables staging bitmap) cs) k)
