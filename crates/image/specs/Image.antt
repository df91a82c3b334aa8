-- A state as bytes, the most significant of a number first, the state that such bytes are, and which bytes are none. Assumes nothing.
use Rattle.std.specs.Prelude.{Bool, cond, ◌&&◌, ◌||◌, List, [], ◌∷◌, ◌++◌, ℕ, zero, suc, ◌+◌, ◌*◌, ◌%◌, eqb, leb, ltb, get_or}
use Rattle.wire.specs.Bytes.{one, at16, at32, be16, be32, words}
use Rattle.wire.specs.Pieces.{each, table}
use Rattle.capacity.specs.declared.Capacity.TheVariants.{Slots704}
use Rattle.counts.specs.declared.Counts.{Counts}
use Rattle.settings.specs.declared.Settings.{Settings}
use Rattle.settings.specs.Settings.{settings_flags, settings_by}
use Rattle.command.specs.declared.command.Setting.{Setting}
use Rattle.command.specs.declared.command.Setting.TheVariants.{Limhi, Eonly, Toferror, Junk, Hv, Hvstep}
use Rattle.command.specs.declared.command.Command.{Command}
use Rattle.command.specs.declared.command.Command.TheVariants.{Set, Load}
use Rattle.command_list.specs.declared.CommandList.{CommandList}
use Rattle.command_list.specs.declared.Waiting.{Waiting}
use Rattle.state.specs.declared.State.{State}
use Rattle.state.specs.declared.interval.Interval.{Interval}
use Rattle.image.specs.Layout.{frame_at, taken_at, boxes_at, beacons_at, used_at, replaced_at, readings_at, totals_at, limhi_at, flags_at}
use Rattle.image.specs.Layout.{hvstep_at, accepted_at, waiters_at, entries_at, entry_bytes, next_at, reach_at, eligible_at}
use Rattle.image.specs.Layout.{setting_kinds, load_kind}

-- ---- a waiting command: a kind byte, its value or address in four bytes, and y, which is 0 for a setting

abbrev pub setting_kind : Setting → ℕ
setting_kind Limhi = 0
setting_kind Eonly = 1
setting_kind Toferror = 2
setting_kind Junk = 3
setting_kind Hv = 4
setting_kind Hvstep = 5

unfoldable pub setting_of : ℕ → Setting
setting_of k =
    cond (eqb k 0) Limhi (cond (eqb k 1) Eonly (cond (eqb k 2) Toferror (cond (eqb k 3) Junk (cond (eqb k 4) Hv Hvstep))))

abbrev pub six : (kind value y : ℕ) → List ℕ
six kind value y = (one kind ++ be32 value) ++ one y

unfoldable pub command_bytes : Command → List ℕ
command_bytes (Set k n) = six (setting_kind k) n 0
command_bytes (Load a y) = six load_kind a y

unfoldable pub command_of : (kind value y : ℕ) → Command
command_of kind value y = cond (eqb kind load_kind) (Load value y) (Set (setting_of kind) (value % 65536))

abbrev pub entry_at : List ℕ → ℕ → Waiting
entry_at b at = record { command = command_of (get_or b at 0) (at32 b (at + 1)) (get_or b (at + 5) 0) }

unfoldable pub commands_bytes : List Waiting → List ℕ
commands_bytes [] = []
commands_bytes (w ∷ ws) = command_bytes w.command ++ commands_bytes ws

-- f 0, f 1, .., f (n - 1)
unfoldable pub waitings : ℕ → (ℕ → Waiting) → List Waiting
waitings zero f = []
waitings (suc n) f = waitings n f ++ f n ∷ []

-- ---- the state that an image is

unfoldable pub numbers_at : List ℕ → (at n : ℕ) → List ℕ
numbers_at b at n = table n (λ i. at32 b (at + 4 * i))

unfoldable pub commands_at : List ℕ → (at n : ℕ) → List Waiting
commands_at b at n = waitings n (λ i. entry_at b (at + entry_bytes * i))

-- other bits of the flags are ignored
unfoldable pub settings_in : List ℕ → Settings
settings_in b = settings_by (get_or b flags_at 0) (at16 b limhi_at) (get_or b hvstep_at 0)

unfoldable pub interval_in : List ℕ → Interval
interval_in b = record {
  taken = at32 b taken_at;
  counts = record { boxes = numbers_at b boxes_at 116; beacons = numbers_at b beacons_at 12 };
  samples = record { slots = record { used = at32 b used_at; replaced = at32 b replaced_at }; eligible = at32 b eligible_at };
  readings = at32 b readings_at;
  totals = numbers_at b totals_at 8;
}

unfoldable pub command_list_in : List ℕ → CommandList
command_list_in b = record { accepted = at32 b accepted_at; waiting = commands_at b entries_at 32; waiters = at32 b waiters_at }

-- the capacity is not among the bytes: it is the only one there is
unfoldable pub state_of : List ℕ → State
state_of b = record {
  frame = at16 b frame_at;
  interval = interval_in b;
  settings = settings_in b;
  commands = command_list_in b;
  staging = record { next = at32 b next_at; reach = at32 b reach_at };
  capacity = Slots704;
}

-- a kind that is there, and a setting's value in 16 bits
abbrev pub entry_good : (kind value : ℕ) → Bool
entry_good kind value = eqb kind load_kind || ltb kind setting_kinds && leb value 65535

-- whether the bytes are some state: each of the 32 entries is some command
unfoldable pub image_good : List ℕ → Bool
image_good b = each 32 (λ i. let at = entries_at + entry_bytes * i in entry_good (get_or b at 0) (at32 b (at + 1)))

-- ---- the image of a state

-- the low 32 bits, which take four bytes
abbrev pub low : ℕ → ℕ
low n = n % 4294967296

abbrev pub flags_of : Settings → ℕ
flags_of s = settings_flags s

abbrev pub counts_bytes : Counts → List ℕ
counts_bytes c = words c.boxes ++ words c.beacons

abbrev pub readings_bytes : (readings : ℕ) (totals : List ℕ) → List ℕ
readings_bytes n totals = be32 n ++ words totals

abbrev pub two : (a b : ℕ) → List ℕ
two a b = be32 a ++ be32 b

abbrev pub interval_bytes : Interval → List ℕ
interval_bytes i =
    ((be32 i.taken ++ counts_bytes i.counts) ++ two (low i.samples.slots.used) (low i.samples.slots.replaced))
    ++ readings_bytes i.readings i.totals

abbrev pub settings_image : Settings → List ℕ
settings_image s = (be16 s.limhi ++ one (flags_of s)) ++ one s.hvstep

abbrev pub command_list_bytes : CommandList → List ℕ
command_list_bytes o = two (low o.accepted) (low o.waiters) ++ commands_bytes o.waiting

-- what document 02 added to the state
abbrev pub added_bytes : State → List ℕ
added_bytes s = be32 s.interval.samples.eligible

unfoldable pub image_of : State → List ℕ
image_of s =
    ((((be16 s.frame ++ interval_bytes s.interval) ++ settings_image s.settings) ++ command_list_bytes s.commands)
    ++ two s.staging.next s.staging.reach)
    ++ added_bytes s
