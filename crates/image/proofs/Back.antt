-- The state of a state's image is the state, and the image is one of a state. Assumes nothing.
use Rattle.std.proofs.Common.{◌≡◌, refl, ap, ◌∙◌, true, List, [], ◌∷◌, ◌++◌, ℕ, ◌+◌, ◌*◌, ◌%◌, ◌<◌, arith, le-leb, length, get_or}
use Rattle.std.proofs.Common.{length-append, get_or-append-add}
use Rattle.std.proofs.Math.ListN.{get_or-append}
use Rattle.wire.specs.Bytes.{at16, at32, be16, be32, words}
use Rattle.wire.proofs.Bytes.{value16, value32}
use Rattle.wire.proofs.Pieces.{each_all, runs_at, words_runs, words_append, table_is}
use Rattle.settings.specs.Settings.{settings_by}
use Rattle.settings.proofs.FlagLaws.{flags_back}
use Rattle.capacity.specs.declared.Capacity.{Capacity}
use Rattle.capacity.specs.declared.Capacity.TheVariants.{Slots704}
use Rattle.command.specs.declared.command.Setting.{Setting}
use Rattle.command.specs.declared.command.Setting.TheVariants.{Limhi, Eonly, Toferror, Junk, Hv, Hvstep}
use Rattle.command.specs.declared.command.Command.{Command}
use Rattle.command.specs.declared.command.Command.TheVariants.{Set, Load}
use Rattle.command_list.specs.CommandList.{filler}
use Rattle.state.specs.declared.State.{State}
use Rattle.image.specs.Image.{setting_kind, setting_of, command_bytes, command_of, entry_at, commands_bytes, numbers_at, commands_at}
use Rattle.image.specs.Image.{settings_in, interval_in, command_list_in, state_of, low, two, flags_of}
use Rattle.image.specs.Image.{interval_bytes, settings_image, command_list_bytes, added_bytes, image_of, entry_good, image_good}
use Rattle.image.specs.Fits.{CommandFits, StateFits, Back, Good}
use Rattle.image.proofs.ListLaws.{commands_at_lem, waitings_are}
use Rattle.image.proofs.Lengths.{length_interval, length_command_list}

behind : (a b : List ℕ) (n k : ℕ) → length a ≡ n → get_or (a ++ b) (n + k) 0 ≡ get_or b k 0
behind a b n k h = rw (← h) (get_or-append-add a b k 0)

within : (a b : List ℕ) (k : ℕ) → k < length a → get_or (a ++ b) k 0 ≡ get_or a k 0
within a b k h = get_or-append a b 0 k h

-- a word from its four bytes
word_of : (xs ws : List ℕ) (at k : ℕ) → ((j : ℕ) → j < 4 → get_or xs (at + j) 0 ≡ get_or (words ws) (4 * k + j) 0) → k < length ws
    → at32 xs at ≡ get_or ws k 0
word_of xs ws at k h l =
    let p : (j : ℕ) → j < 4 → get_or xs (at + j) 0 ≡ get_or (be32 (get_or ws k 0)) j 0 =
    λ j m. h j m ∙ ap (λ (ys : List ℕ). get_or ys (4 * k + j) 0) (words_runs ws) ∙ runs_at be32 4 (λ n. refl) ws k j l m in
    let e : at ≡ at + 0 = omega arith in
    let first : get_or xs at 0 ≡ get_or (be32 (get_or ws k 0)) 0 0 = ap (λ (n : ℕ). get_or xs n 0) e ∙ p 0 (omega arith) in
    (λ i. 16777216 * first i + 65536 * p 1 (omega arith) i + 256 * p 2 (omega arith) i + p 3 (omega arith) i)
    ∙ value32 (get_or ws k 0)

setting_back : (k : Setting) → setting_of (setting_kind k) ≡ k
unfolding setting_of
setting_back Limhi = refl
setting_back Eonly = refl
setting_back Toferror = refl
setting_back Junk = refl
setting_back Hv = refl
setting_back Hvstep = refl

kind_small : (k : Setting) (v y : ℕ) → command_of (setting_kind k) v y ≡ Set (setting_of (setting_kind k)) (v % 65536)
unfolding command_of
kind_small Limhi v y = refl
kind_small Eonly v y = refl
kind_small Toferror v y = refl
kind_small Junk v y = refl
kind_small Hv v y = refl
kind_small Hvstep v y = refl

command_back : (c : Command) → CommandFits c
    → command_of (get_or (command_bytes c) 0 0) (at32 (command_bytes c) 1) (get_or (command_bytes c) 5 0) ≡ c
unfolding command_bytes command_of
command_back (Set k n) h =
    let e : n % 65536 ≡ n = omega arith in
    ap (λ (v : ℕ). command_of (setting_kind k) v 0) (value32 n) ∙ kind_small k n 0 ∙ (λ i. Set (setting_back k i) (e i))
command_back (Load a y) h = ap (λ (v : ℕ). Load v y) (value32 a)

kind_good : (k : Setting) (v : ℕ) → v < 65536 → entry_good (setting_kind k) v ≡ true
kind_good Limhi v h = le-leb v 65535 (omega arith)
kind_good Eonly v h = le-leb v 65535 (omega arith)
kind_good Toferror v h = le-leb v 65535 (omega arith)
kind_good Junk v h = le-leb v 65535 (omega arith)
kind_good Hv v h = le-leb v 65535 (omega arith)
kind_good Hvstep v h = le-leb v 65535 (omega arith)

command_good : (c : Command) → CommandFits c → entry_good (get_or (command_bytes c) 0 0) (at32 (command_bytes c) 1) ≡ true
unfolding command_bytes
command_good (Set k n) h = ap (λ (v : ℕ). entry_good (setting_kind k) v) (value32 n) ∙ kind_good k n h
command_good (Load a y) h = refl

module _ (s : State) (f : StateFits s) where
  abbrev F : List ℕ
  F = be16 s.frame

  abbrev I : List ℕ
  I = interval_bytes s.interval

  abbrev S : List ℕ
  S = settings_image s.settings

  abbrev O : List ℕ
  O = command_list_bytes s.commands

  abbrev A : List ℕ
  A = two s.staging.next s.staging.reach

  -- all but what was added
  abbrev P : List ℕ
  P = (((F ++ I) ++ S) ++ O) ++ A

  abbrev E : List ℕ
  E = added_bytes s

  abbrev X : List ℕ
  X = image_of s

  l_i : length I ≡ 560
  l_i = length_interval s.interval f.boxes_are f.beacons_are f.totals_are

  l_o : length O ≡ 200
  l_o = length_command_list s.commands f.waiting_are

  l1 : length (F ++ I) ≡ 562
  l1 = length-append F I ∙ omega (arith, l_i)

  l2 : length ((F ++ I) ++ S) ≡ 566
  l2 = length-append (F ++ I) S ∙ omega (arith, l1)

  l3 : length (((F ++ I) ++ S) ++ O) ≡ 766
  l3 = length-append ((F ++ I) ++ S) O ∙ omega (arith, l2, l_o)

  l_p : length P ≡ 774
  l_p = length-append (((F ++ I) ++ S) ++ O) A ∙ omega (arith, l3)

  -- where each part stands
  in_P : (k : ℕ) → k < 774 → get_or X k 0 ≡ get_or P k 0
  unfolding image_of
  in_P k h = within P E k (omega (arith, l_p))

  at_I : (k : ℕ) → k < 560 → get_or X (2 + k) 0 ≡ get_or I k 0
  at_I k h =
      in_P (2 + k) (omega arith)
      ∙ within (((F ++ I) ++ S) ++ O) A (2 + k) (omega (arith, l3))
      ∙ within ((F ++ I) ++ S) O (2 + k) (omega (arith, l2))
      ∙ within (F ++ I) S (2 + k) (omega (arith, l1))
      ∙ behind F I 2 k refl

  at_S : (k : ℕ) → k < 4 → get_or X (562 + k) 0 ≡ get_or S k 0
  at_S k h =
      in_P (562 + k) (omega arith)
      ∙ within (((F ++ I) ++ S) ++ O) A (562 + k) (omega (arith, l3))
      ∙ within ((F ++ I) ++ S) O (562 + k) (omega (arith, l2))
      ∙ behind (F ++ I) S 562 k l1

  at_O : (k : ℕ) → k < 200 → get_or X (566 + k) 0 ≡ get_or O k 0
  at_O k h =
      in_P (566 + k) (omega arith)
      ∙ within (((F ++ I) ++ S) ++ O) A (566 + k) (omega (arith, l3))
      ∙ behind ((F ++ I) ++ S) O 566 k l2

  at_A : (k : ℕ) → k < 8 → get_or X (766 + k) 0 ≡ get_or A k 0
  at_A k h = in_P (766 + k) (omega arith) ∙ behind (((F ++ I) ++ S) ++ O) A 766 k l3

  at_E : (k : ℕ) → k < 4 → get_or X (774 + k) 0 ≡ get_or E k 0
  unfolding image_of
  at_E k h = behind P E 774 k l_p

  frame_back : at16 X 0 ≡ s.frame
  unfolding image_of
  frame_back = value16 s.frame

  -- ---- the interval: 140 words from byte 2 on

  abbrev B : List ℕ
  B = s.interval.counts.boxes

  abbrev N : List ℕ
  N = s.interval.counts.beacons

  abbrev U : List ℕ
  U = low s.interval.samples.slots.used ∷ low s.interval.samples.slots.replaced ∷ []

  abbrev R : List ℕ
  R = s.interval.readings ∷ s.interval.totals

  abbrev W : List ℕ
  W = (((s.interval.taken ∷ []) ++ (B ++ N)) ++ U) ++ R

  I-words : I ≡ words W
  unfolding words
  I-words =
      let t : List ℕ = s.interval.taken ∷ [] in
      (λ i. ((words t ++ words_append B N i) ++ words U) ++ words R)
      ∙ (λ i. (words_append t (B ++ N) i ++ words U) ++ words R)
      ∙ (λ i. words_append (t ++ (B ++ N)) U i ++ words R)
      ∙ words_append ((t ++ (B ++ N)) ++ U) R

  l_bn : length (B ++ N) ≡ 128
  l_bn = length-append B N ∙ omega (arith, f.boxes_are, f.beacons_are)

  l_bnu : length ((B ++ N) ++ U) ≡ 130
  l_bnu = length-append (B ++ N) U ∙ omega (arith, l_bn)

  l_w : length W ≡ 140
  l_w = length-append (s.interval.taken ∷ []) (((B ++ N) ++ U) ++ R) ∙ omega (arith, length-append ((B ++ N) ++ U) R, l_bnu, f.totals_are)

  -- the words behind taken
  next_word : (k : ℕ) → get_or W (1 + k) 0 ≡ get_or (((B ++ N) ++ U) ++ R) k 0
  next_word k = behind (s.interval.taken ∷ []) (((B ++ N) ++ U) ++ R) 1 k refl

  word : (k at : ℕ) → at ≡ 2 + 4 * k → k < 140 → at32 X at ≡ get_or W k 0
  word k at e h =
      word_of X W at k
      (λ j m.
      let g : at + j ≡ 2 + (4 * k + j) = omega arith in
      rw g (at_I (4 * k + j) (omega arith)) ∙ ap (λ (ys : List ℕ). get_or ys (4 * k + j) 0) I-words)
      (omega (arith, l_w))

  box_back : (i : ℕ) → i < 116 → at32 X (6 + 4 * i) ≡ get_or B i 0
  box_back i h =
      word (1 + i) (6 + 4 * i) (omega arith) (omega arith)
      ∙ next_word i
      ∙ within ((B ++ N) ++ U) R i (omega (arith, l_bnu))
      ∙ within (B ++ N) U i (omega (arith, l_bn))
      ∙ within B N i (omega (arith, f.boxes_are))

  beacon_back : (i : ℕ) → i < 12 → at32 X (470 + 4 * i) ≡ get_or N i 0
  beacon_back i h =
      word (1 + (116 + i)) (470 + 4 * i) (omega arith) (omega arith)
      ∙ next_word (116 + i)
      ∙ within ((B ++ N) ++ U) R (116 + i) (omega (arith, l_bnu))
      ∙ within (B ++ N) U (116 + i) (omega (arith, l_bn))
      ∙ behind B N 116 i f.boxes_are

  used_back : at32 X 518 ≡ s.interval.samples.slots.used
  used_back =
      word 129 518 refl (omega arith)
      ∙ next_word 128
      ∙ within ((B ++ N) ++ U) R 128 (omega (arith, l_bnu))
      ∙ behind (B ++ N) U 128 0 l_bn
      ∙ omega (arith, f.used_fits)

  replaced_back : at32 X 522 ≡ s.interval.samples.slots.replaced
  replaced_back =
      word 130 522 refl (omega arith)
      ∙ next_word 129
      ∙ within ((B ++ N) ++ U) R 129 (omega (arith, l_bnu))
      ∙ behind (B ++ N) U 128 1 l_bn
      ∙ omega (arith, f.replaced_fits)

  readings_back : at32 X 526 ≡ s.interval.readings
  readings_back = word 131 526 refl (omega arith) ∙ next_word 130 ∙ behind ((B ++ N) ++ U) R 130 0 l_bnu

  total_back : (i : ℕ) → i < 8 → at32 X (530 + 4 * i) ≡ get_or s.interval.totals i 0
  total_back i h =
      word (1 + (130 + (1 + i))) (530 + 4 * i) (omega arith) (omega arith)
      ∙ next_word (130 + (1 + i))
      ∙ behind ((B ++ N) ++ U) R 130 (1 + i) l_bnu
      ∙ behind (s.interval.readings ∷ []) s.interval.totals 1 i refl

  eligible_back : at32 X 774 ≡ s.interval.samples.eligible
  eligible_back =
      (λ i. 16777216 * at_E 0 (omega arith) i + 65536 * at_E 1 (omega arith) i + 256 * at_E 2 (omega arith) i + at_E 3 (omega arith) i)
      ∙ value32 s.interval.samples.eligible

  interval_back : interval_in X ≡ s.interval
  unfolding interval_in numbers_at
  interval_back = λ i. record {
    taken = word 0 2 refl (omega arith) i;
    counts = record {
      boxes = table_is (λ (k : ℕ). at32 X (6 + 4 * k)) 116 B f.boxes_are box_back i;
      beacons = table_is (λ (k : ℕ). at32 X (470 + 4 * k)) 12 N f.beacons_are beacon_back i;
    };
    samples = record { slots = record { used = used_back i; replaced = replaced_back i }; eligible = eligible_back i };
    readings = readings_back i;
    totals = table_is (λ (k : ℕ). at32 X (530 + 4 * k)) 8 s.interval.totals f.totals_are total_back i;
  }

  -- ---- the settings

  limhi_back : (settings_in X).limhi ≡ s.settings.limhi
  unfolding settings_in
  limhi_back = (λ j. 256 * at_S 0 (omega arith) j + at_S 1 (omega arith) j) ∙ value16 s.settings.limhi

  flag_back : get_or X 564 0 ≡ flags_of s.settings
  flag_back = at_S 2 (omega arith)

  hvstep_back : (settings_in X).hvstep ≡ s.settings.hvstep
  unfolding settings_in
  hvstep_back = at_S 3 (omega arith)

  settings_back : settings_in X ≡ s.settings
  unfolding settings_in
  settings_back = (λ i. settings_by (flag_back i) (limhi_back i) (hvstep_back i)) ∙ flags_back s.settings

  -- ---- the commands

  -- kind, value and y of entry i, where it stands in the image
  abbrev entry : ℕ → Command
  entry i = (get_or s.commands.waiting i filler).command

  entry_byte : (i : ℕ) → i < 32 → (j n : ℕ) → n ≡ 574 + 6 * i + j → j < 6 → get_or X n 0 ≡ get_or (command_bytes (entry i)) j 0
  entry_byte i h j n q m =
      let ws = s.commands.waiting in
      let e : n ≡ 566 + (8 + (6 * i + j)) = omega arith in
      rw e (at_O (8 + (6 * i + j)) (omega arith))
      ∙ behind (two (low s.commands.accepted) (low s.commands.waiters)) (commands_bytes ws) 8 (6 * i + j) refl
      ∙ commands_at_lem ws i j (omega (arith, f.waiting_are)) m

  entry_kind : (i : ℕ) → i < 32 → get_or X (574 + 6 * i) 0 ≡ get_or (command_bytes (entry i)) 0 0
  entry_kind i h = entry_byte i h 0 (574 + 6 * i) (omega arith) (omega arith)

  entry_value : (i : ℕ) → i < 32 → at32 X (574 + 6 * i + 1) ≡ at32 (command_bytes (entry i)) 1
  entry_value i h =
      let a : (j n : ℕ) → n ≡ 574 + 6 * i + j → j < 6 → get_or X n 0 ≡ get_or (command_bytes (entry i)) j 0 = entry_byte i h in
      let at : ℕ = 574 + 6 * i + 1 in
      λ k. 16777216 * a 1 at refl (omega arith) k + 65536 * a 2 (at + 1) (omega arith) (omega arith) k
      + 256 * a 3 (at + 2) (omega arith) (omega arith) k + a 4 (at + 3) (omega arith) (omega arith) k

  order_back : (i : ℕ) → i < 32 → entry_at X (574 + 6 * i) ≡ get_or s.commands.waiting i filler
  order_back i h =
      (λ k. record {
        command = command_of (entry_kind i h k) (entry_value i h k) (entry_byte i h 5 (574 + 6 * i + 5) refl (omega arith) k);
      })
      ∙ (λ k. record { command = command_back (entry i) (f.commands_fit i h) k })

  image_good_lem : image_good X ≡ true
  unfolding image_good
  image_good_lem =
      each_all (λ (i : ℕ). entry_good (get_or X (574 + 6 * i) 0) (at32 X (574 + 6 * i + 1))) 32 (λ i h.
      (λ k. entry_good (entry_kind i h k) (entry_value i h k)) ∙ command_good (entry i) (f.commands_fit i h))

  command_list_back : command_list_in X ≡ s.commands
  unfolding command_list_in commands_at
  command_list_back =
      let o = s.commands in
      let a : at32 X 566 ≡ o.accepted =
      (λ i. 16777216 * at_O 0 (omega arith) i + 65536 * at_O 1 (omega arith) i + 256 * at_O 2 (omega arith) i + at_O 3 (omega arith) i)
      ∙ value32 (low o.accepted) ∙ omega (arith, f.accepted_fits) in
      let w : at32 X 570 ≡ o.waiters =
      (λ i. 16777216 * at_O 4 (omega arith) i + 65536 * at_O 5 (omega arith) i + 256 * at_O 6 (omega arith) i + at_O 7 (omega arith) i)
      ∙ value32 (low o.waiters) ∙ omega (arith, f.waiters_fit) in
      λ i. record {
        accepted = a i;
        waiting = waitings_are (λ (k : ℕ). entry_at X (574 + 6 * k)) 32 o.waiting f.waiting_are order_back i;
        waiters = w i;
      }

  next_back : at32 X 766 ≡ s.staging.next
  next_back =
      (λ i. 16777216 * at_A 0 (omega arith) i + 65536 * at_A 1 (omega arith) i + 256 * at_A 2 (omega arith) i + at_A 3 (omega arith) i)
      ∙ value32 s.staging.next

  reach_back : at32 X 770 ≡ s.staging.reach
  reach_back =
      (λ i. 16777216 * at_A 4 (omega arith) i + 65536 * at_A 5 (omega arith) i + 256 * at_A 6 (omega arith) i + at_A 7 (omega arith) i)
      ∙ value32 s.staging.reach

-- ---- the capacity, of which there is one

capacity_back : (c : Capacity) → Slots704 ≡ c
capacity_back Slots704 = refl

pub state_back : Back
unfolding state_of
state_back s f = λ i. record {
  frame = frame_back s f i;
  interval = interval_back s f i;
  settings = settings_back s f i;
  commands = command_list_back s f i;
  staging = record { next = next_back s f i; reach = reach_back s f i };
  capacity = capacity_back s.capacity i;
}

pub state_good : Good
state_good s f = image_good_lem s f
