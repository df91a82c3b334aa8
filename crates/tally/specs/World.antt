-- The state with the processor's own buffers, and what a call lends of them: the same for every call. Assumes nothing.
use Rattle.std.specs.Prelude.{Bool, true, false, List, [], ◌∷◌, ◌++◌, ℕ}
use Rattle.wire.specs.Bytes.{zeros}
use Rattle.wire.specs.Lists.{all}
use Rattle.capacity.specs.declared.Capacity.{Capacity}
use Rattle.capacity.specs.Capacity.{numbers_of}
use Rattle.state.specs.declared.State.{State}
use Rattle.state.specs.State.{fresh_state}

-- ---- one thing for each buffer that calls are lent: what it holds, or how it is lent

pub record Buffers (A : Type 0) : Type 0 where
  pub tables : A
  pub staging : A
  pub bitmap : A
  pub slots : A

-- the same for each
abbrev pub everywhere : {A : Type 0} → A → Buffers A
everywhere x = record { tables = x; staging = x; bitmap = x; slots = x }

-- of each buffer, its function of what is there
abbrev pub across : {A B : Type 0} → Buffers (A → B) → Buffers A → Buffers B
across f x = record {
  tables = f.tables x.tables;
  staging = f.staging x.staging;
  bitmap = f.bitmap x.bitmap;
  slots = f.slots x.slots;
}

abbrev pub list_of : {A : Type 0} → Buffers A → List A
list_of x = x.tables ∷ x.staging ∷ x.bitmap ∷ x.slots ∷ []

-- one function for all
abbrev pub map_each : {A B : Type 0} → (A → B) → Buffers A → Buffers B
map_each f x = across (everywhere f) x

abbrev pub zip_each : {A B C : Type 0} → (A → B → C) → Buffers A → Buffers B → Buffers C
zip_each f x y = across (map_each f x) y

-- ---- the state with the processor's own buffers

pub record World : Type 0 where
  pub state : State
  pub buffers : Buffers (List ℕ)

-- a fresh processor: "counts and slots 0"; tables, staging and bitmap hold whatever they hold
abbrev pub fresh_world : Capacity → (tables staging bitmap : List ℕ) → World
fresh_world c tables staging bitmap = record {
  state = fresh_state c;
  buffers = record { tables = tables; staging = staging; bitmap = bitmap; slots = zeros (numbers_of c).slots };
}

-- the world with another state and other slots, or with another state alone
abbrev pub with_slots : World → State → (slots : List ℕ) → World
with_slots w s slots = record {
  state = s;
  buffers = record { tables = w.buffers.tables; staging = w.buffers.staging; bitmap = w.buffers.bitmap; slots = slots };
}

abbrev pub with_state : World → State → World
with_state w s = record { state = s; buffers = w.buffers }

-- ---- a buffer is lent as the processor's own, the one used all along, or as another of any length and content

pub data Lent : Type 0 where
  own : Lent
  other : List ℕ → Lent

-- what a call finds in it, where the own one holds `mine`
abbrev pub found : Lent → (mine : List ℕ) → List ℕ
found own mine = mine
found (other x) mine = x

-- what the own one holds after a call that left `after` in what it was lent
abbrev pub kept : Lent → (mine after : List ℕ) → List ℕ
kept own mine after = after
kept (other x) mine after = mine

abbrev pub is_own : Lent → Bool
is_own own = true
is_own (other x) = false

-- what a buffer that is not the own one holds: as it was lent, and as it was left
abbrev pub as_lent : Lent → List (List ℕ)
as_lent own = []
as_lent (other x) = x ∷ []

abbrev pub as_left : Lent → (after : List ℕ) → List (List ℕ)
as_left own after = []
as_left (other x) after = after ∷ []

-- ---- what a call lends. One that takes no tables, or no staging, .. has `own` there, which lends nothing

abbrev pub Lending : Type 0
Lending = Buffers Lent

abbrev pub all_own : Lending
all_own = everywhere own

abbrev pub owns_all : Lending → Bool
owns_all l = all is_own (list_of l)

-- what a call finds
abbrev pub lend : Lending → World → World
lend l w = record { state = w.state; buffers = zip_each found l w.buffers }

-- what is the processor's after it
abbrev pub give_back : Lending → (before after : World) → World
give_back l before after = record { state = after.state; buffers = across (zip_each kept l before.buffers) after.buffers }

abbrev pub joined : {A : Type 0} → List (List A) → List A
joined [] = []
joined (x ∷ xs) = x ++ joined xs

-- the buffers that are not the own: as they were lent, and as they were left
abbrev pub others_lent : Lending → List (List ℕ)
others_lent l = joined (list_of (map_each as_lent l))

abbrev pub others_left : Lending → (after : World) → List (List ℕ)
others_left l w = joined (list_of (zip_each as_left l w.buffers))
