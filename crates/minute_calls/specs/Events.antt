-- Event records one after the other (document 01, "The program minute"). Assumes nothing.
use Rattle.std.specs.Prelude.{◌≡◌, ◌⊎◌, List, ℕ, zero, suc, ◌+◌, ◌-◌, ◌*◌, ◌<◌, get_or, take, drop}
use Rattle.state.specs.declared.State.{State}
use Rattle.stream.specs.Record.{record_done}

-- "a kind byte, then a body: 1 event (7 bytes ..)": the body of record n
abbrev pub body_of : (bytes : List ℕ) (n : ℕ) → List ℕ
body_of bytes n = take 7 (drop (8 * n + 1) bytes)

-- the state and the slots after the first n records
unfoldable pub ran_of : State → (tables slots bytes : List ℕ) → ℕ → State × List ℕ
ran_of s tables slots bytes zero = (s, slots)
ran_of s tables slots bytes (suc n) =
    let p = ran_of s tables slots bytes n in
    let d = record_done p.0 tables p.1 (body_of bytes n) in
    (d.answer.state, d.slots)

-- the first bytes, `used` of them, are event records, and they led from one state and slots to the others
pub record EventsRun (s : State) (tables slots bytes : List ℕ) (used : ℕ) (after : State) (left : List ℕ) : Type 0 where
  pub many : ℕ
  pub used_are : used ≡ 8 * many
  pub kinds : (i : ℕ) → i < many → get_or bytes (8 * i) 0 ≡ 1
  pub state_is : after ≡ (ran_of s tables slots bytes many).0
  pub slots_are : left ≡ (ran_of s tables slots bytes many).1

-- no event record stands at this place of the buffer: fewer than eight bytes wait, or another kind stands there
abbrev pub NoEvent : (at end : ℕ) (buffer : List ℕ) → Type 0
NoEvent at end buffer = (end - at < 8) ⊎ (get_or buffer at 0 ≡ 1 → ⊥)
