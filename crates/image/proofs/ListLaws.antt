-- A list of waiting commands that a loop fills, and where each command's bytes stand. Assumes nothing.
use Rattle.std.proofs.Common.{◌≡◌, refl, sym, ap, ◌∙◌, List, [], ◌∷◌, ◌++◌, append_assoc, append-nil, ℕ, zero, suc, ◌+◌, ◌*◌, ◌≤◌}
use Rattle.std.proofs.Common.{◌<◌, arith, add-one, length, take, get_or, set, length-append, ⊎_elim, eq-or-lt_of_le, take-suc}
use Rattle.std.proofs.Common.{take-suc-set, length-take-le, get_or-append-add, ext_get_or}
use Rattle.std.proofs.Math.ListN.{get_or-append}
use Rattle.std.proofs.Math.Seq.{get_or_at}
use Rattle.command_list.specs.declared.Waiting.{Waiting}
use Rattle.command.specs.declared.command.Command.{Command}
use Rattle.command.specs.declared.command.Command.TheVariants.{Set, Load}
use Rattle.command_list.specs.CommandList.{filler}
use Rattle.image.specs.Image.{waitings, command_bytes, commands_bytes}

module _ (f : ℕ → Waiting) where
  pub waitings_none : [] ≡ waitings 0 f
  unfolding waitings
  waitings_none = refl

  pub waitings_turn : {v : Waiting} (xs : List Waiting) (i : ℕ) → i < length xs → take i xs ≡ waitings i f → v ≡ f i
      → take (i + 1) (set xs i v) ≡ waitings (i + 1) f
  unfolding waitings
  waitings_turn {v} xs i h e q = rw add-one (take-suc-set xs i v h ∙ (λ k. e k ++ q k ∷ []))

-- ---- six bytes a command

pub length_command : (c : Command) → length (command_bytes c) ≡ 6
unfolding command_bytes
length_command (Set k n) = refl
length_command (Load a y) = refl

pub commands_append : (xs ys : List Waiting) → commands_bytes (xs ++ ys) ≡ commands_bytes xs ++ commands_bytes ys
unfolding commands_bytes
commands_append [] ys = refl
commands_append (x ∷ xs) ys =
    ap (λ (l : List ℕ). command_bytes x.command ++ l) (commands_append xs ys)
    ∙ sym (append_assoc (command_bytes x.command) (commands_bytes xs) (commands_bytes ys))

commands_one : (w : Waiting) → commands_bytes (w ∷ []) ≡ command_bytes w.command
unfolding commands_bytes
commands_one w = append-nil (command_bytes w.command)

-- one command more
pub commands_take : (ws : List Waiting) (i : ℕ) → i < length ws
    → commands_bytes (take (i + 1) ws) ≡ commands_bytes (take i ws) ++ command_bytes (get_or ws i filler).command
commands_take ws i h =
    rw (add-one, take-suc ws i filler)
    (commands_append (take i ws) (get_or ws i filler ∷ [])
    ∙ ap (λ (l : List ℕ). commands_bytes (take i ws) ++ l) (commands_one (get_or ws i filler)))

pub length_commands : (ws : List Waiting) → length (commands_bytes ws) ≡ 6 * length ws
unfolding commands_bytes
length_commands [] = refl
length_commands (w ∷ ws) =
    length-append (command_bytes w.command) (commands_bytes ws) ∙ omega (arith, length_command w.command, length_commands ws)

pub length_commands_take : (ws : List Waiting) (i : ℕ) → i ≤ length ws → length (commands_bytes (take i ws)) ≡ 6 * i
length_commands_take ws i h = length_commands (take i ws) ∙ ap (λ (n : ℕ). 6 * n) (length-take-le i ws h)

-- byte j of command i
pub commands_at_lem : (ws : List Waiting) (i j : ℕ) → i < length ws → j < 6
    → get_or (commands_bytes ws) (6 * i + j) 0 ≡ get_or (command_bytes (get_or ws i filler).command) j 0
unfolding commands_bytes
commands_at_lem [] i j h l = absurd (omega arith)
commands_at_lem (w ∷ ws) zero j h l =
    let e : 6 * 0 + j ≡ j = omega arith in
    rw e (get_or-append (command_bytes w.command) (commands_bytes ws) 0 j (omega (arith, length_command w.command)))
commands_at_lem (w ∷ ws) (suc i) j h l =
    let e : 6 * suc i + j ≡ length (command_bytes w.command) + (6 * i + j) = omega (arith, length_command w.command) in
    rw e (get_or-append-add (command_bytes w.command) (commands_bytes ws) (6 * i + j) 0 ∙ commands_at_lem ws i j (omega arith) l)

module _ (f : ℕ → Waiting) where
  pub length_waitings : (n : ℕ) → length (waitings n f) ≡ n
  unfolding waitings
  length_waitings zero = refl
  length_waitings (suc n) = length-append (waitings n f) (f n ∷ []) ∙ omega (arith, length_waitings n)

  waitings_at_by : (n i : ℕ) → (i < n → get_or (waitings n f) i filler ≡ f i) → i ≤ n → get_or (waitings (suc n) f) i filler ≡ f i
  unfolding waitings
  waitings_at_by n i ih h =
      ⊎_elim (λ (e : i ≡ n). rw e (get_or_at (waitings n f) (f n) [] filler n (length_waitings n)))
      (λ (l : i < n). get_or-append (waitings n f) (f n ∷ []) filler i (omega (arith, length_waitings n)) ∙ ih l) (eq-or-lt_of_le h)

  pub waitings_at : (n i : ℕ) → i < n → get_or (waitings n f) i filler ≡ f i
  waitings_at zero i h = absurd (omega arith)
  waitings_at (suc n) i h = waitings_at_by n i (λ l. waitings_at n i l) (omega arith)

  -- a list is that of its elements
  pub waitings_are : (n : ℕ) (xs : List Waiting) → length xs ≡ n → ((i : ℕ) → i < n → f i ≡ get_or xs i filler) → waitings n f ≡ xs
  waitings_are n xs l same =
      ext_get_or filler (waitings n f) xs (length_waitings n ∙ sym l) (λ i h.
      let m : i < n = omega (arith, length_waitings n) in waitings_at n i m ∙ same i m)
