-- The limits of the command list as facts, and what keeps them: a command that joins, one that is only counted, another reach. Assumes nothing.
use Rattle.std.proofs.Common.{◌≡◌, refl, sym, ap, ◌∙◌, Bool, true, false, ◌&&◌, not, cond, List, [], ◌∷◌, ◌++◌, append-nil, ℕ, ◌+◌}
use Rattle.std.proofs.Common.{◌-◌, ◌≤◌, ◌<◌, arith, add-one, leb-true, leb-false, le-leb, leb, length, replicate}
use Rattle.std.proofs.Common.{length-append, take_at, take-suc-set, Option, Some, None}
use Rattle.std.proofs.Math.Bool.{false≢true}
use borrow.Author.Tests.{not-true}
use Rattle.std.specs.List.{count_by}
use Rattle.std.proofs.lemmas.List.Recursion.{is_count_by}
use Rattle.wire.specs.Lists.{all, join_if, keep}
use Rattle.wire.proofs.Lists.{and_split, all_append, keep_append, keep_one}
use Rattle.wire.proofs.Pieces.{filled_set}
use Rattle.command.specs.declared.command.Command.{Command}
use Rattle.command.specs.declared.command.Command.TheVariants.{Set, Load}
use Rattle.command.specs.declared.command.Setting.{Setting}
use Rattle.command.specs.declared.command.Setting.TheVariants.{Limhi, Eonly, Toferror, Junk, Hv, Hvstep}
use Rattle.command.specs.declared.ranges.Ranges.{Ranges}
use Rattle.command.specs.Asked.{is_load}
use Rattle.command.specs.Grammar.{most_of, command_ok}
use Rattle.command_list.specs.declared.CommandList.{CommandList}
use Rattle.command_list.specs.declared.Waiting.{Waiting}
use Rattle.command_list.specs.CommandList.{most_commands, filler, fresh_command_list, command_list_with, waiting_of, loads_in, given_at, load_waits, commands_full}
use Rattle.command_list.specs.CommandList.{command_list_within, pushed, counted, with_accepted, left_waiting}

-- ---- lists of waiting commands

pub loads_snoc : (ws : List Waiting) (w : Waiting) → loads_in (ws ++ w ∷ []) ≡ loads_in ws + length (join_if (is_load w.command) w [])
unfolding loads_in
loads_snoc ws w = rw (keep_append, keep_one, length-append)

-- the library counts them alike
join_count : {A : Type 0} (b : Bool) (x : A) (l : List A) → length (join_if b x l) ≡ cond b (1 + length l) (length l)
join_count true x l = omega arith
join_count false x l = refl

pub loads_is : (ws : List Waiting) → count_by (λ w. is_load w.command) ws ≡ loads_in ws
unfolding loads_in keep
loads_is ws =
    let p : Waiting → Bool = λ w. is_load w.command in
    sym (is_count_by (λ l. length (keep p l)) p refl (λ x xs. join_count (p x) x (keep p xs)) ws)

-- a command that joins makes no second load
pub loads_one : (n : ℕ) (b : Bool) (w : Waiting) → n ≤ 1 → not (b && leb 1 n) ≡ true → n + length (join_if b w []) ≤ 1
loads_one n true w h k = omega (arith, leb-false 1 n (not-true (leb 1 n) k))
loads_one n false w h k = omega arith

-- ranges by the reach
abbrev pub ranges_at : (limhi reach : ℕ) → Ranges
ranges_at limhi reach = record { reach = reach; limhi = limhi }

-- a command that is no load is given at any reach
module _ (limhi r q : ℕ) where
  most_same : (k : Setting) → most_of k (ranges_at limhi r) ≡ most_of k (ranges_at limhi q)
  most_same Limhi = refl
  most_same Eonly = refl
  most_same Toferror = refl
  most_same Junk = refl
  most_same Hv = refl
  most_same Hvstep = refl

  other_reach : (c : Command) → is_load c ≡ false → command_ok c (ranges_at limhi r) ≡ command_ok c (ranges_at limhi q)
  other_reach (Set k n) h = ap (leb n) (most_same k)
  other_reach (Load a y) h = absurd (false≢true (sym h))

  pub no_loads : (ws : List Waiting) → loads_in ws ≡ 0 → all (given_at (ranges_at limhi r)) ws ≡ all (given_at (ranges_at limhi q)) ws
  unfolding loads_in keep
  no_loads [] h = refl
  no_loads (w ∷ ws) h = go (is_load w.command) refl h (no_loads ws)
    where
      go : (b : Bool) → is_load w.command ≡ b → length (join_if b w (keep (λ w. is_load w.command) ws)) ≡ 0
          → (loads_in ws ≡ 0 → all (given_at (ranges_at limhi r)) ws ≡ all (given_at (ranges_at limhi q)) ws)
          → all (given_at (ranges_at limhi r)) (w ∷ ws) ≡ all (given_at (ranges_at limhi q)) (w ∷ ws)
      go true e k ih = absurd (omega arith)
      go false e k ih = λ i. other_reach w.command e i && ih k i

-- ---- the limits as facts, and back

pub record CommandListLimits (o : CommandList) (ranges : Ranges) : Type 0 where
  pub accepted_most : o.accepted ≤ most_commands
  pub waiters_most : o.waiters ≤ o.accepted
  pub given : all (given_at ranges) (waiting_of o) ≡ true
  pub loads_most : loads_in (waiting_of o) ≤ 1

pub commands_are : (o : CommandList) (ranges : Ranges) → command_list_within o ranges ≡ true → CommandListLimits o ranges
unfolding command_list_within
commands_are o ranges h =
    let p = and_split _ _ h in
    let n = and_split _ _ p.0 in
    let w = and_split _ _ p.1 in
    record { accepted_most = leb-true _ _ n.0; waiters_most = leb-true _ _ n.1; given = w.0; loads_most = leb-true _ _ w.1 }

pub commands_whole : (o : CommandList) (ranges : Ranges) → CommandListLimits o ranges → command_list_within o ranges ≡ true
unfolding command_list_within
commands_whole o ranges w = rw (le-leb _ _ w.accepted_most, le-leb _ _ w.waiters_most, w.given, le-leb _ _ w.loads_most)

-- ---- what keeps the limits

pub fresh_within : (ranges : Ranges) → command_list_within fresh_command_list ranges ≡ true
unfolding command_list_within loads_in keep
fresh_within ranges = refl

pub room : (o : CommandList) → not (commands_full o) ≡ true → o.accepted < most_commands
room o h = leb-false most_commands o.accepted (not-true (commands_full o) h)

pub no_load : (o : CommandList) → not (load_waits o) ≡ true → loads_in (waiting_of o) ≡ 0
no_load o h = omega (arith, leb-false 1 (loads_in (waiting_of o)) (not-true (load_waits o) h))

pub waiting_pushed : (o : CommandList) (c : Command) → o.waiters < length o.waiting
    → waiting_of (pushed o c) ≡ waiting_of o ++ record { command = c } ∷ []
waiting_pushed o c h = rw add-one (take-suc-set o.waiting o.waiters (record { command = c }) h)

pub pushed_within : (o : CommandList) (c : Command) (ranges : Ranges) → length o.waiting ≡ most_commands → command_ok c ranges ≡ true
    → not (is_load c && load_waits o) ≡ true → not (commands_full o) ≡ true → command_list_within o ranges ≡ true
    → command_list_within (pushed o c) ranges ≡ true
pushed_within o c ranges l ok n f h =
    let w = commands_are o ranges h in
    let r = room o f in
    let x : Waiting = record { command = c } in
    let e = waiting_pushed o c (omega (arith, w.waiters_most)) in
    commands_whole (pushed o c) ranges record {
      accepted_most = omega arith;
      waiters_most = omega (arith, w.waiters_most);
      given = ap (all (given_at ranges)) e ∙ all_append (given_at ranges) (waiting_of o) (x ∷ []) w.given (rw ok);
      loads_most = rw (e, loads_snoc (waiting_of o) x) (loads_one (loads_in (waiting_of o)) (is_load c) x w.loads_most n);
    }

pub counted_within : (o : CommandList) (ranges : Ranges) → not (commands_full o) ≡ true → command_list_within o ranges ≡ true
    → command_list_within (counted o) ranges ≡ true
counted_within o ranges f h =
    let w = commands_are o ranges h in
    let r = room o f in
    commands_whole (counted o) ranges
    record { accepted_most = omega arith; waiters_most = omega (arith, w.waiters_most); given = w.given; loads_most = w.loads_most }

-- where no load waits, the limits hold at any reach
pub any_reach : (o : CommandList) (limhi r q : ℕ) → not (load_waits o) ≡ true
    → command_list_within o (ranges_at limhi r) ≡ command_list_within o (ranges_at limhi q)
unfolding command_list_within
any_reach o limhi r q n =
    ap (λ (b : Bool). leb o.accepted most_commands && leb o.waiters o.accepted && (b && leb (loads_in (waiting_of o)) 1))
    (no_loads limhi r q (waiting_of o) (no_load o n))

-- ---- a command list made of a list

pub waiting_with : (accepted : ℕ) (ws : List Waiting) → waiting_of (command_list_with accepted ws) ≡ ws
waiting_with accepted ws = take_at ws (replicate (most_commands - length ws) filler) (length ws) refl

pub pushed_with : (accepted : ℕ) (ws : List Waiting) (c : Command) → length ws < most_commands
    → pushed (command_list_with accepted ws) c ≡ command_list_with (accepted + 1) (ws ++ record { command = c } ∷ [])
pushed_with accepted ws c h i = record {
  accepted = accepted + 1;
  waiting = filled_set most_commands filler (record { command = c }) ws h i;
  waiters = sym (length-append ws (record { command = c } ∷ [])) i;
}

-- one more accepted, with what its line leaves waiting behind the others
pub accepted_with : (accepted : ℕ) (ws : List Waiting) (x : Option Command) → length ws < most_commands
    → with_accepted (command_list_with accepted ws) x ≡ command_list_with (accepted + 1) (ws ++ left_waiting x)
accepted_with accepted ws None h = ap (command_list_with (accepted + 1)) (sym (append-nil ws))
accepted_with accepted ws (Some c) h = pushed_with accepted ws c h
