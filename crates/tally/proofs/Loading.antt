-- Whether a commit waits, and what the waiting commands make of the tables then: no word of a tally. Assumes nothing.
use Rattle.std.proofs.Common.{◌≡◌, refl, ap, ◌∙◌, List, [], ◌∷◌, inl, inr, ℕ, ◌+◌, ◌≤◌, arith, length}
use Rattle.wire.specs.Lists.{join_if, keep}
use Rattle.load.specs.Load.{loaded}
use Rattle.command.specs.declared.command.Command.{Command}
use Rattle.command.specs.declared.command.Command.TheVariants.{Set, Load}
use Rattle.command.specs.Asked.{is_load}
use Rattle.command.specs.Change.{tables_after}
use Rattle.command_list.specs.declared.Waiting.{Waiting}
use Rattle.command_list.specs.CommandList.{loads_in}
use Rattle.command_list.specs.Run.{tables_after_all}
use Rattle.tally.specs.Demand3.{CommitWaits}

-- one more waiting command: it is a load, or the others hold as many as before
loads_first : (w : Waiting) (ws : List Waiting) (a y : ℕ) → w.command ≡ Load a y → loads_in (w ∷ ws) ≡ 1 + loads_in ws
unfolding loads_in keep
loads_first w ws a y e = rw e (omega arith)

loads_more : (w : Waiting) (ws : List Waiting) → loads_in ws ≤ loads_in (w ∷ ws)
unfolding loads_in keep
loads_more w ws = go w.command
  where
    go : (c : Command) → loads_in ws ≤ length (join_if (is_load c) w (keep (λ w. is_load w.command) ws))
    go (Set k n) = omega arith
    go (Load a y) = omega arith

-- ---- a commit waits where the commands hold a load

pub waits_loads : (ws : List Waiting) (a y : ℕ) → CommitWaits ws a y → 1 ≤ loads_in ws
waits_loads [] a y h = absurd h
waits_loads (w ∷ ws) a y (inl e) = omega (arith, loads_first w ws a y e)
waits_loads (w ∷ ws) a y (inr h) = omega (arith, waits_loads ws a y h, loads_more w ws)

pub loads_wait : (ws : List Waiting) → 1 ≤ loads_in ws → (a : ℕ) × (y : ℕ) × CommitWaits ws a y
unfolding loads_in keep
loads_wait [] h = absurd (omega arith)
loads_wait (w ∷ ws) h = go w.command refl h (loads_wait ws)
  where
    go : (c : Command) → w.command ≡ c → 1 ≤ length (join_if (is_load c) w (keep (λ w. is_load w.command) ws))
        → (1 ≤ loads_in ws → (a : ℕ) × (y : ℕ) × CommitWaits ws a y) → (a : ℕ) × (y : ℕ) × CommitWaits (w ∷ ws) a y
    go (Set k n) e h ih = let r = ih h in (r.0, r.1, inr r.2)
    go (Load a y) e h ih = (a, y, inl e)

-- ---- the tables after the commands, where at most one of them is a load

module _ (staging : List ℕ) (reach : ℕ) where
  pub run_none : (tables : List ℕ) (ws : List Waiting) → loads_in ws ≡ 0 → tables_after_all tables staging reach ws ≡ tables
  unfolding tables_after_all loads_in keep
  run_none tables [] h = refl
  run_none tables (w ∷ ws) h = go w.command h (run_none tables ws)
    where
      go : (c : Command) → length (join_if (is_load c) w (keep (λ w. is_load w.command) ws)) ≡ 0
          → (loads_in ws ≡ 0 → tables_after_all tables staging reach ws ≡ tables)
          → tables_after_all (tables_after tables staging reach c) staging reach ws ≡ tables
      go (Set k n) h ih = ih h
      go (Load a y) h ih = absurd (omega arith)

  pub run_load : (tables : List ℕ) (ws : List Waiting) (a y : ℕ) → CommitWaits ws a y → loads_in ws ≤ 1
      → tables_after_all tables staging reach ws ≡ loaded tables staging a y reach
  unfolding tables_after_all
  run_load tables [] a y h m = absurd h
  run_load tables (w ∷ ws) a y (inl e) m =
      ap (λ (c : Command). tables_after_all (tables_after tables staging reach c) staging reach ws) e
      ∙ run_none (loaded tables staging a y reach) ws (omega (arith, loads_first w ws a y e))
  run_load tables (w ∷ ws) a y (inr h) m = go w.command refl (run_load tables ws a y h (omega (arith, loads_more w ws)))
    where
      go : (c : Command) → w.command ≡ c → tables_after_all tables staging reach ws ≡ loaded tables staging a y reach
          → tables_after_all (tables_after tables staging reach c) staging reach ws ≡ loaded tables staging a y reach
      go (Set k n) e ih = ih
      go (Load b z) e ih = absurd (omega (arith, loads_first w ws b z e, waits_loads ws a y h))
