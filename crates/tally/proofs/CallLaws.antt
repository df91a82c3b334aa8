-- Laws of one call from any world, reached or not: limits are kept, a refused call leaves all, and settings and tables change in a close
-- alone. Assumes nothing.
use Rattle.std.proofs.Common.{◌≡◌, ap, true, false, List, [], ℕ, leb, length}
use Rattle.causes.specs.Causes.{wrong_line}
use Rattle.command_list.specs.CommandList.{most_commands}
use Rattle.state.specs.Limits.{within_limits}
use Rattle.processor.specs.Line.{line_done}
use Rattle.processor.specs.Package.{package_done}
use Rattle.processor.specs.Close.{close_done}
use Rattle.processor.specs.Listing.{listing_done}
use Rattle.tally.specs.World.{World, Lending, lend}
use Rattle.tally.specs.Steps.{Done}
use Rattle.tally.specs.Calls.{line, load_package, listing, Answered, processed, processed_by, close_processed, asks, single_processed, SingleCall, processor_step}
use Rattle.tally.proofs.Lending.{back_same, back_tables}
use Rattle.tally.proofs.Law.{refused_given}
use Rattle.tally.proofs.Requests.{single_law}

module _ (w : World) (c : SingleCall) where
  -- a state has 32 places for commands, as its type says
  pub limits_kept : length w.state.commands.waiting ≡ most_commands → within_limits w.state ≡ true
      → within_limits (processor_step w c).next.state ≡ true
  unfolding processed_by
  limits_kept l h = (single_law c.request).limits (lend c.lent w) l h

  -- what is refused leaves the state and the processor's own buffers
  pub refused_keeps : (processor_step w c).carried ≡ false → (processor_step w c).next ≡ w
  unfolding processed_by
  refused_keeps h =
      ap (λ (d : Done World Answered). d.next) (refused_given c.lent w _ ((single_law c.request).refused (lend c.lent w) h))

  -- settings and tables change only where an interval is ended
  pub between_closes : (processor_step w c).answer.facts.ended ≡ []
      → ((processor_step w c).next.state.settings ≡ w.state.settings) × ((processor_step w c).next.buffers.tables ≡ w.buffers.tables)
  unfolding processed_by
  between_closes h =
      let b = (single_law c.request).between (lend c.lent w) h in
      (b.0, back_tables c.lent.tables w.buffers.tables _ b.1)

-- "Listing changes nothing aboard", whatever it is answered
pub listing_keeps : (w : World) (l : Lending) (i time : ℕ) (out : List ℕ)
    → (processor_step w (record { lent = l; request = asks (listing i time out) })).next ≡ w
unfolding processed_by single_processed processed
listing_keeps w l i time out = back_same l w

-- ---- what is refused, 10 apart, leaves the echo and the output too: only 5, 6, 7, 15 and 16 of a line have an echo of their own

module _ (w : World) where
  pub line_leaves : (bytes echo : List ℕ) → (processed w (line bytes echo)).carried ≡ false
      → leb wrong_line (processed w (line bytes echo)).reply.number ≡ false → (processed w (line bytes echo)).reply.echo ≡ echo
  unfolding processed line_done
  line_leaves bytes echo h k = rw (h, k)

  pub package_leaves : (bytes echo : List ℕ) → (processed w (load_package bytes echo)).carried ≡ false → (processed w (load_package bytes echo)).reply.echo ≡ echo
  unfolding processed package_done
  package_leaves bytes echo h = rw h

  pub close_leaves : (time : ℕ) (out : List ℕ) → (close_processed w time out).carried ≡ false → (close_processed w time out).reply.out ≡ out
  unfolding close_processed close_done
  close_leaves time out h = rw h

  pub listing_leaves : (i time : ℕ) (out : List ℕ) → (processed w (listing i time out)).carried ≡ false
      → (processed w (listing i time out)).reply.out ≡ out
  unfolding processed listing_done
  listing_leaves i time out h = rw h
