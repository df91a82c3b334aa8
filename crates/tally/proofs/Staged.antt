-- Below the reach every byte was written by a package, and the bitmap tells the bad ones; while a commit waits all are right and have the
-- sum that it gave. No reset of the bitmap is needed: where the reach is 0, nothing is said of it. Assumes nothing.
use Rattle.std.proofs.Common.{◌≡◌, refl, sym, ap, ◌∙◌, subst, ◌≢◌, Bool, true, false, ◌&&◌, not, true≢false, List, [], ◌∷◌, ◌++◌}
use Rattle.std.proofs.Common.{append-nil, ℕ, ◌+◌, ◌*◌, ◌≤◌, ◌<◌, max, not-suc-le-zero, arith, leb-true, leb-false, ltb-false}
use Rattle.std.proofs.Common.{le-leb, eqb-true, eqb, leb, ltb, length}
use Rattle.std.proofs.Math.Bool.{false≢true}
use borrow.Author.Tests.{not-true, not-false}
use Rattle.wire.specs.Lists.{keep}
use Rattle.wire.proofs.Lists.{choice, decide, keep_append, keep_one}
use Rattle.wire.proofs.Pieces.{each_at}
use Rattle.load.specs.Bitmap.{bitmap_after, staged_sum}
use Rattle.load.specs.Staging.{staging_bytes, payload_bytes, received_sum, computed_sum, fresh_addresses}
use Rattle.load.proofs.BitmapLaws.{bitmap_tells}
use Rattle.load.proofs.StagingLaws.{addresses_are}
use Rattle.command.specs.declared.command.Command.{Command}
use Rattle.command.specs.declared.command.Line.{Line}
use Rattle.command.specs.declared.command.Line.TheVariants.{Empty, Wrong, Change, LoadZero, LoadAt, Ask, Commit}
use Rattle.command.specs.declared.command.Command.TheVariants.{Set}
use Rattle.command.specs.Asked.{is_load, traits_of, sum_agrees}
use Rattle.command_list.specs.declared.Waiting.{Waiting}
use Rattle.command_list.specs.CommandList.{loads_in}
use Rattle.command_list.proofs.CommandListLaws.{waiting_with}
use Rattle.take_package.specs.Package.{is_staged}
use Rattle.state.proofs.LimitLaws.{state_limits}
use Rattle.tally.specs.World.{all_own}
use Rattle.tally.specs.Tally.{Wrote, unwritten, by_right, by_wrong, is_wrong, writer_by, wrote_after, Tally, load_waits_for, none_wrong}
use Rattle.tally.specs.Tally.{package_number_for, line_taken, package_placed, ended}
use Rattle.tally.specs.View.{view_state}
use Rattle.tally.specs.Demand3.{StagedKnown, AllRight, TablesRun}
use Rattle.tally.proofs.Invariant.{Sizes, Inv, commands_most}
use Rattle.tally.proofs.Loading.{waits_loads, loads_wait, run_none, run_load}
use Rattle.tally.proofs.Numbers.{package_passed}

-- ---- one byte

right_is : (w : Wrote) → w ≢ unwritten → is_wrong w ≡ false → w ≡ by_right
right_is unwritten n h = absurd (n refl)
right_is by_right n h = refl
right_is by_wrong n h = absurd (true≢false h)

its_written : (r : Bool) → writer_by r ≢ unwritten
its_written true e = written₁ e
  where
    written₁ : by_right ≢ unwritten
    written₁ q = false≢true (ap known (sym q))
      where
        known : Wrote → Bool
        known unwritten = false
        known by_right = true
        known by_wrong = true
its_written false e = written₂ e
  where
    written₂ : by_wrong ≢ unwritten
    written₂ q = false≢true (ap is_wrong (sym q))

its_bad : (r : Bool) → is_wrong (writer_by r) ≡ not r
its_bad true = refl
its_bad false = refl

-- ---- a package

module _ (bitmap : List ℕ) (wrote : ℕ → Wrote) (next reach n : ℕ) (r : Bool) where
  -- a byte of the package is as its sum says, and any other as before
  package_known : StagedKnown bitmap wrote reach → next ≤ reach → next + n ≤ 8 * length bitmap
      → StagedKnown (bitmap_after bitmap next n (not r)) (wrote_after wrote next n (writer_by r)) (max reach (next + n))
  package_known k a b i h =
      let tell = bitmap_tells bitmap next i (not r) n b in
      decide (leb next i && ltb i (next + n))
      (λ q. (
        λ e. its_written r (sym (rw q) ∙ e),
        tell ∙ rw q (sym (its_bad r)),
      ))
      (λ q. let l = before q in (λ e. (k i l).0 (sym (rw q) ∙ e), tell ∙ rw q (k i l).1))
    where
      before : (leb next i && ltb i (next + n)) ≡ false → i < reach
      before q =
          decide (leb next i)
          (λ p. decide (ltb i (next + n)) (λ s. absurd (true≢false (sym (rw (p, s)) ∙ q))) (λ s. omega (arith, ltb-false i (next + n) s, h)))
          (λ p. omega (arith, leb-false next i p, a))

-- ---- one call

pub none_below : (bitmap : List ℕ) (wrote : ℕ → Wrote) → StagedKnown bitmap wrote 0
none_below bitmap wrote i h = absurd (not-suc-le-zero h)

pub none_right : (wrote : ℕ → Wrote) → AllRight wrote 0
none_right wrote i h = absurd (not-suc-le-zero h)

-- where nothing waits, no load does
pub none_waits : leb 1 (loads_in []) ≡ true → ⊥
unfolding loads_in keep
none_waits e = false≢true e

-- a command that is no load adds none to those that wait
more_loads : (ws : List Waiting) (c : Command) → is_load c ≡ false → loads_in (ws ++ record { command = c } ∷ []) ≡ loads_in ws
unfolding loads_in
more_loads ws c h =
    let p : Waiting → Bool = λ w. is_load w.command in
    let w : Waiting = record { command = c } in
    let e : keep p (w ∷ []) ≡ [] = keep_one p w ∙ rw h in
    ap length (keep_append p ws (w ∷ []) ∙ ap (λ (l : List Waiting). keep p ws ++ l) e ∙ append-nil (keep p ws))

module _ {z : Sizes} (t : Tally) (v : Inv z t) where
  -- no accepted line changes what is staged; `load 0` sets the reach to 0
  pub line_known : (l : Line) → StagedKnown t.bitmap t.wrote (line_taken t l).addresses.reach
  line_known Empty = v.staged
  line_known Wrong = v.staged
  line_known (Change k n) = v.staged
  line_known LoadZero = none_below t.bitmap t.wrote
  line_known (LoadAt a) = v.staged
  line_known Ask = v.staged
  line_known (Commit a y n) = v.staged

  pub ended_known : StagedKnown t.bitmap t.wrote (ended t).addresses.reach
  ended_known =
      choice (λ a. StagedKnown t.bitmap t.wrote a.reach) (leb 1 (loads_in t.commands.waiting)) fresh_addresses t.addresses
      (λ q. none_below t.bitmap t.wrote) (λ q. v.staged)

  pub staged_known : (bytes echo : List ℕ) → is_staged (package_number_for t all_own bytes echo) ≡ true
      → StagedKnown (package_placed t bytes).bitmap (package_placed t bytes).wrote (package_placed t bytes).addresses.reach
  staged_known bytes echo q =
      let k = package_passed t bytes echo q in
      let a = addresses_are t.addresses (state_limits (view_state t) v.limits).staging in
      let f : t.addresses.next + payload_bytes bytes ≤ staging_bytes = leb-true _ _ k.passed.is_fitting in
      package_known t.bitmap t.wrote t.addresses.next t.addresses.reach (payload_bytes bytes)
      (eqb (received_sum bytes) (computed_sum bytes))
      v.staged a.0 (omega (arith, k.lengths.bitmap_is, f))

  -- where no byte below the reach was last written by a package with a wrong sum, all were by right ones
  all_right : none_wrong t.wrote t.addresses.reach ≡ true → AllRight t.wrote t.addresses.reach
  all_right g i h = right_is (t.wrote i) (v.staged i h).0 (not-true _ (each_at (λ i. not (is_wrong (t.wrote i))) _ i h g))

  -- a line that leaves nothing waiting leaves no load waiting that did not
  none_more : leb 1 (loads_in (t.commands.waiting ++ [])) ≡ true → load_waits_for t ≡ true
  none_more w = sym (ap (λ (ws : List Waiting). leb 1 (loads_in ws)) (append-nil t.commands.waiting)) ∙ w

  pub line_right : (l : Line) (good : Bool) → not ((traits_of l).load && not good) ≡ true
      → (good ≡ true → none_wrong t.wrote t.addresses.reach ≡ true)
      → load_waits_for (line_taken t l) ≡ true → AllRight t.wrote (line_taken t l).addresses.reach
  line_right Empty good s n w = v.commit w
  line_right Wrong good s n w = v.commit w
  line_right (Change k x) good s n w = v.commit (sym (ap (leb 1) (more_loads t.commands.waiting (Set k x) refl)) ∙ w)
  line_right LoadZero good s n w = none_right t.wrote
  line_right (LoadAt a) good s n w = v.commit (none_more w)
  line_right Ask good s n w = v.commit (none_more w)
  line_right (Commit a y k) good s n w = all_right (n (not-false _ (not-true _ s)))

  -- and what waits with a commit keeps the sum that it gave: no line that changes the reach is accepted while it waits
  pub line_agrees : (l : Line) → not ((traits_of l).staging && load_waits_for t) ≡ true
      → sum_agrees (traits_of l).sum (staged_sum t.staging t.addresses.reach) ≡ true
      → load_waits_for (line_taken t l) ≡ true → staged_sum t.staging (line_taken t l).addresses.reach ≡ (line_taken t l).agreed
  line_agrees Empty f s w = v.agrees w
  line_agrees Wrong f s w = v.agrees w
  line_agrees (Change k x) f s w = v.agrees (sym (ap (leb 1) (more_loads t.commands.waiting (Set k x) refl)) ∙ w)
  line_agrees LoadZero f s w = absurd (true≢false (sym (none_more w) ∙ not-true _ f))
  line_agrees (LoadAt a) f s w = v.agrees (none_more w)
  line_agrees Ask f s w = v.agrees (none_more w)
  line_agrees (Commit a y n) f s w = sym (eqb-true n _ s)

  -- what a close loads
  pub ended_tables : TablesRun t (ended t).tables
  ended_tables =
      let most : loads_in t.commands.waiting ≤ 1 =
      subst (λ ws. loads_in ws ≤ 1) (waiting_with t.commands.accepted t.commands.waiting) (commands_most t v).loads_most in
      record {
        loads = λ a y h.
            let w : load_waits_for t ≡ true = le-leb 1 _ (waits_loads t.commands.waiting a y h) in
            record {
              tables_are = run_load t.staging t.addresses.reach t.tables t.commands.waiting a y h most;
              bytes_right = v.commit w;
              sum_is = v.agrees w;
            };
        otherwise = λ n. run_none t.staging t.addresses.reach t.tables t.commands.waiting
            (decide (leb 1 (loads_in t.commands.waiting))
            (λ q. let r = loads_wait t.commands.waiting (leb-true 1 _ q) in absurd (n r.0 r.1 r.2))
            (λ q. omega (arith, leb-false 1 (loads_in t.commands.waiting) q)));
      }
