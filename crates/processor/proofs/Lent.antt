-- What a call makes of buffers of another length, nothing, and of those of their length. Assumes nothing.
use Rattle.std.proofs.Common.{◌≡◌, refl, sym, ap, ◌∙◌, Bool, true, false, ◌&&◌, not, cond, List, ℕ, ne_eqb, eqb, ltb, length}
use Rattle.std.proofs.Common.{Result, Ok, Err}
use Rattle.std.proofs.Math.Bool.{false≢true}
use Rattle.causes.specs.declared.Cause.{Cause}
use Rattle.causes.specs.Causes.{carried_out, buffer_or_state, line_bytes, package_sum, not_listed}
use Rattle.causes.specs.Checks.{number_by}
use Rattle.wire.specs.Bytes.{zeros}
use Rattle.tables.specs.Tables.{table_bytes}
use Rattle.load.specs.Bitmap.{bitmap_bytes, bitmap_after}
use Rattle.load.specs.Staging.{staging_bytes, payload_bytes, staging_after, addresses_after}
use Rattle.echo.specs.Echo.{echo_bytes}
use Rattle.output.specs.Ended.{ended_in}
use Rattle.output.specs.Output.{written}
use Rattle.state.specs.declared.State.{State}
use Rattle.state.specs.State.{with_staging}
use Rattle.state.specs.Limits.{within_limits}
use Rattle.packet.specs.Layout.{packet_bytes}
use Rattle.listing_packet.specs.Listing.{listing_packets}
use Rattle.command.specs.Grammar.{bytes_ok}
use Rattle.take_line.specs.Line.{line_by, line_lent, state_checks, line_number}
use Rattle.take_package.specs.Package.{package_lent, package_call_number, is_staged, staged_echo}
use Rattle.take_package.specs.Judged.{number_of}
use Rattle.end_interval.specs.End.{endable, no_summary, state_ended, tables_ended}
use Rattle.processor.specs.Answer.{answer}
use Rattle.processor.specs.Close.{CloseDone, close_span, out_right, close_number, close_done}
use Rattle.processor.specs.Line.{line_done}
use Rattle.processor.specs.Listing.{listing_lent, listing_by, listing_number, listing_done}
use Rattle.processor.specs.Package.{PackageDone, package_done}

-- ---- a check of the call

abbrev ok_of : {A : Type 0} → Result A Cause → Bool
ok_of (Ok _) = true
ok_of (Err _) = false

abbrev cause_of : {A : Type 0} → Cause → Result A Cause → Cause
cause_of k (Ok _) = k
cause_of k (Err c) = c

pub failed : {A : Type 0} (b : Bool) (u : A) (k x : Cause) (r : Result A Cause) → r ≡ cond b (Ok u) (Err k) → r ≡ Err x
    → (b ≡ false) × (x ≡ k)
failed true u k x r p q = absurd (false≢true (sym (ap ok_of (sym p ∙ q))))
failed false u k x r p q = (refl, sym (ap (cause_of k) (sym p ∙ q)))

pub passed : {A : Type 0} (b : Bool) (u v : A) (k : Cause) (r : Result A Cause) → r ≡ cond b (Ok u) (Err k) → r ≡ Ok v → b ≡ true
passed true u v k r p q = refl
passed false u v k r p q = absurd (false≢true (ap ok_of (sym p ∙ q)))

-- ---- lengths, of which one is another

one_fails : (b : Bool) (n : ℕ) → cond (b && false) n 1 ≡ 1
one_fails true n = refl
one_fails false n = refl

second_fails : (a c : Bool) → (a && false && c) ≡ false
second_fails true c = refl
second_fails false c = refl

pub other_first : (a b c m n o : ℕ) → (a ≡ m → ⊥) → (eqb a m && eqb b n && eqb c o) ≡ false
other_first a b c m n o h = rw (ne_eqb a m h)

pub other_second : (a b c m n o : ℕ) → (b ≡ n → ⊥) → (eqb a m && eqb b n && eqb c o) ≡ false
other_second a b c m n o h = rw (ne_eqb b n h) (second_fails (eqb a m) (eqb c o))

pub other_last : (a : Bool) (b n : ℕ) → (b ≡ n → ⊥) → (a && eqb b n) ≡ false
other_last true b n h = ne_eqb b n h
other_last false b n h = refl

-- ---- a package

module _ (s : State) (p staging bitmap echo : List ℕ) where
  package_one : package_lent (length staging) (length bitmap) (length echo) ≡ false
      → package_call_number s p (length staging) (length bitmap) (length echo) ≡ 1
  unfolding package_call_number
  package_one h = rw h (one_fails (within_limits s) _)

  -- a refusal leaves all as it was
  abbrev pub package_left : (n : ℕ) → PackageDone
  package_left n = record { answer = answer n s; staging = staging; bitmap = bitmap; echo = echo }

  -- staged, with a right sum or a wrong one
  abbrev pub package_put : (right : Bool) → PackageDone
  package_put right = record {
    answer = answer (cond right carried_out package_sum) (with_staging s (addresses_after s.staging p));
    staging = staging_after staging s.staging.next p;
    bitmap = bitmap_after bitmap s.staging.next (payload_bytes p) (not right);
    echo = staged_echo (cond (not right) package_sum carried_out) s.staging.next p;
  }

  pub package_unlent : package_lent (length staging) (length bitmap) (length echo) ≡ false
      → package_left 1 ≡ package_done s p staging bitmap echo
  unfolding package_done
  package_unlent h = rw (package_one h)

  module _ (a : length staging ≡ staging_bytes) (b : length bitmap ≡ bitmap_bytes) (c : length echo ≡ echo_bytes) where
    pub package_refused : (n : ℕ) → number_of s p ≡ n → is_staged n ≡ false → package_left n ≡ package_done s p staging bitmap echo
    unfolding package_done
    package_refused n e h = rw (a, b, c, e, h)

    pub package_taken : (right : Bool) → number_of s p ≡ cond right carried_out package_sum
        → package_put right ≡ package_done s p staging bitmap echo
    unfolding package_done
    package_taken true e = rw (a, b, c, e)
    package_taken false e = rw (a, b, c, e)

-- ---- a close

module _ (s : State) (time : ℕ) (tables staging slots out : List ℕ) where
  abbrev close_sound : Bool
  close_sound = endable s (length tables) (length staging) slots && out_right s.capacity (length out)

  abbrev pub close_left : CloseDone
  close_left = record {
    answer = record { number = buffer_or_state; state = s; summary = no_summary };
    tables = tables;
    slots = slots;
    out = out;
  }

  abbrev pub close_ended : CloseDone
  close_ended = record {
    answer = record { number = carried_out; state = state_ended s; summary = (ended_in s time tables slots).summary };
    tables = tables_ended s tables staging;
    slots = zeros (length slots);
    out = written (ended_in s time tables slots) (close_span s.capacity);
  }

  pub close_refused : close_sound ≡ false → close_left ≡ close_done s time tables staging slots out
  unfolding close_done close_number
  close_refused h = rw h

  pub close_carried : close_sound ≡ true → close_ended ≡ close_done s time tables staging slots out
  unfolding close_done close_number
  close_carried h = rw h

-- ---- a line

module _ (s : State) (line staging bitmap echo : List ℕ) where
  line_one : line_lent (length staging) (length bitmap) (length echo) ≡ false → line_number s line staging bitmap (length echo) ≡ 1
  unfolding line_number
  line_one h = rw h (one_fails (within_limits s) _)

  pub line_unlent : line_lent (length staging) (length bitmap) (length echo) ≡ false
      → line_by buffer_or_state s line staging echo ≡ line_done s line staging bitmap echo
  unfolding line_done
  line_unlent h = rw (line_one h)

  -- by whether the state is within its limits, and whether the bytes are right
  abbrev pub line_told : (sound right : Bool) → ℕ
  line_told sound right = cond sound (cond right (number_by (state_checks s line staging bitmap)) line_bytes) buffer_or_state

  line_number_is : (sound right : Bool) → length staging ≡ staging_bytes → length bitmap ≡ bitmap_bytes → length echo ≡ echo_bytes
      → within_limits s ≡ sound → bytes_ok line ≡ right → line_told sound right ≡ line_number s line staging bitmap (length echo)
  unfolding line_number
  line_number_is true right a b c w r = rw (a, b, c, w, r)
  line_number_is false right a b c w r = rw (a, b, c, w)

  pub line_judged : (sound right : Bool) → length staging ≡ staging_bytes → length bitmap ≡ bitmap_bytes → length echo ≡ echo_bytes
      → within_limits s ≡ sound → bytes_ok line ≡ right
      → line_by (line_told sound right) s line staging echo ≡ line_done s line staging bitmap echo
  unfolding line_done
  line_judged sound right a b c w r = ap (λ n. line_by n s line staging echo) (line_number_is sound right a b c w r)

-- ---- a listing

module _ (s : State) (i time : ℕ) (tables out : List ℕ) where
  listing_one : listing_lent (length tables) (length out) ≡ false → listing_number s i (length tables) (length out) ≡ 1
  unfolding listing_number
  listing_one h = rw h (one_fails (within_limits s) _)

  pub listing_unlent : listing_lent (length tables) (length out) ≡ false
      → listing_by buffer_or_state s i time tables out ≡ listing_done s i time tables out
  unfolding listing_done
  listing_unlent h = rw (listing_one h)

  -- by whether the state is within its limits, and whether there is such a packet
  abbrev pub listing_told : (sound listed : Bool) → ℕ
  listing_told sound listed = cond sound (cond listed carried_out not_listed) buffer_or_state

  pub listing_judged : (sound listed : Bool) → length tables ≡ table_bytes → length out ≡ packet_bytes → within_limits s ≡ sound
      → ltb i listing_packets ≡ listed
      → listing_by (listing_told sound listed) s i time tables out ≡ listing_done s i time tables out
  unfolding listing_done listing_number
  listing_judged true true a b w r = rw (a, b, w, r)
  listing_judged true false a b w r = rw (a, b, w, r)
  listing_judged false listed a b w r = rw (a, b, w)
