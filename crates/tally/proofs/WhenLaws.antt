-- What the checks of each call say in the paper's words: laws over plain booleans, numbers and lists, no word of a tally. Assumes nothing.
use Rattle.std.proofs.Common.{◌≡◌, refl, sym, ap, ◌∙◌, Bool, true, false, ◌&&◌, ◌||◌, not, true≢false, List, [], ◌∷◌, map, ◌≢◌, inl}
use Rattle.std.proofs.Common.{inr, ⊎_elim, ℕ, ◌+◌, ◌*◌, ◌≤◌, arith, leb-true, le-leb, eqb-true, eq-eqb, eqb, leb, length}
use Rattle.std.proofs.Common.{length-append}
use borrow.Author.Tests.{not-true}
use Prim.Native.String.{String}
use Rattle.causes.specs.Checks.{Check, number_by, none}
use Rattle.wire.specs.Bytes.{at16}
use Rattle.wire.specs.Lists.{All, all}
use Rattle.wire.specs.Text.{text, hex_digit}
use Rattle.wire.proofs.Lists.{decide, and_split, or_split, all_append}
use Rattle.sample_record.specs.Record.{record_box, record_good}
use Rattle.sort.specs.declared.event.Event.{Event}
use Rattle.sort.specs.Event.{in_range}
use Rattle.load.specs.Staging.{formed}
use Rattle.command.specs.declared.command.Setting.{Setting}
use Rattle.command.specs.declared.command.Setting.TheVariants.{Limhi, Eonly, Toferror, Junk, Hv, Hvstep}
use Rattle.command.specs.Asked.{traits_of, sum_agrees}
use Rattle.command.specs.Grammar.{printable, bytes_ok}
use Rattle.take_line.specs.Line.{command_checks}
use Rattle.tally.specs.Texts.{LineBytes, Digits, arguments_text, line_text, CommandText, change, load_zero, load_at, ask, commit, text_of}
use Rattle.tally.specs.Texts.{InRanges}
use Rattle.tally.specs.When.{SlotRight, FieldsInRange, uses_staging, uses_bytes, PackageFormed}
use Rattle.tally.proofs.TextLaws.{digit, digits_all, digits_length, meant}

-- ---- a test that says something

-- a test is false where what it says does not hold
pub fails : {A : Type 0} (b : Bool) → (b ≡ true → A) → (A → ⊥) → b ≡ false
fails b f n = decide b (λ q. absurd (n (f q))) (λ q. q)

pub two_equal : (a m b n : ℕ) → (eqb a m && eqb b n) ≡ true → (a ≡ m) × (b ≡ n)
two_equal a m b n h = let s = and_split (eqb a m) (eqb b n) h in (eqb-true a m s.0, eqb-true b n s.1)

pub three_equal : (a m b n c k : ℕ) → (eqb a m && eqb b n && eqb c k) ≡ true → (a ≡ m) × (b ≡ n) × (c ≡ k)
three_equal a m b n c k h =
    let s = and_split (eqb a m && eqb b n) (eqb c k) h in
    let r = two_equal a m b n s.0 in
    (r.0, r.1, eqb-true c k s.1)

-- ---- the first check, of number 1

none_one : (cs : List Check) → none (λ n. eqb n 1) cs ≡ true → number_by cs ≢ 1
none_one [] h e = omega (arith, e)
none_one (c ∷ cs) h e =
    let s = and_split (not (eqb c.1 1)) (none (λ n. eqb n 1) cs) h in
    decide c.0
    (λ q. none_one cs s.1 (rw q at e))
    (λ q. true≢false (sym (eq-eqb c.1 1 (rw q at e)) ∙ not-true (eqb c.1 1) s.0))

module _ (R : Type 0) (sound : Bool) (cs : List Check) (says : sound ≡ true → R) (said : R → sound ≡ true) where
  pub one_where : (R → ⊥) → number_by ((sound, 1) ∷ cs) ≡ 1
  one_where n = rw (fails sound says n)

  pub one_only : none (λ n. eqb n 1) cs ≡ true → R → number_by ((sound, 1) ∷ cs) ≢ 1
  one_only h r e = none_one cs h (rw (said r) at e)

-- ---- slots

slot_says : (x : ℕ) → record_good x ≡ true → SlotRight x
slot_says x h =
    ⊎_elim
    (λ q. inl (eqb-true x 0 q))
    (λ q. let s = and_split (leb 6 (record_box x)) (leb (record_box x) 116) q in inr (leb-true 6 _ s.0, leb-true _ 116 s.1))
    (or_split (eqb x 0) (leb 6 (record_box x) && leb (record_box x) 116) h)

or_right : (a : Bool) → (a || true) ≡ true
or_right true = refl
or_right false = refl

slot_said : (x : ℕ) → SlotRight x → record_good x ≡ true
slot_said x (inl e) = rw (eq-eqb x 0 e)
slot_said x (inr h) =
    ap (λ (b : Bool). eqb x 0 || b) (rw (le-leb 6 (record_box x) h.0, le-leb (record_box x) 116 h.1)) ∙ or_right (eqb x 0)

pub slots_say : (xs : List ℕ) → all record_good xs ≡ true → All SlotRight xs
slots_say [] h = tt
slots_say (x ∷ xs) h = let s = and_split (record_good x) (all record_good xs) h in (slot_says x s.0, slots_say xs s.1)

pub slots_said : (xs : List ℕ) → All SlotRight xs → all record_good xs ≡ true
slots_said [] h = refl
slots_said (x ∷ xs) h = ap (λ (b : Bool). b && all record_good xs) (slot_said x h.0) ∙ slots_said xs h.1

-- ---- an event's fields

pub fields_say : (e : Event) → in_range e ≡ true → FieldsInRange e
fields_say e h =
    let s = and_split (leb e.t 511 && leb e.high 4095) (leb e.low 2047) h in
    let r = and_split (leb e.t 511) (leb e.high 4095) s.0 in
    (leb-true _ _ r.0, leb-true _ _ r.1, leb-true _ _ s.1)

pub fields_said : (e : Event) → FieldsInRange e → in_range e ≡ true
fields_said e h = rw (le-leb e.t 511 h.0, le-leb e.high 4095 h.1, le-leb e.low 2047 h.2)

-- ---- a line's bytes

bytes_say : (bs : List ℕ) → all printable bs ≡ true → All (λ b. (32 ≤ b) × (b ≤ 126)) bs
bytes_say [] h = tt
bytes_say (b ∷ bs) h =
    let s = and_split (printable b) (all printable bs) h in
    let r = and_split (leb 32 b) (leb b 126) s.0 in
    ((leb-true 32 b r.0, leb-true b 126 r.1), bytes_say bs s.1)

bytes_said : (bs : List ℕ) → All (λ b. (32 ≤ b) × (b ≤ 126)) bs → all printable bs ≡ true
bytes_said [] h = refl
bytes_said (b ∷ bs) h = rw (le-leb 32 b h.0.0, le-leb b 126 h.0.1, bytes_said bs h.1)

pub line_says : (bs : List ℕ) → bytes_ok bs ≡ true → LineBytes bs
line_says bs h = let s = and_split (leb (length bs) 80) (all printable bs) h in (leb-true _ _ s.0, bytes_say bs s.1)

pub line_said : (bs : List ℕ) → LineBytes bs → bytes_ok bs ≡ true
line_said bs h = rw (le-leb (length bs) 80 h.0, bytes_said bs h.1)

-- the text of a command in its ranges has such bytes: a keyword of up to eight and three arguments with their spaces
arguments_short : (dss : List (List ℕ)) → All Digits dss → length (arguments_text dss) ≤ 7 * length dss
arguments_short [] h = omega arith
arguments_short (ds ∷ dss) h =
    omega (arith, arguments_short dss h.1, h.0.1, digits_length ds, length-append (map hex_digit ds) (arguments_text dss))

arguments_shown : (dss : List (List ℕ)) → All Digits dss → all printable (arguments_text dss) ≡ true
arguments_shown [] h = refl
arguments_shown (ds ∷ dss) h =
    all_append printable (map hex_digit ds) (arguments_text dss)
    (digits_all printable (λ d g. (digit d g).shown) ds h.0.2) (arguments_shown dss h.1)

text_ok : (k : String) (dss : List (List ℕ)) → All Digits dss → length (text k) ≤ 8 → all printable (text k) ≡ true → length dss ≤ 3
    → bytes_ok (line_text k dss) ≡ true
text_ok k dss d l p h =
    rw (
      le-leb (length (line_text k dss)) 80 (omega (arith, length-append (text k) (arguments_text dss), arguments_short dss d)),
      all_append printable (text k) (arguments_text dss) p (arguments_shown dss d),
    )

change_ok : (k : Setting) (n : List ℕ) → Digits n → bytes_ok (text_of (change k n)) ≡ true
change_ok Limhi n d = text_ok "limhi" (n ∷ []) (d, tt) (omega arith) refl (omega arith)
change_ok Eonly n d = text_ok "eonly" (n ∷ []) (d, tt) (omega arith) refl (omega arith)
change_ok Toferror n d = text_ok "toferror" (n ∷ []) (d, tt) (omega arith) refl (omega arith)
change_ok Junk n d = text_ok "junk" (n ∷ []) (d, tt) (omega arith) refl (omega arith)
change_ok Hv n d = text_ok "hv" (n ∷ []) (d, tt) (omega arith) refl (omega arith)
change_ok Hvstep n d = text_ok "hvstep" (n ∷ []) (d, tt) (omega arith) refl (omega arith)

pub command_ok_lem : (reach limhi : ℕ) (x : CommandText) → InRanges reach limhi x → bytes_ok (text_of x) ≡ true
command_ok_lem reach limhi (change k n) h = change_ok k n h.0
command_ok_lem reach limhi (load_zero n) h = text_ok "load" (n ∷ []) (h.0, tt) (omega arith) refl (omega arith)
command_ok_lem reach limhi (load_at a) h = text_ok "loadat" (a ∷ []) (h.0, tt) (omega arith) refl (omega arith)
command_ok_lem reach limhi (ask a y) h = text_ok "ask" (a ∷ y ∷ []) (h.0, (h.1, tt)) (omega arith) refl (omega arith)
command_ok_lem reach limhi (commit a y s) h = text_ok "commit" (a ∷ y ∷ s ∷ []) (h.0, (h.1, (h.2, tt))) (omega arith) refl (omega arith)

-- ---- a command's checks

record Traited (x : CommandText) : Type 0 where
  right : (traits_of (meant x)).wrong ≡ false
  counted : (traits_of (meant x)).command ≡ true
  staging : (traits_of (meant x)).staging ≡ uses_staging x
  load : (traits_of (meant x)).load ≡ uses_bytes x

traited : (x : CommandText) → Traited x
traited (change k n) = record { right = refl; counted = refl; staging = refl; load = refl }
traited (load_zero n) = record { right = refl; counted = refl; staging = refl; load = refl }
traited (load_at a) = record { right = refl; counted = refl; staging = refl; load = refl }
traited (ask a y) = record { right = refl; counted = refl; staging = refl; load = refl }
traited (commit a y s) = record { right = refl; counted = refl; staging = refl; load = refl }

and_no : (a b : Bool) → (a ≡ true → b ≡ false) → (a && b) ≡ false
and_no true b h = h refl
and_no false b h = refl

module _ (x : CommandText) (waits full good : Bool) (sum : ℕ) where
  abbrev pub command_number : ℕ
  command_number = number_by (command_checks waits full good sum (meant x))

  x_is : Traited x
  x_is = traited x

  pub six : uses_staging x ≡ true → waits ≡ true → command_number ≡ 6
  six u w = rw (x_is.right, x_is.staging, u, w)

  module _ (free : uses_staging x ≡ true → waits ≡ false) where
    unblocked : ((traits_of (meant x)).staging && waits) ≡ false
    unblocked = rw x_is.staging (and_no (uses_staging x) waits free)

    pub seven : full ≡ true → command_number ≡ 7
    seven f = rw (x_is.right, unblocked, x_is.counted, f)

    module _ (room : full ≡ false) where
      pub fifteen : uses_bytes x ≡ true → good ≡ false → command_number ≡ 15
      fifteen u g = rw (x_is.right, unblocked, x_is.counted, room, x_is.load, u, g)

      module _ (sound : uses_bytes x ≡ true → not good ≡ false) where
        unspoilt : ((traits_of (meant x)).load && not good) ≡ false
        unspoilt = rw x_is.load (and_no (uses_bytes x) (not good) sound)

        pub sixteen : sum_agrees (traits_of (meant x)).sum sum ≡ false → command_number ≡ 16
        sixteen d = rw (x_is.right, unblocked, x_is.counted, room, unspoilt, d)

        pub no_number : sum_agrees (traits_of (meant x)).sum sum ≡ true → command_number ≡ 0
        no_number d = rw (x_is.right, unblocked, x_is.counted, room, unspoilt, d)

-- ---- a package

pub package_says : (p : List ℕ) → formed p ≡ true → PackageFormed p
unfolding formed
package_says p h =
    let s = and_split (leb 2 (length p) && leb 2 (at16 p 0)) (eqb (length p) (2 + at16 p 0)) h in
    let r = and_split (leb 2 (length p)) (leb 2 (at16 p 0)) s.0 in
    (leb-true 2 _ r.0, leb-true 2 _ r.1, omega (arith, eqb-true (length p) (2 + at16 p 0) s.1))

pub package_said : (p : List ℕ) → PackageFormed p → formed p ≡ true
unfolding formed
package_said p h = rw (le-leb 2 (length p) h.0, le-leb 2 (at16 p 0) h.1, eq-eqb (length p) (2 + at16 p 0) (omega (arith, h.2)))
