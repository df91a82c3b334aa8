-- Lists of calls, said once: for a processor and for its tally, whatever the calls are. Assumes nothing.
use Rattle.std.specs.Prelude.{◌≡◌, Bool, true, false, List, [], ◌∷◌}

-- what one call comes to. A processor's W is its state with its own buffers, a tally's W is the tally: both give the same record
pub record Done (W R : Type 0) : Type 0 where
  -- carried out, in whole or in part, or refused
  pub carried : Bool
  -- all that the call lends is the processor's own
  pub owned : Bool
  pub next : W
  pub answer : R

module _ {W R C : Type 0} (processor : W → C → Done W R) where
  unfoldable pub replies : W → List C → List R
  replies w [] = []
  replies w (c ∷ cs) = (processor w c).answer ∷ replies (processor w c).next cs

  unfoldable pub after : W → List C → W
  after w [] = w
  after w (c ∷ cs) = after (processor w c).next cs

  -- no call that is carried out lends another buffer than the processor's own; refused calls may lend anything
  abbrev pub LawfulCall : W → C → Type 0
  LawfulCall w c = (processor w c).carried ≡ true → (processor w c).owned ≡ true

  abbrev pub Lawful : W → List C → Type 0
  Lawful w [] = Unit {0}
  Lawful w (c ∷ cs) = LawfulCall w c × Lawful (processor w c).next cs

  -- no call that is refused changes anything
  abbrev pub Idle : W → List C → Type 0
  Idle w [] = Unit {0}
  Idle w (c ∷ cs) = ((processor w c).carried ≡ false → (processor w c).next ≡ w) × Idle (processor w c).next cs

module _ {W T R C : Type 0} (processor : W → C → Done W R) (tally : T → C → Done T R) where
  -- at every moment: before each call, and at the end
  abbrev pub Always : (Moment : T → W → Type 0) → T → W → List C → Type 0
  Always M t w [] = M t w
  Always M t w (c ∷ cs) = M t w × Always M (tally t c).next (processor w c).next cs

  -- of each call, with the tally as it is before it
  abbrev pub Each : (Right : T → Done W R → Type 0) → T → W → List C → Type 0
  Each P t w [] = Unit {0}
  Each P t w (c ∷ cs) = P t (processor w c) × Each P (tally t c).next (processor w c).next cs

  -- the claim about one list of calls
  pub record Followed (view : T → W) (Moment : T → W → Type 0) (Right : T → Done W R → Type 0) (t : T) (w : W) (cs : List C) : Type 0
    where
      pub answers : replies processor w cs ≡ replies tally t cs
      pub ending : after processor w cs ≡ view (after tally t cs)
      pub moments : Always Moment t w cs
      pub idle : Idle processor w cs
      pub right : Each Right t w cs
