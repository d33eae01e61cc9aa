-- Bounds on the numbers of a history by its length.
use Rattle.std.specs.Prelude.{ℕ, ◌+◌, ◌*◌, ◌≤◌, List, [], ◌∷◌, Option, Some, None}
use Rattle.interleavings.specs.declared.activity.Activity.{Activity}
use Rattle.interleavings.specs.declared.activity.HeldTurn.{HeldTurn}
use Rattle.interleavings.specs.declared.activity.OddLooks.{OddLooks}
use Rattle.interleavings.specs.declared.activity.Phase.{Phase}
use Rattle.interleavings.specs.AtomicStep.{SharedWord, Drawn, Value, Number, Monitor, number_in, turn_in}
use Rattle.interleavings.specs.History.{State}

-- what a word holds after n steps: n names at most were drawn, and a number or a monitor's word is twice n and one at most
abbrev pub IsWordWithin : ℕ → SharedWord → ℕ → Type 0
IsWordWithin n Drawn value = value ≤ n
IsWordWithin n (Value cell) value = Unit {0}
IsWordWithin n (Number cell) value = value ≤ 2 * n + 1
IsWordWithin n (Monitor monitor) value = value ≤ 2 * n + 1

-- the number or the turn in a phase is n at most
pub record IsPhaseWithin (n : ℕ) (phase : Phase) : Type 0 where
  pub number : number_in phase ≤ n
  pub turn : turn_in phase ≤ n

-- each turn that is held is n at most
abbrev pub AreTurnsWithin : ℕ → List HeldTurn → Type 0
AreTurnsWithin n [] = Unit {0}
AreTurnsWithin n (h ∷ held) = (h.turn ≤ n) × AreTurnsWithin n held

-- a row of odd looks is n long at most
abbrev pub AreLooksWithin : ℕ → Option OddLooks → Type 0
AreLooksWithin n None = Unit {0}
AreLooksWithin n (Some row) = row.count ≤ n

-- the numbers of what a thread does are n at most
pub record IsActivityWithin (n : ℕ) (activity : Activity) : Type 0 where
  pub phase : IsPhaseWithin n activity.phase
  pub held : AreTurnsWithin n activity.held
  pub looks : AreLooksWithin n activity.looks

-- the numbers of the state are those that n steps can lead to
pub record IsStateWithin (n : ℕ) (st : State) : Type 0 where
  pub words : (word : SharedWord) → IsWordWithin n word (st.words word)
  pub people : (who : ℕ) → IsActivityWithin n (st.people who).activity
