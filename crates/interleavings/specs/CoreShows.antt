-- The machine of `drive` beside the state that it shows. Only private clauses cite this module.
use Rattle.std.specs.Prelude.{◌≡◌, ℕ, ◌<◌, length, slice_index, slice_index_or}
use Rattle.interleavings.specs.declared.limits.TheConstants.{STEP_LIMIT}
use Rattle.interleavings.specs.declared.activity.Activity.{Activity}
use Rattle.interleavings.specs.declared.core_state.Core.{Core}
use Rattle.interleavings.specs.declared.step_words.AtomicStep.{AtomicStep}
use Rattle.interleavings.specs.AtomicStep.{SharedWord, word_of}
use Rattle.interleavings.specs.Bounded.{IsStateWithin}
use Rattle.interleavings.specs.History.{State, Step}
use Rattle.interleavings.specs.Layout.{index_of, row_length, IsInRow}

-- the core shows the words of the state that its row has, and what the threads do that it has
pub record ShowsState (core : Core) (st : State) : Type 0 where
  pub words : (word : SharedWord) → IsInRow core.layout.cells core.layout.monitors word → slice_index core.words.items (index_of core.layout.cells word) ≡ st.words word
  pub people : (who : ℕ) (d : Activity) → who < length core.people.items → slice_index_or core.people.items who d ≡ (st.people who).activity

-- the core's row is as long as its layout says
abbrev pub HasWholeRow : Core → Type 0
HasWholeRow core = length core.words.items ≡ row_length core.layout.cells core.layout.monitors

-- the step of the code as a step of a history
abbrev pub step_seen : AtomicStep → Step
step_seen step = record { who = step.who; kind = step.kind; at = step.at; value = step.value }

-- the core has the thread and the word of the step, and shows a state of small numbers
pub record CanHappen (core : Core) (step : AtomicStep) : Type 0 where
  pub whole : HasWholeRow core
  pub who : step.who < length core.people.items
  pub inside : IsInRow core.layout.cells core.layout.monitors (word_of step.kind step.at)
  pub state : State
  pub shows : ShowsState core state
  pub within : IsStateWithin STEP_LIMIT state

-- the core has as many words and threads as before
pub record HasSameShape (old new : Core) : Type 0 where
  pub layout : new.layout ≡ old.layout
  pub words : length new.words.items ≡ length old.words.items
  pub people : length new.people.items ≡ length old.people.items
