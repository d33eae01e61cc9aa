-- The chronicle of a history, computed step by step.
use Rattle.std.proofs.Common.{ℕ, ◌+◌, ◌*◌, ◌==◌, Bool, true, false, if◌then◌else◌, List, length, slice_index}
use Rattle.interleavings.specs.declared.activity.Activity.{Activity}
use Rattle.interleavings.specs.declared.activity.Phase.{Phase}
use Rattle.interleavings.specs.declared.kind.Kind.{Kind}
use Rattle.interleavings.specs.declared.kind.Kind.TheVariants as by
use Rattle.interleavings.specs.AtomicStep.{SharedWord, word_of, turn_in, is_even}
use Rattle.interleavings.specs.History.{State, Step, happens}
use Rattle.histories.specs.Chronicle.{Series, Puts, Entries, Exits, Mark, Stamp, Chronicle}

-- whether a step that puts a value into a cell is of the series
abbrev pub is_put : ℕ → Series → Bool
is_put at (Puts cell) = cell == at
is_put at (Entries monitor) = false
is_put at (Exits monitor) = false

-- whether a step that tries to enter a monitor is of the series, by whether it enters
abbrev pub is_entry : Bool → ℕ → Series → Bool
is_entry enters at (Puts cell) = false
is_entry enters at (Entries monitor) = if enters then monitor == at else false
is_entry enters at (Exits monitor) = false

-- whether a step that leaves a monitor is of the series
abbrev pub is_exit : ℕ → Series → Bool
is_exit at (Puts cell) = false
is_exit at (Entries monitor) = false
is_exit at (Exits monitor) = monitor == at

-- whether a step of this kind is of the series
abbrev pub adds : Kind → ℕ → Phase → ℕ → Series → Bool
adds by.ValueLoad at phase met series = false
adds by.NumberLoad at phase met series = false
adds by.SeeNumber at phase met series = false
adds by.Claim at phase met series = false
adds by.Fetch at phase met series = false
adds by.Put at phase met series = is_put at series
adds by.Complete at phase met series = false
adds by.Look at phase met series = false
adds by.Enter at phase met series = is_entry (met == 2 * turn_in phase) at series
adds by.Leave at phase met series = is_exit at series
adds by.Draw at phase met series = false

-- one more where the test passes
abbrev pub count_if : Bool → ℕ → ℕ
count_if true count = count + 1
count_if false count = count

-- the new one where the first test and the second pass, and else the old one
abbrev pub mark_if : Bool → Bool → Mark → Mark → Mark
mark_if true true new old = new
mark_if true false new old = old
mark_if false here new old = old

-- when the thread last loaded or put a value, by whether it makes this step
abbrev pub begun_by : Kind → Bool → ℕ → ℕ → ℕ
begun_by by.ValueLoad own now begun = if own then now else begun
begun_by by.NumberLoad own now begun = begun
begun_by by.SeeNumber own now begun = begun
begun_by by.Claim own now begun = begun
begun_by by.Fetch own now begun = begun
begun_by by.Put own now begun = if own then now else begun
begun_by by.Complete own now begun = begun
begun_by by.Look own now begun = begun
begun_by by.Enter own now begun = begun
begun_by by.Leave own now begun = begun
begun_by by.Draw own now begun = begun

-- when the event took effect that a step of this kind finishes
abbrev pub from_of : Kind → ℕ → ℕ → ℕ
from_of by.ValueLoad begun now = now
from_of by.NumberLoad begun now = begun
from_of by.SeeNumber begun now = now
from_of by.Claim begun now = now
from_of by.Fetch begun now = now
from_of by.Put begun now = now
from_of by.Complete begun now = begun
from_of by.Look begun now = now
from_of by.Enter begun now = now
from_of by.Leave begun now = now
from_of by.Draw begun now = now

-- the new stamp where both tests pass
abbrev pub stamp_if : Bool → Bool → Stamp → Stamp → Stamp
stamp_if true true new old = new
stamp_if true false new old = old
stamp_if false here new old = old

-- who last made a word odd, by whether it was even and is even now
abbrev pub owner_if : Bool → Bool → ℕ → ℕ → ℕ
owner_if true true who owner = owner
owner_if true false who owner = who
owner_if false now who owner = owner

-- the chronicle after a step of this thread, which met the word and made it another
abbrev pub noted : ℕ → Kind → ℕ → ℕ → Activity → ℕ → (SharedWord → ℕ) → (SharedWord → ℕ) → Chronicle → Chronicle
noted who kind at value activity met words words' c = record {
  now = c.now + 1;
  count = λ series. count_if (adds kind at activity.phase met series) (c.count series);
  mark = λ series k. mark_if (adds kind at activity.phase met series) (k == c.count series + 1) (record { who = who; spot = length activity.events; time = c.now + 1; value = value }) (c.mark series k);
  begun = λ t. begun_by kind (t == who) (c.now + 1) (c.begun t);
  stamp = λ t i. stamp_if (t == who) (i == length activity.events) (record { from = from_of kind (c.begun who) (c.now + 1); upto = c.now + 1 }) (c.stamp t i);
  owner = λ word. owner_if (is_even (words word)) (is_even (words' word)) who (c.owner word);
}

-- the chronicle after a step in this state
abbrev pub noted_in : Step → State → Chronicle → Chronicle
noted_in s st c = noted s.who s.kind s.at s.value (st.people s.who).activity (st.words (word_of s.kind s.at)) st.words (happens s st).words c

-- the value of number 0 of a series
abbrev pub starting_value : List ℕ → Series → ℕ
starting_value starts (Puts cell) = slice_index starts cell
starting_value starts (Entries monitor) = 0
starting_value starts (Exits monitor) = 0

-- the chronicle of no steps
abbrev pub no_notes : List ℕ → Chronicle
no_notes starts = record {
  now = 0;
  count = λ series. 0;
  mark = λ series k. record { who = 0; spot = 0; time = 0; value = starting_value starts series };
  begun = λ t. 0;
  stamp = λ t i. record { from = 0; upto = 0 };
  owner = λ word. 0;
}
