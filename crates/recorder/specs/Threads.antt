-- What is recorded of one thread.
use Rattle.std.specs.Prelude.{◌≡◌, ℕ, List, [], None, Ok, IsSome}
use Rattle.sc_machine.specs.declared.end.End.{End}
use Rattle.sc_machine.specs.ThreadStep.{end_of}
use Rattle.interleavings.specs.declared.activity.Activity.{Activity}
use Rattle.interleavings.specs.declared.activity.Phase.TheVariants.{Idle}
use Rattle.interleavings.specs.declared.event.LogEntry.{LogEntry}
use Rattle.interleavings.specs.Events.{log_of}
use Rattle.interleavings.specs.Following.{Followed, follow}
use Rattle.interleavings.specs.Recording.{Setting, IsEndAfter}
use Rattle.shared_rule.specs.declared.view.View.{View}

-- the pass has a name, is at no shared instruction, and has done nothing else yet
pub record IsFresh (v : View) : Type 0 where
  pub named : IsSome v.activity.name
  pub phase : v.activity.phase ≡ Idle
  pub events : v.activity.events ≡ []
  pub held : v.activity.held ≡ []
  pub looks : v.activity.looks ≡ None

-- of a thread of this number that was recorded by a pass which did this: the log has exactly the entries of the events that the
-- pass finished, following the thread's code by the log gives exactly these events with the output and the end, and the thread
-- ended as stopped exactly where its row of odd looks has reached the patience, at the entry into that row's monitor
pub record IsThreadRecorded (g : Setting) (t : ℕ) (activity : Activity) (log : List LogEntry) (out : List ℕ) (end : End) : Type 0 where
  pub logged : log ≡ log_of activity.events
  pub followed : Followed
  pub follows : follow g.program g.fuel t log ≡ Ok followed
  pub events : followed.events ≡ activity.events
  pub output : followed.thread.out ≡ out
  pub ended : end_of followed.thread ≡ end
  pub gave_up : IsEndAfter g t activity.looks end
