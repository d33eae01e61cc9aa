-- One thread after another is run again.
use Rattle.std.proofs.Common.{◌≡◌, ℕ, ◌+◌, List, [], ◌∷◌, ◌++◌, Result, Ok, Err, sym, ◌∙◌, ap, subst}
use Rattle.std.specs.Result.{IsErrAnd}
use Rattle.stride_isa.specs.Listing.{Listing}
use Rattle.sc_machine.specs.declared.end.End.{End}
use Rattle.sc_machine.specs.StandingThread.{Standing, started_at}
use Rattle.sc_machine.specs.ThreadStep.{Thread, start_thread, settled, end_of}
use Rattle.interleavings.specs.declared.event.LogEntry.{LogEntry}
use Rattle.interleavings.specs.Following.{follow, follow_from}
use Rattle.interleavings.specs.TraceLists.{TraceLists}
use Rattle.thread_rerun.specs.declared.follower.Follower.{Follower}
use Rattle.thread_rerun.specs.declared.rerun_error.RerunError.{RerunError}
use Rattle.thread_rerun.specs.declared.rerun_error.RerunError.TheVariants.{Diverges, NoMemory}
use Rattle.thread_rerun.specs.declared.outcome.Rerun.{Rerun}
use Rattle.thread_rerun.specs.Rerunning.{Again}
use Rattle.thread_rerun.specs.Shows.{Comes, ThreadComes, IsAppended, IsOver, following, no_turns, turns_in, with_events}

-- what following comes to from a thread's start
module _ (p : Listing) (fuel t : ℕ) (log : List LogEntry) (f : Follower) (is : f.thread ≡ started_at p fuel t) (place : f.place ≡ 0) (turns : turns_in f ≡ no_turns) where
  pub from_start : following f log t ≡ follow p fuel t log
  unfolding follow
  from_start =
      ap (λ (x : Standing). follow_from x.program x.fuel t log (x.fuel + 1) f.place (turns_in f) x.state) is
      ∙ ap (λ n. follow_from p fuel t log (fuel + 1) n (turns_in f) (settled p fuel t start_thread)) place
      ∙ ap (λ u. follow_from p fuel t log (fuel + 1) 0 u (settled p fuel t start_thread)) turns

-- what following comes to is what the thread comes to
module _ (p : Listing) (fuel t : ℕ) (log : List LogEntry) (f new : Follower) (before after : TraceLists) (same : following f log t ≡ follow p fuel t log) where
  pub thread_fails : (old last : Rerun) (error : RerunError) → Comes f new log t before after (Err error) → ThreadComes p fuel t log old last (Err error)
  thread_fails old last (Diverges thread place) fails = (fails.0, sym same ∙ fails.1)
  thread_fails old last NoMemory fails = tt

  pub thread_fails_as : (old last : Rerun) (error : RerunError) (result : Result (Unit {0}) RerunError) → Comes f new log t before after (Err error) → IsErrAnd result (λ e. e ≡ error) → ThreadComes p fuel t log old last result
  thread_fails_as old last error (Ok done) fails is = elim is [ ]
  thread_fails_as old last error (Err other) fails is = subst (λ (e : RerunError). ThreadComes p fuel t log old last (Err e)) (sym is) (thread_fails old last error fails)

  pub thread_ends : (old last : Again) (end : End) (out : List ℕ) → before ≡ old.traces → after ≡ last.traces → IsOver f new log t before after → end ≡ end_of new.thread.state → out ≡ new.thread.state.out → last.outputs ≡ old.outputs ++ out ∷ [] → last.ends ≡ old.ends ++ end ∷ [] → IsAppended p fuel t log old last
  thread_ends old last end out from to over is_end is_out outputs ends = record {
    followed = over.followed;
    is_followed = sym same ∙ over.is_followed;
    traces = sym to ∙ over.traces ∙ ap (λ tr. with_events tr t over.followed.events) from;
    outputs = outputs ∙ ap (λ o. old.outputs ++ o ∷ []) (is_out ∙ ap (λ (s : Thread). s.out) over.thread);
    ends = ends ∙ ap (λ e. old.ends ++ e ∷ []) (is_end ∙ ap end_of over.thread);
  }
