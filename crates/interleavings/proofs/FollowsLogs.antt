-- Following the logs of a run that has settled gives its events, and how each of its threads was left.
use Rattle.std.proofs.Common.{◌≡◌, ◌∙◌, ℕ, zero, suc, ◌+◌, ◌<◌, false, List, [], ◌∷◌, None, Ok, length, map, refl, sym, ap, inl, inr, arith}
use Rattle.std.proofs.lemmas.List.FromFn.{fill_by_all}
use Rattle.std.specs.List.{range_with_len}
use Rattle.std.specs.Prelude.{◌⊎◌}
use Rattle.stride_isa.specs.Listing.{Listing}
use Rattle.sc_machine.specs.ThreadStep.{Thread, start_thread, settled, stop_of, end_of}
use Rattle.sc_machine.specs.Schedule.{stopped, thread_numbers}
use Rattle.interleavings.specs.declared.event.LogEntry.{LogEntry}
use Rattle.interleavings.specs.Events.{log_of}
use Rattle.interleavings.specs.Following.{Followed, no_turns, thread_before, follow, follow_all_from, follow_all}
use Rattle.interleavings.specs.Recording.{Setting, activity_of, IsFollowed}
use Rattle.interleavings.specs.Driving.{Drive, thread_of, whole_run, recording_of, driven, stranger}
use Rattle.interleavings.specs.Walking.{is_exit}
use Rattle.interleavings.proofs.Advances.{IsRun}
use Rattle.interleavings.proofs.MachineLaws.{MachineLaws, start-alive}
use Rattle.interleavings.proofs.Settling.{settled_run, order-resting, stop_at}
use Rattle.interleavings.proofs.Walked.{HasWalked}
use Rattle.interleavings.proofs.Walks.{walks_followed}

-- what following the log of a thread of a run comes to
abbrev pub followed_in : Setting → Drive → ℕ → Followed
followed_in g d t = record { events = (activity_of g d.steps t).events; thread = stopped (thread_of d t) }

-- a thread that stands at no exit did not do so before it gave up either
inside_last : (g : Setting) (t : ℕ) (s last : Thread) → is_exit (stop_of g.program t s) ≡ false → (s ≡ last) ⊎ ((s ≡ stopped last) × (is_exit (stop_of g.program t last) ≡ false)) → is_exit (stop_of g.program t last) ≡ false
inside_last g t s last inside (inl same) = sym (ap (λ (x : Thread). is_exit (stop_of g.program t x)) same) ∙ inside
inside_last g t s last inside (inr (same, before)) = before

-- once it is stopped it makes no difference whether it gave up
same_end : (s last : Thread) (P : Type 0) → (s ≡ last) ⊎ ((s ≡ stopped last) × P) → stopped last ≡ stopped s
same_end s last P (inl same) = sym (ap stopped same)
same_end s last P (inr (same, p)) = sym (ap stopped same)

-- a thread of a run that stands at no exit is followed through its events by its log
pub thread_followed : MachineLaws → (g : Setting) (d : Drive) (t : ℕ) → t < length g.program.threads → IsRun g d → is_exit (stop_at g d t) ≡ false → follow g.program g.fuel t (log_of (activity_of g d.steps t).events) ≡ Ok (followed_in g d t)
unfolding follow
thread_followed laws g d t there run inside =
    let p = g.program in
    let s = thread_of d t in
    let done = (activity_of g d.steps t).events in
    let w : HasWalked g t s done (activity_of g d.steps t).held = run.walked t there in
    walks_followed laws p g.fuel t (log_of done) (g.fuel + 1) [] done no_turns (settled p g.fuel t start_thread) w.last refl (start-alive laws p g.fuel t) (omega arith) (inside_last g t s w.last inside w.stands) w.walks
    ∙ ap (λ (x : Thread). Ok (record { events = done; thread = x })) (same_end s w.last _ w.stands)

-- threads one after another, each followed by its log
each_followed : (p : Listing) (fuel : ℕ) (log : ℕ → List LogEntry) (made : ℕ → Followed) (n : ℕ) → ((t : ℕ) → t < n → follow p fuel t (log t) ≡ Ok (made t)) → (i k : ℕ) → i + k ≡ n → follow_all_from p fuel i k (map log (range_with_len i k)) ≡ Ok (map made (range_with_len i k))
unfolding follow_all_from
each_followed p fuel log made n each i zero e = refl
each_followed p fuel log made n each i (suc k) e =
    ap (λ first. thread_before i first (follow_all_from p fuel (i + 1) k (map log (range_with_len (i + 1) k)))) (each i (omega arith))
    ∙ ap (thread_before i (Ok (made i))) (each_followed p fuel log made n each (i + 1) k (omega arith))

-- what is seen of the threads that were followed is seen of those of the run
seen_alike : {X : Type 0} (h : Thread → X) (g : Setting) (d : Drive) (ns : List ℕ) → map (λ (f : Followed). h f.thread) (map (followed_in g d) ns) ≡ map h (map stopped (map (thread_of d) ns))
seen_alike h g d [] = refl
seen_alike h g d (t ∷ ns) = ap (λ rest. h (stopped (thread_of d t)) ∷ rest) (seen_alike h g d ns)

-- their events are those of the run
events_alike : (g : Setting) (d : Drive) (ns : List ℕ) → map (λ (f : Followed). f.events) (map (followed_in g d) ns) ≡ map (λ t. (activity_of g d.steps t).events) ns
events_alike g d [] = refl
events_alike g d (t ∷ ns) = ap (λ rest. (activity_of g d.steps t).events ∷ rest) (events_alike g d ns)

-- what an order gives is followed through the events of its run's steps
pub driven-followed : MachineLaws → (g : Setting) (order : List ℕ) → stranger (length g.program.threads) order ≡ None → IsFollowed g (driven g order) (whole_run g order).steps
unfolding driven recording_of whole_run follow_all
driven-followed laws g order known =
    let n = length g.program.threads in
    let ts = thread_numbers g.program in
    let d = settled_run g order in
    let settles = order-resting laws g order known in
    let run : IsRun g d = settles.0.0 in
    let threads : d.threads ≡ map (thread_of d) ts = fill_by_all (thread_of d) d.threads n start_thread run.count (λ t below. refl) in
    record {
      followed = map (followed_in g d) ts;
      follows = each_followed g.program g.fuel (λ t. log_of (activity_of g d.steps t).events) (followed_in g d) n (λ t below. thread_followed laws g d t below run (settles.1 t below)) 0 n (omega arith);
      events = events_alike g d ts;
      outputs = seen_alike (λ (s : Thread). s.out) g d ts ∙ sym (ap (λ l. map (λ (s : Thread). s.out) (map stopped l)) threads);
      ends = seen_alike end_of g d ts ∙ sym (ap (λ l. map end_of (map stopped l)) threads);
    }
