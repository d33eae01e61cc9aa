-- All threads of a program are run again, one after another.
use Rattle.std.proofs.Common.{◌≡◌, ℕ, suc, ◌+◌, ◌-◌, ◌<◌, ◌≤◌, List, [], ◌∷◌, ◌++◌, Result, Ok, Err, length, map, drop, replicate, refl, sym, ◌∙◌, ap, subst, arith, append_assoc, length-append}
use Rattle.std.proofs.Math.Seq.{drop-cons, get_or-append_seam, set-append_seam}
use Rattle.std.proofs.Math.ListN.{drop_of_length-le}
use Rattle.std.proofs.lemmas.List.{append-nil, length-map, length-replicate, map-append}
use Rattle.std.specs.Prelude.{slice_set}
use Rattle.std.specs.List.{slice_index_or}
use Rattle.std.specs.Result.{IsErrAnd}
use Rattle.stride_isa.specs.Listing.{Listing}
use Rattle.stride_isa.specs.Laws.{EachCellStarts}
use Rattle.sc_machine.specs.ThreadStep.{end_of}
use Rattle.interleavings.specs.declared.event.Event.{Event}
use Rattle.interleavings.specs.declared.event.LogEntry.{LogEntry}
use Rattle.interleavings.specs.Following.{Divergence, Followed, follow, follow_all, follow_all_from, thread_before}
use Rattle.interleavings.specs.TraceLists.{TraceLists, no_events}
use Rattle.thread_rerun.specs.declared.outcome.Rerun.{Rerun}
use Rattle.thread_rerun.specs.declared.rerun_error.RerunError.{RerunError}
use Rattle.thread_rerun.specs.declared.rerun_error.RerunError.TheVariants.{Diverges, NoMemory}
use Rattle.thread_rerun.specs.Rerunning.{IsAnswer, again, again_if, again_of, rerun_seen}
use Rattle.thread_rerun.specs.Shows.{AtThread, HasRoomFor, IsAppended, ThreadComes, threads_before, traces_at, with_events}

-- nothing before
before_none : (r : Result (List Followed) Divergence) → r ≡ threads_before [] r
before_none (Ok others) = refl
before_none (Err divergence) = refl

-- one more thread before the others
before_more : (t : ℕ) (done : List Followed) (f : Followed) (r : Result (List Followed) Divergence) → threads_before done (thread_before t (Ok f) r) ≡ threads_before (done ++ f ∷ []) r
before_more t done f (Ok others) = ap Ok (sym (append_assoc done (f ∷ []) others))
before_more t done f (Err divergence) = refl

-- the events of a thread that was followed
abbrev events_in : Followed → List Event
events_in f = f.events

-- a thread's events take the place of none
traces_more : (p : Listing) (done : List Followed) (f : Followed) (left t : ℕ) → length done ≡ t → with_events (traces_at p done (suc left)) t f.events ≡ traces_at p (done ++ f ∷ []) left
traces_more p done f left t count =
    let front : List (List Event) = map events_in done in
    let rest : List (List Event) = replicate left [] in
    let here : length front ≡ t = length-map done events_in ∙ count in
    ap (λ events. record (traces_at p done left) { events = events })
    (ap (λ n. slice_set (front ++ [] ∷ rest) n (slice_index_or (front ++ [] ∷ rest) n [] ++ f.events)) (sym here)
    ∙ ap (λ none. slice_set (front ++ [] ∷ rest) (length front) (none ++ f.events)) (get_or-append_seam front [] rest [])
    ∙ set-append_seam front [] rest f.events
    ∙ sym (append_assoc front (f.events ∷ []) rest)
    ∙ ap (λ all. all ++ rest) (sym (map-append events_in done (f ∷ []))))

module _ (p : Listing) (fuel : ℕ) (logs : List (List LogEntry)) where
  abbrev n : ℕ
  n = length p.threads

  pub starts : (r : Rerun) → r.traces ≡ no_events p → (rerun_seen r).outputs ≡ [] → r.ends.items ≡ [] → AtThread p fuel logs 0 r
  unfolding follow_all
  starts r traces outputs ends =
      let all : n ≡ n - 0 = omega arith in
      record {
        done = [];
        count = refl;
        traces = traces ∙ ap (traces_at p []) all;
        outputs = outputs;
        ends = ends;
        whole = before_none (follow_all_from p fuel 0 n logs) ∙ ap (λ k. threads_before [] (follow_all_from p fuel 0 k logs)) all;
      }

  module _ (t : ℕ) (old : Rerun) (at : AtThread p fuel logs t old) (inside : t < n) where
    abbrev left : ℕ
    left = n - suc t

    one_less : n - t ≡ suc left
    one_less = omega (arith, inside)

    next : suc t ≡ t + 1
    next = omega arith

    traces_now : old.traces ≡ traces_at p at.done (suc left)
    traces_now = at.traces ∙ ap (traces_at p at.done) one_less

    pub room : EachCellStarts → HasRoomFor p t old.traces
    room each_starts = subst (λ (tr : TraceLists). HasRoomFor p t tr) (sym traces_now) (record {
      of_program = record { cells = each_starts p.decls; monitors = refl };
      inside = omega (arith, inside, at.count, length-map at.done events_in, length-append (map events_in at.done) (replicate (suc left) []), length-replicate {A = List Event} (suc left) []);
      none_yet = ap (λ i. slice_index_or (map events_in at.done ++ [] ∷ replicate left []) i []) (sym (length-map at.done events_in ∙ at.count)) ∙ get_or-append_seam (map events_in at.done) [] (replicate left []) [];
    })

    -- the next log comes next
    whole_next : (log : List LogEntry) → t < length logs → log ≡ slice_index_or logs t log → follow_all p fuel logs ≡ threads_before at.done (thread_before t (follow p fuel t log) (follow_all_from p fuel (t + 1) left (drop (suc t) logs)))
    unfolding follow_all_from
    whole_next log there is_log =
        at.whole
        ∙ ap (λ k. threads_before at.done (follow_all_from p fuel t k (drop t logs))) one_less
        ∙ ap (λ rest. threads_before at.done (follow_all_from p fuel t (suc left) rest)) (drop-cons logs t log there ∙ ap (λ l. l ∷ drop (suc t) logs) (sym is_log))

    pub more : (log : List LogEntry) → t < length logs → log ≡ slice_index_or logs t log → (new : Rerun) → IsAppended p fuel t log (rerun_seen old) (rerun_seen new) → AtThread p fuel logs (t + 1) new
    more log there is_log new appended =
        let f : Followed = appended.followed in
        record {
          done = at.done ++ f ∷ [];
          count = omega (arith, length-append at.done (f ∷ []), at.count);
          traces = appended.traces ∙ ap (λ tr. with_events tr t f.events) (at.traces ∙ ap (traces_at p at.done) one_less) ∙ traces_more p at.done f left t at.count ∙ ap (traces_at p (at.done ++ f ∷ [])) (omega arith);
          outputs = appended.outputs ∙ ap (λ all. all ++ f.thread.out ∷ []) at.outputs ∙ sym (map-append (λ (f : Followed). f.thread.out) at.done (f ∷ []));
          ends = appended.ends ∙ ap (λ all. all ++ end_of f.thread ∷ []) at.ends ∙ sym (map-append (λ (f : Followed). end_of f.thread) at.done (f ∷ []));
          whole = whole_next log there is_log
              ∙ ap (λ r. threads_before at.done (thread_before t r (follow_all_from p fuel (t + 1) left (drop (suc t) logs)))) appended.is_followed
              ∙ before_more t at.done f _
              ∙ ap (λ k. threads_before (at.done ++ f ∷ []) (follow_all_from p fuel (t + 1) (n - k) (drop k logs))) next;
        }

    pub fails : (log : List LogEntry) → t < length logs → log ≡ slice_index_or logs t log → (new : Rerun) (error : RerunError) (answer : Result Rerun RerunError) → ThreadComes p fuel t log old new (Err error) → IsErrAnd answer (λ e. e ≡ error) → IsAnswer answer (again p fuel logs)
    fails log there is_log new error (Ok rerun) comes is = elim is [ ]
    fails log there is_log new (Diverges thread place) (Err other) comes is =
        subst (λ (e : RerunError). IsAnswer (Err e) (again p fuel logs)) (sym is)
        (ap (again_if p) (whole_next log there is_log ∙ ap (λ r. threads_before at.done (thread_before t r (follow_all_from p fuel (t + 1) left (drop (suc t) logs)))) comes.1 ∙ ap (λ u. Err (record { thread = u; place = place })) (sym comes.0)))
    fails log there is_log new NoMemory (Err other) comes is = subst (λ (e : RerunError). IsAnswer (Err e) (again p fuel logs)) (sym is) tt

    -- a thread without a log
    pub no_log : length logs ≤ t → again p fuel logs ≡ Err (record { thread = t; place = 0 })
    unfolding follow_all_from
    no_log past =
        ap (again_if p) (at.whole
        ∙ ap (λ k. threads_before at.done (follow_all_from p fuel t k (drop t logs))) one_less
        ∙ ap (λ rest. threads_before at.done (follow_all_from p fuel t (suc left) rest)) (drop_of_length-le logs past))

  -- after the last thread
  module _ (r : Rerun) (at : AtThread p fuel logs n r) where
    none_left : n - n ≡ 0
    none_left = omega arith

    whole_last : (rest : List (List LogEntry)) → drop n logs ≡ rest → follow_all p fuel logs ≡ threads_before at.done (follow_all_from p fuel n 0 rest)
    whole_last rest is = at.whole ∙ ap (λ k. threads_before at.done (follow_all_from p fuel n k (drop n logs))) none_left ∙ ap (λ all. threads_before at.done (follow_all_from p fuel n 0 all)) is

    -- a log without a thread
    pub log_left : n < length logs → again p fuel logs ≡ Err (record { thread = n; place = 0 })
    unfolding follow_all_from
    log_left there = ap (again_if p) (whole_last _ (drop-cons logs n [] there))

    seen : rerun_seen r ≡ again_of p at.done
    seen =
        let done = again_of p at.done in
        ap (λ tr. record (rerun_seen r) { traces = tr })
        (at.traces ∙ ap (traces_at p at.done) none_left ∙ ap (λ events. record done.traces { events = events }) (append-nil (map events_in at.done)))
        ∙ ap (λ outputs. record (rerun_seen r) { traces = done.traces; outputs = outputs }) at.outputs
        ∙ ap (λ ends. record done { ends = ends }) at.ends

    pub all_run : length logs ≤ n → again p fuel logs ≡ Ok (rerun_seen r)
    unfolding follow_all_from
    all_run past = ap (again_if p) (whole_last [] (drop_of_length-le logs past) ∙ ap Ok (append-nil at.done)) ∙ ap Ok (sym seen)
