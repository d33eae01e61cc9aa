-- The recording of a demonstration, and what is answered to its number.
use Rattle.std.proofs.Common.{◌≡◌, ◌∙◌, ℕ, ◌+◌, ◌<◌, ◌≤◌, Bool, true, false, List, [], ◌∷◌, Option, Some, None, Ok, nat_le, option_map, if◌then◌else◌, refl, sym, ap, subst, arith, length}
use Rattle.std.proofs.lemmas.Bool.{lt-leb}
use Rattle.std.specs.List.{AllByRecursion}
use Rattle.demo.specs.Demo.{demo_order, demo_program, thread_count}
use Rattle.demo.specs.Laws.{DemoOrdersNameThreads, DemoProgramsAreValid}
use Rattle.stride_isa.specs.Listing.{Listing}
use Rattle.sc_machine.specs.Machine.{Machine}
use Rattle.sc_machine.specs.Schedule.{replayed}
use Rattle.interleavings.specs.declared.event.LogEntry.{LogEntry}
use Rattle.interleavings.specs.Driving.{driven, stranger}
use Rattle.interleavings.specs.Following.{follow_all}
use Rattle.stride_cli.specs.Answers.{Answer, AnswersDemo, demo_recording, done, setting_of}
use Rattle.stride_cli.specs.Inferring.{Inferred, Ordered}
use Rattle.stride_cli.specs.Looks.{demo_looks, followed_looks}
use Rattle.stride_cli.specs.Playing.{TellsSummary}
use Rattle.stride_cli.specs.Reports.{summary_report}
use Rattle.stride_cli.specs.Settings.{Limits, demo_limits}
use Rattle.stride_cli.specs.Again.{IsLogged}
use Rattle.stride_cli.specs.Headline.{IsRecordedRun, look_limit}
use Rattle.stride_cli.specs.LiveLooks.{RunLooks}
use Rattle.stride_isa.specs.Validity.{IsValid}
use Rattle.history_laws.specs.Laws.{SchedulesReplayRecordings}
use Rattle.stride_cli.proofs.RecordedRuns.{logged_looks, summary_run}
use Rattle.stride_cli.proofs.Inferences.{Laws as Inferring, one_inference}
use Rattle.stride_cli.proofs.Simulations.{Laws, recording_answer}

-- the first member is known, and so are the rest
known_first : (unknown : Bool) (rest : Option ℕ) → unknown ≡ false → rest ≡ None → (if unknown then Some 0 else option_map (λ place. place + 1) rest) ≡ None
known_first true rest first others = cc
known_first false (Some place) first others = cc
known_first false None first others = refl

-- members that are below the number of threads name threads
pub known_members : (threads : ℕ) (order : List ℕ) → AllByRecursion (λ thread. thread < threads) order → stranger threads order ≡ None
unfolding stranger
known_members threads [] all = refl
known_members threads (thread ∷ rest) all = known_first (nat_le threads thread) (stranger threads rest) (lt-leb threads thread all.0) (known_members threads rest all.1)

-- the order of a demonstration names threads of its program
pub demo_known : DemoProgramsAreValid → DemoOrdersNameThreads → (number : ℕ) → stranger (length (demo_program number).threads) (demo_order number) ≡ None
demo_known programs orders number =
    let P : ℕ → Type 0 = λ count. stranger count (demo_order number) ≡ None in
    subst P (sym (programs number).threads) (known_members (thread_count number) (demo_order number) (orders number).named)

-- a demonstration has an answer
pub demo_answer : Laws → DemoProgramsAreValid → DemoOrdersNameThreads → (number : ℕ) → (answer : Answer) × AnswersDemo number answer
demo_answer laws programs orders number =
    let answered = (recording_answer laws demo_limits (omega arith) (demo_program number) (programs number).valid (demo_order number) (demo_known programs orders number)).1 in (
      done (summary_report (demo_program number) answered.inferred.schedule answered.machine),
      record {
        inferred = answered.inferred;
        ordered = answered.ordered;
        machine = answered.machine;
        runs = answered.runs;
        shows = refl;
      },
    )

some_same : {X : Type 0} {x y : X} → Some x ≡ Some y → x ≡ y
some_same e = cc

ordered_same : (one other : Inferred) → Ordered one ≡ Ordered other → one ≡ other
ordered_same one other e = cc

-- and one at most
pub one_demo : Inferring → (number : ℕ) (answer other : Answer) → AnswersDemo number answer → AnswersDemo number other → answer ≡ other
one_demo laws number answer other is same =
    let p = demo_program number in
    let one : is.inferred ≡ same.inferred = ordered_same is.inferred same.inferred (one_inference laws p (follow_all p demo_limits.fuel (demo_recording number).logs) (Ordered is.inferred) (Ordered same.inferred) is.ordered same.ordered) in
    let machines : is.machine ≡ same.machine = some_same (sym is.runs ∙ ap (λ (i : Inferred). replayed p demo_limits.fuel i.schedule) one ∙ same.runs) in
    is.shows
    ∙ ap (λ (i : Inferred). done (summary_report p i.schedule is.machine)) one
    ∙ ap (λ (m : Machine). done (summary_report p same.inferred.schedule m)) machines
    ∙ sym same.shows

-- the summary of the recording's logs is the answer
pub summary_answers : (number : ℕ) (logs : List (List LogEntry)) (report : List ℕ) (before after : ℕ) → logs ≡ (demo_recording number).logs → TellsSummary (demo_program number) demo_limits.fuel logs report before after → AnswersDemo number (done report)
summary_answers number logs report before after logged told =
    let P : List (List LogEntry) → Type 0 = λ logs. TellsSummary (demo_program number) demo_limits.fuel logs report before after in
    let tells = subst P logged told in
    record { inferred = tells.inferred; ordered = tells.ordered; machine = tells.machine; runs = tells.runs; shows = ap done tells.shows }

-- and their share that of the demonstration
pub summary_looks : (number : ℕ) (logs : List (List LogEntry)) → logs ≡ (demo_recording number).logs → demo_looks number ≡ followed_looks look_limit (demo_program number) (follow_all (demo_program number) demo_limits.fuel logs)
summary_looks number logs logged = ap (λ (all : List (List LogEntry)). followed_looks look_limit (demo_program number) (follow_all (demo_program number) demo_limits.fuel all)) (sym logged)

module _ (number : ℕ) (p : Listing) (limits : Limits) (logs : List (List LogEntry)) (before after : ℕ) (p_is : p ≡ demo_program number) (limits_are : limits ≡ demo_limits) where
  module _ (order : List ℕ) (order_is : order ≡ demo_order number) (logged : logs ≡ (driven (setting_of limits p) order).logs) where
    -- the logs of the order's recording are those of the demonstration
    demo_logs : logs ≡ (demo_recording number).logs
    demo_logs =
        logged
        ∙ ap (λ (l : Limits). (driven (setting_of l p) order).logs) limits_are
        ∙ ap (λ (q : Listing). (driven (setting_of demo_limits q) order).logs) p_is
        ∙ ap (λ (o : List ℕ). (driven (setting_of demo_limits (demo_program number)) o).logs) order_is

    -- so the summary of its logs is the answer
    pub summary_by : (report : List ℕ) → TellsSummary p limits.fuel logs report before after → AnswersDemo number (done report)
    summary_by report told =
        let L : Limits → Type 0 = λ l. TellsSummary p l.fuel logs report before after in
        let Q : Listing → Type 0 = λ q. TellsSummary q demo_limits.fuel logs report before after in
        summary_answers number logs report before after demo_logs (subst Q p_is (subst L limits_are told))

    -- and their share that of the demonstration
    pub looks_by : demo_looks number ≡ followed_looks look_limit p (follow_all p limits.fuel logs)
    looks_by =
        summary_looks number logs demo_logs
        ∙ ap (λ (q : Listing). followed_looks look_limit q (follow_all q demo_limits.fuel logs)) (sym p_is)
        ∙ ap (λ (l : Limits). followed_looks look_limit p (follow_all p l.fuel logs)) (sym limits_are)

  module _ (logged : IsLogged limits p logs) where
    -- the summary of logs of threads that ran beside each other is that of their replay
    pub live_summary : SchedulesReplayRecordings → IsValid p → 1 ≤ limits.fuel → (report : List ℕ) → TellsSummary p limits.fuel logs report before after → IsRecordedRun demo_limits (demo_program number) (summary_report (demo_program number)) report before after
    live_summary replays valid some report told =
        let L : Limits → Type 0 = λ l. IsRecordedRun l p (summary_report p) report before after in
        let Q : Listing → Type 0 = λ q. IsRecordedRun demo_limits q (summary_report q) report before after in
        subst Q p_is (subst L limits_are (summary_run replays limits p logs report before after valid some logged told))

    pub live_looks : after ≤ before + followed_looks look_limit p (follow_all p limits.fuel logs) → RunLooks demo_limits (Ok (demo_program number)) before after
    live_looks looks =
        let L : Limits → Type 0 = λ l. RunLooks l (Ok p) before after in
        let Q : Listing → Type 0 = λ q. RunLooks demo_limits (Ok q) before after in
        subst Q p_is (subst L limits_are (logged_looks limits p logs before after logged looks))
