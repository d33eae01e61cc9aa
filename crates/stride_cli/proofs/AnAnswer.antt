-- Words and bytes have an answer.
use Rattle.std.proofs.Common.{◌≡◌, ◌≤◌, ◌⊎◌, inl, inr, ℕ, Bool, true, false, List, Option, Some, None, Result, Ok, Err, refl, length, nat_lt}
use Rattle.std.specs.Bool.{MatchBool}
use Rattle.stride_base.specs.declared.limits.TheConstants.{INPUT_LIMIT}
use Rattle.stride_isa.specs.Laws.{HasVerdict}
use Rattle.stride_isa.specs.Listing.{Listing}
use Rattle.stride_isa.specs.Validity.{IsValid}
use Rattle.assembler.specs.Canonical.{canonical}
use Rattle.interleavings.specs.declared.traces.Place.{Place}
use Rattle.interleavings.specs.Following.{Divergence, Followed, follow_all}
use Rattle.interleavings.specs.TraceLists.{TraceLists}
use Rattle.linkage.specs.Answers.{IsWhole}
use Rattle.linkage.specs.Laws.{LinksOrRefusal}
use Rattle.linkage.specs.Refusals.{IsFirstRefusal}
use Rattle.linkage.specs.declared.link_error.LinkError.{LinkError}
use Rattle.event_order.specs.Cycles.{IsCycle, IsTheCycle}
use Rattle.event_order.specs.DirectOrder.{LinkRows}
use Rattle.event_order.specs.Laws.{ExtensionsAreRuns, LeastOrCycle, traces_of}
use Rattle.event_order.specs.Least.{IsLeast}
use Rattle.command_words.specs.Laws.{LineOrNone}
use Rattle.command_words.specs.Words.{HasLine, IsNoLine, Word}
use Rattle.log_format.specs.Bundles.{Bundled}
use Rattle.log_format.specs.Laws.{FuelIsInRange}
use Rattle.log_format.specs.Reading.{reading, Refusal as FormatRefusal}
use Rattle.stride_cli.specs.declared.words.Command.{Command}
use Rattle.stride_cli.specs.declared.words.Command.TheVariants.{Demo, Check, Follow, Infer, Replay, Show, Sim, Upgrade}
use Rattle.stride_cli.specs.declared.status.Status.TheVariants.{Bundle, Diverges, Usage, TooLong}
use Rattle.stride_cli.specs.Answers.{Answer, AnswersBundle, AnswersBy, AnswersCanonical, AnswersFollowed, AnswersInference, AnswersInput, AnswersLinks, AnswersLogs, AnswersOrder, AnswersRun, AnswersSimulated, IsAnswer, circular, done, followed, order_of, program_part, refused, shown, unlinked, upgraded}
use Rattle.stride_cli.specs.Inferring.{Circular, Diverging, Inference, Inferred, IsInferred, IsInferredBy, IsInferredOf, Ordered, Unlinked}
use Rattle.stride_cli.specs.Laws.{AnAnswer}
use Rattle.stride_cli.specs.Reports.{infer_report, replay_report}
use Rattle.stride_cli.specs.Settings.{Limits, limits_of}
use Rattle.stride_cli.specs.Words.{given, reads, offline_named}
use Rattle.stride_cli.proofs.LeastRuns.{least_runs}
use Rattle.stride_cli.proofs.Readings.{in_range}
use Rattle.demo.specs.Laws.{DemoOrdersNameThreads, DemoProgramsAreValid}
use Rattle.stride_cli.proofs.Demonstrations.{demo_answer}
use Rattle.stride_cli.proofs.Simulations.{Laws as Recorded, simulation}
use Rattle.stride_cli.proofs.Texts.{order_answer, text_answer}

-- what the laws say of words, of verdicts, of bundles, of linking, of the direct order and of recordings
pub record Laws : Type 0 where
  pub line : LineOrNone
  pub verdict : HasVerdict
  pub links : LinksOrRefusal
  pub order : LeastOrCycle
  pub runs : ExtensionsAreRuns
  pub fuel : FuelIsInRange
  pub recordings : Recorded
  pub demos : DemoProgramsAreValid
  pub orders : DemoOrdersNameThreads

-- events come to something
by_order : (traces : TraceLists) (links : LinkRows) → IsWhole traces links → ((schedule : List ℕ) × IsLeast traces links schedule) ⊎ ((cycle : List Place) × IsTheCycle traces links cycle × IsCycle traces links cycle) → (inference : Inference) × IsInferredOf traces inference
by_order traces links whole (inl least) = (Ordered (record { links = links; schedule = least.0 }), (whole, least.1))
by_order traces links whole (inr cycle) = (Circular cycle.0, (links, (whole, cycle.1)))

by_links : Laws → (traces : TraceLists) → ((links : LinkRows) × IsWhole traces links) ⊎ ((refusal : LinkError) × IsFirstRefusal traces refusal) → (inference : Inference) × IsInferredOf traces inference
by_links there traces (inl links) = by_order traces links.0 links.1 (there.order traces links.0 links.1.linked)
by_links there traces (inr refusal) = (Unlinked refusal.0, refusal.1)

-- threads that were followed come to something
inference : Laws → (p : Listing) (r : Result (List Followed) Divergence) → (inference : Inference) × IsInferredBy p r inference
inference there p (Err divergence) = (Diverging divergence, refl)
inference there p (Ok all) = by_links there (traces_of p all) (there.links (traces_of p all))

module _ (there : Laws) (bytes : List ℕ) where
  -- what logs come to has an answer of `infer`
  shown_links : (bundle : Bundled) → reading bytes ≡ Ok bundle → (p : Listing) → IsValid p → (inference : Inference) → IsInferred p bundle.fuel bundle.logs inference → (answer : Answer) × AnswersInference (AnswersLinks p bundle) inference answer
  shown_links bundle reads p valid (Diverging divergence) is = (refused (Diverges divergence.thread divergence.place), refl)
  shown_links bundle reads p valid (Unlinked refusal) is = (refused (unlinked refusal), refl)
  shown_links bundle reads p valid (Circular cycle) is = (refused (circular cycle), refl)
  shown_links bundle reads p valid (Ordered inferred) is = (done (infer_report inferred.links inferred.schedule), refl)

  -- the least schedule of threads that were followed has a run
  shown_order : (bundle : Bundled) → reading bytes ≡ Ok bundle → (p : Listing) → IsValid p → (all : List Followed) → follow_all p bundle.fuel bundle.logs ≡ Ok all → (inferred : Inferred) → IsInferredOf (traces_of p all) (Ordered inferred) → (answer : Answer) × AnswersRun p bundle inferred answer
  shown_order bundle reads p valid all follows inferred is =
      let run = least_runs there.runs p valid bundle.fuel (there.fuel bytes bundle reads).0 bundle.logs all follows inferred is in
      (done (replay_report inferred.schedule run.machine), record { machine = run.machine; runs = run.runs; shows = refl })

  by_followed : (bundle : Bundled) → reading bytes ≡ Ok bundle → (p : Listing) → IsValid p → (r : Result (List Followed) Divergence) → follow_all p bundle.fuel bundle.logs ≡ r → (inferred : Inferred) → IsInferredBy p r (Ordered inferred) → (answer : Answer) × AnswersRun p bundle inferred answer
  by_followed bundle reads p valid (Err divergence) follows inferred is = absurd (cc)
  by_followed bundle reads p valid (Ok all) follows inferred is = shown_order bundle reads p valid all follows inferred is

  -- what logs come to has an answer of `replay`
  shown_run : (bundle : Bundled) → reading bytes ≡ Ok bundle → (p : Listing) → IsValid p → (inference : Inference) → IsInferred p bundle.fuel bundle.logs inference → (answer : Answer) × AnswersInference (AnswersRun p bundle) inference answer
  shown_run bundle reads p valid (Diverging divergence) is = (refused (Diverges divergence.thread divergence.place), refl)
  shown_run bundle reads p valid (Unlinked refusal) is = (refused (unlinked refusal), refl)
  shown_run bundle reads p valid (Circular cycle) is = (refused (circular cycle), refl)
  shown_run bundle reads p valid (Ordered inferred) is = by_followed bundle reads p valid (follow_all p bundle.fuel bundle.logs) refl inferred is

  module _ (Shows : Listing → Bundled → Inferred → Answer → Type 0) (shown : (bundle : Bundled) → reading bytes ≡ Ok bundle → (p : Listing) → IsValid p → (inference : Inference) → IsInferred p bundle.fuel bundle.logs inference → (answer : Answer) × AnswersInference (Shows p bundle) inference answer) where
    logs_answer : (bundle : Bundled) → reading bytes ≡ Ok bundle → (p : Listing) → IsValid p → (answer : Answer) × AnswersLogs Shows bundle p answer
    logs_answer bundle reads p valid =
        let found = inference there p (follow_all p bundle.fuel bundle.logs) in
        let answered = shown bundle reads p valid found.0 found.1 in
        (answered.0, (found.0, (found.1, answered.1)))

    bundle_answer : (r : Result Bundled FormatRefusal) → reading bytes ≡ r → (answer : Answer) × AnswersBundle Shows r answer
    bundle_answer (Err refusal) reads = (refused (Bundle refusal.kind refusal.offset), refl)
    bundle_answer (Ok bundle) reads = text_answer bundle.text (AnswersLogs Shows bundle) there.verdict (logs_answer bundle reads)

input_answer : Laws → (limits : Limits) → 1 ≤ limits.fuel → (command : Command) (bytes : List ℕ) → (answer : Answer) × AnswersInput limits command bytes answer
input_answer there limits some Check bytes = text_answer bytes AnswersCanonical there.verdict (λ p valid. (done (canonical p), refl))
input_answer there limits some Follow bytes =
    text_answer (program_part bytes) (λ p. AnswersOrder (order_of bytes) (AnswersFollowed limits p)) there.verdict (λ p valid. order_answer (AnswersFollowed limits p) (λ order. (followed limits p order, refl)) (order_of bytes))
input_answer there limits some Sim bytes =
    text_answer (program_part bytes) (λ p. AnswersOrder (order_of bytes) (AnswersSimulated limits p)) there.verdict (λ p valid. order_answer (AnswersSimulated limits p) (simulation there.recordings limits some p valid) (order_of bytes))
input_answer there limits some Show bytes = (shown (reading bytes), refl)
input_answer there limits some Upgrade bytes = (upgraded (reading bytes), refl)
input_answer there limits some Infer bytes = bundle_answer there bytes AnswersLinks (shown_links there bytes) (reading bytes) refl
input_answer there limits some Replay bytes = bundle_answer there bytes AnswersRun (shown_run there bytes) (reading bytes) refl
input_answer there limits some (Demo number) bytes = demo_answer there.recordings there.demos there.orders number

by_length : Laws → (limits : Limits) → 1 ≤ limits.fuel → (too_long : Bool) (command : Command) (bytes : List ℕ) → (answer : Answer) × MatchBool too_long (answer ≡ refused TooLong) (AnswersInput limits command bytes answer)
by_length there limits some true command bytes = (refused TooLong, refl)
by_length there limits some false command bytes = input_answer there limits some command bytes

by_command : Laws → (limits : Limits) → 1 ≤ limits.fuel → (named : Option Command) (bytes : List ℕ) → (answer : Answer) × AnswersBy limits named bytes answer
by_command there limits some None bytes = (refused Usage, refl)
by_command there limits some (Some command) bytes =
    let read = given (reads command) bytes in
    by_length there limits some (nat_lt INPUT_LIMIT (length read)) command read

by_words : Laws → (words : List Word) (bytes : List ℕ) → HasLine words ⊎ IsNoLine words → (answer : Answer) × IsAnswer words bytes answer
by_words there words bytes (inl line) =
    let found = by_command there (limits_of line.0) (in_range words line.0 line.1).some_fuel (offline_named line.0.command) bytes in
    (found.0, inl (line.0, line.1, found.1))
by_words there words bytes (inr none) = (refused Usage, inr (none, refl))

pub an_answer : Laws → AnAnswer
an_answer there = λ words bytes. by_words there words bytes (there.line words)
