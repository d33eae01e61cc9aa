-- The report of a schedule that was played to its end.
use Rattle.std.proofs.Common.{◌≡◌, ℕ, ◌∙◌, List, length, sym, ap, subst, slice_index, None, Result, Err, unwrap_or}
use Rattle.stride_isa.specs.Listing.{Listing}
use Rattle.sc_machine.specs.Schedule.{refused_place}
use Rattle.assembler.specs.Programs.{LineFault}
use Rattle.replayer.specs.declared.replay_error.ReplayError.{ReplayError}
use Rattle.replayer.specs.declared.replay_error.ReplayError.TheVariants as replays
use Rattle.replayer.specs.Replays.{IsAnswer, IsRefusedAt, IsRunOf, Results}
use Rattle.stride_cli.specs.declared.words.Command.TheVariants.{Follow}
use Rattle.stride_cli.specs.declared.status.Status.TheVariants.{NotEnabled}
use Rattle.stride_cli.specs.Gives.{Refuses}
use Rattle.stride_cli.specs.Inputs.{IsInput}
use Rattle.stride_cli.specs.Refusals.{of_replay}
use Rattle.stride_cli.specs.Answers.{Answer, AnswersFollowed, AnswersInput, AnswersOrder, AnswersProgram, done, followed, member_fault, order_of, played, program_part, refused, refused_member}
use Rattle.stride_cli.specs.Runs.{run_section}
use Rattle.stride_cli.specs.Settings.{Limits}

-- the answer to an accepted program with an order
accepts : (limits : Limits) (bytes : List ℕ) (p : Listing) (order : List ℕ) (answer : Answer) → IsInput bytes p order → followed limits p order ≡ answer → AnswersInput limits Follow bytes answer
accepts limits bytes p order answer input is =
    let P : Result Listing LineFault → Type 0 = λ s. AnswersProgram (program_part bytes) s (λ q. AnswersOrder (order_of bytes) (AnswersFollowed limits q)) answer in
    let Q : Result (List ℕ) LineFault → Type 0 = λ r. AnswersOrder r (AnswersFollowed limits p) answer in
    subst P (sym input.program) (None, (input.valid, subst Q (sym input.ordered) (sym is)))

-- the report of a run is the answer
pub followed_done : (limits : Limits) (bytes : List ℕ) (p : Listing) (order : List ℕ) (results : Results) (report : List ℕ) → IsInput bytes p order → IsRunOf p limits.fuel order results → report ≡ run_section results → AnswersInput limits Follow bytes (done report)
followed_done limits bytes p order results report input run reported =
    accepts limits bytes p order (done report) input
    (ap (λ machine. played machine (refused_member p order (unwrap_or (refused_place p limits.fuel order) 0))) run.runs
    ∙ sym (ap done (reported ∙ ap run_section run.shows)))

-- the refusal of an order that is no schedule
pub place_refused : (limits : Limits) (bytes : List ℕ) (p : Listing) (order : List ℕ) (place : ℕ) → IsInput bytes p order → IsRefusedAt p limits.fuel order place → AnswersInput limits Follow bytes (refused (NotEnabled place (member_fault (length p.threads) (slice_index order place))))
place_refused limits bytes p order place input at =
    let is : followed limits p order ≡ refused_member p order place =
    ap (λ run. played run (refused_member p order (unwrap_or (refused_place p limits.fuel order) 0))) at.no_run
    ∙ ap (λ k. refused_member p order (unwrap_or k 0)) at.first in
    accepts limits bytes p order (refused_member p order place) input is

-- the refusal of the order of an input that was not played
refused_by : (limits : Limits) (bytes : List ℕ) (p : Listing) (order : List ℕ) (error : ReplayError) → IsInput bytes p order → IsAnswer p limits.fuel order (Err error) → Refuses limits Follow bytes (of_replay p order error)
refused_by limits bytes p order (replays.NotEnabled place) input at = place_refused limits bytes p order place input at
refused_by limits bytes p order replays.NoMemory input at = tt

-- the same of an order that is lent
pub replay_refused : (limits : Limits) (bytes : List ℕ) (p : Listing) (order lent : List ℕ) (error : ReplayError) → lent ≡ order → IsInput bytes p order → IsAnswer p limits.fuel lent (Err error) → Refuses limits Follow bytes (of_replay p lent error)
replay_refused limits bytes p order lent error same input = refused_by limits bytes p lent error (subst (IsInput bytes p) (sym same) input)
