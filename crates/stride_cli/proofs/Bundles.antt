-- The answer to a bundle, by what became of its text, its logs and its events.
use Rattle.std.proofs.Common.{◌≡◌, ℕ, List, None, Result, Ok, Err, refl, sym, ap, subst}
use Rattle.stride_isa.specs.Listing.{Listing}
use Rattle.stride_isa.specs.Validity.{IsValid}
use Rattle.interleavings.specs.Following.{Divergence, Followed, follow_all}
use Rattle.interleavings.specs.TraceLists.{TraceLists}
use Rattle.log_format.specs.Bundles.{Bundled}
use Rattle.log_format.specs.Reading.{reading, Refusal as FormatRefusal}
use Rattle.assembler.specs.Programs.{LineFault, spelled}
use Rattle.thread_rerun.specs.Rerunning.{Again, IsAnswer, again, again_if, again_of}
use Rattle.thread_rerun.specs.declared.rerun_error.RerunError.{RerunError}
use Rattle.thread_rerun.specs.declared.rerun_error.RerunError.TheVariants as reruns
use Rattle.event_order.specs.Laws.{traces_of}
use Rattle.stride_cli.specs.declared.refusal.Refusal.{Refusal}
use Rattle.stride_cli.specs.declared.refusal.Refusal.TheVariants as refusals
use Rattle.stride_cli.specs.Answers.{Answer, AnswersBundle, AnswersInference, AnswersLogs, AnswersProgram}
use Rattle.stride_cli.specs.Bundles.{IsRerun, Nothing, RefusesEvents}
use Rattle.stride_cli.specs.Gives.{RefusesBy}
use Rattle.stride_cli.specs.Inferring.{Circular, Diverging, Inference, Inferred, IsInferredBy, IsInferredOf, Ordered, Unlinked}
use Rattle.stride_cli.specs.Inputs.{Accepts}
use Rattle.stride_cli.specs.Refusals.{of_rerun}
use Rattle.stride_cli.proofs.Accepted.{lent_refused as text_lent}

-- what follows came to, where running again came to this
pub again_ok : (p : Listing) (r : Result (List Followed) Divergence) (a : Again) → again_if p r ≡ Ok a → (all : List Followed) × ((r ≡ Ok all) × (a.traces ≡ traces_of p all))
again_ok p (Ok all) a is =
    let same : a ≡ again_of p all = (cc) in
    (all, (refl, ap (λ (a : Again). a.traces) same))
again_ok p (Err divergence) a is = absurd (cc)

again_err : (p : Listing) (r : Result (List Followed) Divergence) (d : Divergence) → again_if p r ≡ Err d → r ≡ Err d
again_err p (Ok all) d is = absurd (cc)
again_err p (Err divergence) d is = let same : divergence ≡ d = (cc) in ap Err same

module _ (Shows : Listing → Bundled → Inferred → Answer → Type 0) (bytes : List ℕ) where
  -- what is answered to the program of a bundle is answered to its bytes
  to_program : (bundle : Bundled) (answer : Answer) → reading bytes ≡ Ok bundle → AnswersProgram bundle.text (spelled bundle.text) (AnswersLogs Shows bundle) answer → AnswersBundle Shows (reading bytes) answer
  to_program bundle answer reads is =
      let Q : Result Bundled FormatRefusal → Type 0 = λ r. AnswersBundle Shows r answer in subst Q (sym reads) is

  -- what is answered to the logs of a bundle with a valid program is answered to its bytes
  to_logs : (bundle : Bundled) (p : Listing) (answer : Answer) → reading bytes ≡ Ok bundle → spelled bundle.text ≡ Ok p → IsValid p → AnswersLogs Shows bundle p answer → AnswersBundle Shows (reading bytes) answer
  to_logs bundle p answer reads program valid is =
      let Q : Result Listing LineFault → Type 0 = λ s. AnswersProgram bundle.text s (AnswersLogs Shows bundle) answer in
      to_program bundle answer reads (subst Q (sym program) (None, (valid, is)))

  -- what the events of a bundle come to is answered to its bytes
  pub to_events : (p : Listing) (fuel : ℕ) (traces : TraceLists) (inference : Inference) (answer : Answer) (rerun : IsRerun bytes p fuel traces) → IsInferredOf traces inference → AnswersInference (Shows p rerun.bundle) inference answer → AnswersBundle Shows (reading bytes) answer
  to_events p fuel traces inference answer rerun is shows =
      let P : TraceLists → Type 0 = λ traces. IsInferredOf traces inference in
      let Q : Result (List Followed) Divergence → Type 0 = λ r. IsInferredBy p r inference in
      to_logs rerun.bundle p answer rerun.reads rerun.program rerun.valid
      (inference, (subst Q (sym rerun.follows) (subst P rerun.traces_are is), shows))

  -- the refusal of the text of a bundle, which is lent
  pub lent_refused : (bundle : Bundled) (lent : List ℕ) (refusal : Refusal) → reading bytes ≡ Ok bundle → lent ≡ bundle.text → Accepts lent (Err refusal) → RefusesBy (AnswersBundle Shows (reading bytes)) refusal
  lent_refused bundle lent refusal reads same is =
      let Q : Result Bundled FormatRefusal → Type 0 = λ r. RefusesBy (AnswersBundle Shows r) refusal in
      subst Q (sym reads) (text_lent bundle.text (AnswersLogs Shows bundle) lent refusal same is)

  -- the refusal of logs from which a thread diverges
  pub rerun_refused : (bundle : Bundled) (p : Listing) (error : RerunError) → reading bytes ≡ Ok bundle → spelled bundle.text ≡ Ok p → IsValid p → IsAnswer (Err error) (again p bundle.fuel bundle.logs) → RefusesBy (AnswersBundle Shows (reading bytes)) (of_rerun error)
  rerun_refused bundle p (reruns.Diverges thread place) reads program valid is =
      let divergence : Divergence = record { thread = thread; place = place } in
      let Q : Result (List Followed) Divergence → Type 0 = λ r. IsInferredBy p r (Diverging divergence) in
      (to_logs bundle p _ reads program valid (Diverging divergence, (subst Q (sym (again_err p (follow_all p bundle.fuel bundle.logs) divergence is)) refl, refl)))
  rerun_refused bundle p reruns.NoMemory reads program valid is = tt

  -- what refuses events refuses the bundle, whatever is answered to links with a schedule
  shown_too : (p : Listing) (bundle : Bundled) (inference : Inference) (answer : Answer) → AnswersInference Nothing inference answer → AnswersInference (Shows p bundle) inference answer
  shown_too p bundle (Diverging divergence) answer is = is
  shown_too p bundle (Unlinked refusal) answer is = is
  shown_too p bundle (Circular cycle) answer is = is
  shown_too p bundle (Ordered inferred) answer is = absurd is

  -- the refusal of the events of a bundle
  pub events_refused : (p : Listing) (fuel : ℕ) (traces : TraceLists) (refusal : Refusal) → IsRerun bytes p fuel traces → RefusesEvents traces refusal → RefusesBy (AnswersBundle Shows (reading bytes)) refusal
  events_refused p fuel traces (refusals.NoLinkage fault) rerun is =
      (to_events p fuel traces is.0 _ rerun is.1.0 (shown_too p rerun.bundle is.0 _ is.1.1))
  events_refused p fuel traces (refusals.Program fault) rerun is = absurd is
  events_refused p fuel traces (refusals.Bundle kind offset) rerun is = absurd is
  events_refused p fuel traces (refusals.Diverges thread place) rerun is = absurd is
  events_refused p fuel traces (refusals.NotEnabled place fault) rerun is = absurd is
  events_refused p fuel traces refusals.NoMemory rerun is = tt
