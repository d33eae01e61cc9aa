-- What `bundle` puts is the bundle of the recording that was made.
use Rattle.std.proofs.Common.{◌≡◌, ◌∙◌, ℕ, ◌<◌, ◌≤◌, List, Result, Ok, Err, IfOk, sym, ap, subst, length}
use Rattle.stride_isa.specs.Listing.{Listing}
use Rattle.stride_base.specs.Listed.{Listed}
use Rattle.stride_base.specs.declared.limits.TheConstants.{INPUT_LIMIT}
use Rattle.assembler.specs.Canonical.{canonical, canonical_limit}
use Rattle.assembler.specs.Programs.{spelled}
use Rattle.interleavings.specs.declared.event.LogEntry.{LogEntry}
use Rattle.log_format.specs.Bundles.{Bundled, IsInRange}
use Rattle.log_format.specs.Spelling.{spelling}
use Rattle.log_format.specs.declared.version.Version.TheVariants.{Two}
use Rattle.stride_cli.specs.Again.{IsLogged}
use Rattle.stride_cli.specs.Answers.{done}
use Rattle.stride_cli.specs.LiveAnswers.{AnswersLiveBundle, bundle_of}
use Rattle.stride_cli.specs.Settings.{Limits}
use Rattle.stride_cli.proofs.BundleLengths.{spelling_short}

-- a bundle of such a text and such logs
abbrev bundled : Limits → List ℕ → List (List LogEntry) → Bundled
bundled limits text logs = record { fuel = limits.fuel; text = text; logs = logs }

pub bundle_answers : (limits : Limits) (p : Listing) (logs : List (List LogEntry)) (text report : List ℕ) → IsLogged limits p logs → text ≡ canonical p → length text < canonical_limit → spelled text ≡ Ok p → report ≡ spelling Two (bundled limits text logs) → IsInRange Two (bundled limits text logs) → AnswersLiveBundle limits p (done report)
bundle_answers limits p logs text report logged printed short read_back put fits =
    let same : bundled limits text logs ≡ bundle_of limits p logged.recording = ap (λ t. bundled limits t logs) printed ∙ ap (bundled limits (canonical p)) (sym logged.logs_are) in
    let P : Bundled → Type 0 = λ b. length (spelling Two b) ≤ INPUT_LIMIT in
    let Q : List ℕ → Type 0 = λ t. spelled t ≡ Ok p in
    record {
      recording = logged.recording;
      recorded = logged.recorded;
      fits = subst (IsInRange Two) same fits;
      short = subst P same (spelling_short (bundled limits text logs) short fits);
      text = subst Q printed read_back;
      shows = ap done (put ∙ ap (spelling Two) same);
    }

-- the same of a spelling that want of memory may have kept from being made
pub bundle_if_made : {E : Type 0} (limits : Limits) (p : Listing) (logs : List (List LogEntry)) (text : List ℕ) (result : Result (Listed ℕ) E) → IsLogged limits p logs → text ≡ canonical p → length text < canonical_limit → spelled text ≡ Ok p → IfOk result (λ bytes. bytes.items ≡ spelling Two (bundled limits text logs)) → IfOk result (λ _. IsInRange Two (bundled limits text logs)) → IfOk result (λ report. AnswersLiveBundle limits p (done report.items))
bundle_if_made limits p logs text (Ok bytes) logged printed short read_back put fits = bundle_answers limits p logs text bytes.items logged printed short read_back put fits
bundle_if_made limits p logs text (Err e) logged printed short read_back put fits = tt
