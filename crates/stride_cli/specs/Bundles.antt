-- What reading a bundle and running its threads again comes to. Only private clauses cite this module.
use Rattle.std.specs.Prelude.{◌≡◌, ◌≤◌, ℕ, List, Ok}
use Rattle.stride_isa.specs.Limits.{fuel_limit}
use Rattle.stride_isa.specs.Listing.{Listing}
use Rattle.stride_isa.specs.Validity.{IsValid}
use Rattle.interleavings.specs.Following.{Followed, follow_all}
use Rattle.interleavings.specs.TraceLists.{IsTraces, TraceLists}
use Rattle.log_format.specs.Bundles.{Bundled}
use Rattle.log_format.specs.Reading.{reading}
use Rattle.assembler.specs.Programs.{spelled}
use Rattle.event_order.specs.Laws.{traces_of}
use Rattle.stride_cli.specs.declared.refusal.Refusal.{Refusal}
use Rattle.stride_cli.specs.declared.refusal.Refusal.TheVariants as refusals
use Rattle.stride_cli.specs.declared.status.Status.TheVariants as statuses
use Rattle.stride_cli.specs.Answers.{Answer, AnswersInference, refused}
use Rattle.stride_cli.specs.Inferring.{Inference, Inferred, IsInferredOf}
use Rattle.stride_cli.specs.Statuses.{fault_seen}

-- the bytes are a bundle of this accepted program with this fuel, whose threads were run again by its logs
pub record IsRerun (bytes : List ℕ) (p : Listing) (fuel : ℕ) (traces : TraceLists) : Type 0 where
  pub bundle : Bundled
  pub reads : reading bytes ≡ Ok bundle
  pub program : spelled bundle.text ≡ Ok p
  pub valid : IsValid p
  pub fuel_is : fuel ≡ bundle.fuel
  pub some : 1 ≤ fuel
  pub most : fuel ≤ fuel_limit
  pub all : List Followed
  pub follows : follow_all p bundle.fuel bundle.logs ≡ Ok all
  pub traces_are : traces ≡ traces_of p all
  pub kept : IsTraces traces

-- nothing is answered to links with a schedule
abbrev pub Nothing : Inferred → Answer → Type 0
Nothing inferred answer = ⊥

-- the refusal is what the events come to; want of memory says nothing
abbrev pub RefusesEvents : TraceLists → Refusal → Type 0
RefusesEvents traces refusals.NoMemory = Unit {0}
RefusesEvents traces (refusals.NoLinkage fault) = (inference : Inference) × (IsInferredOf traces inference × AnswersInference Nothing inference (refused (statuses.NoLinkage (fault_seen fault))))
RefusesEvents traces (refusals.Program fault) = ⊥
RefusesEvents traces (refusals.Bundle kind offset) = ⊥
RefusesEvents traces (refusals.Diverges thread place) = ⊥
RefusesEvents traces (refusals.NotEnabled place fault) = ⊥
