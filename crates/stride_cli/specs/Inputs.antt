-- What reading an input comes to. Only private clauses cite this module.
use Rattle.std.specs.Prelude.{◌≡◌, ◌≤◌, ℕ, List, Result, Ok, Err, length}
use Rattle.stride_isa.specs.Listing.{Listing}
use Rattle.stride_isa.specs.Validity.{IsValid}
use Rattle.stride_base.specs.declared.limits.TheConstants.{ORDER_LIMIT}
use Rattle.assembler.specs.Programs.{spelled}
use Rattle.stride_cli.specs.declared.refusal.Refusal.{Refusal}
use Rattle.stride_cli.specs.declared.refusal.Refusal.TheVariants as refusals
use Rattle.stride_cli.specs.Answers.{Answer, AnswersText, order_of, program_part, refused}
use Rattle.stride_cli.specs.Refusals.{status_of}

-- nothing is answered to a valid program
abbrev pub Unanswered : Listing → Answer → Type 0
Unanswered p answer = ⊥

-- the program is the one that the text spells, and valid; or the refusal is the answer to a text that spells no valid program
abbrev pub Accepts : List ℕ → Result Listing Refusal → Type 0
Accepts text (Ok p) = (spelled text ≡ Ok p) × IsValid p
Accepts text (Err refusals.NoMemory) = Unit {0}
Accepts text (Err refusal) = AnswersText text Unanswered (refused (status_of refusal))

-- the input is this accepted program with this order
pub record IsInput (bytes : List ℕ) (p : Listing) (order : List ℕ) : Type 0 where
  pub program : spelled (program_part bytes) ≡ Ok p
  pub valid : IsValid p
  pub ordered : order_of bytes ≡ Ok order
  pub within : length order ≤ ORDER_LIMIT
