-- A text and an order have an answer, and one at most, where what they spell has.
use Rattle.std.proofs.Common.{◌≡◌, ◌∙◌, ℕ, List, Option, Some, None, Result, Ok, Err, refl, sym, subst}
use Rattle.stride_isa.specs.Faults.{Fault, IsVerdict}
use Rattle.stride_isa.specs.Laws.{HasVerdict, OneVerdict}
use Rattle.stride_isa.specs.Listing.{Listing}
use Rattle.stride_isa.specs.Validity.{IsValid}
use Rattle.assembler.specs.Programs.{LineFault, spelled}
use Rattle.stride_cli.specs.Answers.{Answer, AnswersOrder, AnswersProgram, AnswersText, AnswersVerdict, refused_code, refused_text}

module _ (text : List ℕ) (Accepted : Listing → Answer → Type 0) where
  module _ (each : HasVerdict) (accepted : (p : Listing) → IsValid p → (answer : Answer) × Accepted p answer) where
    by_verdict : (p : Listing) (verdict : Option Fault) → IsVerdict p verdict → (answer : Answer) × AnswersVerdict text verdict (Accepted p) answer
    by_verdict p (Some fault) is = (refused_code text fault, refl)
    by_verdict p None valid = accepted p valid

    by_program : (s : Result Listing LineFault) → (answer : Answer) × AnswersProgram text s Accepted answer
    by_program (Err fault) = (refused_text fault, refl)
    by_program (Ok p) =
        let judgement = each p in
        let answered = by_verdict p judgement.0 judgement.1 in
        (answered.0, (judgement.0, (judgement.1, answered.1)))

    pub text_answer : (answer : Answer) × AnswersText text Accepted answer
    text_answer = by_program (spelled text)

  module _ (one : OneVerdict) (alone : (p : Listing) (answer other : Answer) → Accepted p answer → Accepted p other → answer ≡ other) where
    verdict_once : (p : Listing) (verdict : Option Fault) (answer other : Answer) → AnswersVerdict text verdict (Accepted p) answer → AnswersVerdict text verdict (Accepted p) other → answer ≡ other
    verdict_once p (Some fault) answer other is same = is ∙ sym same
    verdict_once p None answer other is same = alone p answer other is same

    program_once : (s : Result Listing LineFault) (answer other : Answer) → AnswersProgram text s Accepted answer → AnswersProgram text s Accepted other → answer ≡ other
    program_once (Err fault) answer other is same = is ∙ sym same
    program_once (Ok p) answer other is same =
        let P : Option Fault → Type 0 = λ verdict. AnswersVerdict text verdict (Accepted p) answer in
        verdict_once p same.0 answer other (subst P (one p is.0 same.0 is.1.0 same.1.0) is.1.1) same.1.1

    pub text_once : (answer other : Answer) → AnswersText text Accepted answer → AnswersText text Accepted other → answer ≡ other
    text_once answer other is same = program_once (spelled text) answer other is same

module _ (Answers : List ℕ → Answer → Type 0) where
  pub order_answer : ((order : List ℕ) → (answer : Answer) × Answers order answer) → (r : Result (List ℕ) LineFault) → (answer : Answer) × AnswersOrder r Answers answer
  order_answer each (Err fault) = (refused_text fault, refl)
  order_answer each (Ok order) = each order

  pub order_once : ((order : List ℕ) (answer other : Answer) → Answers order answer → Answers order other → answer ≡ other) → (r : Result (List ℕ) LineFault) (answer other : Answer) → AnswersOrder r Answers answer → AnswersOrder r Answers other → answer ≡ other
  order_once alone (Err fault) answer other is same = is ∙ sym same
  order_once alone (Ok order) answer other is same = alone order answer other is same
