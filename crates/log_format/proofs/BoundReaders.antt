-- The reader of bounds, and the bytes of a bound that it takes.
use Rattle.std.proofs.Common.{◌≡◌, ℕ, ◌+◌, ◌*◌, ◌-◌, ◌/◌, ◌%◌, ◌≤◌, ◌<◌, Bool, false, ltb, eqb, cond, ◌⊎◌, List, [], Option, Some, None, Result, Ok, Err, refl, sym, ap, subst, ◌∙◌, arith, inl, inr}
use Rattle.std.proofs.lemmas.Bool.{cases_lt, ltb-true, ltb-false, lt-ltb, le-ltb, eqb-true, eqb-false, eq-eqb, ne_eqb}
use Rattle.log_format.specs.declared.fault.Fault.{Fault}
use Rattle.log_format.specs.declared.format_error.FormatKind.TheVariants.{BadCount}
use Rattle.log_format.specs.declared.version.Size.TheVariants.{Bits32, Bits64}
use Rattle.log_format.specs.declared.version.Version.{Version}
use Rattle.log_format.specs.declared.version.Version.TheVariants.{One, Two}
use Rattle.log_format.specs.Laws.{IsUnfinished}
use Rattle.log_format.specs.Reading.{fault, number_at, of_32_bits, bound_by, stepped, bound_at}
use Rattle.log_format.specs.Spelling.{greatest, step_between, bound_bytes}
use Rattle.log_format.proofs.NumberReaders.{IsNumber, number_begins, number_is_some, number_of_nothing, number_reads, number_unfinished}
use Rattle.log_format.proofs.Readers.{chosen, ok_is, Reads, Begins, IsSome, begins_as_number, reads_as, Judged, reads_judged, unfinished_judged}

-- ---- bounds

of_32_takes : (n bound : ℕ) → of_32_bits n ≡ Some bound → (n ≡ bound) × (bound ≤ greatest Bits32)
of_32_takes n bound e =
    elim (chosen (ltb (greatest Bits32) n) None (Some n) (Some bound) e) [
      | inl none ↦ (let no = none.1 in absurd cc)
      | inr some ↦ (
          let is = some.1 in
          let same : n ≡ bound = cc in
          let low : n ≤ greatest Bits32 = ltb-false _ _ some.0 in
          (same, omega arith))
    ]

pub up_step : (before bound : ℕ) → before ≤ bound → step_between before bound ≡ 2 * (bound - before)
up_step before bound up = ap (λ b. cond b (2 * (before - bound) - 1) (2 * (bound - before))) (le-ltb bound before up)

pub down_step : (before bound : ℕ) → bound < before → step_between before bound ≡ 2 * (before - bound) - 1
down_step before bound down = ap (λ b. cond b (2 * (before - bound) - 1) (2 * (bound - before))) (lt-ltb bound before down)

-- the bound to which a step leads, by whether the step is even and whether the way down is within what there is
abbrev stepping : Bool → Bool → ℕ → ℕ → Option ℕ
stepping even inside before half = cond even (of_32_bits (before + half)) (cond inside (of_32_bits (before - half - 1)) None)

-- the step that leads to a bound is the one between
step_takes : (before step bound : ℕ) → bound_by before step ≡ Some bound → (step ≡ step_between before bound) × (bound ≤ greatest Bits32)
step_takes before step bound e =
    elim (chosen (eqb (step % 2) 0) (of_32_bits (before + step / 2)) (cond (ltb (step / 2) before) (of_32_bits (before - step / 2 - 1)) None) (Some bound) e) [
      | inl even ↦ (
          let t = of_32_takes (before + step / 2) bound even.1 in
          let half : step % 2 ≡ 0 = eqb-true _ _ even.0 in
          let up : before ≤ bound = omega (arith, t.0) in
          let is : step ≡ 2 * (bound - before) = omega (arith, t.0) in
          (is ∙ sym (up_step before bound up), t.1))
      | inr odd ↦ elim (chosen (ltb (step / 2) before) (of_32_bits (before - step / 2 - 1)) None (Some bound) odd.1) [
        | inl down ↦ (
            let t = of_32_takes (before - step / 2 - 1) bound down.1 in
            let half : step % 2 ≡ 0 → ⊥ = eqb-false _ _ odd.0 in
            let inside : step / 2 < before = ltb-true _ _ down.0 in
            let below : bound < before = omega (arith, t.0) in
            let is : step ≡ 2 * (before - bound) - 1 = omega (arith, t.0) in
            (is ∙ sym (down_step before bound below), t.1))
        | inr out ↦ (let no = out.1 in absurd cc)
      ]
    ]

of_32_again : (n : ℕ) → n ≤ greatest Bits32 → of_32_bits n ≡ Some n
of_32_again n low = ap (λ b. cond b None (Some n)) (le-ltb (greatest Bits32) n low)

-- the step between leads to the bound
step_again : (before bound : ℕ) → bound ≤ greatest Bits32 → bound_by before (step_between before bound) ≡ Some bound
step_again before bound low =
    elim (cases_lt bound before) [
      | inl down ↦ (
          let step = 2 * (before - bound) - 1 in
          let odd : step % 2 ≡ 0 → ⊥ = omega arith in
          let inside : step / 2 < before = omega arith in
          let is : before - step / 2 - 1 ≡ bound = omega arith in
          ap (bound_by before) (down_step before bound down) ∙ ap (λ b. stepping b (ltb (step / 2) before) before (step / 2)) (ne_eqb _ _ odd) ∙ ap (λ b. stepping false b before (step / 2)) (lt-ltb _ _ inside) ∙ ap of_32_bits is ∙ of_32_again bound low)
      | inr up ↦ (
          let step = 2 * (bound - before) in
          let even : step % 2 ≡ 0 = omega arith in
          let is : before + step / 2 ≡ bound = omega arith in
          ap (bound_by before) (up_step before bound up) ∙ ap (λ b. stepping b (ltb (step / 2) before) before (step / 2)) (eq-eqb _ _ even) ∙ ap of_32_bits is ∙ of_32_again bound low)
    ]

-- the bound is one of 32 bits, and in version 2 the way to it is one of 64
abbrev pub BoundFits : Version → ℕ → ℕ → Type 0
BoundFits One before bound = bound ≤ greatest Bits32
BoundFits Two before bound = (bound ≤ greatest Bits32) × (step_between before bound ≤ greatest Bits64)

-- the text is the bytes of a bound after another one
abbrev pub IsBound : Version → ℕ → ℕ → List ℕ → Type 0
IsBound version before bound text = BoundFits version before bound × (text ≡ bound_bytes version before bound)

-- the bound by a step that was read
abbrev by_step : ℕ → ℕ → List ℕ → List ℕ → Result (ℕ × List ℕ) Fault
by_step before step bytes rest = stepped (bound_by before step) bytes rest

stepped_some : (o : Option ℕ) (bound : ℕ) → stepped o [] [] ≡ Ok (bound, []) → o ≡ Some bound
stepped_some (Some n) bound e = ap (λ (p : ℕ × List ℕ). Some p.0) (ok_is (n, []) (bound, []) e)
stepped_some None bound e = absurd cc

stepped_verdict : (o : Option ℕ) → ((bytes rest : List ℕ) → stepped o bytes rest ≡ Err (fault BadCount bytes)) ⊎ ((y : ℕ) × ((bytes rest : List ℕ) → stepped o bytes rest ≡ Ok (y, rest)))
stepped_verdict (Some n) = inr (n, λ bytes rest. refl)
stepped_verdict None = inl (λ bytes rest. refl)

to_bound : (before bound : ℕ) (text : List ℕ) → Judged (IsNumber Two Bits64) (by_step before) bound text → IsBound Two before bound text
to_bound before bound text j =
    let t = step_takes before j.value bound (stepped_some (bound_by before j.value) bound (j.passes [] [])) in
    let is = subst (λ step. IsNumber Two Bits64 step text) t.0 j.is in
    ((t.1, is.0), is.1)

from_bound : (before bound : ℕ) (text : List ℕ) → IsBound Two before bound text → Judged (IsNumber Two Bits64) (by_step before) bound text
from_bound before bound text is = record { value = step_between before bound; is = (is.0.1, is.1); passes = λ bytes rest. ap (λ o. stepped o bytes rest) (step_again before bound is.0.0) }

pub bound_reads : (version : Version) (before : ℕ) → Reads (bound_at version before) (IsBound version before)
unfolding bound_at
bound_reads One before = number_reads One Bits32
bound_reads Two before =
    reads_as (bound_at Two before) (Judged (IsNumber Two Bits64) (by_step before)) (IsBound Two before) (to_bound before) (from_bound before)
    (reads_judged (number_at Two Bits64) (by_step before) (IsNumber Two Bits64) BadCount tt (λ step. stepped_verdict (bound_by before step)) (number_of_nothing Two Bits64) (number_reads Two Bits64))

-- the bound stays
pub a_bound : (version : Version) (before : ℕ) → before ≤ greatest Bits32 → IsSome (IsBound version before)
a_bound One before low = record { value = before; text = bound_bytes One before before; is = (low, refl) }
a_bound Two before low =
    let none : step_between before before ≤ greatest Bits64 = omega (arith, up_step before before (omega arith)) in
    record { value = before; text = bound_bytes Two before before; is = ((low, none), refl) }

pub bound_begins : (version : Version) (before : ℕ) → before ≤ greatest Bits32 → Begins (bound_at version before) (IsBound version before) (IsUnfinished version)
unfolding bound_at a_bound
bound_begins One before low = number_begins One Bits32
bound_begins Two before low =
    begins_as_number (bound_at Two before) (IsBound Two before) (IsUnfinished Two) (a_bound Two before low) (number_is_some Two Bits64 (step_between before before))
    (unfinished_judged (number_at Two Bits64) (by_step before) (IsNumber Two Bits64) BadCount tt (λ step. stepped_verdict (bound_by before step)) (IsUnfinished Two) (number_unfinished Two Bits64))
