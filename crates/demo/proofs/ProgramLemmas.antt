-- What holds of the program of a demonstration.
use Rattle.std.proofs.Common.{◌≡◌, ℕ, ◌≤◌, [], length, map, refl, arith}
use Rattle.std.proofs.lemmas.List.FromFn.{get_or-map-range_with_len, length-map-range_with_len}
use Rattle.std.specs.List.{range_with_len}
use Rattle.stride_isa.specs.Limits.{thread_limit}
use Rattle.demo.specs.Demo.{amount_of, code_of, demo_program, rounds_of, thread_count, threads_of}
use Rattle.demo.specs.Laws.{DemoProgramsAreValid}
use Rattle.demo.proofs.WorkerLemmas.{workers_valid}

pub thread_count_some : (number : ℕ) → 2 ≤ thread_count number
unfolding thread_count
thread_count_some number = omega arith

pub thread_count_few : (number : ℕ) → thread_count number ≤ thread_limit
unfolding thread_count
thread_count_few number = omega arith

pub demo_programs_valid : DemoProgramsAreValid
unfolding demo_program threads_of
demo_programs_valid number =
    let count = thread_count number in
    let long : length (map (code_of number) (range_with_len 0 count)) ≡ count = length-map-range_with_len (code_of number) 0 count in
    record {
      valid = workers_valid (map (code_of number) (range_with_len 0 count)) (rounds_of number) (amount_of number) (λ thread inside. get_or-map-range_with_len (code_of number) 0 count thread thread [] (omega arith) (omega arith));
      decls = refl;
      monitors = refl;
      threads = long;
      some = thread_count_some number;
      few = thread_count_few number;
      cells = refl;
      total_at = refl;
      total_first = refl;
      noise_at = refl;
      noise_first = refl;
      starts = refl;
    }
