-- What holds of the order of a demonstration.
use Rattle.std.proofs.Common.{◌≡◌, ℕ, zero, suc, ◌+◌, ◌*◌, ◌<◌, ◌≤◌, ◌∙◌, add-one, ap, arith, length, length-append}
use Rattle.std.proofs.Math.Nat.{mul-le-mul_left}
use Rattle.std.proofs.lemmas.List.Elements.{All-append, All-map, recursion_from_All}
use Rattle.std.proofs.lemmas.List.FromFn.{length-map-range_with_len, length-range_with_len}
use Rattle.std.specs.List.{All, range_with_len, sum_by}
use Rattle.demo.specs.Demo.{demo_order, drawn_part, drawn_thread, even_part, place_of, rounds_of, thread_count, threads_of, total_rounds, turns}
use Rattle.demo.specs.Laws.{DemoOrdersNameThreads}
use Rattle.demo.proofs.ListLemmas.{All-concat-replicate, All-range, length-concat-replicate, sum_by-range_more}
use Rattle.demo.proofs.ProgramLemmas.{thread_count_few, thread_count_some}

rounds_few : (number thread : ℕ) → rounds_of number thread ≤ 500
unfolding rounds_of
rounds_few number thread = omega arith

all_rounds_few : (number count : ℕ) → sum_by (rounds_of number) (range_with_len 0 count) ≤ 500 * count
all_rounds_few number zero = omega arith
all_rounds_few number (suc count) =
    let more = rw (add-one count) at (sum_by-range_more (rounds_of number) count) in
    omega (arith, more, all_rounds_few number count, rounds_few number count)

turns_few : (number : ℕ) → turns number ≤ 512000
unfolding turns total_rounds threads_of
turns_few number = omega (arith, all_rounds_few number (thread_count number), thread_count_few number)

drawn_part_long : (number : ℕ) → length (drawn_part number) ≡ turns number
unfolding drawn_part
drawn_part_long number = length-map-range_with_len (drawn_thread number) (place_of (thread_count number)) (turns number)

even_part_long : (number : ℕ) → length (even_part number) ≡ turns number * thread_count number
unfolding even_part threads_of
even_part_long number =
    length-concat-replicate (turns number) (range_with_len 0 (thread_count number)) ∙ ap (λ n. turns number * n) (length-range_with_len 0 (thread_count number))

drawn_part_named : (number : ℕ) → All (λ thread. thread < thread_count number) (drawn_part number)
unfolding drawn_part
drawn_part_named number = All-map (λ thread. thread < thread_count number) (drawn_thread number) (range_with_len (place_of (thread_count number)) (turns number)) (λ k d inside. omega (arith, thread_count_some number))

even_part_named : (number : ℕ) → All (λ thread. thread < thread_count number) (even_part number)
unfolding even_part threads_of
even_part_named number =
    All-concat-replicate (λ thread. thread < thread_count number) (turns number) (range_with_len 0 (thread_count number)) (All-range (thread_count number))

order_long : (number : ℕ) → length (demo_order number) ≡ turns number + turns number * thread_count number
unfolding demo_order
order_long number = omega (arith, length-append (drawn_part number) (even_part number), drawn_part_long number, even_part_long number)

order_named : (number : ℕ) → All (λ thread. thread < thread_count number) (demo_order number)
unfolding demo_order
order_named number =
    All-append (λ thread. thread < thread_count number) (drawn_part number) (even_part number) (drawn_part_named number) (even_part_named number)

pub demo_orders_named : DemoOrdersNameThreads
demo_orders_named number = record {
  named = recursion_from_All (λ thread. thread < thread_count number) (demo_order number) (order_named number);
  long = order_long number;
  short = omega (arith, order_long number, turns_few number, mul-le-mul_left (turns number) (thread_count_few number));
}
