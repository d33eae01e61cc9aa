-- The program and the order of the demonstration of a number.
use Rattle.std.specs.Prelude.{ℕ, ◌+◌, ◌*◌, ◌%◌, List, ◌++◌, map, replicate}
use Rattle.std.specs.List.{concat, range_with_len, sum_by}
use Rattle.stride_isa.specs.Listing.{Listing}
use Rattle.stride_isa.specs.declared.op.Op.{Op}
use Rattle.demo.specs.Draws.{draw}
use Rattle.demo.specs.Program.{program_of, worker}

-- how many threads it has, 2 to 16
unfoldable pub thread_count : ℕ → ℕ
thread_count number = 2 + draw number 1 % 15

-- the place of a thread's first draw; each thread has two, from place 2 on
abbrev pub place_of : ℕ → ℕ
place_of thread = 2 + 2 * thread

-- how many rounds a thread makes, 10 to 500, by its first draw
unfoldable pub rounds_of : ℕ → ℕ → ℕ
rounds_of number thread = 10 + draw number (place_of thread) % 491

-- what a thread adds to the total in each round, 1 to 1000, by its second draw
unfoldable pub amount_of : ℕ → ℕ → ℕ
amount_of number thread = 1 + draw number (place_of thread + 1) % 1000

-- the numbers of the threads, from 0 on
unfoldable pub threads_of : ℕ → List ℕ
threads_of number = range_with_len 0 (thread_count number)

-- how many rounds all threads make together
unfoldable pub total_rounds : ℕ → ℕ
total_rounds number = sum_by (rounds_of number) (threads_of number)

-- the code of a thread
abbrev pub code_of : ℕ → ℕ → List Op
code_of number thread = worker (rounds_of number thread) (amount_of number thread)

-- the program of the demonstration
unfoldable pub demo_program : ℕ → Listing
demo_program number = program_of (map (code_of number) (threads_of number))

-- how many members of the order are drawn, and how many times it names all threads then: 64 for each round of each thread
unfoldable pub turns : ℕ → ℕ
turns number = 64 * total_rounds number

-- the thread that a place of the sequence draws
abbrev pub drawn_thread : ℕ → ℕ → ℕ
drawn_thread number place = draw number place % thread_count number

-- the first part of the order: threads that are drawn one after another, by the draws after those of all threads
unfoldable pub drawn_part : ℕ → List ℕ
drawn_part number = map (drawn_thread number) (range_with_len (place_of (thread_count number)) (turns number))

-- the second part: all threads in turn, again and again
unfoldable pub even_part : ℕ → List ℕ
even_part number = concat (replicate (turns number) (threads_of number))

-- the order of the demonstration
unfoldable pub demo_order : ℕ → List ℕ
demo_order number = drawn_part number ++ even_part number
