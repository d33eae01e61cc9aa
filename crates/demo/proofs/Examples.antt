-- The definitions on a demonstration whose figures were found by hand: that of 6116.
use Rattle.std.proofs.Common.{◌≡◌, [], ◌∷◌, refl}
use Rattle.demo.specs.Demo.{amount_of, rounds_of, thread_count, threads_of, total_rounds, turns}
use Rattle.demo.specs.Draws.{draw}

-- its first draws
first_draw : draw 6116 1 ≡ 15
unfolding draw
first_draw = refl

second_draw : draw 6116 2 ≡ 1199
unfolding draw
second_draw = refl

third_draw : draw 6116 3 ≡ 24462
unfolding draw
third_draw = refl

fourth_draw : draw 6116 4 ≡ 65225
unfolding draw
fourth_draw = refl

fifth_draw : draw 6116 5 ≡ 42211
unfolding draw
fifth_draw = refl

-- it has two threads
two_threads : threads_of 6116 ≡ 0 ∷ 1 ∷ []
unfolding draw thread_count threads_of
two_threads = refl

-- the rounds and the amount of each
first_rounds : rounds_of 6116 0 ≡ 227
unfolding draw rounds_of
first_rounds = refl

first_amount : amount_of 6116 0 ≡ 463
unfolding draw amount_of
first_amount = refl

second_rounds : rounds_of 6116 1 ≡ 423
unfolding draw rounds_of
second_rounds = refl

second_amount : amount_of 6116 1 ≡ 212
unfolding draw amount_of
second_amount = refl

-- all rounds, and 64 times as many turns
all_rounds : total_rounds 6116 ≡ 650
unfolding draw thread_count threads_of rounds_of total_rounds
all_rounds = refl

all_turns : turns 6116 ≡ 41600
unfolding draw thread_count threads_of rounds_of total_rounds turns
all_turns = refl
