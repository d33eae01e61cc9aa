-- The place at which a list is no schedule, along its turns.
use Rattle.std.proofs.Common.{◌≡◌, ℕ, zero, suc, ◌+◌, ◌<◌, Bool, true, false, not, cond, List, [], ◌∷◌, ◌++◌, length, take, drop, slice_index, Option, Some, None, refl, sym, ◌∙◌, ap, arith}
use Rattle.std.proofs.lemmas.List.{take-append-drop, drop_more, length-take-le}
use Rattle.std.specs.List.{find, range_with_len}
use Rattle.std.specs.Option.{option_map, option_and_then, is_some}
use Rattle.stride_isa.specs.Listing.{Listing}
use Rattle.sc_machine.specs.Machine.{Machine, can}
use Rattle.sc_machine.specs.Schedule.{turn, turns, stuck_place, ready, refused_place, finished, replayed}
use Rattle.sc_machine.proofs.Single.{run_of-turns, append_under}

find-alike : {X : Type 0} (f g : X → Bool) → ((x : X) → f x ≡ g x) → (xs : List X) → find f xs ≡ find g xs
find-alike f g alike [] = refl
find-alike f g alike (x ∷ xs) =
    ap (λ b. cond b (Some x) (find f xs)) (alike x) ∙ ap (λ o. cond (g x) (Some x) o) (find-alike f g alike xs)

option_map-cond : (f : ℕ → ℕ) (b : Bool) (x : ℕ) (o : Option ℕ) → option_map f (cond b (Some x) o) ≡ cond b (Some (f x)) (option_map f o)
option_map-cond f true x o = refl
option_map-cond f false x o = refl

-- a search that begins one further finds one more
find-next : (f : ℕ → Bool) (a n : ℕ) → find f (range_with_len (a + 1) n) ≡ option_map suc (find (λ x. f (x + 1)) (range_with_len a n))
find-next f a zero = refl
find-next f a (suc n) =
    ap (λ o. cond (f (a + 1)) (Some (a + 1)) o) (find-next f (a + 1) n)
    ∙ ap (λ x. cond (f (a + 1)) (Some x) (option_map suc (find (λ x. f (x + 1)) (range_with_len (a + 1) n)))) add_one_is
    ∙ sym (option_map-cond suc (f (a + 1)) a (find (λ x. f (x + 1)) (range_with_len (a + 1) n)))
  where
    add_one_is : a + 1 ≡ suc a
    add_one_is = omega arith

-- whether the turns of a prefix of the list come to a machine that is not enabled for its last member
abbrev fails_by : Listing → ℕ → List ℕ → Machine → ℕ → Bool
fails_by p fuel ts m place = not (is_some (turns p fuel (take (place + 1) ts) m))

fails_by-can : (p : Listing) (fuel t : ℕ) (ts : List ℕ) (m : Machine) → can p t m ≡ true → (place : ℕ) → fails_by p fuel (t ∷ ts) m (place + 1) ≡ fails_by p fuel ts (turn p fuel t m) place
unfolding turns
fails_by-can p fuel t ts m e place =
    let next : place + 1 + 1 ≡ suc (place + 1) = omega arith in
    ap (λ n. not (is_some (turns p fuel (take n (t ∷ ts)) m))) next
    ∙ ap (λ b. not (is_some (cond b (turns p fuel (take (place + 1) ts) (turn p fuel t m)) None))) e

find_stuck_at : (p : Listing) (fuel t : ℕ) (ts : List ℕ) (m : Machine) → find (fails_by p fuel ts (turn p fuel t m)) (range_with_len 0 (length ts)) ≡ stuck_place p fuel ts (turn p fuel t m) → (b : Bool) → can p t m ≡ b → find (fails_by p fuel (t ∷ ts) m) (range_with_len 0 (length (t ∷ ts))) ≡ cond b (option_map suc (stuck_place p fuel ts (turn p fuel t m))) (Some 0)
unfolding turns
find_stuck_at p fuel t ts m rest true e =
    let others = find (fails_by p fuel (t ∷ ts) m) (range_with_len 1 (length ts)) in
    ap (λ b. cond (not (is_some (cond b (Some (turn p fuel t m)) None))) (Some 0) others) e
    ∙ find-next (fails_by p fuel (t ∷ ts) m) 0 (length ts)
    ∙ ap (λ o. option_map suc o) (find-alike _ (fails_by p fuel ts (turn p fuel t m)) (fails_by-can p fuel t ts m e) (range_with_len 0 (length ts)) ∙ rest)
find_stuck_at p fuel t ts m rest false e =
    let others = find (fails_by p fuel (t ∷ ts) m) (range_with_len 1 (length ts)) in
    ap (λ b. cond (not (is_some (cond b (Some (turn p fuel t m)) None))) (Some 0) others) e

find-stuck : (p : Listing) (fuel : ℕ) (ts : List ℕ) (m : Machine) → find (fails_by p fuel ts m) (range_with_len 0 (length ts)) ≡ stuck_place p fuel ts m
unfolding stuck_place
find-stuck p fuel [] m = refl
find-stuck p fuel (t ∷ ts) m = find_stuck_at p fuel t ts m (find-stuck p fuel ts (turn p fuel t m)) (can p t m) refl

-- a list is refused at the first member that is not enabled when its turn comes
pub refused_place-stuck : (p : Listing) (fuel : ℕ) (schedule : List ℕ) → refused_place p fuel schedule ≡ stuck_place p fuel schedule (ready p fuel)
refused_place-stuck p fuel schedule =
    find-alike _ (fails_by p fuel schedule (ready p fuel)) (λ place. ap (λ o. not (is_some o)) (run_of-turns p fuel (take (place + 1) schedule))) (range_with_len 0 (length schedule))
    ∙ find-stuck p fuel schedule (ready p fuel)

-- turns in two parts
pub turns-append : (p : Listing) (fuel : ℕ) (xs ys : List ℕ) (m : Machine) → turns p fuel (xs ++ ys) m ≡ option_and_then (turns p fuel ys) (turns p fuel xs m)
unfolding turns
turns-append p fuel [] ys m = refl
turns-append p fuel (t ∷ xs) ys m = append_under (can p t m) (turns p fuel ys) _ _ (turns-append p fuel xs ys (turn p fuel t m))

made_under : (b : Bool) (turned : Option Machine) (stuck : Option ℕ) (after : Machine) → cond b turned None ≡ Some after → (turned ≡ Some after → stuck ≡ None) → cond b (option_map suc stuck) (Some 0) ≡ None
made_under true turned stuck after e f = ap (λ o. option_map suc o) (f e)
made_under false turned stuck after e f = cc

-- where all turns are made, none is refused
pub stuck_place-made : (p : Listing) (fuel : ℕ) (xs : List ℕ) (m after : Machine) → turns p fuel xs m ≡ Some after → stuck_place p fuel xs m ≡ None
unfolding turns stuck_place
stuck_place-made p fuel [] m after made = refl
stuck_place-made p fuel (t ∷ xs) m after made =
    made_under (can p t m) (turns p fuel xs (turn p fuel t m)) _ after made (stuck_place-made p fuel xs (turn p fuel t m) after)

refused_under : (b : Bool) (turned : Option Machine) (stuck : Option ℕ) (n : ℕ) (after : Machine) → cond b turned None ≡ Some after → (turned ≡ Some after → stuck ≡ Some n) → cond b (option_map suc stuck) (Some 0) ≡ Some (suc n)
refused_under true turned stuck n after e f = ap (λ o. option_map suc o) (f e)
refused_under false turned stuck n after e f = cc

-- where the turns of a front are made and the next member is not enabled, that is the place
pub stuck_place-at : (p : Listing) (fuel : ℕ) (xs : List ℕ) (t : ℕ) (ys : List ℕ) (m after : Machine) → turns p fuel xs m ≡ Some after → can p t after ≡ false → stuck_place p fuel (xs ++ t ∷ ys) m ≡ Some (length xs)
unfolding turns stuck_place
stuck_place-at p fuel [] t ys m after made refused =
    let same : m ≡ after = cc in
    ap (λ b. cond b (option_map suc (stuck_place p fuel ys (turn p fuel t m))) (Some 0)) (ap (λ x. can p t x) same ∙ refused)
stuck_place-at p fuel (u ∷ xs) t ys m after made refused =
    refused_under (can p u m) (turns p fuel xs (turn p fuel u m)) _ (length xs) after made (λ e. stuck_place-at p fuel xs t ys (turn p fuel u m) after e refused)

-- where all turns are made, nothing is refused
pub replayed-made : (p : Listing) (fuel : ℕ) (schedule : List ℕ) (m : Machine) → turns p fuel schedule (ready p fuel) ≡ Some m → (refused_place p fuel schedule ≡ None) × (replayed p fuel schedule ≡ Some (finished m))
replayed-made p fuel schedule m made = (
  refused_place-stuck p fuel schedule ∙ stuck_place-made p fuel schedule (ready p fuel) m made,
  ap (λ o. option_map finished o) (run_of-turns p fuel schedule ∙ made),
)

turns-refused : (p : Listing) (fuel : ℕ) (xs : List ℕ) (t : ℕ) (ys : List ℕ) (m after : Machine) → turns p fuel xs m ≡ Some after → can p t after ≡ false → turns p fuel (xs ++ t ∷ ys) m ≡ None
unfolding turns
turns-refused p fuel xs t ys m after made refused =
    turns-append p fuel xs (t ∷ ys) m ∙ ap (λ o. option_and_then (turns p fuel (t ∷ ys)) o) made
    ∙ ap (λ b. cond b (turns p fuel ys (turn p fuel t after)) None) refused

-- where the turns of a front are made and the next member is not enabled, that is the refused place
pub replayed-refused : (p : Listing) (fuel : ℕ) (schedule : List ℕ) (place : ℕ) (m : Machine) → place < length schedule → turns p fuel (take place schedule) (ready p fuel) ≡ Some m → can p (slice_index schedule place) m ≡ false → (refused_place p fuel schedule ≡ Some place) × (replayed p fuel schedule ≡ None)
replayed-refused p fuel schedule place m within made refused =
    let front = take place schedule in
    let t = slice_index schedule place in
    let rest = drop (place + 1) schedule in
    let parts : schedule ≡ front ++ t ∷ rest = sym (take-append-drop place schedule) ∙ ap (λ xs. front ++ xs) (drop_more schedule place 0 within) in (
      refused_place-stuck p fuel schedule ∙ ap (λ xs. stuck_place p fuel xs (ready p fuel)) parts
          ∙ stuck_place-at p fuel front t rest (ready p fuel) m made refused ∙ ap Some (length-take-le place schedule (omega arith)),
      ap (λ o. option_map finished o) (run_of-turns p fuel schedule ∙ ap (λ xs. turns p fuel xs (ready p fuel)) parts ∙ turns-refused p fuel front t rest (ready p fuel) m made refused),
    )
