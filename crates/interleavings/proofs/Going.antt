-- The loops of the simulation.
use Rattle.std.proofs.Common.{◌≡◌, ℕ, zero, suc, ◌+◌, ◌-◌, ◌*◌, ◌<◌, ◌≤◌, ◌∙◌, true, false, if◌then◌else◌, List, [], ◌∷◌, ◌++◌, Option, Some, None, length, take, refl, sym, ap, subst, arith, add-one, get_or}
use Rattle.std.specs.List.{range_with_len}
use Rattle.std.proofs.lemmas.List.{get_or-take, take_more, length-take}
use Rattle.std.proofs.Math.Nat.{mul-le-mul_right}
use Rattle.stride_isa.specs.Limits.{thread_limit}
use Rattle.stride_isa.specs.Listing.{Listing}
use Rattle.sc_machine.specs.ThreadStep.{stop_of}
use Rattle.sc_machine.specs.Schedule.{thread_numbers}
use Rattle.interleavings.specs.declared.rest.Rest.{Rest}
use Rattle.interleavings.specs.declared.rest.Rest.TheVariants as rests
use Rattle.interleavings.specs.declared.simulation.Simulation.{Simulation}
use Rattle.interleavings.specs.History.{Step}
use Rattle.interleavings.specs.Recording.{Setting, activity_of}
use Rattle.interleavings.specs.Driving.{Drive, thread_of, next_step, stepped_if, advance, advance_all, is_left, finished_within, finished, finished_by_all, settle_all}
use Rattle.interleavings.specs.SimulationShows.{IsReached, Shows, CanGo, Makes}
use Rattle.interleavings.proofs.Reaching.{advance_all-more, reached-advance, reached-order, reached-all}

stepped_if_steps : (g : Setting) (step : Option Step) (d : Drive) → length (stepped_if g step d).steps ≤ length d.steps + 1
stepped_if_steps g None d = omega arith
stepped_if_steps g (Some step) d = omega arith

-- an advance makes one step at most
pub advance_steps : (g : Setting) (t : ℕ) (d : Drive) → length (advance g t d).steps ≤ length d.steps + 1
unfolding advance
advance_steps g t d = stepped_if_steps g (next_step t (stop_of g.program t (thread_of d t)) (activity_of g d.steps t).phase) d

pub advance_all_steps : (g : Setting) (ts : List ℕ) (d : Drive) → length (advance_all g ts d).steps ≤ length d.steps + length ts
unfolding advance_all
advance_all_steps g [] d = omega arith
advance_all_steps g (t ∷ ts) d = omega (arith, advance_all_steps g ts (advance g t d), advance_steps g t d)

advance_none : (g : Setting) (d : Drive) → advance_all g [] d ≡ d
unfolding advance_all
advance_none g d = refl

-- the loop over an order
module _ (start sim : Simulation) (order : List ℕ) (i : ℕ) (makes : Makes (λ g. advance_all g (take i order)) start sim) where
  pub follow_goes : CanGo start (length order) → ((k : ℕ) → k < length order → get_or order k 0 < length start.threads.items) → i < length order → CanGo sim 1
  follow_goes goes known inside = record {
    setting = goes.setting;
    drive = advance_all goes.setting (take i order) goes.drive;
    reached = reached-order goes.setting (take i order) goes.drive (λ k below. first_known k (omega (arith, length-take i order)) (omega (arith, length-take i order))) goes.reached;
    shows = makes goes.setting goes.drive goes.shows;
    few = omega (arith, advance_all_steps goes.setting (take i order) goes.drive, length-take i order, goes.few);
  }
    where
      first_known : (k : ℕ) → k < i → k < length order → get_or (take i order) k 0 < length goes.setting.program.threads
      first_known k early below = omega (arith, get_or-take i order k 0 early, known k below, goes.shows.count)

  pub follow_more : (next : Simulation) (t : ℕ) → i < length order → t ≡ get_or order i t → Makes (λ g. advance g t) sim next → Makes (λ g. advance_all g (take (i + 1) order)) start next
  follow_more next t inside member more = λ g d shows.
      let same : advance_all g (take (i + 1) order) d ≡ advance g t (advance_all g (take i order) d) =
      ap (λ ts. advance_all g ts d) (take_more order i t inside ∙ ap (λ k. take i order ++ k ∷ []) (sym member)) ∙ advance_all-more g (take i order) t d in
      subst (λ (k : Drive). Shows g next k) (sym same) (more g (advance_all g (take i order) d) (makes g d shows))

pub follow_none : (start : Simulation) (order : List ℕ) → Makes (λ g. advance_all g (take 0 order)) start start
follow_none start order = λ g d shows. subst (λ (k : Drive). Shows g start k) (sym (advance_none g d)) shows

within_goes : (rest : Rest) (g : Setting) (t n m : ℕ) (d : Drive) → n ≡ suc m → is_left rest g t d ≡ true → finished_within n rest g t d ≡ finished_within m rest g t (advance g t d)
unfolding finished_within
within_goes rest g t n m d e yes_left = ap (λ k. finished_within k rest g t d) e ∙ ap (λ b. if b then finished_within m rest g t (advance g t d) else d) yes_left

within_stops : (rest : Rest) (g : Setting) (t n : ℕ) (d : Drive) → is_left rest g t d ≡ false → finished_within n rest g t d ≡ d
unfolding finished_within
within_stops rest g t zero d none_left = refl
within_stops rest g t (suc n) d none_left = ap (λ b. if b then finished_within n rest g t (advance g t d) else d) none_left

within_out : (rest : Rest) (g : Setting) (t n : ℕ) (d : Drive) → n ≡ 0 → finished_within n rest g t d ≡ d
unfolding finished_within
within_out rest g t n d e = ap (λ k. finished_within k rest g t d) e

within_steps : (rest : Rest) (g : Setting) (t n : ℕ) (d : Drive) → length (finished_within n rest g t d).steps ≤ length d.steps + n
unfolding finished_within
within_steps rest g t zero d = omega arith
within_steps rest g t (suc n) d =
    elim (is_left rest g t d) as (λ b. length (if b then finished_within n rest g t (advance g t d) else d).steps ≤ length d.steps + suc n)
    [ true ↦ omega (arith, within_steps rest g t n (advance g t d), advance_steps g t d) | false ↦ omega arith ]

-- a thread has made i of the steps by which it finishes
pub record Halfway (g : Setting) (sim : Simulation) (rest : Rest) (t i : ℕ) (d : Drive) : Type 0 where
  pub drive : Drive
  pub shows : Shows g sim drive
  pub same : finished rest g t d ≡ finished_within (g.fuel + 3 - i) rest g t drive
  pub few : length drive.steps ≤ length d.steps + i
  pub reached : IsReached g d → IsReached g drive

module _ (g : Setting) (sim : Simulation) (rest : Rest) (t i : ℕ) (d : Drive) (half : Halfway g sim rest t i d) where
  pub finish_more : (next : Simulation) → t < length g.program.threads → i < g.fuel + 3 → true ≡ is_left rest g t half.drive → Makes (λ g. advance g t) sim next → Halfway g next rest t (i + 1) d
  finish_more next there inside left makes = record {
    drive = advance g t half.drive;
    shows = makes g half.drive half.shows;
    same = let n : g.fuel + 3 - i ≡ suc (g.fuel + 3 - (i + 1)) = omega arith in half.same ∙ within_goes rest g t (g.fuel + 3 - i) (g.fuel + 3 - (i + 1)) half.drive n (sym left);
    few = omega (arith, half.few, advance_steps g t half.drive);
    reached = λ r. reached-advance g t half.drive there (half.reached r);
  }

  pub finish_stops : false ≡ is_left rest g t half.drive → Shows g sim (finished rest g t d)
  finish_stops left = subst (λ (k : Drive). Shows g sim k) (sym (half.same ∙ within_stops rest g t (g.fuel + 3 - i) half.drive (sym left))) half.shows

  pub finish_out : g.fuel + 3 ≤ i → Shows g sim (finished rest g t d)
  finish_out out =
      let none : g.fuel + 3 - i ≡ 0 = omega arith in
      subst (λ (k : Drive). Shows g sim k) (sym (half.same ∙ within_out rest g t (g.fuel + 3 - i) half.drive none)) half.shows

range_suc : (from n : ℕ) → range_with_len from (suc n) ≡ range_with_len from n ++ (from + n) ∷ []
range_suc from zero = let same : from ≡ from + 0 = omega arith in ap (λ k. k ∷ []) same
range_suc from (suc n) =
    let same : from + 1 + n ≡ from + suc n = omega arith in
    ap (λ ks. from ∷ ks) (range_suc (from + 1) n ∙ ap (λ k. range_with_len (from + 1) n ++ k ∷ []) same)

-- the first numbers and one more
pub range_more : (n : ℕ) → range_with_len 0 (n + 1) ≡ range_with_len 0 n ++ n ∷ []
range_more n = let same : 0 + n ≡ n = omega arith in rw add-one (range_suc 0 n ∙ ap (λ k. range_with_len 0 n ++ k ∷ []) same)

pub range_length : (from n : ℕ) → length (range_with_len from n) ≡ n
range_length from zero = refl
range_length from (suc n) = ap suc (range_length (from + 1) n)

by_all_more : (rest : Rest) (g : Setting) (ts : List ℕ) (t : ℕ) (d : Drive) → finished_by_all rest g (ts ++ t ∷ []) d ≡ finished rest g t (finished_by_all rest g ts d)
by_all_more rest g [] t d = refl
by_all_more rest g (x ∷ ts) t d = by_all_more rest g ts t (finished rest g x d)

by_all_steps : (rest : Rest) (g : Setting) (ts : List ℕ) (d : Drive) → length (finished_by_all rest g ts d).steps ≤ length d.steps + length ts * (g.fuel + 3)
by_all_steps rest g [] d = omega arith
by_all_steps rest g (t ∷ ts) d =
    omega (arith, by_all_steps rest g ts (finished rest g t d), within_steps rest g t (g.fuel + 3) d)

-- the loop over the threads
module _ (start sim : Simulation) (rest : Rest) (i : ℕ) (makes : Makes (λ g. finished_by_all rest g (range_with_len 0 i)) start sim) where
  pub each_goes : CanGo start (thread_limit * (start.fuel + 3)) → i < length start.program.now.threads → CanGo sim (sim.fuel + 3)
  each_goes goes inside =
      let g : Setting = goes.setting in
      let shown : Shows g sim (finished_by_all rest g (range_with_len 0 i) goes.drive) = makes g goes.drive goes.shows in
      let most : ℕ = g.fuel + 3 in
      let there : i < length g.program.threads = omega (arith, inside, ap (λ (p : Listing). length p.threads) goes.shows.program) in
      let few : suc i ≤ thread_limit = omega (arith, there, goes.shows.few) in
      let all : suc i * most ≤ thread_limit * most = mul-le-mul_right most few in
      let made : length (finished_by_all rest g (range_with_len 0 i) goes.drive).steps ≤ length goes.drive.steps + i * most =
      subst (λ (n : ℕ). length (finished_by_all rest g (range_with_len 0 i) goes.drive).steps ≤ length goes.drive.steps + n * most) (range_length 0 i) (by_all_steps rest g (range_with_len 0 i) goes.drive) in
      record {
        setting = g;
        drive = finished_by_all rest g (range_with_len 0 i) goes.drive;
        reached = reached-all g rest 0 i goes.drive (omega (arith, there)) goes.reached;
        shows = shown;
        few = omega (arith, made, all, shown.fuel, goes.shows.fuel, goes.few);
      }

  pub each_more : (next : Simulation) → Makes (λ g. finished rest g i) sim next → Makes (λ g. finished_by_all rest g (range_with_len 0 (i + 1))) start next
  each_more next more = λ g d shows.
      subst (λ (k : Drive). Shows g next k) (sym (ap (λ ts. finished_by_all rest g ts d) (range_more i) ∙ by_all_more rest g (range_with_len 0 i) i d))
      (more g (finished_by_all rest g (range_with_len 0 i) d) (makes g d shows))

-- the three loops after an order
module _ (start one two three : Simulation) where
  abbrev all : Rest → Setting → Drive → Drive
  all rest g d = finished_by_all rest g (thread_numbers g.program) d

  all_steps : (rest : Rest) (g : Setting) (sim : Simulation) (d : Drive) → Shows g sim d → length (all rest g d).steps ≤ length d.steps + thread_limit * (g.fuel + 3)
  all_steps rest g sim d shows =
      let most : ℕ = g.fuel + 3 in
      let bound : length g.program.threads * most ≤ thread_limit * most = mul-le-mul_right most shows.few in
      let made : length (all rest g d).steps ≤ length d.steps + length g.program.threads * most =
      subst (λ (n : ℕ). length (all rest g d).steps ≤ length d.steps + n * most) (range_length 0 (length g.program.threads)) (by_all_steps rest g (thread_numbers g.program) d) in
      omega (arith, made, bound)

  pub claims_go : CanGo start (3 * thread_limit * (start.fuel + 3)) → CanGo start (thread_limit * (start.fuel + 3))
  claims_go goes = record { setting = goes.setting; drive = goes.drive; reached = goes.reached; shows = goes.shows; few = omega (arith, goes.few) }

  pub reads_go : CanGo start (3 * thread_limit * (start.fuel + 3)) → Makes (all rests.Write) start one → CanGo one (thread_limit * (one.fuel + 3))
  reads_go goes writes =
      let g : Setting = goes.setting in
      let shown : Shows g one (all rests.Write g goes.drive) = writes g goes.drive goes.shows in
      record {
        setting = g;
        drive = all rests.Write g goes.drive;
        reached = reached-all g rests.Write 0 (length g.program.threads) goes.drive (omega arith) goes.reached;
        shows = shown;
        few = omega (arith, all_steps rests.Write g start goes.drive goes.shows, goes.few, shown.fuel, goes.shows.fuel);
      }

  pub exits_go : CanGo start (3 * thread_limit * (start.fuel + 3)) → Makes (all rests.Write) start one → Makes (all rests.Read) one two → CanGo two (thread_limit * (two.fuel + 3))
  exits_go goes writes reads =
      let g : Setting = goes.setting in
      let shown : Shows g one (all rests.Write g goes.drive) = writes g goes.drive goes.shows in
      let shown' : Shows g two (all rests.Read g (all rests.Write g goes.drive)) = reads g (all rests.Write g goes.drive) shown in
      let n : ℕ = length g.program.threads in
      record {
        setting = g;
        drive = all rests.Read g (all rests.Write g goes.drive);
        reached = reached-all g rests.Read 0 n (all rests.Write g goes.drive) (omega arith) (reached-all g rests.Write 0 n goes.drive (omega arith) goes.reached);
        shows = shown';
        few = omega (arith, all_steps rests.Write g start goes.drive goes.shows, all_steps rests.Read g one (all rests.Write g goes.drive) shown, goes.few, shown'.fuel, goes.shows.fuel);
      }

  pub all_settled : Makes (all rests.Write) start one → Makes (all rests.Read) one two → Makes (all rests.Exits) two three → Makes settle_all start three
  unfolding settle_all
  all_settled writes reads exits = λ g d shows.
      exits g (all rests.Read g (all rests.Write g d)) (reads g (all rests.Write g d) (writes g d shows))
