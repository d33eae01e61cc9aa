-- Each program has a verdict: what is reached is found by marking, and the first fault by looking at all positions.
use Rattle.std.proofs.Common.{◌≡◌, ℕ, ◌+◌, ◌*◌, ◌<◌, ◌≤◌, ◌∙◌, ◌⊎◌, Bool, true, false, List, [], ◌∷◌, ◌++◌, length, refl, sym, ap, subst, arith, get_or, inl, inr, zero, suc, Option, Some, None, replicate, set}
use Rattle.std.proofs.lemmas.Bool.{cases_lt, cases_eq, false_from_ne_true}
use Rattle.std.proofs.lemmas.List.{length-replicate, get_or-replicate, get_or-set_same}
use Rattle.stride_isa.proofs.FaultLemmas.{kind_of_rank, rank_back}
use Rattle.stride_isa.proofs.MarksLemmas.{growing_begun, leads_by, leads_next, reaches_inside, reaches_shallow, visits_new}
use Rattle.stride_isa.proofs.StrayingLemmas.{runs_off_at_once, valid_faultless}
use Rattle.stride_isa.specs.Faults.{HasNameFault, HasDepthFault, Misnames, Strays, ReachedDepth, RunsOffAfter, IsFirst, rank}
use Rattle.stride_isa.specs.Instructions.{goes_on, kind, operand, popped}
use Rattle.stride_isa.specs.Laws.{FaultlessIsValid, HasVerdict}
use Rattle.stride_isa.specs.Limits.{local_count, stack_limit}
use Rattle.stride_isa.specs.Listing.{Listing, code_of, op_at, decl_at}
use Rattle.stride_isa.specs.Marks.{place_of, IsMarked, IsTable, unmarked_count}
use Rattle.stride_isa.specs.Steps.{FollowsAt, Step}
use Rattle.stride_isa.specs.Telling.{IsFirstIn, IsFirstKind, IsNamed}
use Rattle.stride_isa.specs.Validity.{depth_after, target_of, Leads, LeadsBy, IsArray, IsThere, IsInside, Reaches, Begin, Follow}
use Rattle.stride_isa.specs.declared.check_error.CheckKind.{CheckKind}
use Rattle.stride_isa.specs.declared.check_error.CheckKind.TheVariants.{Underflow, Overflow, TwoDepths, RunsOff, BadTarget, BadName}
use Rattle.stride_isa.specs.declared.decl.Shape.{Shape}
use Rattle.stride_isa.specs.declared.decl.Shape.TheVariants as shapes
use Rattle.stride_isa.specs.declared.op.Op.{Op}
use Rattle.stride_isa.specs.declared.operand.Operand.{Operand}
use Rattle.stride_isa.specs.declared.operand.Operand.TheVariants.{Nothing, Number, Local, Label, Variable, Array, Monitor}
use Rattle.stride_isa.specs.declared.pair.Pair.{Pair}

-- a fact that holds or does not
abbrev Decided : Type 0 → Type 0
Decided P = P ⊎ (P → ⊥)

lt_decided : (m n : ℕ) → Decided (m < n)
lt_decided m n = elim (cases_lt m n) [ inl lt ↦ inl lt | inr ge ↦ inr (λ lt. absurd (omega arith)) ]

eq_decided : (m n : ℕ) → Decided (m ≡ n)
eq_decided m n = elim (cases_eq m n) [ inl same ↦ inl same | inr differ ↦ inr (λ same. absurd (differ same)) ]

true_decided : (b : Bool) → Decided (b ≡ true)
true_decided true = inl refl
true_decided false = inr (λ e. absurd (cc))

both_decided : {P Q : Type 0} → Decided P → Decided Q → Decided (P × Q)
both_decided (inl p) (inl q) = inl (p, q)
both_decided (inl p) (inr never) = inr (λ both. never both.1)
both_decided (inr never) q = inr (λ both. never both.0)

either_decided : {P Q : Type 0} → Decided P → Decided Q → Decided (P ⊎ Q)
either_decided (inl p) q = inl (inl p)
either_decided (inr never) (inl q) = inl (inr q)
either_decided (inr never) (inr none) = inr (λ either. elim either [ inl p ↦ never p | inr q ↦ none q ])

-- the first number below a bound of which a fact holds
record First (P : ℕ → Type 0) (bound : ℕ) : Type 0 where
  at : ℕ
  below : at < bound
  holds : P at
  before : (n : ℕ) → n < at → P n → ⊥

first_decided : (P : ℕ → Type 0) → ((n : ℕ) → Decided (P n)) → (bound : ℕ) → First P bound ⊎ ((n : ℕ) → n < bound → P n → ⊥)
first_decided P decide zero = inr (λ n lt h. absurd (omega arith))
first_decided P decide (suc bound) = elim (first_decided P decide bound) [
  | inl f ↦ inl (record { at = f.at; below = omega (arith, f.below); holds = f.holds; before = f.before })
  | inr none ↦ elim (decide bound) [
    | inl h ↦ inl (record { at = bound; below = omega arith; holds = h; before = none })
    | inr never ↦ inr (λ n lt h. elim (cases_lt n bound) [
      | inl less ↦ none n less h
      | inr ge ↦ let same : n ≡ bound = omega arith in never (subst P same h)
    ])
  ]
]

some_decided : (P : ℕ → Type 0) → ((n : ℕ) → Decided (P n)) → (bound : ℕ) → Decided (First P bound)
some_decided P decide bound = elim (first_decided P decide bound) [
  | inl f ↦ inl f
  | inr none ↦ inr (λ f. none f.at f.below f.holds)
]

leads_target : (target : Option ℕ) (on : Bool) (at next : ℕ) → target ≡ Some next → LeadsBy target on at next
leads_target (Some t) false at next e = let same : t ≡ next = cc in sym same
leads_target (Some t) true at next e = let same : t ≡ next = cc in inl (sym same)
leads_target None on at next e = absurd (cc)

leads_decided : (target : Option ℕ) (on : Bool) (at next : ℕ) → Decided (LeadsBy target on at next)
leads_decided (Some t) false at next = eq_decided next t
leads_decided (Some t) true at next = either_decided (eq_decided next t) (eq_decided next (at + 1))
leads_decided None false at next = inr (λ never. never)
leads_decided None true at next = eq_decided next (at + 1)

-- the table of a thread that has code
module _ (p : Listing) (thread : ℕ) (some : 0 < length (code_of p thread)) where
  abbrev size : ℕ
  size = length (code_of p thread)

  -- a mark that is missing after a pair that is marked
  record Missing (marks : List Bool) (at depth : ℕ) : Type 0 where
    next : ℕ
    after : ℕ
    shallow : depth ≤ stack_limit
    here : IsMarked marks at depth
    step : Step (op_at p thread at) (length (code_of p thread)) at depth next after
    free : IsMarked marks next after → ⊥

  record Follower (marks : List Bool) (op : Op) (at after : ℕ) : Type 0 where
    next : ℕ
    follows : FollowsAt op (length (code_of p thread)) at next
    free : IsMarked marks next after → ⊥

  candidate : (marks : List Bool) (op : Op) (at after next : ℕ) → Leads op at next → Follower marks op at after ⊎ (next < size → IsMarked marks next after)
  candidate marks op at after next leads = elim (lt_decided next size) [
    | inl inside ↦ elim (true_decided (get_or marks (place_of next after) false)) [
      | inl marked ↦ inr (λ _. marked)
      | inr free ↦ inl (record { next = next; follows = record { leads = leads; inside = inside }; free = free })
    ]
    | inr outside ↦ inr (λ inside. absurd (outside inside))
  ]

  target_candidate : (marks : List Bool) (op : Op) (at after : ℕ) (target : Option ℕ) → target_of op ≡ target → Follower marks op at after ⊎ ((next : ℕ) → target_of op ≡ Some next → next < size → IsMarked marks next after)
  target_candidate marks op at after (Some t) e = elim (candidate marks op at after t (leads_target (target_of op) (goes_on (kind op)) at t e)) [
    | inl found ↦ inl found
    | inr marked ↦ inr (λ next f inside.
        let same : t ≡ next = cc in
        subst (λ n. IsMarked marks n after) same (marked (omega arith)))
  ]
  target_candidate marks op at after None e = inr (λ next f inside. absurd (cc))

  next_candidate : (marks : List Bool) (op : Op) (at after : ℕ) (on : Bool) → goes_on (kind op) ≡ on → Follower marks op at after ⊎ (goes_on (kind op) ≡ true → at + 1 < size → IsMarked marks (at + 1) after)
  next_candidate marks op at after true e = elim (candidate marks op at after (at + 1) (leads_next op at (at + 1) e refl)) [
    | inl found ↦ inl found
    | inr marked ↦ inr (λ _ inside. marked inside)
  ]
  next_candidate marks op at after false e = inr (λ f inside. absurd (cc))

  follower_decided : (marks : List Bool) (op : Op) (at after : ℕ) → Decided (Follower marks op at after)
  follower_decided marks op at after = elim (target_candidate marks op at after (target_of op) refl) [
    | inl found ↦ inl found
    | inr targets ↦ elim (next_candidate marks op at after (goes_on (kind op)) refl) [
      | inl found ↦ inl found
      | inr nexts ↦ inr (λ f. elim (leads_by op at f.next f.follows.leads) [
        | inl target ↦ f.free (targets f.next target f.follows.inside)
        | inr next ↦ f.free (subst (λ n. IsMarked marks n after) (sym next.1) (nexts next.0 (let inside = f.follows.inside in omega (arith, next.1))))
      ])
    ]
  ]

  missing_decided : (marks : List Bool) (at depth : ℕ) → Decided (Missing marks at depth)
  missing_decided marks at depth = elim (both_decided (both_decided (lt_decided depth 65) (true_decided (get_or marks (place_of at depth) false))) (both_decided (both_decided (lt_decided (popped (kind (op_at p thread at))) (depth + 1)) (lt_decided (depth_after (op_at p thread at) depth) 65)) (follower_decided marks (op_at p thread at) at (depth_after (op_at p thread at) depth)))) [
    | inl all ↦ inl (record {
      next = all.1.1.next;
      after = depth_after (op_at p thread at) depth;
      shallow = omega (arith, all.0.0);
      here = all.0.1;
      step = record { leaves = record { enough = omega (arith, all.1.0.0); after_is = refl; room = omega (arith, all.1.0.1) }; follows = all.1.1.follows };
      free = all.1.1.free;
    })
    | inr never ↦ inr (λ m.
        let leaves = m.step.leaves in
        never ((omega (arith, m.shallow), m.here), ((omega (arith, leaves.enough), omega (arith, leaves.room, leaves.after_is)), record { next = m.next; follows = m.step.follows; free = subst (λ d. IsMarked marks m.next d → ⊥) leaves.after_is m.free })))
  ]

  -- a table of which all marks are reached
  record IsSound (marks : List Bool) : Type 0 where
    long : length marks ≡ 65 * length (code_of p thread)
    begun : IsMarked marks 0 0
    reached : (at depth : ℕ) → depth ≤ stack_limit → IsMarked marks at depth → Reaches p thread at depth

  sound_begun : (marks : List Bool) × IsSound marks
  sound_begun =
      let start : Pair = record { at = 0; depth = 0 } in
      let empty = replicate (65 * size) false in
      let visits = visits_new empty [] start (omega (arith, length-replicate (65 * size) false)) (omega arith) (get_or-replicate (65 * size) 0 false false (omega arith)) in
      let marks = set empty 0 true in
      let begun : IsMarked marks 0 0 = get_or-set_same empty 0 true false (omega (arith, length-replicate (65 * size) false)) in
      let growing = growing_begun p thread start marks ([] ++ start ∷ []) refl refl some begun visits in
      (marks, record { long = growing.long; begun = growing.begun; reached = growing.reached })

  sound_more : (marks : List Bool) (at depth : ℕ) → IsSound marks → (m : Missing marks at depth) → IsSound (set marks (place_of m.next m.after) true) × (unmarked_count (set marks (place_of m.next m.after) true) < unmarked_count marks)
  sound_more marks at depth sound m =
      let pair : Pair = record { at = m.next; depth = m.after } in
      let leaves = m.step.leaves in
      let inside : place_of m.next m.after < length marks = omega (arith, sound.long, m.step.follows.inside, leaves.room) in
      let visits = visits_new marks [] pair inside (omega (arith, leaves.room)) (false_from_ne_true (get_or marks (place_of m.next m.after) false) m.free) in
      let before = sound.reached at depth m.shallow m.here in (
        record {
          long = visits.long ∙ sound.long;
          begun = visits.grows 0 0 sound.begun;
          reached = λ a d shallow marked. elim (visits.fresh a d shallow marked) [
            | inl old ↦ sound.reached a d shallow old
            | inr new ↦
                let there = Follow at depth m.next m.after before (reaches_inside p thread at depth some before) leaves.enough leaves.after_is leaves.room m.step.follows.leads m.step.follows.inside in
                subst (λ x. Reaches p thread x d) (sym new.0.0) (subst (λ y. Reaches p thread m.next y) (sym new.0.1) there)
          ];
        },
        omega (arith, visits.falls),
      )

  sound_whole : (marks : List Bool) → IsSound marks → ((at : ℕ) → at < size → (depth : ℕ) → depth < 65 → Missing marks at depth → ⊥) → (at depth : ℕ) → Reaches p thread at depth → IsMarked marks at depth
  sound_whole marks sound none _ _ Begin = sound.begun
  sound_whole marks sound none _ _ (Follow at depth next after r inside enough is room leads there) =
      let here = sound_whole marks sound none at depth r in
      let shallow = reaches_shallow p thread at depth r in
      elim (true_decided (get_or marks (place_of next after) false)) [
        | inl marked ↦ marked
        | inr free ↦ absurd (none at inside depth (omega arith) (record {
          next = next;
          after = after;
          shallow = shallow;
          here = here;
          step = record { leaves = record { enough = enough; after_is = is; room = room }; follows = record { leads = leads; inside = there } };
          free = free;
        }))
      ]

  none_missing : (marks : List Bool) → ((at : ℕ) → at < size → First (Missing marks at) 65 → ⊥) → (at : ℕ) → at < size → (depth : ℕ) → depth < 65 → Missing marks at depth → ⊥
  none_missing marks none at inside depth low m = elim (first_decided (Missing marks at) (missing_decided marks at) 65) [
    | inl f ↦ none at inside f
    | inr never ↦ never depth low m
  ]

  missing_first : (marks : List Bool) → First (λ at. First (Missing marks at) 65) size ⊎ ((at : ℕ) → at < size → First (Missing marks at) 65 → ⊥)
  missing_first marks = first_decided (λ at. First (Missing marks at) 65) (λ at. some_decided (Missing marks at) (missing_decided marks at) 65) size

  table_from : (n : ℕ) (marks : List Bool) → unmarked_count marks ≤ n → IsSound marks → (whole : List Bool) × IsTable p thread whole
  table_from zero marks few sound = elim (missing_first marks) [
    | inl f ↦ absurd (let fewer = (sound_more marks f.at f.holds.at sound f.holds.holds).1 in omega arith)
    | inr none ↦ (marks, record { long = sound.long; reached = sound.reached; marked = sound_whole marks sound (none_missing marks none) })
  ]
  table_from (suc n) marks few sound = elim (missing_first marks) [
    | inl f ↦ let more = sound_more marks f.at f.holds.at sound f.holds.holds in table_from n _ (omega (arith, more.1)) more.0
    | inr none ↦ (marks, record { long = sound.long; reached = sound.reached; marked = sound_whole marks sound (none_missing marks none) })
  ]

  -- what a thread reaches is marked in some table
  pub table : (whole : List Bool) × IsTable p thread whole
  table = let start = sound_begun in table_from (unmarked_count start.0) start.0 (omega arith) start.1

-- whether a fault of a kind is at a position of a thread that has code
module _ (p : Listing) (thread : ℕ) (marks : List Bool) (table : IsTable p thread marks) (some : 0 < length (code_of p thread)) where
  -- a depth of a position that is reached, of which a fact holds
  reached_decided : (at : ℕ) (Q : ℕ → Type 0) → ((d : ℕ) → Decided (Q d)) → Decided ((a : ReachedDepth p thread at) × Q a.depth)
  reached_decided at Q decide = elim (some_decided (λ d. IsMarked marks at d × Q d) (λ d. both_decided (true_decided (get_or marks (place_of at d) false)) (decide d)) 65) [
    | inl f ↦ inl (record { depth = f.at; reached = table.reached at f.at (omega (arith, f.below)) f.holds.0 }, f.holds.1)
    | inr none ↦ inr (λ both.
        let a = both.0 in
        elim (first_decided (λ d. IsMarked marks at d × Q d) (λ d. both_decided (true_decided (get_or marks (place_of at d) false)) (decide d)) 65) [
          | inl f ↦ none f
          | inr never ↦ never a.depth (let low = reaches_shallow p thread at a.depth a.reached in omega arith) (table.marked at a.depth a.reached, both.1)
        ])
  ]

  runs_off_decided : (at : ℕ) → Decided (ReachedDepth p thread at × RunsOffAfter p thread at)
  runs_off_decided at = elim (reached_decided at (λ d. RunsOffAfter p thread at) (λ d. both_decided (leads_decided (target_of (op_at p thread at)) (goes_on (kind (op_at p thread at))) at (at + 1)) (eq_decided (at + 1) (length (code_of p thread))))) [
    | inl h ↦ inl (h.0, h.1)
    | inr never ↦ inr (λ h. never (h.0, h.1))
  ]

  strays_decided : (at : ℕ) (k : CheckKind) → Decided (Strays p thread at k)
  strays_decided at TwoDepths = reached_decided at (λ d. (b : ReachedDepth p thread at) × (d < b.depth)) (λ d. reached_decided at (λ e. d < e) (λ e. lt_decided d e))
  strays_decided at Underflow = reached_decided at (λ d. d < popped (kind (op_at p thread at))) (λ d. lt_decided d (popped (kind (op_at p thread at))))
  strays_decided at Overflow = reached_decided at (λ d. stack_limit < depth_after (op_at p thread at) d) (λ d. lt_decided stack_limit (depth_after (op_at p thread at) d))
  strays_decided at RunsOff = either_decided (runs_off_decided at) (both_decided (eq_decided (length (code_of p thread)) 0) (eq_decided at 0))
  strays_decided at BadTarget = inr (λ h. h)
  strays_decided at BadName = inr (λ h. h)

  -- a position that strays is inside the code
  strays_inside : (at : ℕ) (k : CheckKind) → Strays p thread at k → at < length (code_of p thread)
  strays_inside at TwoDepths (a, other) = reaches_inside p thread at a.depth some a.reached
  strays_inside at Underflow (a, low) = reaches_inside p thread at a.depth some a.reached
  strays_inside at Overflow (a, high) = reaches_inside p thread at a.depth some a.reached
  strays_inside at RunsOff (inl (a, off)) = reaches_inside p thread at a.depth some a.reached
  strays_inside at RunsOff (inr (none, start)) = absurd (omega arith)
  strays_inside at BadTarget h = absurd h
  strays_inside at BadName h = absurd h

is_array_decided : (s : Shape) → Decided (IsArray s)
is_array_decided shapes.Single = inr (λ never. never)
is_array_decided (shapes.Array count) = inl tt

single_decided : (s : Shape) → Decided (s ≡ shapes.Single)
single_decided shapes.Single = inl refl
single_decided (shapes.Array count) = inr (λ e. absurd (cc))

there_decided : (p : Listing) (named : Operand) → Decided (IsThere p named)
there_decided p Nothing = inl tt
there_decided p (Number word) = inl tt
there_decided p (Local local) = lt_decided local local_count
there_decided p (Label target) = inl tt
there_decided p (Variable decl) = both_decided (lt_decided decl (length p.decls)) (single_decided (decl_at p decl).shape)
there_decided p (Array decl) = both_decided (lt_decided decl (length p.decls)) (is_array_decided (decl_at p decl).shape)
there_decided p (Monitor monitor) = lt_decided monitor (length p.monitors)

inside_decided : (p : Listing) (thread : ℕ) (target : Option ℕ) → Decided (IsInside p thread target)
inside_decided p thread (Some target) = lt_decided target (length (code_of p thread))
inside_decided p thread None = inl tt

not_decided : {P : Type 0} → Decided P → Decided (P → ⊥)
not_decided (inl h) = inr (λ never. never h)
not_decided (inr never) = inl never

misnames_decided : (p : Listing) (thread at : ℕ) (k : CheckKind) → Decided (Misnames p thread at k)
misnames_decided p thread at BadName = not_decided (there_decided p (operand (op_at p thread at)))
misnames_decided p thread at BadTarget = not_decided (inside_decided p thread (target_of (op_at p thread at)))
misnames_decided p thread at TwoDepths = inr (λ h. h)
misnames_decided p thread at Underflow = inr (λ h. h)
misnames_decided p thread at Overflow = inr (λ h. h)
misnames_decided p thread at RunsOff = inr (λ h. h)

name_fault_decided : (p : Listing) (thread at : ℕ) (k : CheckKind) → Decided (HasNameFault p thread at k)
name_fault_decided p thread at k = elim (both_decided (both_decided (lt_decided thread (length p.threads)) (lt_decided at (length (code_of p thread)))) (misnames_decided p thread at k)) [
  | inl all ↦ inl (record { thread_is = all.0.0; inside = all.0.1; fault = all.1 })
  | inr never ↦ inr (λ h. never ((h.thread_is, h.inside), h.fault))
]

rank_small : (k : CheckKind) → rank k < 6
rank_small TwoDepths = omega arith
rank_small k = omega arith

-- an instruction without a fault by itself names what is there and jumps inside the code
named_at : (p : Listing) (thread at : ℕ) → ((k : CheckKind) → HasNameFault p thread at k → ⊥) → thread < length p.threads → at < length (code_of p thread) → IsNamed p thread at
named_at p thread at none is inside = record {
  names = elim (there_decided p (operand (op_at p thread at))) [
    | inl there ↦ there
    | inr never ↦ absurd (none BadName (record { thread_is = is; inside = inside; fault = never }))
  ];
  target = elim (inside_decided p thread (target_of (op_at p thread at))) [
    | inl there ↦ there
    | inr never ↦ absurd (none BadTarget (record { thread_is = is; inside = inside; fault = never }))
  ];
}

-- a program without a fault is valid
pub faultless_valid : FaultlessIsValid
faultless_valid p none =
    valid_faultless p (λ thread is at inside. named_at p thread at (λ k. (none thread at k).0) is inside) (λ thread at k. (none thread at k).1)

-- the first kind of fault at one place
record FirstKind (F : CheckKind → Type 0) : Type 0 where
  kind : CheckKind
  first : IsFirstKind F kind

kind_decided : (F : CheckKind → Type 0) → ((k : CheckKind) → Decided (F k)) → FirstKind F ⊎ ((k : CheckKind) → F k → ⊥)
kind_decided F decide = elim (first_decided (λ r. (k : CheckKind) × ((rank k ≡ r) × F k)) (λ r. at_rank r) 6) [
  | inl f ↦ inl (record { kind = f.holds.0; first = record { here = f.holds.1.1; before = λ k lt h. f.before (rank k) (omega (arith, f.holds.1.0)) (k, (refl, h)) } })
  | inr none ↦ inr (λ k h. none (rank k) (rank_small k) (k, (refl, h)))
]
  where
    at_rank : (r : ℕ) → Decided ((k : CheckKind) × ((rank k ≡ r) × F k))
    at_rank r = elim (both_decided (eq_decided (rank (kind_of_rank r)) r) (decide (kind_of_rank r))) [
      | inl h ↦ inl (kind_of_rank r, (h.0, h.1))
      | inr never ↦ inr (λ (k, (is, h)).
          let same : kind_of_rank r ≡ k = ap kind_of_rank (sym is) ∙ rank_back k in
          never (ap rank same ∙ is, subst F (sym same) h))
    ]

-- the first fault of one thread
record FirstSpot (F : ℕ → CheckKind → Type 0) : Type 0 where
  at : ℕ
  kind : CheckKind
  first : IsFirstIn F at kind

spot_decided : (F : ℕ → CheckKind → Type 0) (bound : ℕ) → ((at : ℕ) (k : CheckKind) → Decided (F at k)) → ((at : ℕ) (k : CheckKind) → F at k → at < bound) → FirstSpot F ⊎ ((at : ℕ) (k : CheckKind) → F at k → ⊥)
spot_decided F bound decide inside = elim (first_decided (λ at. FirstKind (F at)) each bound) [
  | inl f ↦ inl (record { at = f.at; kind = f.holds.kind; first = record { here = f.holds.first.here; positions = λ a k lt h. none_at a (f.before a lt) k h; kinds = f.holds.first.before } })
  | inr none ↦ inr (λ at k h. none_at at (none at (inside at k h)) k h)
]
  where
    none_at : (at : ℕ) → (FirstKind (F at) → ⊥) → (k : CheckKind) → F at k → ⊥
    none_at at none k h = elim (kind_decided (F at) (decide at)) [ inl f ↦ none f | inr never ↦ never k h ]

    each : (at : ℕ) → Decided (FirstKind (F at))
    each at = elim (kind_decided (F at) (decide at)) [
      | inl f ↦ inl f
      | inr never ↦ inr (λ f. never f.kind f.first.here)
    ]

-- the first fault of a program
record FirstFault (F : ℕ → ℕ → CheckKind → Type 0) : Type 0 where
  thread : ℕ
  at : ℕ
  kind : CheckKind
  first : IsFirst F thread at kind

fault_decided : (F : ℕ → ℕ → CheckKind → Type 0) (bound : ℕ) → ((t : ℕ) → FirstSpot (F t) ⊎ ((at : ℕ) (k : CheckKind) → F t at k → ⊥)) → ((t at : ℕ) (k : CheckKind) → F t at k → t < bound) → FirstFault F ⊎ ((t at : ℕ) (k : CheckKind) → F t at k → ⊥)
fault_decided F bound decide inside = elim (first_decided (λ t. FirstSpot (F t)) each bound) [
  | inl f ↦
      let spot = f.holds in
      inl (record { thread = f.at; at = spot.at; kind = spot.kind; first = record { here = spot.first.here; threads = λ t a k lt h. none_in t (f.before t lt) a k h; positions = spot.first.positions; kinds = spot.first.kinds } })
  | inr none ↦ inr (λ t a k h. none_in t (none t (inside t a k h)) a k h)
]
  where
    none_in : (t : ℕ) → (FirstSpot (F t) → ⊥) → (a : ℕ) (k : CheckKind) → F t a k → ⊥
    none_in t none a k h = elim (decide t) [ inl f ↦ none f | inr never ↦ never a k h ]

    each : (t : ℕ) → Decided (FirstSpot (F t))
    each t = elim (decide t) [
      | inl f ↦ inl f
      | inr never ↦ inr (λ f. never f.at f.kind f.first.here)
    ]

-- the first fault of a thread on its ways
depth_spot : (p : Listing) (thread : ℕ) → FirstSpot (HasDepthFault p thread) ⊎ ((at : ℕ) (k : CheckKind) → HasDepthFault p thread at k → ⊥)
depth_spot p thread = elim (lt_decided thread (length p.threads)) [
  | inr never ↦ inr (λ at k h. never h.thread_is)
  | inl is ↦ elim (cases_lt 0 (length (code_of p thread))) [
    | inr none ↦ inl (record { at = 0; kind = RunsOff; first = runs_off_at_once p thread is (omega arith) })
    | inl some ↦
        let made = table p thread some in
        spot_decided (HasDepthFault p thread) (length (code_of p thread))
        (λ at k. elim (strays_decided p thread made.0 made.1 some at k) [
          | inl h ↦ inl (record { thread_is = is; fault = h })
          | inr never ↦ inr (λ h. never h.fault)
        ])
        (λ at k h. strays_inside p thread made.0 made.1 some at k h.fault)
  ]
]

-- each program has a verdict
pub has_verdict : HasVerdict
has_verdict p = elim (fault_decided (HasNameFault p) (length p.threads) (λ t. spot_decided (HasNameFault p t) (length (code_of p t)) (λ at k. name_fault_decided p t at k) (λ at k h. h.inside)) (λ t at k h. h.thread_is)) [
  | inl f ↦ (Some (record { kind = f.kind; thread = f.thread; instruction = f.at }), inl f.first)
  | inr names ↦ elim (fault_decided (HasDepthFault p) (length p.threads) (depth_spot p) (λ t at k h. h.thread_is)) [
    | inl f ↦ (Some (record { kind = f.kind; thread = f.thread; instruction = f.at }), inr (names, f.first))
    | inr depths ↦ (None, faultless_valid p (λ thread at kind. (names thread at kind, depths thread at kind)))
  ]
]
