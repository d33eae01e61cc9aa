-- The faults of a position, from the depths that are marked there; and validity, from the absence of faults.
use Rattle.std.proofs.Common.{◌≡◌, ℕ, ◌+◌, ◌<◌, Bool, true, List, length, refl, subst, arith, inl, inr, Option, Some, None}
use Rattle.std.proofs.lemmas.Bool.{cases_lt}
use Rattle.std.proofs.lemmas.List.{get_or_past}
use Rattle.stride_isa.proofs.MarksLemmas.{leads_by, leads_next, reaches_shallow, reaches_inside}
use Rattle.stride_isa.specs.Faults.{HasDepthFault, ReachedDepth, Strays, RunsOffAfter, rank}
use Rattle.stride_isa.specs.Instructions.{kind, popped, goes_on}
use Rattle.stride_isa.specs.Limits.{stack_limit}
use Rattle.stride_isa.specs.Listing.{Listing, code_of, op_at}
use Rattle.stride_isa.specs.Marks.{IsMarked, IsTable}
use Rattle.stride_isa.specs.Telling.{TellsKind, IsFirstKind, IsFirstIn, IsNamed, IsNamedWhole, IsFaultless, IsFaultlessWhole, StraysWith, HasTwo, IsOnly}
use Rattle.stride_isa.specs.Validity.{target_of, depth_after, Leads, IsInside, TargetsInside, Reaches, Begin, Follow, IsFine, IsValid}
use Rattle.stride_isa.specs.declared.check_error.CheckKind.{CheckKind}
use Rattle.stride_isa.specs.declared.check_error.CheckKind.TheVariants.{Underflow, Overflow, TwoDepths, RunsOff, BadTarget, BadName}
use Rattle.stride_isa.specs.declared.op.Op.{Op}
use Rattle.stride_isa.specs.declared.op.Op.TheVariants.{Halt}

-- a jump leads to its target, which is inside
target_inside : (p : Listing) (thread : ℕ) (op : Op) (next : ℕ) → TargetsInside p thread op → target_of op ≡ Some next → next < length (code_of p thread)
target_inside p thread op next h e = subst (IsInside p thread) e h

-- two depths are marked
pub two_marked : (p : Listing) (thread at : ℕ) (marks : List Bool) → thread < length p.threads → IsTable p thread marks → HasTwo (IsMarked marks at) 65 → IsFirstKind (HasDepthFault p thread at) TwoDepths
two_marked p thread at marks is table two = record {
  here = record {
    thread_is = is;
    fault = (
      record { depth = two.small; reached = table.reached at two.small (omega (arith, two.apart, two.below)) two.small_marked },
      (record { depth = two.large; reached = table.reached at two.large (omega (arith, two.below)) two.large_marked }, two.apart),
    );
  };
  before = λ k lt fault. absurd (omega arith);
}

tells_same : (F G : CheckKind → Type 0) → ((k : CheckKind) → F k → G k) → ((k : CheckKind) → G k → F k) → (told : Option CheckKind) → TellsKind F ((k : CheckKind) → F k → ⊥) told → TellsKind G ((k : CheckKind) → G k → ⊥) told
tells_same F G to from None h = λ k g. h k (from k g)
tells_same F G to from (Some kind) h = record { here = to kind h.here; before = λ k lt g. h.before k lt (from k g) }

-- one depth is marked: the faults of the position are those of that pair
module _ (p : Listing) (thread at depth : ℕ) (marks : List Bool) (last : Bool) (is : thread < length p.threads) (inside : at < length (code_of p thread)) (named : IsNamed p thread at) (table : IsTable p thread marks) (one : IsOnly (IsMarked marks at) 65 depth) (on : last ≡ true → at + 1 ≡ length (code_of p thread)) (off : at + 1 ≡ length (code_of p thread) → last ≡ true) where
  same_depth : (a : ReachedDepth p thread at) → a.depth ≡ depth
  same_depth a = one.only a.depth (let low = reaches_shallow p thread at a.depth a.reached in omega arith) (table.marked at a.depth a.reached)

  abbrev only_pair : ReachedDepth p thread at
  only_pair = record { depth = depth; reached = table.reached at depth (omega (arith, one.below)) one.marked }

  runs_on : RunsOffAfter p thread at → (goes_on (kind (op_at p thread at)) ≡ true) × (last ≡ true)
  runs_on h = elim (leads_by (op_at p thread at) at (at + 1) h.0) [
    | inl jumps ↦ absurd (let there = target_inside p thread (op_at p thread at) (at + 1) named.target jumps in omega (arith, h.1))
    | inr next ↦ (next.0, off h.1)
  ]

  to_pair : (k : CheckKind) → Strays p thread at k → StraysWith (op_at p thread at) depth last k
  to_pair TwoDepths (a, (b, apart)) = absurd (omega (arith, same_depth a, same_depth b))
  to_pair Underflow (a, low) = omega (arith, same_depth a)
  to_pair Overflow (a, high) = subst (λ d. stack_limit < depth_after (op_at p thread at) d) (same_depth a) high
  to_pair RunsOff (inl (a, off)) = runs_on off
  to_pair RunsOff (inr (none, start)) = absurd (omega arith)
  to_pair BadTarget h = h
  to_pair BadName h = h

  from_pair : (k : CheckKind) → StraysWith (op_at p thread at) depth last k → Strays p thread at k
  from_pair TwoDepths h = absurd h
  from_pair Underflow h = (only_pair, h)
  from_pair Overflow h = (only_pair, h)
  from_pair RunsOff h = inl (only_pair, (leads_next (op_at p thread at) at (at + 1) h.0 refl, on h.1))
  from_pair BadTarget h = h
  from_pair BadName h = h

  pub one_marked : (told : Option CheckKind) → TellsKind (StraysWith (op_at p thread at) depth last) ((k : CheckKind) → StraysWith (op_at p thread at) depth last k → ⊥) told → TellsKind (HasDepthFault p thread at) (IsFaultless p thread at) told
  one_marked told h = tells_same (StraysWith (op_at p thread at) depth last) (HasDepthFault p thread at) (λ k s. record { thread_is = is; fault = from_pair k s }) (λ k f. to_pair k f.fault) told h

-- a thread without code
module _ (p : Listing) (thread : ℕ) (is : thread < length p.threads) (none : length (code_of p thread) ≡ 0) where
  stays : (at depth : ℕ) → Reaches p thread at depth → depth ≡ 0
  stays _ _ Begin = refl
  stays _ _ (Follow at depth next after r inside enough is room leads there) = absurd (omega (arith, none))

  halts : op_at p thread 0 ≡ Halt
  halts = get_or_past (code_of p thread) 0 Halt (omega (arith, none))

  none_before : (k : CheckKind) → rank k < 3 → Strays p thread 0 k → ⊥
  none_before TwoDepths lt (a, (b, apart)) = omega (arith, stays 0 a.depth a.reached, stays 0 b.depth b.reached)
  none_before Underflow lt (a, low) =
      let halted = subst (λ op. a.depth < popped (kind op)) halts low in omega (arith, halted)
  none_before Overflow lt (a, high) =
      let halted = subst (λ op. stack_limit < depth_after op a.depth) halts high in omega (arith, halted, stays 0 a.depth a.reached)
  none_before RunsOff lt h = omega arith
  none_before BadTarget lt h = h
  none_before BadName lt h = h

  pub runs_off_at_once : IsFirstIn (HasDepthFault p thread) 0 RunsOff
  runs_off_at_once = record {
    here = record { thread_is = is; fault = inr (none, refl) };
    positions = λ a k lt h. omega arith;
    kinds = λ k lt h. none_before k lt h.fault;
  }

-- a program without faults is valid
module _ (p : Listing) (named : IsNamedWhole p) (faultless : IsFaultlessWhole p) where
  some_code : (thread : ℕ) → thread < length p.threads → 0 < length (code_of p thread)
  some_code thread is = elim (cases_lt 0 (length (code_of p thread))) [
    | inl some ↦ some
    | inr none ↦ absurd (faultless thread 0 RunsOff (record { thread_is = is; fault = inr (omega arith, refl) }))
  ]

  stays_inside : (thread at depth next : ℕ) → thread < length p.threads → Reaches p thread at depth → Leads (op_at p thread at) at next → next < length (code_of p thread)
  stays_inside thread at depth next is r leads =
      let here = reaches_inside p thread at depth (some_code thread is) r in
      elim (leads_by (op_at p thread at) at next leads) [
        | inl jumps ↦ target_inside p thread (op_at p thread at) next (named thread is at here).target jumps
        | inr goes ↦ elim (cases_lt next (length (code_of p thread))) [
          | inl inside ↦ inside
          | inr ge ↦ absurd (faultless thread at RunsOff (record { thread_is = is; fault = inl (record { depth = depth; reached = r }, (leads_next (op_at p thread at) at (at + 1) goes.0 refl, omega (arith, goes.1))) }))
        ]
      ]

  fine : (thread at depth : ℕ) → thread < length p.threads → Reaches p thread at depth → IsFine p thread at depth
  fine thread at depth is r = record {
    enough = elim (cases_lt depth (popped (kind (op_at p thread at)))) [
      | inl low ↦ absurd (faultless thread at Underflow (record { thread_is = is; fault = (record { depth = depth; reached = r }, low) }))
      | inr ge ↦ ge
    ];
    room = elim (cases_lt stack_limit (depth_after (op_at p thread at) depth)) [
      | inl high ↦ absurd (faultless thread at Overflow (record { thread_is = is; fault = (record { depth = depth; reached = r }, high) }))
      | inr le ↦ le
    ];
    inside = λ next leads. stays_inside thread at depth next is r leads;
    names = (named thread is at (reaches_inside p thread at depth (some_code thread is) r)).names;
  }

  not_apart : (thread at depth other : ℕ) → thread < length p.threads → Reaches p thread at depth → Reaches p thread at other → depth < other → ⊥
  not_apart thread at depth other is r s lt =
      faultless thread at TwoDepths (record { thread_is = is; fault = (record { depth = depth; reached = r }, (record { depth = other; reached = s }, lt)) })

  pub valid_faultless : IsValid p
  valid_faultless = record {
    code = some_code;
    names = λ thread at is inside. (named thread is at inside).names;
    targets = λ thread at is inside. (named thread is at inside).target;
    fine = fine;
    one_depth = λ thread at depth other is r s. elim (cases_lt depth other) [
      | inl lt ↦ absurd (not_apart thread at depth other is r s lt)
      | inr ge ↦ elim (cases_lt other depth) [
        | inl lt ↦ absurd (not_apart thread at other depth is s r lt)
        | inr le ↦ omega arith
      ]
    ];
  }
