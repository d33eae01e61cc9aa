-- The table of reached pairs: what visits leave of it, and what it is when no pair waits.
use Rattle.std.proofs.Common.{◌≡◌, ◌≢◌, ℕ, ◌+◌, ◌*◌, ◌<◌, ◌≤◌, ◌∙◌, ◌⊎◌, Bool, true, false, List, [], ◌∷◌, ◌++◌, length, refl, sym, ap, subst, arith, length-append, get_or, inl, inr, zero, suc, Option, Some, None, replicate}
use Rattle.std.proofs.Math.ListN.{set}
use Rattle.std.proofs.lemmas.Bool.{cases_lt}
use Rattle.std.proofs.lemmas.List.{get_or-set_same, get_or-set_other, length-set, length-replicate, get_or-replicate, get_or_past}
use Rattle.stride_isa.specs.Listing.{Listing, code_of, op_at}
use Rattle.stride_isa.specs.Marks.{place_of, IsMarked, Waits, unmarked_count, Visits, IsPair, IsDone, IsGrowing, IsTable}
use Rattle.stride_isa.specs.Instructions.{kind, goes_on}
use Rattle.stride_isa.specs.Limits.{stack_limit}
use Rattle.stride_isa.specs.Steps.{Step}
use Rattle.stride_isa.specs.Validity.{target_of, Leads, LeadsBy, Reaches, Begin, Follow}
use Rattle.stride_isa.specs.declared.op.Op.{Op}
use Rattle.stride_isa.specs.declared.pair.Pair.{Pair}

-- a mark that is set leaves one less to set
unmarked_set : (marks : List Bool) (i : ℕ) → i < length marks → get_or marks i false ≡ false → unmarked_count (set marks i true) + 1 ≡ unmarked_count marks
unmarked_set [] i lt e = absurd (omega arith)
unmarked_set (true ∷ marks) zero lt e = absurd (cc)
unmarked_set (false ∷ marks) zero lt e = refl
unmarked_set (true ∷ marks) (suc i) lt e = unmarked_set marks i (omega arith) e
unmarked_set (false ∷ marks) (suc i) lt e = omega (arith, unmarked_set marks i (omega arith) e)

waits_left : (xs ys : List Pair) (at depth : ℕ) → Waits xs at depth → Waits (xs ++ ys) at depth
waits_left [] ys at depth w = absurd w
waits_left (x ∷ xs) ys at depth (inl here) = inl here
waits_left (x ∷ xs) ys at depth (inr w) = inr (waits_left xs ys at depth w)

waits_last : (xs : List Pair) (x : Pair) (at depth : ℕ) → x.at ≡ at → x.depth ≡ depth → Waits (xs ++ x ∷ []) at depth
waits_last [] x at depth e f = inl (e, f)
waits_last (y ∷ xs) x at depth e f = inr (waits_last xs x at depth e f)

waits_split : (xs : List Pair) (x : Pair) (at depth : ℕ) → Waits (xs ++ x ∷ []) at depth → Waits xs at depth ⊎ ((x.at ≡ at) × (x.depth ≡ depth))
waits_split [] x at depth (inl here) = inr here
waits_split [] x at depth (inr w) = absurd w
waits_split (y ∷ xs) x at depth (inl here) = inl (inl here)
waits_split (y ∷ xs) x at depth (inr w) = elim (waits_split xs x at depth w) [ inl there ↦ inl (inr there) | inr here ↦ inr here ]

-- pairs of one place are the same
same_place : (at depth a d : ℕ) → depth ≤ 64 → d ≤ 64 → 65 * at + depth ≡ 65 * a + d → (at ≡ a) × (depth ≡ d)
same_place at depth a d h k e = (omega arith, omega arith)

same_or_other : (m n : ℕ) → (m ≡ n) ⊎ (m ≢ n)
same_or_other m n = elim (cases_lt m n) [
  | inl lt ↦ inr (λ e. absurd (omega arith))
  | inr ge ↦ elim (cases_lt n m) [ inl lt ↦ inr (λ e. absurd (omega arith)) | inr le ↦ inl (omega arith) ]
]

-- a pair that was not marked
pub visits_new : (marks : List Bool) (work : List Pair) (pair : Pair) → place_of pair.at pair.depth < length marks → pair.depth ≤ 64 → get_or marks (place_of pair.at pair.depth) false ≡ false → Visits (IsPair pair) marks work (set marks (place_of pair.at pair.depth) true) (work ++ pair ∷ [])
visits_new marks work pair inside shallow free = record {
  long = length-set marks (place_of pair.at pair.depth) true;
  grows = λ at depth m. grow at depth m (same_or_other (place_of at depth) (place_of pair.at pair.depth));
  fresh = λ at depth h m. new at depth h m (same_or_other (place_of at depth) (place_of pair.at pair.depth));
  keeps = λ at depth w. waits_left work (pair ∷ []) at depth w;
  queued = λ at depth w. elim (waits_split work pair at depth w) [
    | inl old ↦ inl old
    | inr here ↦ inr ((sym here.0, sym here.1), subst (λ i. get_or (set marks (place_of pair.at pair.depth) true) i false ≡ true) (omega (arith, here.0, here.1)) set_here)
  ];
  falls = omega (arith, unmarked_set marks (place_of pair.at pair.depth) inside free, length-append work (pair ∷ []));
}
  where
    set_here : get_or (set marks (place_of pair.at pair.depth) true) (place_of pair.at pair.depth) false ≡ true
    set_here = get_or-set_same marks (place_of pair.at pair.depth) true false inside

    grow : (at depth : ℕ) → IsMarked marks at depth → (place_of at depth ≡ place_of pair.at pair.depth) ⊎ (place_of at depth ≢ place_of pair.at pair.depth) → IsMarked (set marks (place_of pair.at pair.depth) true) at depth
    grow at depth m (inl same) = subst (λ i. get_or (set marks (place_of pair.at pair.depth) true) i false ≡ true) (sym same) set_here
    grow at depth m (inr other) = rw get_or-set_other m

    new : (at depth : ℕ) → depth ≤ 64 → IsMarked (set marks (place_of pair.at pair.depth) true) at depth → (place_of at depth ≡ place_of pair.at pair.depth) ⊎ (place_of at depth ≢ place_of pair.at pair.depth) → IsMarked marks at depth ⊎ (IsPair pair at depth × Waits (work ++ pair ∷ []) at depth)
    new at depth h m (inl same) =
        let pairs = same_place at depth pair.at pair.depth h shallow same in
        inr (pairs, waits_last work pair at depth (sym pairs.0) (sym pairs.1))
    new at depth h m (inr other) = inl (rw get_or-set_other at m)

-- where an instruction leads: to its target, or to the next position
leads_by_parts : (target : Option ℕ) (on : Bool) (at next : ℕ) → LeadsBy target on at next → (target ≡ Some next) ⊎ ((on ≡ true) × (next ≡ at + 1))
leads_by_parts (Some target) false at next h = inl (ap Some (sym h))
leads_by_parts (Some target) true at next (inl h) = inl (ap Some (sym h))
leads_by_parts (Some target) true at next (inr h) = inr (refl, h)
leads_by_parts None false at next h = absurd h
leads_by_parts None true at next h = inr (refl, h)

pub leads_by : (op : Op) (at next : ℕ) → Leads op at next → (target_of op ≡ Some next) ⊎ ((goes_on (kind op) ≡ true) × (next ≡ at + 1))
leads_by op at next h = leads_by_parts (target_of op) (goes_on (kind op)) at next h

leads_next_parts : (target : Option ℕ) (on : Bool) (at next : ℕ) → on ≡ true → next ≡ at + 1 → LeadsBy target on at next
leads_next_parts (Some target) false at next e h = absurd (cc)
leads_next_parts (Some target) true at next e h = inr h
leads_next_parts None false at next e h = absurd (cc)
leads_next_parts None true at next e h = h

pub leads_next : (op : Op) (at next : ℕ) → goes_on (kind op) ≡ true → next ≡ at + 1 → Leads op at next
leads_next op at next e h = leads_next_parts (target_of op) (goes_on (kind op)) at next e h

-- what is reached is shallow, and inside a code that is not empty
pub reaches_shallow : (p : Listing) (thread at depth : ℕ) → Reaches p thread at depth → depth ≤ stack_limit
reaches_shallow p thread _ _ Begin = omega arith
reaches_shallow p thread _ _ (Follow at depth next after r inside enough is room leads there) = room

pub reaches_inside : (p : Listing) (thread at depth : ℕ) → 0 < length (code_of p thread) → Reaches p thread at depth → at < length (code_of p thread)
reaches_inside p thread _ _ some Begin = some
reaches_inside p thread _ _ some (Follow at depth next after r inside enough is room leads there) = there

none_marked : (n i : ℕ) → get_or (replicate n false) i false ≡ false
none_marked n i = elim (cases_lt i n) [
  | inl lt ↦ get_or-replicate n i false false lt
  | inr ge ↦ get_or_past (replicate n false) i false (omega (arith, length-replicate n false))
]

-- the table with its first pair
pub growing_begun : (p : Listing) (thread : ℕ) (start : Pair) (marks : List Bool) (work : List Pair) → start.at ≡ 0 → start.depth ≡ 0 → 0 < length (code_of p thread) → IsMarked marks start.at start.depth → Visits (IsPair start) (replicate (65 * length (code_of p thread)) false) [] marks work → IsGrowing p thread marks work
growing_begun p thread start marks work e f some m v = record {
  long = v.long ∙ length-replicate (65 * length (code_of p thread)) false;
  begun = subst (λ i. get_or marks i false ≡ true) (omega arith) m;
  reached = λ at depth h marked. elim (v.fresh at depth h marked) [
    | inl old ↦ absurd (let no = none_marked (65 * length (code_of p thread)) (place_of at depth) in cc)
    | inr new ↦ started at depth (new.0.0 ∙ e) (new.0.1 ∙ f)
  ];
  queued = λ at depth w. elim (v.queued at depth w) [
    | inl old ↦ absurd old
    | inr new ↦ (omega (arith, new.0.0), omega (arith, new.0.1), new.1)
  ];
  closed = λ at depth h marked. elim (v.fresh at depth h marked) [
    | inl old ↦ absurd (let no = none_marked (65 * length (code_of p thread)) (place_of at depth) in cc)
    | inr new ↦ inl new.1
  ];
}
  where
    started : (at depth : ℕ) → at ≡ 0 → depth ≡ 0 → Reaches p thread at depth
    started at depth a d = rw (a, d) Begin

-- one pair's steps are taken
pub growing_step : (p : Listing) (thread : ℕ) (x : Pair) (marks : List Bool) (work : List Pair) (marks2 : List Bool) (work2 : List Pair) → IsGrowing p thread marks (work ++ x ∷ []) → Visits (Step (op_at p thread x.at) (length (code_of p thread)) x.at x.depth) marks work marks2 work2 → IsDone p thread marks2 x.at x.depth → IsGrowing p thread marks2 work2
growing_step p thread x marks work marks2 work2 g v all =
    let here = g.queued x.at x.depth (waits_last work x x.at x.depth refl refl) in
    record {
      long = v.long ∙ g.long;
      begun = v.grows 0 0 g.begun;
      reached = λ at depth h m. elim (v.fresh at depth h m) [
        | inl old ↦ g.reached at depth h old
        | inr new ↦ Follow x.at x.depth at depth (g.reached x.at x.depth here.1 here.2) here.0 new.0.leaves.enough new.0.leaves.after_is new.0.leaves.room new.0.follows.leads new.0.follows.inside
      ];
      queued = λ at depth w. elim (v.queued at depth w) [
        | inl old ↦ let was = g.queued at depth (waits_left work (x ∷ []) at depth old) in (was.0, was.1, v.grows at depth was.2)
        | inr new ↦ (new.0.follows.inside, new.0.leaves.room, new.1)
      ];
      closed = λ at depth h m. elim (v.fresh at depth h m) [
        | inl old ↦ elim (g.closed at depth h old) [
          | inl waits ↦ elim (waits_split work x at depth waits) [
            | inl other ↦ inl (v.keeps at depth other)
            | inr same ↦ inr (done at depth same.0 same.1)
          ]
          | inr known ↦ inr (λ next after s. v.grows next after (known next after s))
        ]
        | inr new ↦ inl new.1
      ];
    }
  where
    done : (at depth : ℕ) → x.at ≡ at → x.depth ≡ depth → IsDone p thread marks2 at depth
    done at depth e f = subst (λ a. IsDone p thread marks2 a depth) e (subst (λ d. IsDone p thread marks2 x.at d) f all)

none_waits : (work : List Pair) (at depth : ℕ) → length work ≡ 0 → Waits work at depth → ⊥
none_waits [] at depth e w = w
none_waits (x ∷ work) at depth e w = omega arith

-- no pair waits: the table is whole
module _ (p : Listing) (thread : ℕ) (marks : List Bool) (work : List Pair) (g : IsGrowing p thread marks work) (none : length work ≡ 0) where
  marked_all : (at depth : ℕ) → Reaches p thread at depth → IsMarked marks at depth
  marked_all _ _ Begin = g.begun
  marked_all _ _ (Follow at depth next after r inside enough is room leads there) =
      elim (g.closed at depth (reaches_shallow p thread at depth r) (marked_all at depth r)) [
        | inl waits ↦ absurd (none_waits work at depth none waits)
        | inr done ↦ done next after (record {
          leaves = record { enough = enough; after_is = is; room = room };
          follows = record { leads = leads; inside = there };
        })
      ]

  pub whole_table : IsTable p thread marks
  whole_table = record { long = g.long; reached = g.reached; marked = marked_all }

-- the pair that is taken next is inside the code, shallow and marked
pub taken : (p : Listing) (thread : ℕ) (x : Pair) (marks : List Bool) (work : List Pair) → IsGrowing p thread marks (work ++ x ∷ []) → (x.at < length (code_of p thread)) × (x.depth ≤ stack_limit) × IsMarked marks x.at x.depth
taken p thread x marks work g = g.queued x.at x.depth (waits_last work x x.at x.depth refl refl)
