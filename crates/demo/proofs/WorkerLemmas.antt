-- A program of workers is valid: each position of a worker's code is reached with one depth, which a table has.
use Rattle.std.proofs.Common.{◌≡◌, ℕ, zero, suc, ◌+◌, ◌<◌, ◌≤◌, ◌∙◌, Bool, true, false, List, [], ◌∷◌, length, refl, sym, ap, subst, arith, inl, inr, Option, Some, None, slice_index_or, zero-add}
use Rattle.std.specs.Prelude.{slice_index}
use Rattle.stride_isa.specs.Instructions.{goes_on, kind, popped}
use Rattle.stride_isa.specs.Limits.{stack_limit}
use Rattle.stride_isa.specs.Listing.{Listing, code_of, op_at}
use Rattle.stride_isa.specs.Validity.{Begin, Follow, IsInside, IsValid, Leads, LeadsBy, Names, Reaches, depth_after, target_of}
use Rattle.stride_isa.specs.declared.op.Op.{Op}
use Rattle.stride_isa.specs.declared.op.Op.TheVariants as ops
use Rattle.demo.specs.Program.{program_of, worker}
use Rattle.demo.proofs.CodeLemmas.{length-worker}

-- the depth with which a position is reached
depth_at : ℕ → ℕ
depth_at at = slice_index (0 ∷ 1 ∷ 0 ∷ 0 ∷ 1 ∷ 2 ∷ 1 ∷ 0 ∷ 0 ∷ 1 ∷ 2 ∷ 1 ∷ 0 ∷ 1 ∷ 2 ∷ 1 ∷ 0 ∷ 1 ∷ 0 ∷ []) at

-- an instruction fits the table at its position of a worker's code
record Fits (threads : List (List Op)) (at : ℕ) (op : Op) : Type 0 where
  enough : popped (kind op) ≤ depth_at at
  room : depth_after op (depth_at at) ≤ stack_limit
  inside : (next : ℕ) → Leads op at next → next < 19
  after : (next : ℕ) → Leads op at next → depth_at next ≡ depth_after op (depth_at at)
  names : Names (program_of threads) op
  target : (p : Listing) (thread : ℕ) → length (code_of p thread) ≡ 19 → IsInside p thread (target_of op)

leads_on : (target : Option ℕ) (on : Bool) (at next : ℕ) → target ≡ None → on ≡ true → LeadsBy target on at next → next ≡ at + 1
leads_on None true at next none goes leads = leads
leads_on None false at next none goes leads = absurd leads
leads_on (Some target) on at next none goes leads = absurd (cc)

-- an instruction that only the next one follows
fits_next : (threads : List (List Op)) (at : ℕ) (op : Op) → target_of op ≡ None → goes_on (kind op) ≡ true → popped (kind op) ≤ depth_at at → depth_at (at + 1) ≡ depth_after op (depth_at at) → depth_at (at + 1) ≤ stack_limit → at + 1 < 19 → Names (program_of threads) op → Fits threads at op
fits_next threads at op none goes enough after room inside names = record {
  enough = enough;
  room = subst (λ depth. depth ≤ stack_limit) after room;
  inside = λ next leads. subst (λ n. n < 19) (sym (leads_on (target_of op) (goes_on (kind op)) at next none goes leads)) inside;
  after = λ next leads. ap depth_at (leads_on (target_of op) (goes_on (kind op)) at next none goes leads) ∙ after;
  names = names;
  target = λ p thread long. subst (λ target. IsInside p thread target) (sym none) tt;
}

fits_jump : (threads : List (List Op)) → Fits threads 17 (ops.Jnz 2)
unfolding depth_at
fits_jump threads = record {
  enough = omega arith;
  room = omega arith;
  inside = λ next leads. elim leads [ inl e ↦ omega arith | inr e ↦ omega arith ];
  after = λ next leads. elim leads [ inl e ↦ ap depth_at e | inr e ↦ ap depth_at e ];
  names = tt;
  target = λ p thread long. omega arith;
}

fits_halt : (threads : List (List Op)) → Fits threads 18 ops.Halt
unfolding depth_at
fits_halt threads = record {
  enough = omega arith;
  room = omega arith;
  inside = λ next leads. absurd leads;
  after = λ next leads. absurd leads;
  names = tt;
  target = λ p thread long. tt;
}

-- each instruction of a code that begins at this position
abbrev EachAt : (ℕ → Op → Type 0) → ℕ → List Op → Type 0
EachAt P first [] = Unit {0}
EachAt P first (op ∷ code) = P first op × EachAt P (first + 1) code

each_at : (P : ℕ → Op → Type 0) (first : ℕ) (code : List Op) → EachAt P first code → (i : ℕ) → i < length code → P (first + i) (slice_index_or code i ops.Halt)
each_at P first [] each i lt = absurd (omega arith)
each_at P first (op ∷ code) each zero lt = let e : first + 0 ≡ first = omega arith in rw e each.0
each_at P first (op ∷ code) each (suc i) lt =
    let e : first + suc i ≡ first + 1 + i = omega arith in rw e (each_at P (first + 1) code each.1 i (omega arith))

fits_each : (threads : List (List Op)) (rounds amount : ℕ) → EachAt (Fits threads) 0 (worker rounds amount)
unfolding worker depth_at
fits_each threads rounds amount = (
  fits_next threads 0 (ops.Push rounds) refl refl (omega arith) refl (omega arith) (omega arith) tt,
  (
    fits_next threads 1 (ops.Set 0) refl refl (omega arith) refl (omega arith) (omega arith) (omega arith),
    (
      fits_next threads 2 (ops.Enter 0) refl refl (omega arith) refl (omega arith) (omega arith) (omega arith),
      (
        fits_next threads 3 (ops.Read 0) refl refl (omega arith) refl (omega arith) (omega arith) (omega arith, refl),
        (
          fits_next threads 4 (ops.Push amount) refl refl (omega arith) refl (omega arith) (omega arith) tt,
          (
            fits_next threads 5 ops.Add refl refl (omega arith) refl (omega arith) (omega arith) tt,
            (
              fits_next threads 6 (ops.Write 0) refl refl (omega arith) refl (omega arith) (omega arith) (omega arith, refl),
              (
                fits_next threads 7 (ops.Exit 0) refl refl (omega arith) refl (omega arith) (omega arith) (omega arith),
                (
                  fits_next threads 8 (ops.Read 1) refl refl (omega arith) refl (omega arith) (omega arith) (omega arith, refl),
                  (
                    fits_next threads 9 (ops.Push 1) refl refl (omega arith) refl (omega arith) (omega arith) tt,
                    (
                      fits_next threads 10 ops.Add refl refl (omega arith) refl (omega arith) (omega arith) tt,
                      (
                        fits_next threads 11 (ops.Write 1) refl refl (omega arith) refl (omega arith) (omega arith) (omega arith, refl),
                        (
                          fits_next threads 12 (ops.Get 0) refl refl (omega arith) refl (omega arith) (omega arith) (omega arith),
                          (
                            fits_next threads 13 (ops.Push 1) refl refl (omega arith) refl (omega arith) (omega arith) tt,
                            (
                              fits_next threads 14 ops.Sub refl refl (omega arith) refl (omega arith) (omega arith) tt,
                              (
                                fits_next threads 15 (ops.Set 0) refl refl (omega arith) refl (omega arith) (omega arith) (omega arith),
                                (
                                  fits_next threads 16 (ops.Get 0) refl refl (omega arith) refl (omega arith) (omega arith) (omega arith),
                                  (fits_jump threads, (fits_halt threads, tt)),
                                ),
                              ),
                            ),
                          ),
                        ),
                      ),
                    ),
                  ),
                ),
              ),
            ),
          ),
        ),
      ),
    ),
  ),
)

starts_empty : depth_at 0 ≡ 0
unfolding depth_at
starts_empty = refl

fits_at : (threads : List (List Op)) (rounds amount at : ℕ) (code : List Op) → code ≡ worker rounds amount → at < 19 → Fits threads at (slice_index_or code at ops.Halt)
fits_at threads rounds amount at code is lt =
    let there = each_at (Fits threads) 0 (worker rounds amount) (fits_each threads rounds amount) at (omega (arith, length-worker rounds amount)) in
    rw is (rw zero-add at there)

-- programs of which each thread is a worker
module _ (threads : List (List Op)) (rounds amount : ℕ → ℕ) (workers : (thread : ℕ) → thread < length threads → slice_index_or threads thread [] ≡ worker (rounds thread) (amount thread)) where
  long : (thread : ℕ) → thread < length threads → length (code_of (program_of threads) thread) ≡ 19
  long thread inside = ap length (workers thread inside) ∙ length-worker (rounds thread) (amount thread)

  fits : (thread at : ℕ) → thread < length threads → at < 19 → Fits threads at (op_at (program_of threads) thread at)
  fits thread at inside lt =
      fits_at threads (rounds thread) (amount thread) at (code_of (program_of threads) thread) (workers thread inside) lt

  record IsAtDepth (at depth : ℕ) : Type 0 where
    inside : at < 19
    depth_is : depth ≡ depth_at at

  reached : (thread at depth : ℕ) → thread < length threads → Reaches (program_of threads) thread at depth → IsAtDepth at depth
  reached thread _ _ is Begin = record { inside = omega arith; depth_is = sym starts_empty }
  reached thread _ _ is (Follow at depth next after before inside enough after_is room leads there) =
      let here = reached thread at depth is before in
      let fit = fits thread at is here.inside in
      record {
        inside = fit.inside next leads;
        depth_is = after_is ∙ (ap (λ d. depth_after (op_at (program_of threads) thread at) d) here.depth_is ∙ sym (fit.after next leads));
      }

  pub workers_valid : IsValid (program_of threads)
  workers_valid = record {
    code = λ thread is. omega (arith, long thread is);
    names = λ thread at is inside. (fits thread at is (omega (arith, long thread is))).names;
    targets = λ thread at is inside. (fits thread at is (omega (arith, long thread is))).target (program_of threads) thread (long thread is);
    fine = λ thread at depth is r. (
        let here = reached thread at depth is r in
        let fit = fits thread at is here.inside in
        record {
          enough = rw here.depth_is fit.enough;
          room = rw here.depth_is fit.room;
          inside = λ next leads. omega (arith, long thread is, fit.inside next leads);
          names = fit.names;
        });
    one_depth = λ thread at depth other is r s. (reached thread at depth is r).depth_is ∙ sym (reached thread at other is s).depth_is;
  }
