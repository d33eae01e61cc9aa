use Rattle.std.proofs.Common.{◌≡◌, suc, List, [], ◌∷◌, length, refl, ap, arith}
use Rattle.stride_isa.specs.Listing.{Listing, push_last}
use Rattle.sc_machine.proofs.tests.add_thread.Goals as goal

-- one more item in the last list of a row leaves as many lists
length_last : {X : Type 0} (lists : List (List X)) (x : X) → length (push_last lists x) ≡ length lists
length_last [] x = refl
length_last (list ∷ []) x = refl
length_last (list ∷ next ∷ rest) x = ap suc (length_last (next ∷ rest) x)

pub loop-op-preserved : goal.loop-op-preserved
loop-op-preserved c =
    let added = ap (λ (p : Listing). length p.threads) c.in_ok-add_op.ensures.added in
    omega (arith, added, length_last c.loop-op.program.threads)
