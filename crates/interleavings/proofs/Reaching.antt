-- What holds of the runs to which an order leads.
use Rattle.std.proofs.Common.{◌≡◌, ℕ, zero, suc, ◌+◌, ◌<◌, ◌≤◌, List, [], ◌∷◌, ◌++◌, None, length, get_or, refl, sym, ◌∙◌, ap, subst, arith}
use Rattle.std.specs.List.{range_with_len}
use Rattle.interleavings.specs.declared.rest.Rest.{Rest}
use Rattle.interleavings.specs.declared.rest.Rest.TheVariants as rests
use Rattle.interleavings.specs.Recording.{Setting}
use Rattle.interleavings.specs.Driving.{Drive, advance, advance_all, begun, finished, finished_by_all, settle_all, stranger}
use Rattle.interleavings.specs.SimulationShows.{IsReached}
use Rattle.interleavings.proofs.Advances.{IsRun, advance_all-run}
use Rattle.interleavings.proofs.Beginning.{begun-run}
use Rattle.interleavings.proofs.Settling.{finished-keeps}
use Rattle.interleavings.proofs.Strangers.{stranger_more}

-- what holds of a run holds of one to which an order leads
pub reached-run : (g : Setting) (d : Drive) → IsReached g d → IsRun g d
reached-run g d reached = subst (λ (x : Drive). IsRun g x) (sym reached.same) (advance_all-run g reached.order (begun g) reached.known (begun-run g))

-- one member more
pub advance_all-more : (g : Setting) (ts : List ℕ) (t : ℕ) (d : Drive) → advance_all g (ts ++ t ∷ []) d ≡ advance g t (advance_all g ts d)
unfolding advance_all
advance_all-more g [] t d = refl
advance_all-more g (x ∷ ts) t d = advance_all-more g ts t (advance g x d)

-- the run at its start
pub reached-begun : (g : Setting) → IsReached g (begun g)
unfolding advance_all stranger
reached-begun g = record { order = []; known = refl; same = refl }

-- an advance of a thread of the program
pub reached-advance : (g : Setting) (t : ℕ) (d : Drive) → t < length g.program.threads → IsReached g d → IsReached g (advance g t d)
reached-advance g t d below reached = record {
  order = reached.order ++ t ∷ [];
  known = stranger_more (length g.program.threads) reached.order t reached.known below;
  same = ap (advance g t) reached.same ∙ sym (advance_all-more g reached.order t (begun g));
}

-- the advances of an order
pub reached-order : (g : Setting) (order : List ℕ) (d : Drive) → ((k : ℕ) → k < length order → get_or order k 0 < length g.program.threads) → IsReached g d → IsReached g (advance_all g order d)
unfolding advance_all
reached-order g [] d known reached = reached
reached-order g (t ∷ ts) d known reached = reached-order g ts (advance g t d) (λ k below. known (suc k) (omega arith)) (reached-advance g t d (known 0 (omega arith)) reached)

-- the steps by which a thread finishes what it has left
pub reached-finished : (g : Setting) (rest : Rest) (t : ℕ) (d : Drive) → t < length g.program.threads → IsReached g d → IsReached g (finished rest g t d)
reached-finished g rest t d below reached = finished-keeps rest g t (IsReached g) (λ x e r. reached-advance g t x below r) (g.fuel + 3) d reached

-- those of some threads one after another
pub reached-all : (g : Setting) (rest : Rest) (i k : ℕ) (d : Drive) → i + k ≤ length g.program.threads → IsReached g d → IsReached g (finished_by_all rest g (range_with_len i k) d)
reached-all g rest i zero d within reached = reached
reached-all g rest i (suc k) d within reached = reached-all g rest (i + 1) k (finished rest g i d) (omega arith) (reached-finished g rest i d (omega arith) reached)

-- an order and its settling
pub reached-settled : (g : Setting) (order : List ℕ) → stranger (length g.program.threads) order ≡ None → IsReached g (settle_all g (advance_all g order (begun g)))
unfolding settle_all
reached-settled g order known =
    let n = length g.program.threads in
    let whole : 0 + n ≤ n = omega arith in
    let d : Drive = advance_all g order (begun g) in
    let written : IsReached g (finished_by_all rests.Write g (range_with_len 0 n) d) = reached-all g rests.Write 0 n d whole (record { order = order; known = known; same = refl }) in
    reached-all g rests.Exits 0 n (finished_by_all rests.Read g (range_with_len 0 n) (finished_by_all rests.Write g (range_with_len 0 n) d)) whole (reached-all g rests.Read 0 n (finished_by_all rests.Write g (range_with_len 0 n) d) whole written)
