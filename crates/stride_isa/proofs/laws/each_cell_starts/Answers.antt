use Rattle.std.proofs.Common.{◌≡◌, ◌∙◌, List, [], ◌∷◌, length, replicate, refl, arith}
use Rattle.std.proofs.lemmas.List.{length-replicate}
use Rattle.std.proofs.lemmas.List.Concat.{length-flat_map}
use Rattle.std.proofs.lemmas.List.Sums.{sum_by-cons}
use Rattle.std.specs.List.{sum_by}
use Rattle.stride_isa.specs.Listing.{cell_count, cells_of}
use Rattle.stride_isa.specs.declared.decl.Decl.{Decl}
use Rattle.stride_isa.proofs.laws.each_cell_starts.Goals as goal

-- the starting values of the declarations, one for each of their cells
starts_by : (decls : List Decl) → sum_by (λ (d : Decl). length (replicate (cells_of d.shape) d.start)) decls ≡ cell_count decls
starts_by [] = refl
starts_by (d ∷ decls) =
    omega (arith, length-replicate (cells_of d.shape) d.start, starts_by decls, sum_by-cons (λ (d : Decl). length (replicate (cells_of d.shape) d.start)) d decls, sum_by-cons (λ (d : Decl). cells_of d.shape) d decls)

pub returns : goal.returns
returns c = λ decls. length-flat_map (λ (d : Decl). replicate (cells_of d.shape) d.start) decls ∙ starts_by decls
