use Rattle.std.proofs.Common.{◌+◌, ◌≤◌, ◌∙◌, arith, sym}
use Rattle.stride_isa.specs.Listing.{cells_of}
use Rattle.stride_isa.proofs.KeptLemmas.{kept_decl, length_le_cells}
use Rattle.stride_isa.proofs.program.Program.add_cells.Goals as goal

pub overflow_cast-at : goal.overflow_cast-at
overflow_cast-at c =
    omega (arith, length_le_cells c.self.inside.decls.items c.self.invariant.formed.decls, c.self.invariant.formed.limits.cells)

pub invariant_of-self-2 : goal.invariant_of-self-2
invariant_of-self-2 c =
    let told = rw (c.deref.ensures.value, c.deref-2.ensures.value, c.as_slice.ensures.bytes) at c.is_named.ensures in
    let fits : c.self.inside.cells + cells_of c.args.decl.shape ≤ 256 = omega (arith, c.cells-size.ensures, c.self.invariant.cells, c.self.invariant.formed.limits.cells) in
    rw (c.in_ok-push.ensures.items, c.push_reserved.ensures.items, c.in_ok-reserve.ensures.items, c.cells-size.ensures)
    (kept_decl _ c.self.inside.firsts.items c.self.inside.cells c.self.inside.instructions c.args.decl c.self.invariant c.declaration_facts.ensures (sym told ∙ c.if-is_named.false) fits)
