use Rattle.std.proofs.Common.{◌≡◌, ◌++◌, drop}
use Rattle.std.specs.List.{flat_map}
use Rattle.assembler.specs.Canonical.{decl_words, line_of}
use Rattle.assembler.proofs.printing.put_decls.Given as goal

-- what was written and the lines that are left are the start and all lines
abbrev pub invariant-loop-at : goal.invariant-loop-at
invariant-loop-at l =
    l.text.items ++ flat_map (λ d. line_of (decl_words d.name d.shape d.start)) (drop l.at l.program.decls) ≡ l.fn.text.items ++ flat_map (λ d. line_of (decl_words d.name d.shape d.start)) l.program.decls
