use Rattle.std.proofs.Common.{rules}
use Rattle.assembler.proofs.NameLemmas.{decls_kept}
use Rattle.assembler.proofs.assembly.Assembly.add_decl.Goals as goal

-- the positions that are kept are those of the declarations, with the new one after the others
pub returns-clause-step : goal.returns-clause-step
returns-clause-step c =
    let added = c.in_ok-position.ensures in
    record {
      decls = decls_kept _ _ c.args.self.now.program c.add_cells.new.self (record { name = c.in-Some.name; shape = c.args.shape; start = c.args.start }) c.args.word.now _ c.requires.step.decls c.in_ok-insert.ensures c.in-Some.ensures.name added.position added.refused.0 added.added;
      monitors = search rules;
      begun = search rules;
    }
