use Rattle.std.proofs.Common.{rules}
use Rattle.assembler.proofs.NameLemmas.{monitors_kept}
use Rattle.assembler.proofs.assembly.Assembly.add_monitor.Goals as goal

-- the positions that are kept are those of the monitors, with the new one after the others
pub returns-clause-step : goal.returns-clause-step
returns-clause-step c =
    let added = c.in_ok-position.ensures in
    record {
      decls = search rules;
      monitors = monitors_kept _ _ c.args.self.now.program c.add_monitor.new.self c.args.word.now _ c.requires.step.monitors c.in_ok-insert.ensures added.position (search rules) (search rules);
      begun = search rules;
    }
