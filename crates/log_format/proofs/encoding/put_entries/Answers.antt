use Rattle.std.proofs.lemmas.List.Elements.{All-more}
use Rattle.log_format.specs.Bundles.{IsEntryOf}
use Rattle.log_format.specs.declared.version.Version.TheVariants.{Two}
use Rattle.log_format.proofs.Written.{next_entry_written, entries_written}
use Rattle.log_format.proofs.encoding.put_entries.Goals as goal

pub loop-entry-preserved : goal.loop-entry-preserved
loop-entry-preserved c = record {
  written = rw c.bound_after-before.ensures (next_entry_written c.loop-entry.before c.args.entries.now c.loop-entry.entry-index _ c.loop-entry.out.items c.put_entry.new.out.items _ c.loop-entry-test.true c.loop-entry.invariant.written c.in_ok-put_entry.ensures.written);
  fit = All-more (IsEntryOf Two) c.args.entries.now c.loop-entry.entry-index _ c.loop-entry-test.true c.loop-entry.invariant.fit c.in_ok-put_entry.ensures.fits;
}

pub returns-clause-written : goal.returns-clause-written
returns-clause-written c = entries_written c.loop-entry.before c.args.entries.now c.loop-entry.entry-index c.loop-entry.out.items _ c.loop-entry-test.false c.loop-entry.invariant.written
