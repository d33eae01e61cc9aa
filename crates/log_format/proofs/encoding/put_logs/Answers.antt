use Rattle.std.proofs.Common.{All, subst}
use Rattle.std.proofs.lemmas.List.Elements.{All-more}
use Rattle.stride_base.specs.Listed.{Listed}
use Rattle.interleavings.specs.declared.event.LogEntry.{LogEntry}
use Rattle.log_format.specs.Bundles.{IsEntryOf}
use Rattle.log_format.specs.Spelling.{log_bytes}
use Rattle.log_format.specs.declared.version.Version.TheVariants.{Two}
use Rattle.log_format.proofs.Written.{next_log_written}
use Rattle.log_format.proofs.encoding.put_logs.Goals as goal

pub loop-log-preserved : goal.loop-log-preserved
loop-log-preserved c = (
  next_log_written (log_bytes Two) c.args.logs.now c.loop-log.log-index c.log-item.result c.args.out.now.items c.loop-log.out.items c.put_log.new.out.items c.loop-log-test.true c.log-item.is c.loop-log.invariant.0 c.in_ok-put_log.ensures.written,
  All-more (λ log. All (IsEntryOf Two) log.items) c.args.logs.now c.loop-log.log-index c.log-item.result c.loop-log-test.true c.loop-log.invariant.1
      (subst (λ (log : Listed LogEntry). All (IsEntryOf Two) log.items) c.log-item.is c.in_ok-put_log.ensures.fit),
)
