use Rattle.std.proofs.Common.{◌^◌, ◌<◌, arith, length}
use Rattle.log_format.specs.Bundles.{lists_of}
use Rattle.assembler.specs.Canonical.{canonical_limit}
use Rattle.stride_cli.specs.LimitsSeen.{limits_seen}
use Rattle.stride_cli.proofs.BundleLengths.{lists_few, lists_threads}
use Rattle.stride_cli.proofs.RecordedBundles.{bundle_if_made}
use Rattle.stride_cli.proofs.commands.bundle.spell_recording.Goals as goal

pub encode-requires : goal.encode-requires
encode-requires c =
    let short : length c.in_ok-text.text.items < canonical_limit = c.in_ok-text.ensures.short in
    let text : length c.in_ok-text.text.items < 2 ^ 32 = omega (arith, short) in
    record {
      some_fuel = c.args.limits.some_fuel;
      fuel = c.args.limits.fuel_within;
      text = text;
      threads = lists_threads c.args.logs.items c.requires.few;
      counts = lists_few c.args.limits.fuel c.args.logs.items c.requires.short;
    }

pub returns : goal.returns
returns c =
    bundle_if_made (limits_seen c.args.limits) c.args.program.now (lists_of c.args.logs.items) c.in_ok-text.text.items c.encode.result c.requires.recorded c.in_ok-text.ensures.canonical c.in_ok-text.ensures.short c.in_ok-text.ensures.read_back
    c.encode.ensures.spelled c.encode.ensures.in_range
