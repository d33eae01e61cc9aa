-- What contracts see of the limits of a run.
use Rattle.stride_cli.specs.declared.limits.Limits.{Limits as Kept}
use Rattle.stride_cli.specs.Settings.{Limits}

-- the numbers alone
abbrev pub limits_seen : Kept → Limits
limits_seen limits = record { fuel = limits.fuel; patience = limits.patience }
