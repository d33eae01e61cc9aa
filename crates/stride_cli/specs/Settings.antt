-- How programs are run, by what the words set.
use Rattle.std.specs.Prelude.{ℕ, ◌≤◌, unwrap_or}
use Rattle.stride_isa.specs.Limits.{fuel_limit}
use Rattle.interleavings.specs.declared.limits.TheConstants.{PATIENCE_LIMIT}
use Rattle.command_words.specs.declared.settings.Settings.{Settings}

-- how many instructions each thread may make, and after how many odd looks in a row it gives up
pub record Limits : Type 0 where
  pub fuel : ℕ
  pub patience : ℕ

-- what the options set, or 100,000 of each where the option isn't given
abbrev pub limits_of : Settings → Limits
limits_of settings = record { fuel = unwrap_or settings.fuel 100000; patience = unwrap_or settings.patience 100000 }

-- how demonstrations are run
abbrev pub demo_limits : Limits
demo_limits = record { fuel = 100000; patience = 10000000 }

-- there is some of each, and no more than may be set
pub record AreInRange (limits : Limits) : Type 0 where
  pub some_fuel : 1 ≤ limits.fuel
  pub fuel : limits.fuel ≤ fuel_limit
  pub some_patience : 1 ≤ limits.patience
  pub patience : limits.patience ≤ PATIENCE_LIMIT
