-- What contracts see of the results of `drive`.
use Rattle.std.specs.Prelude.{◌≡◌, ℕ, List, map, Some}
use Rattle.interleavings.specs.declared.driven.Driven.{Driven}
use Rattle.interleavings.specs.declared.driven.DriveError.{DriveError}
use Rattle.interleavings.specs.declared.driven.DriveError.TheVariants.{NoSuchThread, NoMemory}
use Rattle.interleavings.specs.Driving.{stranger}
use Rattle.interleavings.specs.Recording.{Recording}

-- the recording that is given
abbrev pub recording_seen : Driven → Recording
recording_seen d = record {
  logs = map (λ log. log.items) d.logs.items;
  outputs = map (λ output. output.items) d.outputs.items;
  ends = d.ends.items;
  last_values = d.last_values.items;
}

-- a refusal tells the first member that names no thread; want of memory says nothing
abbrev pub IsStranger : ℕ → List ℕ → DriveError → Type 0
IsStranger threads order (NoSuchThread place) = stranger threads order ≡ Some place
IsStranger threads order NoMemory = Unit {0}
