-- What the results of reading say, seen beside what the bytes read as.
use Rattle.std.specs.Prelude.{◌≡◌, ◌≤◌, ℕ, ◌-◌, Result, Ok, Err}
use Rattle.log_format.specs.Bundles.{Bundled, bundled}
use Rattle.log_format.specs.Reading.{Refusal}
use Rattle.log_format.specs.declared.bundle.Bundle.{Bundle}
use Rattle.log_format.specs.declared.fault.Fault.{Fault}
use Rattle.log_format.specs.declared.fault.ReadError.{ReadError}
use Rattle.log_format.specs.declared.fault.ReadError.TheVariants as inside
use Rattle.log_format.specs.declared.format_error.FormatError.{FormatError}
use Rattle.log_format.specs.declared.format_error.FormatError.TheVariants.{Bad, NoMemory}

-- the fault is the one that reading meets; want of memory says nothing
abbrev pub Fails : {Y : Type 0} → ReadError → Result Y Fault → Type 0
Fails (inside.Fault wrong) read = read ≡ Err wrong
Fails inside.NoMemory read = Unit {0}

-- what is given, seen by view, is what reading gives
abbrev pub Gives : {X Y : Type 0} → (X → Y) → Result X ReadError → Result Y Fault → Type 0
Gives view (Ok x) read = read ≡ Ok (view x)
Gives view (Err error) read = Fails error read

-- no more bytes are left at the fault than an input of this length has
abbrev pub IsInside : ℕ → ReadError → Type 0
IsInside size (inside.Fault wrong) = wrong.left ≤ size
IsInside size inside.NoMemory = Unit {0}

-- the error as it is told of an input of this length
abbrev pub told : ℕ → ReadError → FormatError
told size (inside.Fault wrong) = Bad wrong.kind (size - wrong.left)
told size inside.NoMemory = NoMemory

-- the bundle is the one that is read, and the refusal the first one; want of memory says nothing
abbrev pub IsAnswer : Result Bundle FormatError → Result Bundled Refusal → Type 0
IsAnswer (Ok bundle) read = read ≡ Ok (bundled bundle)
IsAnswer (Err (Bad kind offset)) read = read ≡ Err (record { kind = kind; offset = offset })
IsAnswer (Err NoMemory) read = Unit {0}
