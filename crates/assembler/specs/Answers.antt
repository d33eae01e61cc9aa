-- What the results of reading say, seen beside what a text spells.
use Rattle.std.specs.Prelude.{◌≡◌, Result, Ok, Err}
use Rattle.assembler.specs.Programs.{LineFault}
use Rattle.assembler.specs.declared.asm_error.AsmError.{AsmError}
use Rattle.assembler.specs.declared.asm_error.AsmError.TheVariants.{Bad, NoMemory}

-- what is given is what is spelled, and what is refused is the first fault; want of memory says nothing
abbrev pub IsAnswer : {X Y : Type 0} → (X → Y) → Result X AsmError → Result Y LineFault → Type 0
IsAnswer view (Ok x) spelled = spelled ≡ Ok (view x)
IsAnswer view (Err (Bad kind line)) spelled = spelled ≡ Err (record { kind = kind; line = line })
IsAnswer view (Err NoMemory) spelled = Unit {0}
