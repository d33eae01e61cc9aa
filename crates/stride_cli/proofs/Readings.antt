-- What the words of a line set, and what is answered to them.
use Rattle.std.proofs.Common.{◌≡◌, ◌↔◌, ◌≤◌, inl, inr, ℕ, List, [], ◌∷◌, Option, Some, None, IfSome, refl, subst, arith, unwrap_or}
use Rattle.command_words.specs.Laws.{OneReading}
use Rattle.command_words.specs.Words.{IsLine, IsNoLine, OfLine, Sets, Word, form, given}
use Rattle.command_words.specs.declared.options.Setting.TheVariants.{Fuel, Patience}
use Rattle.command_words.specs.declared.settings.Settings.{Settings}
use Rattle.stride_cli.specs.declared.status.Status.{Status}
use Rattle.stride_cli.specs.declared.status.Status.TheVariants.{Done, Usage, ReadFault, TooLong, Program, Bundle, Diverges, NoLinkage, NotEnabled, WriteFault, NoMemory}
use Rattle.stride_cli.specs.Answers.{Answer, AnswersWords, refused}
use Rattle.stride_cli.specs.Settings.{AreInRange, limits_of}
use Rattle.stride_cli.specs.Telling.{OnMemory}

within : (limit other : ℕ) (words : List Word) (kept : Option ℕ) → 1 ≤ other → other ≤ limit → Sets limit words kept → (1 ≤ unwrap_or kept other) × (unwrap_or kept other ≤ limit)
within limit other words None some most is = (some, most)
within limit other [] (Some n) some most is = absurd is
within limit other (word ∷ []) (Some n) some most is = (is.1, is.2)
within limit other (word ∷ next ∷ words) (Some n) some most is = absurd is

-- what a line sets is in range
pub in_range : (words : List Word) (settings : Settings) → IsLine words settings → AreInRange (limits_of settings)
in_range words settings line =
    let of_fuel = within (form Fuel).limit 100000 (given Fuel line.items) settings.fuel (omega arith) (omega arith) (line.options Fuel) in
    let of_patience = within (form Patience).limit 100000 (given Patience line.items) settings.patience (omega arith) (omega arith) (line.options Patience) in
    record { some_fuel = of_fuel.0; fuel = of_fuel.1; some_patience = of_patience.0; patience = of_patience.1 }

-- what holds of one reading of the words holds of each
pub of_reading : OneReading → (words : List Word) (Holds : Settings → Type 0) (settings : Settings) → IsLine words settings → Holds settings → OfLine words Holds
of_reading law words Holds settings line holds = λ other also. subst Holds (law words settings other line also) holds

-- the answer to words is that to the settings of their line
pub of_line : OneReading → (Answers : Settings → Answer → Type 0) (words : List Word) (answer : Answer) → AnswersWords Answers words answer → OfLine words (λ settings. Answers settings answer)
of_line law Answers words answer (inl is) = of_reading law words (λ settings. Answers settings answer) is.0 is.1 is.2
of_line law Answers words answer (inr none) = λ settings line. absurd (none.0 settings line)

-- a fact holds where memory didn't run out, too
on_memory : (status : Status) (fact : Type 0) → fact → OnMemory status fact
on_memory NoMemory fact is = tt
on_memory Done fact is = is
on_memory Usage fact is = is
on_memory ReadFault fact is = is
on_memory TooLong fact is = is
on_memory (Program fault) fact is = is
on_memory (Bundle kind offset) fact is = is
on_memory (Diverges thread place) fact is = is
on_memory (NoLinkage fault) fact is = is
on_memory (NotEnabled place fault) fact is = is
on_memory WriteFault fact is = is

-- where a line is refused exactly where its settings have this, the words are refused exactly where each reading has it
pub refused_line : OneReading → (words : List Word) (settings : Settings) (Refused : Settings → Type 0) (status : Status) → IsLine words settings → (status ≡ Usage ↔ Refused settings) → OnMemory status (status ≡ Usage ↔ OfLine words Refused)
refused_line law words settings Refused status line is =
    on_memory status (status ≡ Usage ↔ OfLine words Refused) ((λ e. of_reading law words Refused settings line (is.0 e)), (λ all. is.1 (all settings line)))

-- words that are no line are refused
pub no_line_refused : (words : List Word) (Refused : Settings → Type 0) → IsNoLine words → OnMemory Usage (Usage ≡ Usage ↔ OfLine words Refused)
no_line_refused words Refused none = ((λ e settings line. absurd (none settings line)), (λ all. refl))

-- and this is their answer
pub no_line_answer : (Answers : List ℕ → Settings → Answer → Type 0) (words : List Word) (left : Option (List ℕ)) → IsNoLine words → IfSome left (λ bytes. AnswersWords (Answers bytes) words (refused Usage))
no_line_answer Answers words None none = tt
no_line_answer Answers words (Some bytes) none = inr (none, refl)

-- a line's call is refused by no words
pub line_done : (words : List Word) (settings : Settings) (status : Status) → IsLine words settings → (status ≡ Usage → ⊥) → OnMemory status ((status ≡ Usage) ↔ IsNoLine words)
line_done words settings status line used =
    on_memory status ((status ≡ Usage) ↔ IsNoLine words) ((λ is. absurd (used is)), (λ none. absurd (none settings line)))

-- and words that are none are
pub no_line_usage : (words : List Word) → IsNoLine words → (Usage ≡ Usage) ↔ IsNoLine words
no_line_usage words none = ((λ _. none), (λ _. refl))
