-- Words have at most one reading.
use Rattle.std.proofs.Common.{◌≡◌, ◌∙◌, ℕ, cond, List, [], ◌∷◌, Option, Some, None, refl, sym, ap, ap₂, codes}
use Rattle.std.specs.Str.{bytes_eq}
use Rattle.std.specs.Str.Parse.{digits_value}
use Rattle.clap.specs.Simple.{matches_of}
use Rattle.clap.specs.Walk.{first_of}
use Rattle.command_words.specs.App.{line_app}
use Rattle.command_words.specs.Laws.{OneReading}
use Rattle.command_words.specs.Reading.{listed}
use Rattle.command_words.specs.Words.{Names, Sets, Word, form, live_words}
use Rattle.command_words.specs.declared.options.Setting.TheVariants.{Fuel, Patience}
use Rattle.command_words.specs.declared.settings.Command.{Command}
use Rattle.command_words.specs.declared.settings.Command.TheVariants.{Check, Follow, Sim, Run, Bundle, Infer, Replay, Show, Upgrade, Demo}
use Rattle.command_words.proofs.Lines.{line_means}
use Rattle.command_words.proofs.Readings.{same_live}

one_value : (limit : ℕ) (words : List Word) (one other : Option ℕ) → Sets limit words one → Sets limit words other → one ≡ other
one_value limit [] None None first second = refl
one_value limit [] None (Some n) first second = absurd second
one_value limit [] (Some n) other first second = absurd first
one_value limit (word ∷ []) None other first second = absurd first
one_value limit (word ∷ []) (Some n) None first second = absurd second
one_value limit (word ∷ []) (Some n) (Some k) first second = ap Some (sym first.0.1 ∙ second.0.1)
one_value limit (a ∷ b ∷ words) None other first second = absurd first
one_value limit (a ∷ b ∷ words) (Some n) other first second = absurd first

first_word : List Word → Word
first_word [] = []
first_word (word ∷ words) = word

-- the command that a first word names alone
abbrev named_by : Word → Option Command
named_by word =
    cond (bytes_eq word (codes "check")) (Some Check) (cond (bytes_eq word (codes "follow")) (Some Follow) (cond (bytes_eq word (codes "sim")) (Some Sim)
    (cond (bytes_eq word (codes "run")) (Some Run) (cond (bytes_eq word (codes "bundle")) (Some Bundle) (cond (bytes_eq word (codes "infer")) (Some Infer)
    (cond (bytes_eq word (codes "replay")) (Some Replay) (cond (bytes_eq word (codes "show")) (Some Show) (cond (bytes_eq word (codes "upgrade")) (Some Upgrade) None))))))))

abbrev alone : Command → Option Command
alone (Demo number live) = None
alone command = Some command

named : (command : Command) (words : List Word) → Names command words → named_by (first_word words) ≡ alone command
unfolding first_word
named (Demo number live) words (decimal, spelled, value, small) = ap (λ (ws : List Word). named_by (first_word ws)) spelled
named command words is = ap (λ (ws : List Word). named_by (first_word ws)) is

alone_is : (one other : Command) → alone other ≡ Some one → other ≡ one
alone_is one (Demo number live) is = absurd (cc)
alone_is one other is = let same : Some other ≡ Some one = is in cc

one_command : (one other : Command) (words : List Word) → Names one words → Names other words → one ≡ other
one_command (Demo number live) (Demo amount on) words (decimal, spelled, value, small) (numeral, written, worth, little) =
    let same : codes "demo" ∷ decimal ∷ live_words live ≡ codes "demo" ∷ numeral ∷ live_words on = sym spelled ∙ written in
    let word_is : decimal ≡ numeral = cc in
    let live_is : live_words live ≡ live_words on = cc in
    ap₂ Demo (sym value.1 ∙ ap (digits_value 10) word_is ∙ worth.1) (same_live live on live_is)
one_command (Demo number live) other words first second =
    let apart : None ≡ alone other = sym (named (Demo number live) words first) ∙ named other words second in
    absurd (cc)
one_command one other words first second = sym (alone_is one other (sym (named other words second) ∙ named one words first))

pub one_reading_proof : OneReading
one_reading_proof words one other first second =
    let meant = line_means words one first in
    let told = line_means words other second in
    let rows = matches_of line_app words in
    let fuel_is : one.fuel ≡ other.fuel = one_value (form Fuel).limit (listed (first_of (codes "fuel") rows)) one.fuel other.fuel meant.fuel told.fuel in
    let patience_is : one.patience ≡ other.patience = one_value (form Patience).limit (listed (first_of (codes "patience") rows)) one.patience other.patience meant.patience told.patience in
    let command_is : one.command ≡ other.command = one_command one.command other.command _ meant.command told.command in
    λ i. record { command = command_is i; fuel = fuel_is i; patience = patience_is i }
