-- Words are a line or none.
use Rattle.std.proofs.Common.{◌≡◌, ◌⊎◌, ◌<◌, ◌≤◌, ◌^◌, ℕ, Bool, true, false, List, [], ◌∷◌, Option, Some, None, inl, inr, refl, ap₂, codes}
use Rattle.clap.specs.Faults.{fault_of}
use Rattle.clap.specs.Kinds.{Kinds}
use Rattle.clap.specs.Simple.{matches_of}
use Rattle.clap.specs.Walk.{Row, all_of, first_of}
use Rattle.std.specs.Option.{unwrap_or}
use Rattle.command_words.specs.App.{line_app}
use Rattle.command_words.specs.Laws.{LineOrNone}
use Rattle.command_words.specs.Reading.{listed}
use Rattle.command_words.specs.Words.{HasLine, IsDecimal, Names, Sets, Word, form, live_words}
use Rattle.command_words.specs.declared.options.Setting.TheVariants.{Fuel, Patience}
use Rattle.command_words.specs.declared.settings.Command.{Command}
use Rattle.command_words.specs.declared.settings.Command.TheVariants.{Check, Follow, Sim, Run, Bundle, Infer, Replay, Show, Upgrade, Demo}
use Rattle.command_words.specs.declared.settings.Settings.{Settings}
use Rattle.command_words.proofs.Deciding.{Known, known_alone, known_as, known_both, known_decimal, known_equal, known_less, known_most}
use Rattle.command_words.proofs.Lines.{Means, line_means, line_taken, meant_line}

-- ---- options

known_value : (limit : ℕ) (word : Option Word) → Known ((value : Option ℕ) × Sets limit (listed word) value)
known_value limit None = inl (None, tt)
known_value limit (Some word) =
    known_as (λ h. (Some h.0, (h.1, h.2.0, h.2.1))) back (known_decimal (λ n. (1 ≤ n) × (n ≤ limit)) (λ n. known_both (known_most 1 n) (known_most n limit)) word)
  where
    back : ((value : Option ℕ) × Sets limit (word ∷ []) value) → (n : ℕ) × IsDecimal word n × ((1 ≤ n) × (n ≤ limit))
    back (None, sets) = absurd sets
    back (Some n, sets) = (n, sets.0, (sets.1, sets.2))

-- ---- commands

known_live : (words : List Word) → Known ((live : Bool) × (words ≡ live_words live))
known_live [] = inl (false, refl)
known_live (word ∷ words) = known_as (λ is. (true, is)) back (known_alone (word ∷ words) (codes "live"))
  where
    back : ((live : Bool) × (word ∷ words ≡ live_words live)) → word ∷ words ≡ codes "live" ∷ []
    back (true, is) = is
    back (false, is) = absurd (cc)

-- the words are a demonstration of some number
abbrev IsSomeDemo : List Word → Type 0
IsSomeDemo words = (number : ℕ) × (live : Bool) × Names (Demo number live) words

-- the words of a demonstration
module _ (first word : Word) (words : List Word) where
  abbrev Parts : Type 0
  Parts = (first ≡ codes "demo") × (((n : ℕ) × IsDecimal word n × (n < 2 ^ 64)) × ((live : Bool) × (words ≡ live_words live)))

  demo_of_parts : Parts → IsSomeDemo (first ∷ word ∷ words)
  demo_of_parts (is, ((number, decimal, small), (live, more))) = (number, live, (word, ap₂ (λ (w : Word) (ws : List Word). w ∷ word ∷ ws) is more, decimal, small))

  parts_of_demo : IsSomeDemo (first ∷ word ∷ words) → Parts
  parts_of_demo (number, live, (other, spelled, decimal, small)) =
      let same : first ∷ word ∷ words ≡ codes "demo" ∷ other ∷ live_words live = spelled in
      let word_is : word ≡ other = cc in
      let more : words ≡ live_words live = cc in
      (cc, ((number, rw word_is decimal, small), (live, more)))

known_demo : (words : List Word) → Known (IsSomeDemo words)
known_demo [] = inr (λ demo. let spelled = demo.2.1 in absurd (cc))
known_demo (word ∷ []) = inr (λ demo. let spelled = demo.2.1 in absurd (cc))
known_demo (first ∷ word ∷ words) =
    known_as (demo_of_parts first word words) (parts_of_demo first word words)
    (known_both (known_equal first (codes "demo")) (known_both (known_decimal (λ n. n < 2 ^ 64) (λ n. known_less n (2 ^ 64)) word) (known_live words)))

-- one of the commands is named, or none is
module _ (words : List Word) where
  -- a command of which it is known whether the words name it
  abbrev Judged : Type 0
  Judged = (command : Command) × Known (Names command words)

  abbrev NoneOf : List Judged → Type 0
  NoneOf [] = Unit
  NoneOf (judged ∷ more) = (Names judged.0 words → ⊥) × NoneOf more

  some_of : (all : List Judged) → ((command : Command) × Names command words) ⊎ NoneOf all
  some_of [] = inr tt
  some_of ((command, inl named) ∷ more) = inl (command, named)
  some_of ((command, inr never) ∷ more) = elim (some_of more) [ inl found ↦ inl found | inr none ↦ inr (never, none) ]

  -- the commands of one word
  abbrev plain : List Judged
  plain =
      (Check, known_alone words (codes "check")) ∷ (Follow, known_alone words (codes "follow")) ∷ (Sim, known_alone words (codes "sim")) ∷ (Run, known_alone words (codes "run"))
      ∷ (Bundle, known_alone words (codes "bundle")) ∷ (Infer, known_alone words (codes "infer")) ∷ (Replay, known_alone words (codes "replay"))
      ∷ (Show, known_alone words (codes "show")) ∷ (Upgrade, known_alone words (codes "upgrade")) ∷ []

  no_command : NoneOf plain → (IsSomeDemo words → ⊥) → (command : Command) → Names command words → ⊥
  no_command none no_demo Check named = none.0 named
  no_command none no_demo Follow named = none.1.0 named
  no_command none no_demo Sim named = none.1.1.0 named
  no_command none no_demo Run named = none.1.1.1.0 named
  no_command none no_demo Bundle named = none.1.1.1.1.0 named
  no_command none no_demo Infer named = none.1.1.1.1.1.0 named
  no_command none no_demo Replay named = none.1.1.1.1.1.1.0 named
  no_command none no_demo Show named = none.1.1.1.1.1.1.1.0 named
  no_command none no_demo Upgrade named = none.1.1.1.1.1.1.1.1.0 named
  no_command none no_demo (Demo number live) named = no_demo (number, live, named)

  known_command : Known ((command : Command) × Names command words)
  known_command = elim (known_demo words) [
    | inl demo ↦ inl (Demo demo.0 demo.1, demo.2)
    | inr no_demo ↦ elim (some_of plain) [
      | inl found ↦ inl found
      | inr none ↦ inr (λ found. no_command none no_demo found.0 found.1)
    ]
  ]

-- ---- lines

known_means : (rows : List Row) → Known ((settings : Settings) × Means rows settings)
known_means rows =
    known_as (λ h. (record { command = h.0.0; fuel = h.1.0.0; patience = h.1.1.0 }, record { fuel = h.1.0.1; patience = h.1.1.1; command = h.0.1 }))
    (λ h. ((h.0.command, h.1.command), ((h.0.fuel, h.1.fuel), (h.0.patience, h.1.patience))))
    (known_both (known_command (unwrap_or (all_of (codes "command") rows) []))
    (known_both (known_value (form Fuel).limit (first_of (codes "fuel") rows)) (known_value (form Patience).limit (first_of (codes "patience") rows))))

known_line : (words : List Word) (faults : Kinds) → fault_of line_app words ≡ faults → Known (HasLine words)
known_line words [] clear = known_as (λ h. (h.0, meant_line words h.0 clear h.1)) (λ h. (h.0, line_means words h.0 h.1)) (known_means (matches_of line_app words))
known_line words (fault ∷ faults) is = inr (λ line. let clear = line_taken words line.0 line.1 in absurd (cc))

pub line_or_none_proof : LineOrNone
line_or_none_proof words = elim (known_line words (fault_of line_app words) refl) [
  | inl line ↦ inl line
  | inr never ↦ inr (λ settings line. never (settings, line))
]
