-- What positionals and values mean.
use Rattle.std.proofs.Common.{◌≡◌, ◌∙◌, ◌<◌, ◌≤◌, Bool, true, false, List, [], ◌∷◌, Result, Ok, Err, refl, sym, ap, ap₂, arith, codes, length, map, subst, get_or, Bor}
use Rattle.std.specs.Prelude.{IsErrAnd}
use Rattle.command_words.specs.Reading.{IsDemo}
use Rattle.command_words.specs.Words.{Answers, Names, Word, live_words}
use Rattle.command_words.specs.declared.settings.Command.{Command}
use Rattle.command_words.specs.declared.settings.Command.TheVariants.{Demo}
use Rattle.command_words.specs.declared.settings.Refusal.{Refusal}
use Rattle.command_words.specs.declared.settings.Refusal.TheVariants.{Usage, NoMemory}

pub same_live : (one other : Bool) → live_words one ≡ live_words other → one ≡ other
same_live true true is = refl
same_live true false is = absurd (cc)
same_live false true is = absurd (cc)
same_live false false is = refl

module _ (words : List Word) (word : Word) (live : Bool) (is : words ≡ codes "demo" ∷ word ∷ live_words live) where
  -- words that begin with `demo` name no command but a demonstration
  only_demo : (command : Command) → Names command words → IsDemo word live command
  only_demo (Demo number other) (decimal, spelled, value, small) =
      let same : codes "demo" ∷ word ∷ live_words live ≡ codes "demo" ∷ decimal ∷ live_words other = sym is ∙ spelled in
      let word_is : word ≡ decimal = cc in
      let live_is : live_words live ≡ live_words other = cc in
      (rw word_is value, small, same_live live other live_is)
  only_demo command named = absurd (cc)

  demo_is_named : (command : Command) → IsDemo word live command → Names command words
  demo_is_named (Demo number other) (value, small, same) = (word, is ∙ ap (λ l. codes "demo" ∷ word ∷ live_words l) same, value, small)
  demo_is_named command demo = absurd demo

pub demo_named : (words : List Word) (word : Word) (live : Bool) (result : Result Command Refusal) → words ≡ codes "demo" ∷ word ∷ live_words live
    → Answers (IsDemo word live) result → Answers (λ command. Names command words) result
demo_named words word live (Ok command) is h = demo_is_named words word live is command h
demo_named words word live (Err Usage) is h = λ command named. h command (only_demo words word live is command named)
demo_named words word live (Err NoMemory) is h = tt

-- two words, or three
two_words : (words : List (Bor Word)) (missing : Bor Word) → 2 ≤ length words → length words < 3
    → map (λ word. word.now) words ≡ (get_or words 0 missing).now ∷ (get_or words 1 missing).now ∷ []
two_words [] missing least most = absurd (omega arith)
two_words (one ∷ []) missing least most = absurd (omega arith)
two_words (one ∷ two ∷ []) missing least most = refl
two_words (one ∷ two ∷ three ∷ words) missing least most = absurd (omega arith)

three_words : (words : List (Bor Word)) (missing : Bor Word) → 3 ≤ length words → length words < 4
    → map (λ word. word.now) words ≡ (get_or words 0 missing).now ∷ (get_or words 1 missing).now ∷ (get_or words 2 missing).now ∷ []
three_words [] missing least most = absurd (omega arith)
three_words (one ∷ []) missing least most = absurd (omega arith)
three_words (one ∷ two ∷ []) missing least most = absurd (omega arith)
three_words (one ∷ two ∷ three ∷ []) missing least most = refl
three_words (one ∷ two ∷ three ∷ four ∷ words) missing least most = absurd (omega arith)

module _ (words : List (Bor Word)) (missing : Bor Word) (result : Result Command Refusal) where
  pub demo_of_two : 2 ≤ length words → length words < 3 → (get_or words 0 missing).now ≡ codes "demo" → Answers (IsDemo (get_or words 1 missing).now false) result
      → Answers (λ command. Names command (map (λ word. word.now) words)) result
  demo_of_two least most first h =
      demo_named _ (get_or words 1 missing).now false result
      (two_words words missing least most ∙ ap (λ (w : Word). w ∷ (get_or words 1 missing).now ∷ []) first) h

  pub demo_of_three : 3 ≤ length words → length words < 4 → (get_or words 0 missing).now ≡ codes "demo" → (get_or words 2 missing).now ≡ codes "live"
      → Answers (IsDemo (get_or words 1 missing).now true) result → Answers (λ command. Names command (map (λ word. word.now) words)) result
  demo_of_three least most first last h =
      demo_named _ (get_or words 1 missing).now true result
      (three_words words missing least most ∙ ap₂ (λ (v w : Word). v ∷ (get_or words 1 missing).now ∷ w ∷ []) first last) h

-- where what fits a part fails to be, so does what fits the whole
pub carried : {S T : Type 0} (Part : S → Type 0) (Whole : T → Type 0) (refusal : Refusal) (result : Result T Refusal) → IsErrAnd result (λ error. error ≡ refusal)
    → ((whole : T) → Whole whole → (part : S) × Part part) → Answers {T = S} Part (Err refusal) → Answers Whole result
carried Part Whole refusal (Ok whole) is part none = absurd is
carried Part Whole Usage (Err error) is part none = subst (λ (e : Refusal). Answers Whole (Err e)) (sym is) (λ whole fits. none (part whole fits).0 (part whole fits).1)
carried Part Whole NoMemory (Err error) is part none = subst (λ (e : Refusal). Answers Whole (Err e)) (sym is) tt
