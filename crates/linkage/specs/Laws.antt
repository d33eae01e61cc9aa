-- What holds of links and refusals, whatever the events are.
use Rattle.std.specs.Prelude.{◌≡◌, ℕ, ◌⊎◌, List, Option, Result, Err}
use Rattle.interleavings.specs.TraceLists.{TraceLists}
use Rattle.linkage.specs.declared.link_error.LinkError.{LinkError}
use Rattle.linkage.specs.declared.link_error.LinkError.TheVariants.{NoMemory}
use Rattle.linkage.specs.Answers.{IsAnswer, IsWhole}
use Rattle.linkage.specs.Links.{IsLink, IsLinked}
use Rattle.linkage.specs.Refusals.{IsFirstRefusal}

-- a read has one link at most
abbrev pub OneLink : Type 0
OneLink = (traces : TraceLists) (cell value bound one other : ℕ) → IsLink traces cell value bound one → IsLink traces cell value bound other → one ≡ other

-- events have one list of links at most
abbrev pub OneLinking : Type 0
OneLinking = (traces : TraceLists) (one other : List (List (Option ℕ))) → IsLinked traces one → IsLinked traces other → one ≡ other

-- events have one first refusal at most
abbrev pub OneFirstRefusal : Type 0
OneFirstRefusal = (traces : TraceLists) (one other : LinkError) → IsFirstRefusal traces one → IsFirstRefusal traces other → one ≡ other

-- events have one answer at most, want of memory aside
abbrev pub OneAnswer : Type 0
OneAnswer = (traces : TraceLists) (one other : Result (List (List (Option ℕ))) LinkError) → IsAnswer traces one → IsAnswer traces other → (one ≡ Err NoMemory → ⊥) → (other ≡ Err NoMemory → ⊥) → one ≡ other

-- events have links, and nothing is refused, or something is refused first
abbrev pub LinksOrRefusal : Type 0
LinksOrRefusal = (traces : TraceLists) → ((links : List (List (Option ℕ))) × IsWhole traces links) ⊎ ((refusal : LinkError) × IsFirstRefusal traces refusal)
