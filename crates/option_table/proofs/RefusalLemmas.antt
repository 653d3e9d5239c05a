-- Why words give no request.
use Rattle.std.proofs.Common.{◌≡◌, ◌∙◌, ◌⊎◌, inl, inr, true, List, [], ◌∷◌, ap, refl, subst, sym}
use Rattle.clap.specs.Words.{App, IsAmong, Kinds, Text, fault_of, is_simple_and_free}
use Rattle.clap.specs.declared.error.kind.ErrorKind.{ErrorKind}
use Rattle.clap.specs.declared.error.kind.ErrorKind.TheVariants as kind
use Rattle.option_table.specs.Refusals.{IsRefusalOf}
use Rattle.option_table.specs.inner.ClapErrors.{StandsFor}
use Rattle.option_table.specs.declared.parser.Refusal.{Refusal}
use Rattle.option_table.specs.declared.parser.Refusal.TheVariants.{Help, NoMemory, Refused}

is_only : (k asked : ErrorKind) (kinds : Kinds) → kinds ≡ asked ∷ [] → IsAmong k kinds → k ≡ asked
is_only k asked kinds e among = only (subst (IsAmong k) e among) where
  only : IsAmong k (asked ∷ []) → k ≡ asked
  only (inl is) = is
  only (inr none) = absurd none

-- an error of one of the kinds refuses the words so
pub refusal_is : (app : App) (words : List Text) (k : ErrorKind) (f : Refusal) → (k ≡ kind.OutOfMemory) ⊎ IsAmong k (fault_of app words) → StandsFor k f → IsRefusalOf app words f
refusal_is app words k (Help text) (inl memory) (inl help) = absurd cc
refusal_is app words k (Help text) (inl memory) (inr version) = absurd cc
refusal_is app words k (Help text) (inr among) (inl help) = inl (subst (λ (x : ErrorKind). IsAmong x (fault_of app words)) help among)
refusal_is app words k (Help text) (inr among) (inr version) = inr (subst (λ (x : ErrorKind). IsAmong x (fault_of app words)) version among)
refusal_is app words k Refused (inl memory) stands = absurd (stands.2 memory)
refusal_is app words k Refused (inr among) stands =
    (λ asks. stands.0 (is_only k kind.DisplayHelp (fault_of app words) asks among), λ asks. stands.1 (is_only k kind.DisplayVersion (fault_of app words) asks among))
refusal_is app words k NoMemory has stands = tt

-- a parser that is what the rules say finds no fault where they find none
pub finds_no_fault : (made app : App) (words : List Text) → made ≡ app → is_simple_and_free app ≡ true
    → (is_simple_and_free made ≡ true → fault_of made words ≡ []) → fault_of app words ≡ []
finds_no_fault made app words same simple none = sym (ap (λ (a : App). fault_of a words) same) ∙ none (ap is_simple_and_free same ∙ simple)

is_empty : (k : ErrorKind) (kinds : Kinds) → kinds ≡ [] → kinds ≡ k ∷ [] → ⊥
is_empty k kinds none asks = cc

-- words that are parsed ask for no help and for no version
pub asks_nothing : (kinds : Kinds) → kinds ≡ [] → (kinds ≡ kind.DisplayHelp ∷ [] → ⊥) × (kinds ≡ kind.DisplayVersion ∷ [] → ⊥)
asks_nothing kinds none = (is_empty kind.DisplayHelp kinds none, is_empty kind.DisplayVersion kinds none)

-- want of memory stands for itself
pub no_memory_is : (k : ErrorKind) (f : Refusal) → StandsFor k f → k ≡ kind.OutOfMemory → f ≡ NoMemory
no_memory_is k (Help text) (inl help) memory = absurd cc
no_memory_is k (Help text) (inr version) memory = absurd cc
no_memory_is k Refused stands memory = absurd (stands.2 memory)
no_memory_is k NoMemory stands memory = refl
