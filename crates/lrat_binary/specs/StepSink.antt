-- Steps that a reader delivers to a consumer. S is the consumer's state; `takes s step t` says that it takes a step and so comes from s to
-- t, and `refuses s step t fault` that it refuses the step with this fault. The reader's states are ReaderState.
use Rattle.std.specs.Prelude.{◌≡◌, ◌≢◌, ℕ, List, [], ◌∷◌, ◌++◌, Some}
use Rattle.lrat_text.specs.declared.fault.TextFault.{TextFault}
use Rattle.lrat_text.specs.declared.fault.TextFault.TheVariants.{NoMemory}
use Rattle.lrat_text.specs.declared.step.Step.{Step}
use Rattle.lrat_binary.specs.Parser.{ReaderState, ReadResult, read, with_steps}
use Rattle.lrat_binary.specs.declared.step_sink.FeedFault.{FeedFault}
use Rattle.lrat_binary.specs.declared.step_sink.FeedFault.TheVariants.{Bytes, Step as OfStep}

-- the consumer takes the steps one by one, and so comes from the state s to the state t
abbrev pub TakesAll : {S : Type 0} → (S → Step → S → Type 0) → S → List Step → S → Type 0
TakesAll takes s [] t = s ≡ t
TakesAll {S = S} takes s (step ∷ steps) t = (m : S) × takes s step m × TakesAll takes m steps t

-- The bytes, except rest at their end, lead the reader from the state begun to the state next; the steps that they complete lead the
-- consumer from the state s to the state t. So for all bytes more that follow: reading all of them from begun gives these steps, and then
-- what reading rest ++ more from next gives.
pub record HandsOn {S : Type 0} (takes : S → Step → S → Type 0) (s : S) (begun : ReaderState) (bytes : List ℕ) (t : S) (next : ReaderState) (rest : List ℕ) : Type 0 where
  pub steps : List Step
  pub reads : (more : List ℕ) → read begun (bytes ++ more) ≡ with_steps steps (read next (rest ++ more))
  pub taken : TakesAll takes s steps t

-- The bytes lead the reader, from the state begun, to this fault, after the steps that lead the consumer from the state s to the state t.
-- The fault does not depend on the bytes that follow. If memory was refused, nothing is said of the bytes.
pub record Breaks {S : Type 0} (takes : S → Step → S → Type 0) (s : S) (begun : ReaderState) (bytes : List ℕ) (t : S) (fault : TextFault) : Type 0 where
  pub steps : List Step
  pub taken : TakesAll takes s steps t
  pub reads : fault ≢ NoMemory → (more : List ℕ) → read begun (bytes ++ more) ≡ (steps, Some fault)

-- Some first steps of the bytes, read from the state begun, lead the consumer from the state s to the state before; it refuses the next
-- step with this fault, after which it is in the state t.
pub record StepRefused {S F : Type 0} (takes : S → Step → S → Type 0) (refuses : S → Step → S → F → Type 0) (s : S) (begun : ReaderState) (bytes : List ℕ) (t : S) (fault : F) : Type 0 where
  pub before : S
  pub step : Step
  pub steps : List Step
  pub taken : TakesAll takes s steps before
  pub refused : refuses before step t fault
  pub reads : (more : List ℕ) → (later : ReadResult) × (read begun (bytes ++ more) ≡ with_steps (steps ++ step ∷ []) later)

-- Reading the bytes from the state begun ends early, and the consumer has come from the state s to the state t. The reason is a fault of
-- the bytes, or a step that the consumer refused.
abbrev pub FeedStops : {S F : Type 0} → (S → Step → S → Type 0) → (S → Step → S → F → Type 0) → S → ReaderState → List ℕ → S → FeedFault F → Type 0
FeedStops takes refuses s begun bytes t (Bytes fault) = Breaks takes s begun bytes t fault
FeedStops takes refuses s begun bytes t (OfStep fault) = StepRefused takes refuses s begun bytes t fault
