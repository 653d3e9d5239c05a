-- Reading a text that comes in pieces.
use Rattle.std.specs.Prelude.{◌≡◌, ◌≤◌, ◌⊎◌, ℕ, length, take, List, [], ◌∷◌, ◌++◌, Option, Some, None, Result, Ok, Err}
use Rattle.std.specs.Global.{Vec}
use Rattle.std.specs.List.{flat_map}
use Rattle.lrat_text.specs.Grammar.{LineSpells}
use Rattle.lrat_text.specs.Lines.{IsOpen, IsCut}
use Rattle.lrat_text.specs.Parser.{step_in}
use Rattle.lrat_text.specs.declared.fault.TextFault.{TextFault}
use Rattle.lrat_text.specs.declared.fault.TextFault.TheVariants.{LineNotEnded}
use Rattle.lrat_text.specs.declared.step.Step.{Step}

-- the text is lines that spell the steps, followed by the rest
pub record Splits (text : List ℕ) (steps : List Step) (rest : List ℕ) : Type 0 where
  pub lines : List ℕ
  pub whole : text ≡ lines ++ rest
  pub spelled : LineSpells lines steps

-- the text is lines that spell the steps, followed by a line that has this fault
abbrev pub Breaks : List ℕ → List Step → TextFault → Type 0
Breaks text steps fault = (rest : List ℕ) × (line : List ℕ) × (later : List ℕ) × Splits text steps rest × IsCut rest line later × (step_in line ≡ Err fault)

-- the state of a reader of pieces: Within the bytes of the incomplete line, or Failed with the fault that it met
pub data ReadProgress : Type 0 where
  Within : List ℕ → ReadProgress
  Failed : TextFault → ReadProgress

-- a reader in this state has read exactly these bytes, and they gave these steps
abbrev pub HasTaken : ReadProgress → List ℕ → List Step → Type 0
HasTaken (Within begun) bytes steps = Splits bytes steps begun × IsOpen begun
HasTaken (Failed fault) bytes steps = Breaks bytes steps fault

-- what a reader answers to a piece, if it is in this state afterwards
abbrev pub answer_in : ReadProgress → Result (Unit {0}) TextFault
answer_in (Within begun) = Ok tt
answer_in (Failed fault) = Err fault

-- what a reader in this state answers at the end of the text
abbrev pub end_in : ReadProgress → Result (Unit {0}) TextFault
end_in (Within []) = Ok tt
end_in (Within (b ∷ bs)) = Err LineNotEnded
end_in (Failed fault) = Err fault

-- A reader in the state old reads a piece: it turns the list before into after, gives the answer, and is then in the state new. It appends
-- some steps; the answer is that of new; and if old had read some bytes, which gave some steps, then new has read those bytes and the
-- piece, which gave those steps and the appended ones.
pub record TakesPiece (old : ReadProgress) (piece : List ℕ) (before after : List Step) (answer : Result (Unit {0}) TextFault) (new : ReadProgress) : Type 0 where
  pub appended : List Step
  pub steps : after ≡ before ++ appended
  pub answers : answer ≡ answer_in new
  pub history : (bytes : List ℕ) (given : List Step) → HasTaken old bytes given → HasTaken new (bytes ++ piece) (given ++ appended)

-- a reader's state from its fields: the fault that it met, and the bytes of the incomplete line
abbrev pub progress_of : Option TextFault → List ℕ → ReadProgress
progress_of None begun = Within begun
progress_of (Some fault) begun = Failed fault

-- the text is lines that spell the steps, followed by a non-empty rest without an LF
abbrev pub BreaksOff : List ℕ → List Step → Type 0
BreaksOff text steps = (first : ℕ) × (others : List ℕ) × Splits text steps (first ∷ others) × IsOpen (first ∷ others)

-- the text is lines that spell the steps, and then has this fault: it ends within a line, or the next line has the fault
abbrev pub HasFault : List ℕ → List Step → TextFault → Type 0
HasFault text steps fault = ((fault ≡ LineNotEnded) × BreaksOff text steps) ⊎ Breaks text steps fault

-- the text of which these are the pieces
abbrev pub joined : List (Vec ℕ) → List ℕ
joined pieces = flat_map (λ piece. piece.items) pieces

-- the steps of the first count pieces were appended to the list before, which gives after; those pieces are lines that spell the appended
-- steps, and a rest without an LF
pub record StopsBefore (pieces : List (Vec ℕ)) (before after : List Step) : Type 0 where
  pub count : ℕ
  pub few : count ≤ length pieces
  pub appended : List Step
  pub steps : after ≡ before ++ appended
  pub rest : List ℕ
  pub splits : Splits (joined (take count pieces)) appended rest
  pub within : IsOpen rest
