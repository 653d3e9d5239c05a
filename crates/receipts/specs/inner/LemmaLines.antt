-- Which lemmas of a receipt's text are read, in the loop of `closing_in`.
use Rattle.std.specs.Prelude.{◌≡◌, ℕ, List, ◌++◌, All, flat_map}
use Rattle.log_join.specs.ClosedLeaves.{Numbered}
use Rattle.lrat_text.specs.Grammar.{IsStep}
use Rattle.receipts.specs.Receipts.{closing_text, lemma_line, unhinted}

-- text, lemmas read, bytes not read: the text has the lines of the lemmas read, and then these bytes. If the text is that of some lemmas,
-- the lemmas read are the first of them, and the bytes not read are the text of the others
pub record HasReadLemmas (text : List ℕ) (read : List Numbered) (rest : List ℕ) : Type 0 where
  pub whole : text ≡ flat_map lemma_line read ++ rest
  pub limits : All (λ l. IsStep (unhinted l)) read
  pub only : (lemmas : List Numbered) → All (λ l. IsStep (unhinted l)) lemmas → text ≡ closing_text lemmas
      → (left : List Numbered) × (lemmas ≡ read ++ left) × (rest ≡ closing_text left)
