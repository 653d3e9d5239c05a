-- The lines of forks and what the writer of forks holds.
use Rattle.std.specs.Prelude.{◌≡◌, ◌++◌}
use Rattle.lrat_text.specs.Runs.{text_of}
use Rattle.proof_join.specs.JoinedProof.{Part}
use Rattle.log_join.specs.declared.lemma.Lemma.{Lemma}
use Rattle.log_join.specs.declared.fork_writer.ForkWriter.{ForkWriter}

-- the lines of a part of the tree were written, and l is the lemma that the part proves
pub record HasPut (p : Part) (old new : ForkWriter) (l : Lemma) : Type 0 where
  pub lines : new.lines.items ≡ old.lines.items ++ text_of old.top p.steps
  pub top : new.top ≡ p.top
  pub id : l.id ≡ p.id
  pub clause : l.clause.items ≡ p.clause
  pub path : new.path.items ≡ old.path.items
