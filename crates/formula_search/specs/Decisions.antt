-- What is reported of a formula that one search decides, status by status.
use Rattle.std.specs.Prelude.{◌≡◌, ◌⊎◌, ℕ, ◌+◌, ◌^◌, ◌++◌, Bool, List, [], Option, Some, None, codes, decimal, length, if◌then◌else◌}
use Rattle.cube_solve.specs.Conflicts.{MeetsConflict}
use Rattle.cube_solve.specs.Counts.{IsCounted, IsCountedToEnd}
use Rattle.cube_solve.specs.Outcome.{IsBrief, allowed}
use Rattle.cube_solve.specs.declared.observer.Counts.{Counts}
use Rattle.dimacs.specs.logic.Cnf.{Cnf, Sat, assignment_of}
use Rattle.dimacs.specs.text.Answer.{Lines, satisfied_lines}
use Rattle.dimacs.specs.declared.answer.Answer.TheVariants.{Unsatisfiable, Unknown}
use Rattle.formula_search.specs.declared.decision.Asked.{Asked}
use Rattle.lrat_text.specs.Log.{Closes, IsHonest}
use Rattle.lrat_text.specs.Proof.{Accepts}
use Rattle.reports.specs.declared.report.Report.{Report}

-- the most lemmas that a search may learn: 2^47, which no search reaches, if no limit is named
abbrev pub most_of : Option ℕ → ℕ
most_of None = 2 ^ 47
most_of (Some limit) = limit

-- the `c` line of a count
abbrev pub count_line : List ℕ → ℕ → List ℕ
count_line name count = codes "c " ++ name ++ codes " " ++ decimal count ++ codes "\n"

-- the `c` lines of the counts of a search
abbrev pub counts_text : Counts → List ℕ
counts_text c =
    count_line (codes "conflicts") c.conflicts ++ count_line (codes "decisions") c.decisions ++ count_line (codes "propagations") c.propagations
    ++ count_line (codes "restarts") c.restarts ++ count_line (codes "reductions") c.reductions ++ count_line (codes "phases") c.phases
    ++ count_line (codes "lemmas") c.lemmas ++ count_line (codes "fixed") c.fixed ++ count_line (codes "bytes") c.bytes

-- what is printed of the counts of a search: their lines if they are asked for
abbrev pub stats_text : Bool → Counts → List ℕ
stats_text stats counts = if stats then counts_text counts else []

-- status 10: the report prints an assignment that satisfies the formula, without its `v` lines if `witness` is false
pub record IsSatisfied (F : Cnf) (asked : Asked) (r : Report) : Type 0 where
  pub status : r.status ≡ 10
  pub values : List Bool
  pub whole : length values ≡ F.vars
  pub satisfies : Sat (assignment_of values) F
  pub counts : Counts
  pub log : List ℕ
  pub counted : IsCounted F counts log
  pub bytes : length log ≡ counts.bytes
  pub text : r.stdout.items ≡ satisfied_lines values asked.witness ++ stats_text asked.stats counts
  pub proof : r.proof ≡ None

-- the text is an accepted proof of the formula; it is also a log over the formula that closes the empty cube, the one leaf of a tree
-- without a branch; and it has at most one lemma more than the limit allows
pub record Proves (F : Cnf) (limit : Option ℕ) (text : List ℕ) : Type 0 where
  pub accepted : Accepts F text
  pub closes : Closes F [] text
  pub brief : IsBrief F (allowed (most_of limit) + 1) text

-- status 20: there is a proof of the formula, of which `kept` tells where it is
pub record IsRefutedBy (F : Cnf) (asked : Asked) (kept : List ℕ → Type 0) (r : Report) : Type 0 where
  pub status : r.status ≡ 20
  pub proof : List ℕ
  pub proves : Proves F asked.limit proof
  pub there : kept proof
  pub counts : Counts
  pub counted : IsCountedToEnd F counts proof
  pub bytes : length proof ≡ counts.bytes
  pub text : r.stdout.items ≡ Lines Unsatisfiable asked.witness ++ stats_text asked.stats counts

-- status 20: the report has a proof of the formula
abbrev pub IsRefuted : Cnf → Asked → Report → Type 0
IsRefuted F asked r = IsRefutedBy F asked (λ proof. r.proof ≡ Some proof) r

-- status 20: there is a proof of the formula, of which `has` tells where it is, and which is not in the report
abbrev pub IsRefutedTo : Cnf → Asked → (List ℕ → Type 0) → Report → Type 0
IsRefutedTo F asked has r = IsRefutedBy F asked (λ proof. has proof × (r.proof ≡ None)) r

-- status 0: a limit is named, and the search learnt as many lemmas as it allows, up to a conflict that needs one more
pub record IsGivenUp (F : Cnf) (asked : Asked) (r : Report) : Type 0 where
  pub status : r.status ≡ 0
  pub named : ℕ
  pub limit : asked.limit ≡ Some named
  pub log : List ℕ
  pub learnt : IsHonest F (allowed named) log
  pub conflict : MeetsConflict F [] log
  pub counts : Counts
  pub counted : IsCounted F counts log
  pub conflicts : counts.conflicts ≡ allowed named
  pub bytes : length log ≡ counts.bytes
  pub text : r.stdout.items ≡ Lines Unknown asked.witness ++ stats_text asked.stats counts
  pub proof : r.proof ≡ None

-- `Decides F asked report`: the report says that the formula is satisfiable, unsatisfiable or given up, with the evidence for it
abbrev pub Decides : Cnf → Asked → Report → Type 0
Decides F asked r = IsSatisfied F asked r ⊎ IsRefuted F asked r ⊎ IsGivenUp F asked r

-- `DecidesTo F asked has report`: the same of a report without its proof, of which `has` tells where it is
abbrev pub DecidesTo : Cnf → Asked → (List ℕ → Type 0) → Report → Type 0
DecidesTo F asked has r = IsSatisfied F asked r ⊎ IsRefutedTo F asked has r ⊎ IsGivenUp F asked r
