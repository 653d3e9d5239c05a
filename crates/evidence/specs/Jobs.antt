-- Jobs: the tasks that a coordinator gives to workers, by session and number.
use Rattle.std.specs.Prelude.{◌≡◌, ℕ, ◌<◌, Option, Some, None, ◌⊎◌, All}
use Rattle.dimacs.specs.logic.Cnf.{Cnf}
use Rattle.dimacs.specs.logic.Literal.{IsWithin}
use Rattle.icnf.specs.Leaves.{Cube}
use Rattle.frames.specs.declared.frame.Attempt.{Attempt}
use Rattle.evidence.specs.declared.job.JobName.{JobName}

-- the name of an attempt's job
abbrev pub name_of : Attempt → JobName
name_of a = record { session = a.session; job = a.job }

-- the attempt at this job by this worker in this incarnation
abbrev pub attempt_at : JobName → ℕ → ℕ → Attempt
attempt_at name worker incarnation = record { session = name.session; job = name.job; worker = worker; incarnation = incarnation }

-- the first job is earlier than the second: sessions are compared first, then numbers
abbrev pub IsBefore : JobName → JobName → Type 0
IsBefore a b = (a.session < b.session) ⊎ ((a.session ≡ b.session) × (a.job < b.job))

-- the job is later than the last one; true if there is no last one
abbrev pub IsLater : Option JobName → JobName → Type 0
IsLater None name = Unit {0}
IsLater (Some last) name = IsBefore last name

-- each variable of the cube is a variable of the base
abbrev pub IsOverBase : Cnf → Cube → Type 0
IsOverBase B cube = All (IsWithin B.vars) cube
