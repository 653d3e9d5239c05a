-- The Luby sequence: restarts come after 100 times the terms 1, 1, 2, 1, 1, 2, 4, .. Numbers are below 2^64.
use Rattle.std.specs.Prelude.{ℕ, ◌+◌, ◌*◌, ◌/◌, ◌%◌, ◌^◌, zero, suc, eqb, cond, List, [], ◌∷◌}
use Rattle.cube_solve.specs.declared.luby.Luby.{Luby}

-- the schedule at the next term: the number is halved, and the term doubled, as long as the number is even; then the next number begins,
-- with term 1
abbrev pub next_term : Luby → Luby
next_term p = cond (eqb (p.rest % 2) 0)
    (record p { rest = p.rest / 2; term = (p.term * 2) % 2 ^ 64 })
    (record p { number = (p.number + 1) % 2 ^ 64; rest = (p.number + 1) % 2 ^ 64; term = 1 })

-- the schedule after a restart: the next one comes after 100 times the next term
abbrev pub restarted : Luby → Luby
restarted p = let q = next_term p in record q { restart = (p.conflicts + (q.term * 100) % 2 ^ 64) % 2 ^ 64 }

-- the numbers of conflicts at the next n restarts
abbrev pub restarts : ℕ → Luby → List ℕ
restarts zero p = []
restarts (suc n) p = p.restart ∷ restarts n (restarted (record p { conflicts = p.restart }))
