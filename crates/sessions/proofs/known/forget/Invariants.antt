use Rattle.std.proofs.Common.{◌≡◌, drop}
use Rattle.sessions.specs.Texts.{without}
use Rattle.sessions.proofs.known.forget.Given as goal

-- the numbers that are left take out what is left
abbrev pub invariant-loop-id : goal.invariant-loop-id
invariant-loop-id l = without l.numbers.given l.rup (drop l.id-index l.ids) ≡ without l.numbers.given l.fn.rup l.fn.ids
