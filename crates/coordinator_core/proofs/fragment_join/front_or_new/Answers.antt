use Rattle.std.proofs.Common.{◌≡◌, Option, IfOk, ap, sym, subst}
use Rattle.proof_join.specs.Fronts.{Front}
use Rattle.coordinator_core.specs.inner.Fronts.{count_of}
use Rattle.coordinator_core.proofs.FrontLemmas.{some_joined_of, begun_joined, begun_count}
use Rattle.coordinator_core.proofs.fragment_join.front_or_new.Goals as goal

pub returns-in-Some-clause-front : goal.returns-in-Some-clause-front
returns-in-Some-clause-front c = λ tree leaves fragments h. some_joined_of c.args.formula.now c.args.preamble.now.pairs tree leaves fragments c.args.front c.in-Some.joining c.in-Some.is h

pub returns-in-None-clause-front : goal.returns-in-None-clause-front
returns-in-None-clause-front c = λ tree leaves fragments h. begun_joined c.args.formula.now c.args.preamble.now.pairs tree leaves fragments c.begin.result c.begin.ensures.front

pub returns-in-Some-clause-count : goal.returns-in-Some-clause-count
returns-in-Some-clause-count c = ap count_of (sym c.in-Some.is)

pub returns-in-None-clause-count : goal.returns-in-None-clause-count
returns-in-None-clause-count c =
    subst (λ (o : Option Front). IfOk c.begin.result (λ j. j.count ≡ count_of o)) (sym c.in-None.is) (begun_count c.args.formula.now c.args.preamble.now.pairs c.begin.result c.begin.ensures.front)
