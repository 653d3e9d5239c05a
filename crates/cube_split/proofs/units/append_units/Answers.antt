use Rattle.std.proofs.Common.{arith, ◌≡◌, ◌∙◌, ◌∷◌, ◌++◌, [], List, length, take, ap, sym}
use Rattle.std.proofs.lemmas.List.{append-nil, take_all, length-take-le}
use Rattle.std.proofs.lemmas.List.Elements.{All-cons, All-nil}
use Rattle.dimacs.specs.logic.Cnf.{Cnf, literal_count}
use Rattle.dimacs.specs.logic.Literal.{Clause, IsWithin}
use Rattle.cube_split.specs.SplitTree.{with_units}
use Rattle.cube_split.proofs.UnitLemmas.{units_len, units_count, units_more}
use Rattle.cube_split.proofs.units.append_units.Goals as goal

pub loop-unit-init : goal.loop-unit-init
loop-unit-init c = ap (λ (cs : List Clause). record c.args.front { clauses = cs }) (sym (append-nil c.args.front.clauses))

pub push_clause-requires-clause-room : goal.push_clause-requires-clause-room
push_clause-requires-clause-room c =
    let n = ap (λ (w : Cnf). length w.clauses) c.loop-unit.invariant in
    omega (arith, n, units_len c.args.front (take c.loop-unit.unit-index c.args.units.now), length-take-le c.loop-unit.unit-index c.args.units.now (omega arith), c.requires.formula.clauses)

pub push_clause-requires-clause-literals : goal.push_clause-requires-clause-literals
push_clause-requires-clause-literals c =
    let n = ap (λ (w : Cnf). literal_count w.clauses) c.loop-unit.invariant in
    omega (arith, n, units_count c.args.front (take c.loop-unit.unit-index c.args.units.now), length-take-le c.loop-unit.unit-index c.args.units.now (omega arith), c.requires.formula.literals)

pub push_clause-requires-clause-within : goal.push_clause-requires-clause-within
push_clause-requires-clause-within c =
    let vars : c.loop-unit.base.vars ≡ c.args.front.vars = ap (λ (w : Cnf). w.vars) c.loop-unit.invariant in
    let here : IsWithin c.args.front.vars c.unit-item.result = rw c.unit-item.is (c.requires.within c.loop-unit.unit-index c.unit-item.result c.loop-unit-test.true) in
    rw vars (All-cons (IsWithin c.args.front.vars) c.unit-item.result [] here (All-nil (IsWithin c.args.front.vars)))

pub loop-unit-preserved : goal.loop-unit-preserved
loop-unit-preserved c =
    c.in_ok-push_clause.ensures.ok
    ∙ ap (λ (w : Cnf). record w { clauses = w.clauses ++ (c.unit-item.result ∷ []) ∷ [] }) c.loop-unit.invariant
    ∙ units_more c.args.front c.args.units.now c.loop-unit.unit-index c.unit-item.result c.loop-unit-test.true c.unit-item.is

pub returns : goal.returns
returns c =
    let all = take_all c.loop-unit.unit-index c.args.units.now c.loop-unit-test.false in
    c.loop-unit.invariant ∙ ap (with_units c.args.front) all
