use Rattle.std.proofs.Common.{arith, ◌≡◌, ◌∙◌, ◌+◌, ◌++◌, ◌∷◌, [], List, length, take, ap}
use Rattle.std.proofs.lemmas.List.{length-append, length-take-le}
use Rattle.dimacs.specs.logic.Cnf.{Cnf, literal_count}
use Rattle.dimacs.specs.logic.Literal.{Clause}
use Rattle.cube_split.specs.Definitions.{all_clauses}
use Rattle.cube_split.proofs.UnitLemmas.{count_append, definitions_count, definitions_len, definitions_more}
use Rattle.cube_split.proofs.units.append_definitions.Goals as goal

pub push_definition-requires-clause-room : goal.push_definition-requires-clause-room
push_definition-requires-clause-room c =
    let n = ap (λ (w : Cnf). length w.clauses) c.loop-pair.invariant.base in
    let so_far = take c.loop-pair.pair-index c.args.pairs.now in
    omega (
      arith,
      n,
      length-append c.args.front.clauses (all_clauses (c.args.front.vars + 1) so_far),
      definitions_len (c.args.front.vars + 1) so_far,
      length-take-le c.loop-pair.pair-index c.args.pairs.now (omega arith),
      c.requires.clauses,
      c.requires.limit,
      c.loop-pair-test.true,
    )

pub push_definition-requires-clause-literals : goal.push_definition-requires-clause-literals
push_definition-requires-clause-literals c =
    let n = ap (λ (w : Cnf). literal_count w.clauses) c.loop-pair.invariant.base in
    let so_far = take c.loop-pair.pair-index c.args.pairs.now in
    omega (
      arith,
      n,
      count_append c.args.front.clauses (all_clauses (c.args.front.vars + 1) so_far),
      definitions_count (c.args.front.vars + 1) so_far,
      length-take-le c.loop-pair.pair-index c.args.pairs.now (omega arith),
      c.requires.literals,
      c.requires.limit,
      c.loop-pair-test.true,
    )

pub loop-pair-preserved : goal.loop-pair-preserved
loop-pair-preserved c =
    let i = c.loop-pair.pair-index in
    let number : c.new.result ≡ c.args.front.vars + 1 + i = omega (arith, c.new.ensures, c.loop-pair.invariant.variable) in
    record {
      variable = omega (arith, c.loop-pair.invariant.variable);
      base =
          c.in_ok-push_definition.ensures
          ∙ ap (λ (w : Cnf). record w { clauses = w.clauses ++ all_clauses c.new.result (c.pair-item.result ∷ []) }) c.loop-pair.invariant.base
          ∙ ap (λ (cs : List Clause). record { vars = c.args.front.vars + length c.args.pairs.now; clauses = cs })
          (ap (λ (n : _). (c.args.front.clauses ++ all_clauses (c.args.front.vars + 1) (take i c.args.pairs.now)) ++ all_clauses n (c.pair-item.result ∷ [])) number
          ∙ definitions_more c.args.front.clauses (c.args.front.vars + 1) c.args.pairs.now i c.pair-item.result c.loop-pair-test.true c.pair-item.is);
    }
