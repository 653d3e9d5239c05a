use Rattle.std.proofs.Common.{◌<◌, ◌++◌, ◌∙◌, length, arith, ap}
use Rattle.std.proofs.lemmas.List.{take_all}
use Rattle.dimacs.specs.layout.Flat.{parts}
use Rattle.dimacs.specs.logic.Literal.{Clause}
use Rattle.std.specs.Prelude.{List}
use Rattle.dimacs.proofs.ExtensionLemmas.{next_fits, one_more}
use Rattle.dimacs.proofs.FlatLemmas.{length_parts}
use Rattle.dimacs.proofs.flat.push_clauses.Goals as goal

pub push_clause-requires-clause-room : goal.push_clause-requires-clause-room
push_clause-requires-clause-room c =
    let i = c.loop-i.invariant in
    let below : c.loop-i.i < length (parts c.args.more.now c.args.ends.now) = omega (arith, length_parts c.args.more.now c.args.ends.now, c.requires.more.rise.some) in
    let fits = next_fits c.args.literals.now.items c.loop-i.literals.items c.args.more.now c.args.places.now.items c.loop-i.places.items c.args.ends.now c.loop-i.i c.requires.fills i.fills c.requires.more i.clauses below in
    let size = ap (λ (C : Clause). length C) c.clause_at.ensures.clause in
    omega (arith, fits, size, c.loop-i.literals.ok.0, c.args.literals.now.ok.0, c.requires.room)

pub loop-i-preserved : goal.loop-i-preserved
loop-i-preserved c =
    let below : c.loop-i.i < length (parts c.args.more.now c.args.ends.now) = omega (arith, length_parts c.args.more.now c.args.ends.now, c.requires.more.rise.some) in
    record {
      fills = c.push_clause.ensures.fills;
      clauses = one_more (parts c.args.more.now c.args.ends.now) (parts c.args.literals.now.items c.args.places.now.items) (parts c.loop-i.literals.items c.loop-i.places.items) (parts c.push_clause.new.literals.items c.push_clause.new.places.items)
          c.loop-i.i c.clause_at.result.now below c.clause_at.ensures.clause c.loop-i.invariant.clauses c.in_ok-push_clause.ensures.ok;
    }

pub returns-clause-ok : goal.returns-clause-ok
returns-clause-ok c =
    let n = length_parts c.args.more.now c.args.ends.now in
    c.loop-i.invariant.clauses ∙ ap (λ (cs : List Clause). parts c.args.literals.now.items c.args.places.now.items ++ cs) (take_all c.loop-i.i (parts c.args.more.now c.args.ends.now) (omega (arith, n)))
