use Rattle.std.proofs.Common.{◌++◌, [], List, ℕ, take, ◌∙◌, codes, arith}
use Rattle.std.specs.List.{flat_map}
use Rattle.dimacs.specs.text.Grammar.{header_text, clause_line, spelling}
use Rattle.dimacs.proofs.WritingLemmas.{item_more, header_line_is, clauses_end, begins_behind}
use Rattle.dimacs.proofs.writer.put_formula.Goals as goal

pub loop-i-init : goal.loop-i-init
loop-i-init c = c.in_ok-put_header.ensures.ok ∙ header_line_is c.args.out.now.items c.args.formula.now c.from.result c.len.result (c.from.ensures ∙ c.vars.ensures.value) c.len.ensures

pub loop-i-preserved : goal.loop-i-preserved
loop-i-preserved c =
    let front : List ℕ = c.args.out.now.items ++ (header_text c.args.formula.now ++ codes "\n") in
    c.in_ok-put_clause.ensures.ok ∙ item_more clause_line front c.loop-i.out.items c.args.formula.now.clauses c.loop-i.i c.clause.result.now [] (omega arith) c.clause.ensures.clause c.loop-i.invariant

pub returns-clause-ok : goal.returns-clause-ok
returns-clause-ok c = c.loop-i.invariant ∙ clauses_end c.args.out.now.items c.args.formula.now c.loop-i.i (omega arith)

pub returns-clause-begins : goal.returns-clause-begins
returns-clause-begins c = (spelling c.args.formula.now, c.loop-i.invariant ∙ clauses_end c.args.out.now.items c.args.formula.now c.loop-i.i (omega arith))

pub returns-in_err-put_clause-clause-begins : goal.returns-in_err-put_clause-clause-begins
returns-in_err-put_clause-clause-begins c =
    begins_behind c.args.out.now.items (header_text c.args.formula.now ++ codes "\n") (flat_map clause_line (take c.loop-i.i c.args.formula.now.clauses)) c.loop-i.out.items c.put_clause.new.out.items c.loop-i.invariant c.put_clause.ensures.begins
