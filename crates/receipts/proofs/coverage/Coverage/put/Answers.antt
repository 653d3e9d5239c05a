use Rattle.std.proofs.Common.{List, [], ◌∷◌, subst}
use Rattle.dimacs.specs.logic.Rat.{Group}
use Rattle.lrat_text.specs.declared.step.Step.TheVariants.{Add}
use Rattle.receipts.specs.Coverage.{absurdity}
use Rattle.receipts.proofs.CoverageLemmas.{line_for}
use Rattle.receipts.proofs.CoverageStepLemmas.{TakesLine, many_line, many_settle, put_covers, put_told, put_within, step_wide}
use Rattle.receipts.proofs.coverage.Coverage.put.Goals as goal

pub line-requires-clause-limits : goal.line-requires-clause-limits
line-requires-clause-limits c = step_wide c.args.self.now.groups c.args.clause.now c.args.self.now.none c.requires.small

pub returns-in-Err-clause-many : goal.returns-in-Err-clause-many
returns-in-Err-clause-many c = λ e cubes clauses h.
    many_line cubes clauses c.args.clause.now c.args.self.now h c.begin.new.self c.args.self.now.groups
    (c.begin.ensures absurdity cubes h.logs h.written h.between) c.requires.small c.args.self.now.none (c.in-Err.ensures.long (c.cover_fault.ensures e))

pub returns-in-Err-settle-clause-many : goal.returns-in-Err-settle-clause-many
returns-in-Err-settle-clause-many c = λ e cubes clauses h.
    let takes : TakesLine c.begin.new.self c.line.new.self (line_for c.args.clause.now) c.in-Ok.ensures.line.0 =
    subst (λ (gs : List Group). TakesLine c.begin.new.self c.line.new.self (Add 2 c.args.clause.now (1 ∷ []) gs) c.in-Ok.ensures.line.0) c.args.self.now.none c.in-Ok.ensures.line.2 in
    many_settle cubes clauses c.args.clause.now c.args.self.now h c.line.new.self _
    (put_within cubes clauses c.args.clause.now c.requires.small c.requires.no_pair c.args.self.now h c.begin.new.self c.line.new.self c.in-Ok.ensures.line.0 c.begin.ensures takes)
    (c.in-Err-settle.ensures.long (c.cover_fault-in-Err-settle.ensures e))

pub returns-clause-covers : goal.returns-clause-covers
returns-clause-covers c = λ cubes clauses h.
    let takes : TakesLine c.begin.new.self c.line.new.self (line_for c.args.clause.now) c.in-Ok.ensures.line.0 =
    subst (λ (gs : List Group). TakesLine c.begin.new.self c.line.new.self (Add 2 c.args.clause.now (1 ∷ []) gs) c.in-Ok.ensures.line.0) c.args.self.now.none c.in-Ok.ensures.line.2 in
    put_covers cubes clauses c.args.clause.now c.requires.small c.requires.no_pair c.args.self.now h c.begin.new.self c.line.new.self c.in-Ok.ensures.line.0 c.begin.ensures takes
    _ c.settle.new.self c.in_ok-end.ensures.ended.0 c.in-Ok-settle.ensures.settled c.in_ok-end.ensures.ended.2

pub returns-clause-told : goal.returns-clause-told
returns-clause-told c = λ cubes clauses h.
    let takes : TakesLine c.begin.new.self c.line.new.self (line_for c.args.clause.now) c.in-Ok.ensures.line.0 =
    subst (λ (gs : List Group). TakesLine c.begin.new.self c.line.new.self (Add 2 c.args.clause.now (1 ∷ []) gs) c.in-Ok.ensures.line.0) c.args.self.now.none c.in-Ok.ensures.line.2 in
    put_told cubes clauses c.args.clause.now c.requires.small c.requires.no_pair c.args.self.now h c.begin.new.self c.line.new.self c.in-Ok.ensures.line.0 c.begin.ensures takes
    c.in-Ok-settle.closes c.in-Ok-settle.ensures.told
