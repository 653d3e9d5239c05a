use Rattle.std.proofs.Common.{List, Bool, not, ap, sym, ◌∙◌, arith}
use Rattle.std.specs.List.{list_any}
use Rattle.answers.specs.Pieces.{named_by}
use Rattle.answers.specs.Reports.{is_missed}
use Rattle.answers.proofs.NamedLemmas.{found_at, none_left, not_at}
use Rattle.answers.proofs.named_literals.Named.first_missed.Goals as goal

pub returns-then-not-meets : goal.returns-then-not-meets
returns-then-not-meets c =
    sym (found_at (is_missed (named_by c.args.self.now)) c.args.formula.now.clauses c.loop-i.i c.clause.result.now (omega arith) c.clause.ensures.clause
    (ap not (ap (λ (marks : List Bool). list_any (named_by marks) c.clause.result.now) (sym (c.deref.ensures.value ∙ c.self.view_is)) ∙ sym c.meets.ensures ∙ c.if-not-meets.true)))
    ∙ c.loop-i.invariant

pub loop-i-preserved : goal.loop-i-preserved
loop-i-preserved c =
    sym (not_at (is_missed (named_by c.args.self.now)) c.args.formula.now.clauses c.loop-i.i c.clause.result.now (omega arith) c.clause.ensures.clause
    (ap not (ap (λ (marks : List Bool). list_any (named_by marks) c.clause.result.now) (sym (c.deref.ensures.value ∙ c.self.view_is)) ∙ sym c.meets.ensures ∙ c.if-not-meets.false)))
    ∙ c.loop-i.invariant

pub returns : goal.returns
returns c = sym (none_left (is_missed (named_by c.args.self.now)) c.args.formula.now.clauses c.loop-i.i _ (omega arith)) ∙ c.loop-i.invariant
