use Rattle.std.proofs.Common.{◌∙◌, false, get_or, inl, inr, ap, subst, sym}
use Rattle.std.specs.List.{All}
use Rattle.std.proofs.lemmas.Bool.{true≢false}
use Rattle.std.proofs.lemmas.List.{take_all}
use Rattle.std.proofs.lemmas.List.Elements.{All-more}
use Rattle.elimination.specs.inner.Indexed.{lists_in}
use Rattle.elimination.proofs.IndexLemmas.{IsCleared, new_by, old_by}
use Rattle.elimination.proofs.clauses.Clauses.is_new.Goals as goal
use Rattle.elimination.proofs.clauses.Clauses.is_new.Goals.{then-is_eliminated-via-then-is_eliminated, then-is_eliminated-via-else-is_eliminated+then-has_subset}

pub returns-then-is_eliminated : goal.returns-then-is_eliminated
returns-then-is_eliminated c =
    let s = c.args.self.now in
    elim c.then-is_eliminated.branch [
      | then-is_eliminated-via-then-is_eliminated w ↦ inl (
        c.l-item.result,
        (c.loop-l.l-index, c.loop-l-test.true, sym c.l-item.is),
        ap (λ v. get_or s.gone.items v false) (sym c.var.ensures) ∙ sym c.is_eliminated.ensures ∙ w.if-is_eliminated.true,
      )
      | then-is_eliminated-via-else-is_eliminated+then-has_subset w ↦ inr (old_by s.all s.active.items c.args.lits.now w.if-has_subset.ensures)
    ]

pub loop-l-preserved : goal.loop-l-preserved
loop-l-preserved c =
    let s = c.args.self.now in
    let x = c.l-item.result in
    let P = IsCleared s.all s.active.items (lists_in s.occurs.items) s.gone.items c.args.lits.now in
    All-more P c.args.lits.now c.loop-l.l-index x c.loop-l-test.true c.loop-l.invariant
    (subst P c.l-item.is (
      λ e. true≢false (sym e ∙ ap (λ v. get_or s.gone.items v false) (sym c.var.ensures) ∙ sym c.is_eliminated.ensures ∙ c.if-is_eliminated.false),
      c.if-has_subset.ensures,
    ))

pub returns : goal.returns
returns c =
    let s = c.args.self.now in
    let P = IsCleared s.all s.active.items (lists_in s.occurs.items) s.gone.items c.args.lits.now in
    new_by s.all s.literals s.active.items (lists_in s.occurs.items) s.gone.items c.args.lits.now c.requires.indexed
    (subst (All P) (take_all c.loop-l.l-index c.args.lits.now c.loop-l-test.false) c.loop-l.invariant)
