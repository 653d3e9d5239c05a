use Rattle.std.proofs.Common.{◌≡◌, ◌<◌, inl, inr, true, arith, sym, ◌∙◌, ap, subst, length, set}
use Rattle.std.specs.List.{Contains}
use Rattle.std.proofs.lemmas.List.{take_all}
use Rattle.dimacs.specs.logic.Literal.{var_of}
use Rattle.conflict_analysis.specs.inner.Seen.{met}
use Rattle.conflict_analysis.specs.inner.TrailWalk.{HasMet}
use Rattle.conflict_analysis.proofs.FrontLemmas.{Contains-take_more}
use Rattle.conflict_analysis.proofs.TraceLemmas.{mark_one, mark_here, mark_stays}
use Rattle.conflict_analysis.proofs.final_analysis.mark_clause.Goals as goal

pub loop-literal-preserved : goal.loop-literal-preserved
loop-literal-preserved c =
    let i = c.loop-literal.invariant in
    let k = c.literal-item.result in
    let here : Contains c.args.clause.now k = (c.loop-literal.literal-index, c.loop-literal-test.true, sym c.literal-item.is) in
    let below : var_of k < length c.loop-literal.seen = let s = c.requires.sized k here in let z = (i.0).sized in omega (arith, s, z) in
    let after : c.insert.new.self ≡ set c.loop-literal.seen (var_of k) true = c.insert.ensures ∙ ap (λ v. set c.loop-literal.seen v true) c.var.ensures in (
      subst (HasMet c.args.front.now c.args.seen.now) (sym after) (mark_one c.args.front.now c.args.seen.now c.loop-literal.seen k below i.0 (c.requires.known k here)),
      λ l h. subst (λ xs. met xs (var_of l) ≡ true) (sym after) (elim (Contains-take_more c.args.clause.now c.loop-literal.literal-index k l c.loop-literal-test.true h) [
        | inl t ↦ mark_stays c.loop-literal.seen (var_of k) (var_of l) below (i.1 l t)
        | inr e ↦ mark_here c.loop-literal.seen (var_of k) (var_of l) below (ap var_of (c.literal-item.is ∙ e))
      ]),
    )

pub returns-clause-all : goal.returns-clause-all
returns-clause-all c = λ k h. (c.loop-literal.invariant).1 k (subst (λ xs. Contains xs k) (sym (take_all c.loop-literal.literal-index c.args.clause.now c.loop-literal-test.false)) h)
