use Rattle.std.proofs.Common.{◌≡◌, inl, inr, true, [], ◌∷◌, ◌++◌, take, ap, sym, ◌∙◌, subst}
use Rattle.std.specs.List.{Contains}
use Rattle.std.proofs.lemmas.List.{take_all, take_more}
use Rattle.dimacs.specs.logic.Literal.{var_of}
use Rattle.conflict_analysis.specs.inner.Seen.{met}
use Rattle.conflict_analysis.proofs.FrontLemmas.{Contains-take_more}
use Rattle.conflict_analysis.proofs.MetLemmas.{met_further}
use Rattle.conflict_analysis.proofs.MetCountLemmas.{noted_further}
use Rattle.conflict_analysis.specs.inner.Tallies.{HasNoted}
use Rattle.conflict_analysis.proofs.first_uip.TrailWalk.analyse_clause.Goals as goal

pub loop-literal-preserved : goal.loop-literal-preserved
loop-literal-preserved c =
    let i = c.loop-literal.invariant in
    let e = c.in_ok-analyse_literal.ensures in (
      e.walk,
      λ k h. elim (Contains-take_more c.args.clause.now c.loop-literal.literal-index c.literal-item.result k c.loop-literal-test.true h) [
        | inl t ↦ e.seen.grows (var_of k) (i.1 k t)
        | inr q ↦ let p = c.literal-item.is in subst (λ x. met c.analyse_literal.new.self.seen (var_of x) ≡ true) (p ∙ q) e.here
      ],
      met_further c.args.front.now c.args.self.now.seen c.loop-literal.self.seen c.analyse_literal.new.self.seen i.2 e.seen,
      (let more = take_more c.args.clause.now c.loop-literal.literal-index c.literal-item.result c.loop-literal-test.true in
          let p = c.literal-item.is in
          subst (HasNoted c.args.self.now c.analyse_literal.new.self) (sym (more ∙ ap (λ l. take c.loop-literal.literal-index c.args.clause.now ++ l ∷ []) (sym p)))
          (noted_further c.args.self.now c.loop-literal.self c.analyse_literal.new.self (take c.loop-literal.literal-index c.args.clause.now) (c.literal-item.result ∷ []) i.3 e.noted)),
    )

pub returns-clause-all : goal.returns-clause-all
returns-clause-all c = λ k h. (c.loop-literal.invariant).1 k (subst (λ xs. Contains xs k) (sym (take_all c.loop-literal.literal-index c.args.clause.now c.loop-literal-test.false)) h)

pub returns-clause-noted : goal.returns-clause-noted
returns-clause-noted c = subst (HasNoted c.args.self.now c.loop-literal.self) (take_all c.loop-literal.literal-index c.args.clause.now c.loop-literal-test.false) (c.loop-literal.invariant).3
