use Rattle.std.proofs.Common.{◌≡◌, ℕ, ◌^◌, ◌++◌, ◌∙◌, List, [], All, length, arith, ap, sym, subst}
use Rattle.std.proofs.lemmas.List.Elements.{All-nil}
use Rattle.std.proofs.lemmas.Result.{err_from_is_err_and}
use Rattle.lrat_text.specs.Runs.{text_of}
use Rattle.proof_join.specs.Definitions.{preamble_steps}
use Rattle.proof_join.specs.Fronts.{Branch, IsFrontOf}
use Rattle.proof_join.specs.Fronts.{branches}
use Rattle.proof_join.specs.inner.Fronts.{IsUpTo}
use Rattle.proof_join.proofs.BranchLemmas.{branches_none}
use Rattle.proof_join.proofs.FrontLemmas.{front_none, goes_long, made_front, preamble_begins}
use Rattle.proof_join.proofs.WholeLemmas.{too_long}
use Rattle.proof_join.proofs.joiner.Joiner.begin.Goals as goal

pub returns-in_err-base-clause-long : goal.returns-in_err-base-clause-long
returns-in_err-base-clause-long c =
    let p = err_from_is_err_and c.from_residual.result c.from_residual.ensures.1 in
    rw (p.1, p.2) (λ is leaves texts text j.
    let lines : List ℕ = text_of (length c.args.formula.now.clauses) (preamble_steps c.args.formula.now c.args.preamble.now.pairs) in
    let start : c.behind-out.result ++ lines ≡ lines = ap (λ (o : List ℕ). o ++ lines) (c.behind-out.ensures ∙ c.new.ensures) in
    let same = ap length start in
    let long = too_long ℕ c.in_err-base.field-0.0 c.put_preamble.new.out (c.behind-out.result ++ lines) is c.in_err-base.ensures.text in
    goes_long lines text (2 ^ 32) (preamble_begins c.args.formula.now (preamble_steps c.args.formula.now c.args.preamble.now.pairs) leaves texts text j) (omega arith))

pub invariant_of-result : goal.invariant_of-result
invariant_of-result c =
    let few = c.in_ok-base.ensures.few in
    let none : branches c.new-2.result.items ≡ [] = ap branches c.new-2.ensures.items ∙ branches_none in
    let same = ap length (c.into_text.ensures ∙ c.in_ok-base.ensures.text.0) in
    let below = c.in_ok-base.ensures.text.1 in
    record {
      base = omega arith;
      up = omega arith;
      few = omega arith;
      short = omega arith;
      finished = subst (λ (bs : List Branch). All (IsUpTo c.in_ok-base.base) bs) (sym none) (All-nil (IsUpTo c.in_ok-base.base));
    }

pub returns-clause-begun : goal.returns-clause-begun
returns-clause-begun c =
    let lines : List ℕ = text_of (length c.args.formula.now.clauses) (preamble_steps c.args.formula.now c.args.preamble.now.pairs) in
    let start : c.behind-out.result ++ lines ≡ lines = ap (λ (o : List ℕ). o ++ lines) (c.behind-out.ensures ∙ c.new.ensures) in
    made_front c.args.formula.now c.args.preamble.now.pairs c.in_ok-base.base c.into_text.result (branches c.new-2.result.items) c.in_ok-base.ensures.top (c.into_text.ensures ∙ c.in_ok-base.ensures.text.0 ∙ start) (ap branches c.new-2.ensures.items ∙ branches_none)

pub returns-clause-front : goal.returns-clause-front
returns-clause-front c =
    let lines : List ℕ = text_of (length c.args.formula.now.clauses) (preamble_steps c.args.formula.now c.args.preamble.now.pairs) in
    let start : c.behind-out.result ++ lines ≡ lines = ap (λ (o : List ℕ). o ++ lines) (c.behind-out.ensures ∙ c.new.ensures) in
    subst (IsFrontOf c.args.formula.now c.args.preamble.now.pairs [] [])
    (sym (made_front c.args.formula.now c.args.preamble.now.pairs c.in_ok-base.base c.into_text.result (branches c.new-2.result.items) c.in_ok-base.ensures.top (c.into_text.ensures ∙ c.in_ok-base.ensures.text.0 ∙ start) (ap branches c.new-2.ensures.items ∙ branches_none)))
    (front_none c.args.formula.now c.args.preamble.now.pairs)
