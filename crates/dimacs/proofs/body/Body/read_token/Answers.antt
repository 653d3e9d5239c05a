use Rattle.std.proofs.Common.{arith, ap, ◌∙◌, sym, Ok, inr}
use Rattle.std.proofs.lemmas.Bool.{leb-true, leb-false}
use Rattle.dimacs.specs.text.BodyState.{BodyState}
use Rattle.dimacs.proofs.TokenLemmas.{token_bad, token_full, token_end, token_above, token_many, token_push}
use Rattle.dimacs.proofs.body.Body.read_token.Goals as goal

pub returns-in_default : goal.returns-in_default
returns-in_default c = λ word e. rw c.at.ensures (inr (token_bad c.args.line word c.args.self.now (sym e ∙ c.in_default.is)))

pub returns-then-is_full : goal.returns-then-is_full
returns-then-is_full c = λ word e.
    rw c.at-then-is_full.ensures (inr (token_full c.args.line word c.args.self.now c.in-Some.number (sym e ∙ c.in-Some.is) (leb-true _ _ (sym c.is_full.ensures ∙ c.if-is_full.true))))

pub returns-then-number-eq0 : goal.returns-then-number-eq0
returns-then-number-eq0 c = λ word e.
    token_end c.args.line word c.args.self.now c.in-Some.number (sym e ∙ c.in-Some.is) (leb-false _ _ (sym c.is_full.ensures ∙ c.if-is_full.false)) c.if-number-eq0.true
    ∙ ap Ok (sym c.in_ok-end_clause.ensures)

pub returns-then-number-self : goal.returns-then-number-self
returns-then-number-self c = λ word e.
    let vars = ap (λ (s : BodyState). s.vars) c.self.view_is in
    rw c.at-then-number-self.ensures (inr (token_above c.args.line word c.args.self.now c.in-Some.number (sym e ∙ c.in-Some.is) (leb-false _ _ (sym c.is_full.ensures ∙ c.if-is_full.false)) (omega arith) (omega (arith, vars))))

pub returns-then-literals-self : goal.returns-then-literals-self
returns-then-literals-self c = λ word e.
    let vars = ap (λ (s : BodyState). s.vars) c.self.view_is in
    let total = ap (λ (s : BodyState). s.total) c.self.view_is in
    let limit = ap (λ (s : BodyState). s.limit) c.self.view_is in
    rw c.at-then-literals-self.ensures (inr (token_many c.args.line word c.args.self.now c.in-Some.number (sym e ∙ c.in-Some.is) (leb-false _ _ (sym c.is_full.ensures ∙ c.if-is_full.false)) (omega arith) (omega (arith, vars)) (omega (arith, vars, c.self.invariant.0)) (omega (arith, total, limit))))

pub returns : goal.returns
returns c = λ word e.
    let vars = ap (λ (s : BodyState). s.vars) c.self.view_is in
    let total = ap (λ (s : BodyState). s.total) c.self.view_is in
    let limit = ap (λ (s : BodyState). s.limit) c.self.view_is in
    token_push c.args.line word c.args.self.now c.in-Some.number (sym e ∙ c.in-Some.is) c.literal.result (leb-false _ _ (sym c.is_full.ensures ∙ c.if-is_full.false)) (omega arith) (omega (arith, vars)) (omega (arith, vars, c.self.invariant.0)) (omega (arith, total, limit)) c.literal.ensures
    ∙ ap Ok (sym c.in_ok-push.ensures)
