use Rattle.std.proofs.Common.{◌≡◌, true, List, Result, Ok, ◌∙◌, ap, arith, inr, sym}
use Rattle.dimacs.specs.logic.Literal.{Literal}
use Rattle.icnf.specs.declared.fault.IcnfFault.{IcnfFault}
use Rattle.sessions.specs.Events.{LineRead}
use Rattle.sessions.proofs.TokenLemmas.{token_behind, token_bad, token_ends, token_above, token_reads}
use Rattle.sessions.proofs.line_literals.LineLiterals.read_token.Goals as goal

pub returns-then-self : goal.returns-then-self
returns-then-self c = λ word e.
    let ended = ap (λ (m : LineRead). m.ended) c.self.view_is in
    rw c.fault.ensures (inr (token_behind c.args.most c.args.line word c.args.self.now (cc)))

pub returns-in_default : goal.returns-in_default
returns-in_default c = λ word e.
    let ended = ap (λ (m : LineRead). m.ended) c.self.view_is in
    rw c.fault-in_default.ensures (inr (token_bad c.args.most c.args.line word c.args.self.now (cc) (sym e ∙ c.in_default.is)))

pub returns-then-number-eq0 : goal.returns-then-number-eq0
returns-then-number-eq0 c = λ word e.
    let ended = ap (λ (m : LineRead). m.ended) c.self.view_is in
    let literals = ap (λ (m : LineRead). m.literals) c.self.view_is in
    token_ends c.args.most c.args.line word c.args.self.now c.in-Some.number (cc) (sym e ∙ c.in-Some.is) c.if-number-eq0.true
    ∙ ap (λ (q : List Literal). let r : Result LineRead IcnfFault = Ok (record { literals = q; ended = true }) in r) (sym literals)

pub returns-then-number-most : goal.returns-then-number-most
returns-then-number-most c = λ word e.
    let ended = ap (λ (m : LineRead). m.ended) c.self.view_is in
    rw c.fault-then-number-most.ensures (inr (token_above c.args.most c.args.line word c.args.self.now c.in-Some.number (cc) (sym e ∙ c.in-Some.is) (omega arith)))

pub returns : goal.returns
returns c = λ word e.
    let is = c.self.view_is in
    let old : c.args.self.now ≡ record { literals = c.self.inside.literals.items; ended = c.self.inside.ended } = sym is in
    rw old (token_reads c.args.most c.args.line word (record { literals = c.self.inside.literals.items; ended = c.self.inside.ended }) c.in-Some.number c.if-self.false (sym e ∙ c.in-Some.is) c.literal.result c.requires (omega arith) (omega arith) c.literal.ensures
    ∙ ap (λ (q : List Literal). let r : Result LineRead IcnfFault = Ok (record { literals = q; ended = c.self.inside.ended }) in r) (sym c.in_ok-push.ensures.items))
