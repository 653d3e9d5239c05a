use Rattle.std.proofs.Common.{List, Bool, true, Result, Ok, arith, ap, ◌∙◌, sym, subst, inr}
use Rattle.dimacs.specs.inner.Rows.{Gives}
use Rattle.answers.specs.Pieces.{Marking, named_by, naming_of}
use Rattle.answers.specs.Parse.{Naming, no_memory}
use Rattle.answers.specs.declared.fault.AnswerFault.{AnswerFault}
use Rattle.answers.proofs.TokenLemmas.{token_behind, token_bad, token_ends, token_above, token_names}
use Rattle.answers.proofs.value_lines.Values.read_token.Goals as goal

pub returns-then-self : goal.returns-then-self
returns-then-self c = λ word e.
    let ended = ap (λ (m : Marking). m.ended) c.self.view_is in
    rw c.at.ensures (inr (token_behind c.args.line word (naming_of c.args.self.now) (cc)))

pub returns-in_default : goal.returns-in_default
returns-in_default c = λ word e.
    let ended = ap (λ (m : Marking). m.ended) c.self.view_is in
    rw c.at-in_default.ensures (inr (token_bad c.args.line word (naming_of c.args.self.now) (cc) (sym e ∙ c.in_default.is)))

pub returns-then-number-eq0 : goal.returns-then-number-eq0
returns-then-number-eq0 c = λ word e.
    let ended = ap (λ (m : Marking). m.ended) c.self.view_is in
    let marks = ap (λ (m : Marking). m.marks) c.self.view_is in
    token_ends c.args.line word (naming_of c.args.self.now) c.in-Some.number (cc) (sym e ∙ c.in-Some.is) c.if-number-eq0.true
    ∙ ap (λ (xs : List Bool). let r : Result Naming AnswerFault = Ok (record { named = named_by xs; ended = true }) in r) (sym marks)

pub returns-then-number-gt-LIMIT : goal.returns-then-number-gt-LIMIT
returns-then-number-gt-LIMIT c = λ word e.
    let ended = ap (λ (m : Marking). m.ended) c.self.view_is in
    rw c.at-then-number-gt-LIMIT.ensures (inr (token_above c.args.line word (naming_of c.args.self.now) c.in-Some.number (cc) (sym e ∙ c.in-Some.is) (omega arith)))

pub returns : goal.returns
returns c = λ word e.
    let ended = ap (λ (m : Marking). m.ended) c.self.view_is in
    subst (Gives no_memory (naming_of c.read_literal.new.self) c.read_literal.result)
    (sym (token_names c.args.line word (naming_of c.args.self.now) c.in-Some.number (cc) (sym e ∙ c.in-Some.is) c.literal.result (omega arith) (omega arith) c.literal.ensures)) c.read_literal.ensures
