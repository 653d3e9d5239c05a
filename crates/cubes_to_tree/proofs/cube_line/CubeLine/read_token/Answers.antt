use Rattle.std.proofs.Common.{true, Result, Ok, ◌∙◌, ap, arith, inr, sym, subst}
use Rattle.icnf.specs.Parser.{no_memory}
use Rattle.dimacs.specs.inner.Rows.{Gives}
use Rattle.icnf.specs.Leaves.{Cube}
use Rattle.icnf.specs.declared.fault.IcnfFault.{IcnfFault}
use Rattle.cubes_to_tree.specs.CubeList.{CubeRead}
use Rattle.cubes_to_tree.proofs.TokenLemmas.{token_behind, token_bad, token_ends, token_above, token_reads}
use Rattle.cubes_to_tree.proofs.cube_line.CubeLine.read_token.Goals as goal

pub returns-then-self : goal.returns-then-self
returns-then-self c = λ word e.
    let ended = ap (λ (m : CubeRead). m.ended) c.self.view_is in
    rw c.fault.ensures (inr (token_behind c.args.greatest c.args.line word c.args.self.now (cc)))

pub returns-in_default : goal.returns-in_default
returns-in_default c = λ word e.
    let ended = ap (λ (m : CubeRead). m.ended) c.self.view_is in
    rw c.fault-in_default.ensures (inr (token_bad c.args.greatest c.args.line word c.args.self.now (cc) (sym e ∙ c.in_default.is)))

pub returns-then-number-eq0 : goal.returns-then-number-eq0
returns-then-number-eq0 c = λ word e.
    let ended = ap (λ (m : CubeRead). m.ended) c.self.view_is in
    let literals = ap (λ (m : CubeRead). m.literals) c.self.view_is in
    token_ends c.args.greatest c.args.line word c.args.self.now c.in-Some.number (cc) (sym e ∙ c.in-Some.is) c.if-number-eq0.true
    ∙ ap (λ (q : Cube). let r : Result CubeRead IcnfFault = Ok (record { literals = q; ended = true }) in r) (sym literals)

pub returns-then-number-greatest : goal.returns-then-number-greatest
returns-then-number-greatest c = λ word e.
    let ended = ap (λ (m : CubeRead). m.ended) c.self.view_is in
    rw c.fault-then-number-greatest.ensures (inr (token_above c.args.greatest c.args.line word c.args.self.now c.in-Some.number (cc) (sym e ∙ c.in-Some.is) (omega arith)))

pub returns : goal.returns
returns c = λ word e.
    let ended = ap (λ (m : CubeRead). m.ended) c.self.view_is in
    subst (Gives no_memory c.read_literal.new.self c.read_literal.result)
    (sym (token_reads c.args.greatest c.args.line word c.args.self.now c.in-Some.number (cc) (sym e ∙ c.in-Some.is) c.literal.result (omega arith) (omega arith) c.literal.ensures)) c.read_literal.ensures
