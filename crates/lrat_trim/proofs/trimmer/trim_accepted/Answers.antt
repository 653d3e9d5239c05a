use Rattle.std.proofs.Common.{subst, arith}
use Rattle.std.specs.Bool.{OnTrue}
use Rattle.lrat_text.specs.Proof.{Accepts}
use Rattle.lrat_trim.proofs.LetterLemmas.{lemmas_are}
use Rattle.lrat_trim.proofs.trimmer.trim_accepted.Goals as goal

pub returns-then-branch : goal.returns-then-branch
returns-then-branch c = λ proof.
    let accepted : Accepts c.args.formula c.in-Some.text = subst (λ b. OnTrue b (Accepts c.args.formula c.in-Some.text)) c.if-branch.true c.in_ok-is_accepted.ensures in
    record {
      accepted = accepted;
      kept = lemmas_are c.args.formula (omega (arith, c.vars.ensures.valid.vars)) c.in_ok-kept.kept c.in-Some.text accepted.0 accepted.1 c.in_ok-kept.ensures;
      all = lemmas_are c.args.formula (omega (arith, c.vars.ensures.valid.vars)) c.in_ok-all.all c.args.proof proof.0 proof.1 c.in_ok-all.ensures;
      fewer = omega (arith, c.if-kept-all.true);
    }

pub returns : goal.returns
returns c = λ proof.
    let all = lemmas_are c.args.formula (omega (arith, c.vars.ensures.valid.vars)) c.in_ok-all.all c.args.proof proof.0 proof.1 c.in_ok-all.ensures in
    record { accepted = proof; kept = all; all = all; fewer = omega arith }
