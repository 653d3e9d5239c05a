use Rattle.std.proofs.Common.{◌≡◌, ◌∙◌, ap, sym, is_none, codes}
use Rattle.memchr.proofs.lemmas.ValueLemmas.{FindsNeedle-value}
use Rattle.memchr.specs.Find.{first_of, matches}
use Rattle.explanations.proofs.looks.lacks_inner_zero.Goals as goal

pub returns-in-Some : goal.returns-in-Some
returns-in-Some c =
    let e : c.find.result ≡ first_of (matches c.args.line.now (codes " 0 ") 0) = FindsNeedle-value c.args.line.now (codes " 0 ") c.find.result c.find.ensures in
    sym (ap is_none (sym e ∙ c.in-Some.is))

pub returns-in-None : goal.returns-in-None
returns-in-None c =
    let e : c.find.result ≡ first_of (matches c.args.line.now (codes " 0 ") 0) = FindsNeedle-value c.args.line.now (codes " 0 ") c.find.result c.find.ensures in
    sym (ap is_none (sym e ∙ c.in-None.is))
