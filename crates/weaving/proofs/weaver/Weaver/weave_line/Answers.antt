use Rattle.std.proofs.Common.{◌≡◌, true, subst}
use Rattle.std.specs.Prelude.{IfOk}
use Rattle.lrat_text.specs.Log.{Cube}
use Rattle.weaving.specs.Woven.{ClosesAs}
use Rattle.weaving.proofs.weaver.Weaver.weave_line.Goals as goal

pub returns-clause-closes : goal.returns-clause-closes
returns-clause-closes g c =
    subst (λ (q : Cube). IfOk c.weave_lemma.result (λ closes. closes ≡ true → ClosesAs q c.args.self.now.text c.weave_lemma.new.text)) c.deref.ensures.value c.weave_lemma.ensures.closes
