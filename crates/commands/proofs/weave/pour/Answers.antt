use Rattle.std.proofs.Common.{◌++◌, ◌∙◌, [], ap, sym, subst, refl}
use Rattle.lrat_text.specs.Log.{Closes, Cube}
use Rattle.weaving.specs.Woven.{HasWoven}
use Rattle.commands.specs.inner.Filter.{grew_more, grew_nothing}
use Rattle.commands.proofs.weave.pour.Goals as goal

pub blocks-2-init : goal.blocks-2-init
blocks-2-init g c = (λ F h. record { handed = []; grew = grew_nothing g.D.Drafts.made c.args.part.now; woven = h }, refl)

pub returns-then-not-branch : goal.returns-then-not-branch
returns-then-not-branch g c = record {
  poured = λ F h.
      let i = c.blocks-2.invariant.0 F h in
      let e = c.in_ok-weave.ensures in
      record {
        pours = record { handed = i.handed; grew = i.grew; woven = e.woven F i.handed i.woven };
        closes = subst (λ (q : Cube). Closes F q (i.handed ++ c.weave.new.self.text.out.items)) (ap (λ x. x.items) c.blocks-2.invariant.1) (e.closes c.if-not-branch.true F i.handed i.woven);
      };
}

pub blocks-2-preserved : goal.blocks-2-preserved
blocks-2-preserved g c = (
  λ F h.
      let i = c.blocks-2.invariant.0 F h in
      let e = c.in_ok-weave.ensures in
      let made = g.D.Drafts.made in
      record {
        handed = i.handed ++ c.written.result.now;
        grew = grew_more made c.args.part.now c.blocks-2.part c.append.new.part i.handed c.written.result.now i.grew c.in_ok-append.ensures.written;
        woven = subst (λ x. HasWoven F (i.handed ++ x) c.forget.new.self.text) (sym c.written.ensures) (c.forget.ensures.woven F i.handed (e.woven F i.handed i.woven));
      },
  c.forget.ensures.cube ∙ c.in_ok-weave.ensures.cube ∙ c.blocks-2.invariant.1,
)
