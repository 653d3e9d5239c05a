use Rattle.std.proofs.Common.{◌≡◌, ◌∷◌, [], ◌++◌, List, ℕ, sym, ap, subst, ◌∙◌}
use Rattle.lrat_forms.specs.Pieces.{Gives, given_at}
use Rattle.lrat_forms.specs.declared.text_form.Stage.{Stage}
use Rattle.lrat_forms.specs.inner.BinaryPiece.{ReadsAt}
use Rattle.lrat_forms.proofs.FormLemmas.{Fed, fed, fed_none, first_is, nothing_first}
use Rattle.lrat_forms.proofs.text_form.TextForm.feed.Goals as goal

pub returns : goal.returns
returns c = λ most bytes text h.
    let f = c.args.self.now in
    let w = c.begin.new.self in
    let s = c.read_at-self.result in
    let next = c.read_at-self.new.reader in
    let v = c.read_at-self.new.writer in
    let b = c.in-Some.first.now in
    let first = first_is c.args.piece.now b c.in-Some.ensures.value in
    let reads = subst (λ (xs : List ℕ). ReadsAt c.stage_at-stage.result f.reader w xs s next v) first.1 c.read_at-self.ensures in
    let at = subst (λ (x : Stage). ReadsAt x f.reader w (b ∷ first.0) s next v) c.stage_at-stage.ensures reads in
    subst (λ (xs : List ℕ). Fed most xs bytes text s next v) (sym first.1)
    (fed most f.reader w b first.0 c.begin.ensures.out s next v bytes text f.stage at (subst (λ (n : ℕ). Gives most f.stage f.reader n bytes text) (sym c.begin.ensures.top) h))

pub returns-in_default : goal.returns-in_default
returns-in_default c = λ most bytes text h.
    let f = c.args.self.now in
    let w = c.begin.new.self in
    let h' = subst (λ (n : ℕ). Gives most f.stage f.reader n bytes text) (sym c.begin.ensures.top) h in
    subst (λ (xs : List ℕ). Gives most f.stage f.reader w.top (bytes ++ xs) (text ++ given_at f.stage xs w.out.items)) (sym (nothing_first c.args.piece.now c.in_default.ensures.value))
    (fed_none most f.stage f.reader w.top w.out.items bytes text c.begin.ensures.out h')
