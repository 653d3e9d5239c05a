use Rattle.std.proofs.Common.{ap, subst, sym, ◌∙◌}
use Rattle.icnf.specs.Pieces.{HasReadWithin, progress_of}
use Rattle.icnf.proofs.PieceLemmas.{no_fault, refuses_piece}
use Rattle.icnf.proofs.tree_reader.TreeReader.feed.Goals as goal

pub returns-in-Err : goal.returns-in-Err
returns-in-Err c = λ L F bytes has.
    let l = c.self.inside.lines in
    let begun = c.self.inside.begun in
    refuses_piece L F bytes l begun c.args.piece.now c.in-Err.fault c.in-Err.ensures
    (subst (λ p. HasReadWithin L F p bytes) (sym c.self.view_is ∙ ap (λ o. progress_of o l.limits l.formula l.count l.body begun) (no_fault c.self.inside.fault (sym c.is_some.ensures ∙ c.if-is_some.false))) has)
