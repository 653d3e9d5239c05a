use Rattle.std.proofs.Common.{◌≡◌, ℕ, ◌+◌, ◌*◌, ◌%◌, ◌<◌, ◌∙◌, ◌++◌, ◌∷◌, [], List, take, sym, ap, subst, arith}
use Rattle.std.proofs.lemmas.List.{take_more, take_all}
use Rattle.std.proofs.lemmas.List.Elements.{Contains-append_left, Contains-append_right}
use Rattle.dimacs.specs.logic.Literal.{Literal, Clause, negation}
use Rattle.dimacs.proofs.Members.{Contains-head}
use Rattle.log_join.specs.Bits.{Has}
use Rattle.log_join.specs.Trees.{HasPlace, row_of}
use Rattle.log_join.specs.inner.Trees.{AllHavePlace}
use Rattle.log_join.proofs.IndexLemmas.{block_read}
use Rattle.log_join.proofs.leaf_lookup.meet.Goals as goal

pub loop-l-preserved : goal.loop-l-preserved
loop-l-preserved c = λ p word here all.
    let x : Literal = c.l-item.result in
    let i = c.loop-l.l-index in
    let longer : take (i + 1) c.args.clause.now ≡ take i c.args.clause.now ++ x ∷ [] =
    take_more c.args.clause.now i x c.loop-l-test.true ∙ ap (λ (l : Literal). take i c.args.clause.now ++ l ∷ []) (sym c.l-item.is) in
    let all' : AllHavePlace c.args.index.now (take i c.args.clause.now ++ x ∷ []) p = subst (λ (C : Clause). AllHavePlace c.args.index.now C p) longer all in
    let row : c.row_of-row.result ≡ row_of c.args.index.now (negation x) = c.row_of-row.ensures.value ∙ ap (row_of c.args.index.now) c.negate.ensures in
    let stands : HasPlace c.args.index.now (negation x) p = all' x (Contains-append_right (take i c.args.clause.now) (x ∷ []) x (Contains-head x [])) in
    let bit : Has c.args.index.now.words.items (c.index.result.now * 1024 + p % 1024) =
    block_read c.args.index.now (negation x) p c.args.block c.row_of-row.result c.index.result.now word row c.index.ensures stands in
    let low : p % 1024 < 1024 = omega arith in
    c.keep.ensures.both (p % 1024) low (c.loop-l.invariant p word here (λ l j. all' l (Contains-append_left (take i c.args.clause.now) (x ∷ []) l j)))
    (subst (λ (ws : List ℕ). Has ws (c.index.result.now * 1024 + p % 1024)) (sym c.deref.ensures.value) bit)

pub returns : goal.returns
returns c = λ p word here all. c.loop-l.invariant p word here (subst (λ (C : Clause). AllHavePlace c.args.index.now C p) (sym (take_all c.loop-l.l-index c.args.clause.now c.loop-l-test.false)) all)
