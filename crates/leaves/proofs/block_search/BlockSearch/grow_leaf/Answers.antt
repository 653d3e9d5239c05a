use Rattle.std.proofs.Common.{◌∷◌, ◌++◌, ℕ, [], Bool, List, Option, subst}
use Rattle.dimacs.specs.text.Grammar.{Begins}
use Rattle.leaves.specs.GrowingLog.{GoesOn, Standing, standing}
use Rattle.leaves.specs.inner.BlockSearch.{SearchesLeaf}
use Rattle.leaves.proofs.GrowingLemmas.{always_err, left_cut, model_at, one_grows}
use Rattle.leaves.proofs.block_search.BlockSearch.grow_leaf.Goals as goal

pub returns-in_err-keep_leaf-in-None-clause-left : goal.returns-in_err-keep_leaf-in-None-clause-left
returns-in_err-keep_leaf-in-None-clause-left g c = λ first r.
    let F = c.args.split.now.formula in
    let tree = c.args.split.now.tree in
    let s = c.args.search.now in
    let n = c.args.leaf in
    let old = c.args.self.now in
    let new = c.search_leaf.new.self in
    let stood = g.G.GrowingLog.stood c.args.kept.now in
    let cut = g.G.GrowingLog.cut c.keep_leaf.new.self in
    always_err c.from_residual.result (left_cut F tree first s stood n old new c.requires.low c.requires.high r
    (subst (λ (found : Option (List Bool)). SearchesLeaf F tree n s old new found) c.in-None.is c.in-Ok.ensures.search_leaf) c.in-Ok.ensures.longer
    (g.G.GrowingLog.stood c.keep_leaf.new.self) cut
    (subst (λ (told : List ℕ). (before : List Standing) → stood before → GoesOn before new.searches.log told → (front : List ℕ) × Begins front new.searches.log × cut before front) c.deref.ensures.value c.in_err-keep_leaf-in-None.ensures.front))

pub returns-in-Some-clause-grows : goal.returns-in-Some-clause-grows
returns-in-Some-clause-grows g c = λ first r.
    let F = c.args.split.now.formula in
    let tree = c.args.split.now.tree in
    let s = c.args.search.now in
    let n = c.args.leaf in
    let old = c.args.self.now in
    let new = c.search_leaf.new.self in (
      r,
      model_at F tree first s (g.G.GrowingLog.stood c.args.kept.now) n old new c.requires.low c.requires.high r c.in-Some.values
          (subst (λ (found : Option (List Bool)). SearchesLeaf F tree n s old new found) c.in-Some.is c.in-Ok.ensures.search_leaf),
    )

pub returns-in_ok-keep_leaf-in-None-clause-grows : goal.returns-in_ok-keep_leaf-in-None-clause-grows
returns-in_ok-keep_leaf-in-None-clause-grows g c = λ first r.
    let F = c.args.split.now.formula in
    let tree = c.args.split.now.tree in
    let s = c.args.search.now in
    let n = c.args.leaf in
    let old = c.args.self.now in
    let new = c.search_leaf.new.self in
    let stood = g.G.GrowingLog.stood c.args.kept.now in
    let kept = g.G.GrowingLog.stood c.keep_leaf.new.self in
    one_grows F tree first s stood n old new c.requires.low c.requires.high r
    (subst (λ (found : Option (List Bool)). SearchesLeaf F tree n s old new found) c.in-None.is c.in-Ok.ensures.search_leaf) c.in-Ok.ensures.longer
    kept
    (subst (λ (told : List ℕ). (before : List Standing) → stood before → GoesOn before new.searches.log told → kept (before ++ standing new.searches.log told ∷ [])) c.deref.ensures.value c.in_ok-keep_leaf-in-None.ensures.stands)
