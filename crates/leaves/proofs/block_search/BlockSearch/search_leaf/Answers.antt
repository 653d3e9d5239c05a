use Rattle.std.proofs.Common.{◌≡◌, ◌∙◌, refl, sym, subst}
use Rattle.icnf.specs.Leaves.{Cube}
use Rattle.leaves.specs.inner.BlockSearch.{HasFound}
use Rattle.leaves.specs.declared.search_session.SearchSession.{SearchSession}
use Rattle.leaves.proofs.LineLemmas.{if_if}
use Rattle.leaves.proofs.BlockSearchLemmas.{some_is, searched_leaf}
use Rattle.leaves.proofs.block_search.BlockSearch.search_leaf.Goals as goal

pub returns-clause-search_leaf : goal.returns-clause-search_leaf
returns-clause-search_leaf g c = if_if c.note_leaf.result _ _ (λ told_of told q is closing steps h.
    let F = c.args.split.now.formula in
    let s = c.args.search.now in
    let same : c.in-Some.cube.now ≡ q = some_is c.in-Some.cube.now q (c.in-Some.ensures.found ∙ is) in
    let mid = record c.args.self.now { searches = c.search.new.self } in
    searched_leaf F closing steps q c.args.leaf s c.args.self.now mid c.note_leaf.new.self c.in_ok-found.found told_of refl refl
    (subst (λ (p : Cube). HasFound F closing steps p s.limit c.in_ok-found.found c.note_leaf.new.self.searches) same
    (subst (λ (x : SearchSession g.row.P.Denot). HasFound F closing steps c.in-Some.cube.now s.limit c.in_ok-found.found x) (sym c.note_leaf.ensures.searches) (c.in_ok-found.ensures.searched F closing steps h)))
    told) c.note_leaf.ensures.told
