use Rattle.std.proofs.Common.{◌≡◌, ◌+◌, ◌<◌, ◌∙◌, true, false, [], length, replicate, get_or, ap, subst, arith}
use Rattle.std.specs.List.{Contains}
use Rattle.std.proofs.lemmas.List.{get_or-replicate}
use Rattle.std.proofs.lemmas.Option.{MatchOption-at_some}
use Rattle.dimacs.specs.logic.Cnf.{Cnf}
use Rattle.elimination.specs.Kept.{IsEliminated}
use Rattle.elimination.specs.inner.Indexed.{lists_in, IsListOf}
use Rattle.elimination.proofs.IndexLemmas.{begun, none_gone}
use Rattle.elimination.proofs.clauses.Clauses.new.Goals as goal

pub returns : goal.returns
returns c =
    let F = c.in_ok-all.all in
    let lists = lists_in c.in-Some.occurs.items in
    let h : IsListOf F lists = MatchOption-at_some (Contains F.clauses []) (λ v. IsListOf F (lists_in v.items)) c.in-Some.occurs c.in-Some.is c.in_ok-occurs.ensures in
    let active : c.in_ok-active.active.items ≡ replicate (length F.clauses) true =
    c.in_ok-active.ensures.items_if_clones_equal (λ y e. e) ∙ ap (λ n. replicate n true) c.len.ensures in
    let gone : c.in_ok-gone.gone.items ≡ replicate (F.vars + 1) false =
    c.in_ok-gone.ensures.items_if_clones_equal (λ y e. e) ∙ ap (λ n. replicate (n + 1) false) c.vars.ensures.value in
    record {
      indexed = rw (c.count_literals-literals.ensures, active, gone) (begun F lists c.vars.ensures.valid h);
      all = c.in_ok-all.ensures;
      some = subst (λ (f : Cnf). ¬ (Contains f.clauses [])) c.in_ok-all.ensures h.some;
      active = λ i b.
          let below : i < length F.clauses = omega (arith, ap (λ (f : Cnf). length f.clauses) c.in_ok-all.ensures) in
          ap (λ bs. get_or bs i false) active ∙ get_or-replicate (length F.clauses) i true false below;
      whole = λ v e. none_gone F.vars v (subst (λ bs. IsEliminated bs v) gone e);
    }
