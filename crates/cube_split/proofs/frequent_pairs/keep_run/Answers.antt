use Rattle.std.proofs.Common.{◌≡◌, ◌∙◌, ℕ, ◌++◌, List, [], ◌∷◌, sym, ap, subst}
use Rattle.std.specs.List.{All, Contains}
use Rattle.std.proofs.lemmas.List.Elements.{All-head}
use Rattle.cube_split.specs.inner.Ranks.{AreLowest, closed_run}
use Rattle.cube_split.proofs.LowestLemmas.{lowest_more}
use Rattle.cube_split.proofs.RankLemmas.{closed_is}
use Rattle.cube_split.proofs.frequent_pairs.keep_run.Goals as goal

pub returns-in_ok-insert_lowest : goal.returns-in_ok-insert_lowest
returns-in_ok-insert_lowest c = λ seen lowest fresh.
    let e : closed_run c.args.key c.args.count ≡ c.rank.result ∷ [] = closed_is c.args.key c.args.count c.if-count-gt0.true ∙ ap (λ (r : ℕ). r ∷ []) (sym c.rank.ensures) in
    subst (λ (xs : List ℕ). AreLowest c.args.limit (seen ++ xs) c.insert_lowest.new.best.items) (sym e)
    (lowest_more c.args.limit seen c.rank.result c.args.best.now.items c.insert_lowest.new.best.items c.in_ok-insert_lowest.ensures lowest
    (All-head (λ r. ¬ (Contains seen r)) c.rank.result [] (subst (All (λ r. ¬ (Contains seen r))) e fresh)))
