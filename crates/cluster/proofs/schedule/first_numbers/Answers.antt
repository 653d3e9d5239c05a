use Rattle.std.proofs.Common.{◌≡◌, ◌+◌, ℕ, List, [], ◌∷◌, ◌++◌, rules, sym, ap, ◌∙◌}
use Rattle.cluster.proofs.MemberLemmas.{numbers_more}
use Rattle.cluster.proofs.schedule.first_numbers.Goals as goal

pub loop-i-preserved : goal.loop-i-preserved
loop-i-preserved c =
    let items : c.push.new.self.items ≡ c.loop-i.numbers.items ++ (c.loop-i.i + 1) ∷ [] = search rules in
    items ∙ ap (λ (ns : List ℕ). ns ++ (c.loop-i.i + 1) ∷ []) c.loop-i.invariant ∙ sym (numbers_more c.loop-i.i)
