use Rattle.std.proofs.Common.{◌≡◌, ◌<◌, ◌∷◌, ◌++◌, [], ap, ◌∙◌, length, arith, append_assoc, length-append, get_or, ◌-◌}
use Rattle.std.proofs.lemmas.List.Elements.{All-cons}
use Rattle.std.proofs.lemmas.List.{get_or_at}
use Rattle.watches.specs.declared.trail.Assigned.{Assigned}
use Rattle.watches.proofs.trail.Trail.cut.Goals as goal

pub loop-self-preserved : goal.loop-self-preserved
loop-self-preserved c =
    let i = c.loop-self.invariant in
    let p = c.pop.ensures.entries in
    let n = ap length p.1 in
    let m = length-append c.pop.new.self.entries (p.0 ∷ []) in
    let top : c.level.result ≡ p.0.level = c.level.ensures.last p.0 (omega arith)
    ∙ ap (λ es. (get_or es (length es - 1) p.0).level) p.1 ∙ ap (λ (e : Assigned). e.level) (get_or_at c.pop.new.self.entries p.0 [] p.0 _ (omega arith)) in (
      c.pop.ensures.vars ∙ i.0,
      (
        p.0 ∷ i.1.0,
        i.1.1 ∙ ap (λ es. es ++ i.1.0) p.1 ∙ append_assoc c.pop.new.self.entries (p.0 ∷ []) i.1.0,
        All-cons (λ e. c.args.level < e.level) p.0 i.1.0 (omega arith) i.1.2,
      ),
    )
