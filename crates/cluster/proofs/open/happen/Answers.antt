use Rattle.std.proofs.Common.{◌≡◌, ◌∙◌, ℕ, ◌<◌, List, length, get_or, Some, slice_set, ap, sym, arith}
use Rattle.std.specs.Prelude.{slice_get}
use Rattle.std.proofs.lemmas.Option.{slice_get-get_or}
use Rattle.lrat_check.specs.declared.verdict.Reaction.{Reaction}
use Rattle.cluster.specs.OpenSchedule.{Happens, Reacts, node_of}
use Rattle.cluster.specs.declared.event.OpenEvent.{OpenEvent}
use Rattle.cluster.specs.declared.node.Node.{Node}
use Rattle.cluster.proofs.open.happen.Goals as goal

-- an existing node reacts, and is put back in its place
happens_there : (old : List Node) (event : OpenEvent) (answer : Reaction) (n m : Node) (place : ℕ) → place ≡ node_of event → place < length old → n ≡ get_or old place n
    → Reacts event n answer m → Happens old event answer (slice_set old place m)
happens_there old event answer n m place same inside here reacts =
    let at : slice_get old (node_of event) ≡ Some n = ap (λ (i : ℕ). slice_get old i) (sym same) ∙ (slice_get-get_or old place n inside ∙ ap (λ (x : Node). Some x) (sym here)) in
    rw at (m, reacts, ap (λ (i : ℕ). slice_set old i m) same)

pub returns-clause-happens : goal.returns-clause-happens
returns-clause-happens c =
    happens_there c.args.nodes.now.items c.args.event.now c.react.result c.index_mut.result.now c.react.new.self c.node-place.result c.node-place.ensures (omega (arith, c.args.nodes.now.ok.0)) c.index_mut.ensures.value c.react.ensures.reacts
