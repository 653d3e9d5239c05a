use Rattle.std.proofs.Common.{rules, ◌≡◌, ◌++◌, ◌∷◌, [], All}
use Rattle.std.proofs.lemmas.List.Elements.{All-append}
use Rattle.runs.specs.inner.Connections.{IsUntouched}
use Rattle.runs.specs.inner.LocalWorkers.{fewest}
use Rattle.runs.proofs.local_run.local_connections.Goals as goal

pub loop-i-preserved : goal.loop-i-preserved
loop-i-preserved c =
    let pushed : c.push.new.self.items ≡ c.loop-i.local_connections.items ++ c.in_ok-local_connection.field-0 ∷ [] = search rules in
    let one : All (IsUntouched fewest) (c.in_ok-local_connection.field-0 ∷ []) = search (rules, c.in_ok-local_connection.ensures) in
    record {
      count = search rules;
      untouched = rw pushed (All-append (IsUntouched fewest) c.loop-i.local_connections.items (c.in_ok-local_connection.field-0 ∷ []) c.loop-i.invariant.untouched one);
    }
