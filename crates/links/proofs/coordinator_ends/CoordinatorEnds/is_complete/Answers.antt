use Rattle.std.proofs.Common.{◌∙◌, is_some, sym, ap}
use Rattle.std.specs.List.{list_all}
use Rattle.std.proofs.lemmas.List.Folds.{list_all-map}
use Rattle.links.proofs.coordinator_ends.CoordinatorEnds.is_complete.Goals as goal

pub returns : goal.returns
returns g c = c.are_linked.ensures ∙ ap (list_all (λ e. is_some e)) c.deref.ensures.value ∙ sym (list_all-map (λ b. b) (λ e. is_some e) c.args.self.now.ends.items)
