use Rattle.std.proofs.Common.{◌≡◌, ◌+◌, Option, List, ℕ, length, sym, ◌∙◌, ap, subst}
use Rattle.formula_search.specs.inner.Streams.{CanNumber, IsMovedBy}
use Rattle.formula_search.proofs.StreamLemmas.{goes_moved, if_some}
use Rattle.renumbered_logs.specs.declared.renumbering.Renumbering.{Renumbering}
use Rattle.formula_search.proofs.streaming.hand_on.Goals as goal

pub returns-in_ok-all-in-Some-clause-handed : goal.returns-in_ok-all-in-Some-clause-handed
returns-in_ok-all-in-Some-clause-handed g c =
    let p = c.in-Some.places in
    let file = c.in-Some-2.moved in
    let numbered = subst (λ (o : Option Renumbering). CanNumber o) c.in-Some.is c.requires in
    let goes = if_some _ file _ c.in-Some-2.is c.in_ok-moved-in-Some.ensures.moved in (
      file,
      subst (λ (o : Option Renumbering). IsMovedBy o c.args.text.now file) (sym c.in-Some.is) (goes_moved p.numbers.now p.all p.eliminated.now c.args.text.now file numbered goes),
      c.in_ok-all-in-Some.ensures.value ∙ ap (λ n. c.args.bytes + n) c.len-in-Some.ensures,
      c.in_ok-put-in-Some.ensures.handed,
    )
