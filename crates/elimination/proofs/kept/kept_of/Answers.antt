use Rattle.std.proofs.Common.{◌≡◌, [], length, sym, ◌∙◌, ap, subst}
use Rattle.std.specs.Option.{IfSome}
use Rattle.dimacs.specs.logic.Cnf.{Cnf, AreWithin}
use Rattle.elimination.specs.Kept.{AddsResolvents, IsKept}
use Rattle.elimination.specs.inner.Indexed.{AreIndexed, lists_in}
use Rattle.elimination.specs.inner.Reducing.{ArePicked}
use Rattle.elimination.proofs.PickLemmas.{picked_kept, picked_within}
use Rattle.elimination.proofs.kept.kept_of.Goals as goal

pub finish-requires-clause-within : goal.finish-requires-clause-within
finish-requires-clause-within c =
    let r = c.args.reducer in
    let s = c.into_parts-clauses.result.0 in
    let e = c.into_parts-clauses.ensures in
    let done = c.pick.new.builder.done in
    let p = subst (λ o. IfSome o (λ ns. ArePicked r.all.clauses r.active (length r.all.clauses) ns.items done × (c.pick.new.builder.open_clause ≡ []))) c.in-Some.is c.in_ok-numbers.ensures in
    let within : AreWithin r.all.vars r.all.clauses = subst (λ (B : Cnf). AreWithin B.vars B.clauses) e.all e.indexed.stored.base.within in
    subst (λ v. AreWithin v done) (sym c.vars-vars.ensures.value) (picked_within r.all r.active c.in-Some.numbers.items done within p.0)

pub returns : goal.returns
returns c =
    let r = c.args.reducer in
    let s = c.into_parts-clauses.result.0 in
    let e = c.into_parts-clauses.ensures in
    let done = c.pick.new.builder.done in
    let kept = c.in_ok-formula.formula in
    let numbers = c.in-Some.numbers.items in
    let p = subst (λ o. IfSome o (λ ns. ArePicked r.all.clauses r.active (length r.all.clauses) ns.items done × (c.pick.new.builder.open_clause ≡ []))) c.in-Some.is c.in_ok-numbers.ensures in
    let picked : ArePicked r.all.clauses r.active (length r.all.clauses) numbers kept.clauses =
    subst (ArePicked r.all.clauses r.active (length r.all.clauses) numbers) (sym (ap (λ (f : Cnf). f.clauses) c.in_ok-formula.ensures)) p.0 in
    let indexed : AreIndexed r.all s.literals r.active (lists_in s.occurs.items) s.gone.items =
    subst (λ (B : Cnf). AreIndexed B s.literals r.active (lists_in s.occurs.items) s.gone.items) e.all
    (subst (λ bs. AreIndexed s.all s.literals bs (lists_in s.occurs.items) s.gone.items) e.active e.indexed) in
    let vars : kept.vars ≡ r.all.vars = ap (λ (f : Cnf). f.vars) c.in_ok-formula.ensures ∙ c.vars-vars.ensures.value in
    λ F adds. record {
      all = r.all;
      adds = subst (AddsResolvents F r.all) (sym (c.into_text.ensures ∙ e.lines)) adds;
      kept = subst (IsKept r.all kept numbers) (sym c.into_eliminated.ensures) (picked_kept r.all kept s.literals r.active (lists_in s.occurs.items) s.gone.items numbers indexed vars picked);
      count = sym c.len-all.ensures;
    }
