use Rattle.std.proofs.Common.{◌≡◌, ℕ, ◌<◌, List, length, get_or, set, Some, ap, sym, ◌∙◌, subst}
use Rattle.dimacs.specs.logic.Literal.{Literal}
use Rattle.watches.specs.declared.trail.Assigned.{Assigned}
use Rattle.watches.specs.Law.{IsExplained}
use Rattle.watches.specs.inner.ReasonLaws.{explained_alike}
use Rattle.watches.specs.Trails.{TrailValue}
use Rattle.watches.proofs.ExplainLemmas.{explained_at, trail_alike}
use Rattle.watches.proofs.trail.Trail.explain.Goals as goal

-- the entry of the literal has another reason, in the words of the code
explained : (t : TrailValue) (es : List Assigned) (i : ℕ) (e : Assigned) (l : Literal) (n : ℕ) → es ≡ t.entries → i < length t.entries → e ≡ get_or es i e → ((d : Assigned) → (get_or t.entries i d).literal ≡ l)
    → IsExplained es (set es i (record e { reason = Some n })) l n
explained t es i e l n view below is stands =
    explained_at es i e l n (subst (λ xs. i < length xs) (sym view) below) is (ap (λ (x : Assigned). x.literal) is ∙ ap (λ xs. (get_or xs i e).literal) view ∙ stands e)

pub invariant_of-self : goal.invariant_of-self
invariant_of-self c =
    let p = c.place_of-place in
    let x = explained c.args.self.now c.self.inside.entries.items p.result c.index-entry.result.now c.args.literal c.args.number (ap (λ (t : TrailValue). t.entries) c.self.view_is) p.ensures.within c.index-entry.ensures p.ensures.literal in
    trail_alike c.self.inside.vars c.self.inside.entries.items _ c.self.inside.values.items c.self.inside.places.items c.self.inside.entries.cap (explained_alike c.self.inside.entries.items _ c.args.literal c.args.number x) c.self.invariant

pub returns-clause-entries : goal.returns-clause-entries
returns-clause-entries c =
    let p = c.place_of-place in
    let e = c.index-entry.result.now in
    let view = ap (λ (t : TrailValue). t.entries) c.self.view_is in
    subst (λ es. IsExplained es (set c.self.inside.entries.items p.result (record e { reason = Some c.args.number })) c.args.literal c.args.number) view
    (explained c.args.self.now c.self.inside.entries.items p.result e c.args.literal c.args.number view p.ensures.within c.index-entry.ensures p.ensures.literal)
