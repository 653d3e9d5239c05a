use Rattle.std.proofs.Common.{◌≡◌, ℕ, ◌^◌, ◌≤◌, ◌++◌, ◌∙◌, List, length, arith, ap, sym, subst}
use Rattle.std.proofs.lemmas.Result.{err_from_is_err_and}
use Rattle.lrat_text.specs.Runs.{text_of}
use Rattle.proof_join.specs.Fronts.{Front, Standing, appended, settled}
use Rattle.proof_join.specs.JoinedProof.{leaf_part}
use Rattle.proof_join.specs.Fronts.{branches}
use Rattle.proof_join.specs.Steps.{steps_in}
use Rattle.proof_join.specs.inner.Steps.{IsFragment}
use Rattle.proof_join.specs.declared.subtree.Subtree.{Subtree}
use Rattle.proof_join.proofs.FrontLemmas.{appended_more, goes_long, leaf_step, made_appended}
use Rattle.proof_join.proofs.WholeLemmas.{closes_fragment, closes_some, too_long}
use Rattle.proof_join.proofs.joiner.Joiner.advance.Goals as goal

pub put_leaf-requires-clause-fragment : goal.put_leaf-requires-clause-fragment
put_leaf-requires-clause-fragment c =
    let r = c.requires.closes in
    subst (λ (b : ℕ). IsFragment b c.args.fragment.now) (r.2 ∙ ap (λ (f : Front). f.base) (sym c.self.view_is)) (closes_fragment r.0 c.args.cube.now c.args.fragment.now r.1 r.3)

pub put_leaf-requires-clause-begun : goal.put_leaf-requires-clause-begun
put_leaf-requires-clause-begun c =
    let r = c.requires.closes in
    let same : length r.0.clauses ≡ c.self.inside.base = r.2 ∙ ap (λ (f : Front). f.base) (sym c.self.view_is) in
    let some = closes_some r.0 c.args.cube.now c.args.fragment.now r.3 in
    let few = c.self.invariant.few in
    let text = ap length c.behind.ensures in
    (omega arith, c.self.invariant.up, omega arith)

pub returns-in_err-subtree-clause-long : goal.returns-in_err-subtree-clause-long
returns-in_err-subtree-clause-long c =
    let p = err_from_is_err_and c.from_residual.result c.from_residual.ensures.1 in
    rw (p.1, p.2) (λ is.
    let f : Front = record { base = c.self.inside.base; count = c.self.inside.count; standing = record { text = c.self.inside.text; top = c.self.inside.top; finished = branches c.self.inside.finished.items } } in
    let more : List ℕ = text_of c.self.inside.top (leaf_part c.self.inside.base c.self.inside.top (steps_in c.args.fragment.now)).steps in
    let long = too_long Subtree c.in_err-subtree.field-0.0 c.put_leaf.new.writer.out (c.behind.result ++ more) is c.in_err-subtree.ensures.text in
    let text = ap (λ (o : List ℕ). length (o ++ more)) c.behind.ensures in
    subst (λ (g : Front). 2 ^ 32 ≤ length (appended g c.args.cube.now (steps_in c.args.fragment.now)).standing.text) c.self.view_is
    (goes_long (c.self.inside.text ++ more) (appended f c.args.cube.now (steps_in c.args.fragment.now)).standing.text (2 ^ 32) (appended_more f c.args.cube.now (steps_in c.args.fragment.now)) (omega arith)))

pub returns-in_err-settle-clause-long : goal.returns-in_err-settle-clause-long
returns-in_err-settle-clause-long c =
    let p = err_from_is_err_and c.from_residual-in_err-settle.result c.from_residual-in_err-settle.ensures.1 in
    rw (p.1, p.2) (λ is.
    let f : Front = record { base = c.self.inside.base; count = c.self.inside.count; standing = record { text = c.self.inside.text; top = c.self.inside.top; finished = branches c.self.inside.finished.items } } in
    let more : List ℕ = text_of c.self.inside.top (leaf_part c.self.inside.base c.self.inside.top (steps_in c.args.fragment.now)).steps in
    let whole : Standing = settled c.args.cube.now (length c.args.cube.now) c.put_leaf.new.writer.out c.put_leaf.new.writer.top c.in_ok-subtree.subtree.id c.in_ok-subtree.subtree.clause.items (branches c.self.inside.finished.items) in
    let step : whole ≡ (appended f c.args.cube.now (steps_in c.args.fragment.now)).standing = leaf_step f c.args.cube.now (steps_in c.args.fragment.now) c.put_leaf.new.writer.out c.put_leaf.new.writer.top c.in_ok-subtree.subtree.id c.in_ok-subtree.subtree.clause.items
    (c.in_ok-subtree.ensures.text.0 ∙ ap (λ (o : List ℕ). o ++ more) c.behind.ensures) c.in_ok-subtree.ensures.top c.in_ok-subtree.ensures.subtree.0 c.in_ok-subtree.ensures.subtree.1 in
    subst (λ (g : Front). 2 ^ 32 ≤ length (appended g c.args.cube.now (steps_in c.args.fragment.now)).standing.text) c.self.view_is
    (subst (λ (s : Standing). 2 ^ 32 ≤ length s.text) step (too_long (Unit {0}) c.in_err-settle.field-0.0 c.settle.new.growing.writer.out whole.text is c.in_err-settle.ensures.text)))

pub returns-clause-appended : goal.returns-clause-appended
returns-clause-appended c =
    let f : Front = record { base = c.self.inside.base; count = c.self.inside.count; standing = record { text = c.self.inside.text; top = c.self.inside.top; finished = branches c.self.inside.finished.items } } in
    let more : List ℕ = text_of c.self.inside.top (leaf_part c.self.inside.base c.self.inside.top (steps_in c.args.fragment.now)).steps in
    let whole : Standing = settled c.args.cube.now (length c.args.cube.now) c.put_leaf.new.writer.out c.put_leaf.new.writer.top c.in_ok-subtree.subtree.id c.in_ok-subtree.subtree.clause.items (branches c.self.inside.finished.items) in
    let step : whole ≡ (appended f c.args.cube.now (steps_in c.args.fragment.now)).standing = leaf_step f c.args.cube.now (steps_in c.args.fragment.now) c.put_leaf.new.writer.out c.put_leaf.new.writer.top c.in_ok-subtree.subtree.id c.in_ok-subtree.subtree.clause.items
    (c.in_ok-subtree.ensures.text.0 ∙ ap (λ (o : List ℕ). o ++ more) c.behind.ensures) c.in_ok-subtree.ensures.top c.in_ok-subtree.ensures.subtree.0 c.in_ok-subtree.ensures.subtree.1 in
    made_appended f c.args.cube.now (steps_in c.args.fragment.now) c.settle.new.growing.writer.out c.into_text.result c.settle.new.growing.writer.top (branches c.settle.new.growing.finished.items) c.into_text.ensures (c.in_ok-settle.ensures.standing ∙ step)
    ∙ ap (λ (g : Front). appended g c.args.cube.now (steps_in c.args.fragment.now)) c.self.view_is
