use Rattle.std.proofs.Common.{◌≡◌, ℕ, ◌+◌, ◌*◌, ◌++◌, ◌∙◌, List, length, ap, sym, subst}
use Rattle.std.specs.List.{All}
use Rattle.std.proofs.lemmas.Result.{IfOk-weaker}
use Rattle.std.proofs.lemmas.Result.{err_from_is_err_and}
use Rattle.dimacs.specs.logic.Base.{pure_literals}
use Rattle.dimacs.specs.logic.Literal.{Literal, IsWithin}
use Rattle.lrat_text.specs.Runs.{text_of}
use Rattle.cube_split.specs.Definitions.{base_with}
use Rattle.cube_split.specs.declared.pair.Pair.{Pair}
use Rattle.proof_join.specs.Definitions.{all_steps, preamble_steps}
use Rattle.proof_join.specs.JoinedProof.{unit_steps}
use Rattle.proof_join.specs.inner.Steps.{Writes}
use Rattle.proof_join.proofs.AppendLemmas.{base_count, preamble_whole}
use Rattle.proof_join.proofs.SubtreeLemmas.{writes_more}
use Rattle.proof_join.proofs.WholeLemmas.{pure_small}
use Rattle.proof_join.proofs.preamble.put_preamble.Goals as goal

pub put_units-requires-clause-within : goal.put_units-requires-clause-within
put_units-requires-clause-within c =
    subst (λ (ls : List Literal). All (IsWithin 199999999) ls) (sym (c.units.ensures.value ∙ c.requires.units)) (pure_small c.args.formula.now c.vars-vars.ensures.valid.vars)

pub returns-in_err-top-clause-text : goal.returns-in_err-top-clause-text
returns-in_err-top-clause-text c =
    let m : ℕ = length c.args.formula.now.clauses in
    let pure : List Literal = pure_literals c.args.formula.now in
    let pairs : List Pair = c.args.preamble.now.pairs in
    let units : c.units.result.now ≡ pure = c.units.ensures.value ∙ c.requires.units in
    let out : List ℕ = c.args.out.now in
    let more : List ℕ = text_of (m + length pure) (all_steps (m + length pure) (c.args.formula.now.vars + 1) pairs) in
    let front : out ++ text_of c.len.result (unit_steps c.len.result c.units.result.now) ≡ out ++ text_of m (unit_steps m pure) =
    ap (λ (n : ℕ). out ++ text_of n (unit_steps n c.units.result.now)) c.len.ensures ∙ ap (λ (ls : List Literal). out ++ text_of m (unit_steps m ls)) units in
    let p = err_from_is_err_and c.from_residual.result c.from_residual.ensures.1 in
    rw (p.1, p.2) (writes_more ℕ ℕ c.in_err-top.field-0.0 c.put_units.new.out (out ++ text_of c.len.result (unit_steps c.len.result c.units.result.now)) more (out ++ text_of m (preamble_steps c.args.formula.now pairs))
    (ap (λ (o : List ℕ). o ++ more) front ∙ preamble_whole c.args.formula.now pairs out) c.in_err-top.ensures.text)

pub returns-clause-text : goal.returns-clause-text
returns-clause-text c =
    let m : ℕ = length c.args.formula.now.clauses in
    let pure : List Literal = pure_literals c.args.formula.now in
    let pairs : List Pair = c.args.preamble.now.pairs in
    let units : c.units.result.now ≡ pure = c.units.ensures.value ∙ c.requires.units in
    let out : List ℕ = c.args.out.now in
    let more : List ℕ = text_of (m + length pure) (all_steps (m + length pure) (c.args.formula.now.vars + 1) pairs) in
    let front : out ++ text_of c.len.result (unit_steps c.len.result c.units.result.now) ≡ out ++ text_of m (unit_steps m pure) =
    ap (λ (n : ℕ). out ++ text_of n (unit_steps n c.units.result.now)) c.len.ensures ∙ ap (λ (ls : List Literal). out ++ text_of m (unit_steps m ls)) units in
    let top : c.in_ok-top.top ≡ m + length pure = c.in_ok-top.ensures.top ∙ ap (λ (n : ℕ). n + length c.units.result.now) c.len.ensures ∙ ap (λ (ls : List Literal). m + length ls) units in
    let first : c.put_units.new.out ≡ out ++ text_of m (unit_steps m pure) = c.in_ok-top.ensures.text.0 ∙ front in
    subst (Writes c.put_definitions.result c.put_definitions.new.out)
    (ap (λ (o : List ℕ). o ++ text_of c.in_ok-top.top (all_steps c.in_ok-top.top (c.vars-vars.result + 1) c.pairs.result.now)) first
    ∙ ap (λ (n : ℕ). (out ++ text_of m (unit_steps m pure)) ++ text_of n (all_steps n (c.vars-vars.result + 1) c.pairs.result.now)) top
    ∙ ap (λ (n : ℕ). (out ++ text_of m (unit_steps m pure)) ++ text_of (m + length pure) (all_steps (m + length pure) (n + 1) c.pairs.result.now)) c.vars-vars.ensures.value
    ∙ ap (λ (ps : List Pair). (out ++ text_of m (unit_steps m pure)) ++ text_of (m + length pure) (all_steps (m + length pure) (c.args.formula.now.vars + 1) ps)) c.pairs.ensures.value
    ∙ preamble_whole c.args.formula.now pairs out)
    c.put_definitions.ensures.text

pub returns-clause-top : goal.returns-clause-top
returns-clause-top c =
    let m : ℕ = length c.args.formula.now.clauses in
    let pure : List Literal = pure_literals c.args.formula.now in
    let pairs : List Pair = c.args.preamble.now.pairs in
    let units : c.units.result.now ≡ pure = c.units.ensures.value ∙ c.requires.units in
    let out : List ℕ = c.args.out.now in
    let more : List ℕ = text_of (m + length pure) (all_steps (m + length pure) (c.args.formula.now.vars + 1) pairs) in
    let front : out ++ text_of c.len.result (unit_steps c.len.result c.units.result.now) ≡ out ++ text_of m (unit_steps m pure) =
    ap (λ (n : ℕ). out ++ text_of n (unit_steps n c.units.result.now)) c.len.ensures ∙ ap (λ (ls : List Literal). out ++ text_of m (unit_steps m ls)) units in
    let top : c.in_ok-top.top ≡ m + length pure = c.in_ok-top.ensures.top ∙ ap (λ (n : ℕ). n + length c.units.result.now) c.len.ensures ∙ ap (λ (ls : List Literal). m + length ls) units in
    IfOk-weaker c.put_definitions.result (λ n. n ≡ c.in_ok-top.top + 3 * length c.pairs.result.now) (λ n. n ≡ length (base_with c.args.formula.now pairs).clauses)
    (λ n e. e ∙ ap (λ (k : ℕ). k + 3 * length c.pairs.result.now) top ∙ ap (λ (ps : List Pair). m + length pure + 3 * length ps) c.pairs.ensures.value ∙ base_count c.args.formula.now pairs) c.put_definitions.ensures.top
