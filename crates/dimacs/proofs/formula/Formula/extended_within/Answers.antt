use Rattle.std.proofs.Common.{◌≡◌, ◌∙◌, ap, arith}
use Rattle.std.proofs.lemmas.Bool.{both_ways}
use Rattle.std.specs.Prelude.{Result, Ok, Err, OnErr, max}
use Rattle.dimacs.specs.logic.Extension.{extended}
use Rattle.dimacs.specs.logic.Cnf.{Cnf, FitsIn}
use Rattle.dimacs.proofs.ExtensionLemmas.{Lie, AreFew, above, IsExtended, is_extended, few_lie, fits_is_formula}
use Rattle.dimacs.proofs.formula.Formula.extended_within.Goals as goal
use Rattle.dimacs.proofs.formula.Formula.extended_within.Goals.{After-joined}

on_err : {T E P : Type 0} (r : Result T E) → P → OnErr r P
on_err (Ok v) h = tt
on_err (Err e) h = h

pub returns-then-not-are_few-clause-found : goal.returns-then-not-are_few-clause-found
returns-then-not-are_few-clause-found c =
    let lie : Lie c.args.self.now c.args.extension.now c.parts.result.0.now c.parts-2.result.0.now c.parts.result.1.now c.parts-2.result.1.now = record {
      fills = c.parts.ensures.fills;
      more_fills = c.parts-2.ensures.fills;
      clauses = c.parts.ensures.clauses ∙ ap (λ (w : Cnf). w.clauses) c.as_base.ensures;
      more_clauses = c.parts-2.ensures.clauses;
    } in
    above c.args.limits c.args.self.now c.args.extension.now c.parts.result.0.now c.parts-2.result.0.now c.parts.result.1.now c.parts-2.result.1.now lie
    (λ few.
    let vars = few.0 in
    let clauses = few.1 in
    let total = few.2 in
    both_ways c.are_few.result c.if-not-are_few.true
    (c.are_few.ensures.few.1 (omega (arith, c.max-vars.ensures, c.vars.ensures.value, c.vars-2.ensures.value), omega (arith, c.len.ensures, c.len-2.ensures.value), omega arith)))

-- the formula and the extension lie in their lists, and are few
lie : (c : After-joined) → Lie c.args.self.now c.args.extension.now c.parts.result.0.now c.parts-2.result.0.now c.parts.result.1.now c.parts-2.result.1.now
lie c = record {
  fills = c.parts.ensures.fills;
  more_fills = c.parts-2.ensures.fills;
  clauses = c.parts.ensures.clauses ∙ ap (λ (w : Cnf). w.clauses) c.as_base.ensures;
  more_clauses = c.parts-2.ensures.clauses;
}

few : (c : After-joined) → AreFew c.args.limits c.args.self.now c.args.extension.now c.parts.result.0.now c.parts-2.result.0.now
few c =
    let below = c.are_few.ensures.few.0 c.if-not-are_few.false in
    let vars = below.0 in
    let clauses = below.1 in
    let total = below.2 in
    (omega (arith, c.max-vars.ensures, c.vars.ensures.value, c.vars-2.ensures.value), omega (arith, c.len.ensures, c.len-2.ensures.value), omega arith)

-- what lies in the joined lists
lists : (c : goal.In_ok-literals) → IsExtended c.args.limits c.args.self.now c.args.extension.now c.max-vars.result c.in_ok-literals.literals.items c.in_ok-literals.places.items
lists c =
    let most : c.max-vars.result ≡ max c.args.self.now.vars c.args.extension.now.vars = omega (arith, c.max-vars.ensures, c.vars.ensures.value, c.vars-2.ensures.value) in
    is_extended c.args.limits c.args.self.now c.args.extension.now c.parts.result.0.now c.parts-2.result.0.now c.parts.result.1.now c.parts-2.result.1.now (lie c.before.before) (few c.before.before) c.are_few.ensures.valid c.vars.ensures.valid
    c.vars-2.ensures.within c.max-vars.result c.in_ok-literals.literals.items c.in_ok-literals.places.items most c.in_ok-literals.ensures.fills c.in_ok-literals.ensures.clauses

pub returns-in_err-literals-clause-limits : goal.returns-in_err-literals-clause-limits
returns-in_err-literals-clause-limits c =
    let at : After-joined = c.before.before.before in
    let fits : FitsIn c.args.limits (extended c.args.self.now c.args.extension.now) =
    few_lie c.args.limits c.args.self.now c.args.extension.now c.parts.result.0.now c.parts-2.result.0.now c.parts.result.1.now c.parts-2.result.1.now (lie at) (few at) in
    on_err c.from_residual.result fits

pub returns-in_err-from_parts-clause-limits : goal.returns-in_err-from_parts-clause-limits
returns-in_err-from_parts-clause-limits c = on_err c.from_residual-in_err-from_parts.result (lists c.before.before.before.before).fits

pub joined-requires-clause-room : goal.joined-requires-clause-room
joined-requires-clause-room c =
    let below = c.are_few.ensures.few.0 c.if-not-are_few.false in
    let total = below.2 in
    let most = c.are_few.ensures.valid.2 in
    omega arith

pub from_parts-requires-clause-limit : goal.from_parts-requires-clause-limit
from_parts-requires-clause-limit c = (lists c).limit

pub from_parts-requires-clause-within : goal.from_parts-requires-clause-within
from_parts-requires-clause-within c = (lists c).within

pub from_parts-requires-clause-count : goal.from_parts-requires-clause-count
from_parts-requires-clause-count c = omega (arith, (lists c).count, c.in_ok-literals.places.ok.0)

pub from_parts-requires-clause-total : goal.from_parts-requires-clause-total
from_parts-requires-clause-total c = omega (arith, (lists c).total, c.in_ok-literals.literals.ok.0)

pub returns-clause-found : goal.returns-clause-found
returns-clause-found c = (c.in_ok-from_parts.ensures ∙ (lists c.before.before.before).is, (lists c.before.before.before).fits)

pub returns-then-not-are_few-clause-formula : goal.returns-then-not-are_few-clause-formula
returns-then-not-are_few-clause-formula c = fits_is_formula c.args.limits c.args.self.now c.args.extension.now c.are_few.ensures.valid c.vars.ensures.valid c.vars-2.ensures.within

pub returns-in_err-literals-clause-formula : goal.returns-in_err-literals-clause-formula
returns-in_err-literals-clause-formula c = fits_is_formula c.args.limits c.args.self.now c.args.extension.now c.are_few.ensures.valid c.vars.ensures.valid c.vars-2.ensures.within

pub returns-in_err-from_parts-clause-formula : goal.returns-in_err-from_parts-clause-formula
returns-in_err-from_parts-clause-formula c = fits_is_formula c.args.limits c.args.self.now c.args.extension.now c.are_few.ensures.valid c.vars.ensures.valid c.vars-2.ensures.within

pub returns-clause-formula : goal.returns-clause-formula
returns-clause-formula c = fits_is_formula c.args.limits c.args.self.now c.args.extension.now c.are_few.ensures.valid c.vars.ensures.valid c.vars-2.ensures.within
