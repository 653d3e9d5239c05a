use Rattle.std.proofs.Common.{◌++◌, ◌==◌, ◌≡◌, ◌<◌, [], List, ℕ, Err, drop, false, length, refl, sym, subst, ap, ◌∙◌, arith}
use Rattle.std.proofs.lemmas.Bool.{eqb-true}
use Rattle.std.proofs.lemmas.Bool.Decides.{nat_tests}
use Rattle.std.proofs.lemmas.Result.{err_from_is_err_and}
use Rattle.std.proofs.lemmas.List.Elements.{All-append, All-drop, All-take}
use Rattle.dimacs.specs.inner.Pieces.{IsOpen}
use Rattle.dimacs.specs.text.Rows.{Fails}
use Rattle.dimacs.specs.text.Words.{words}
use Rattle.answers.specs.Pieces.{naming_of}
use Rattle.answers.specs.Parse.{no_memory, read_tokens}
use Rattle.answers.specs.inner.Lines.{TakesValues}
use Rattle.answers.proofs.LineLemmas.{at_err, values_go_on, values_refused_first, values_refused_later, values_taken}
use Rattle.answers.proofs.open_line.take_values.Goals as goal

pub returns-in_err-read-clause-read : goal.returns-in_err-read-clause-read
returns-in_err-read-clause-read c =
    let p = err_from_is_err_and c.from_residual-in_err-read.result c.from_residual-in_err-read.ensures.1 in
    let token_is = c.deref.ensures.value ∙ c.in_ok-extend_from_slice.ensures.items in
    let inside : c.first_white.result < length c.args.text.now = grind (arith, nat_tests) in
    let fails = subst (λ (t : List ℕ). Fails no_memory c.in_err-read.field-0.0 (read_tokens c.args.number (words t) (naming_of c.args.values.now))) token_is c.in_err-read.ensures in
    at_err c.from_residual-in_err-read.result _ _ c.in_err-read.field-0.0 (p.1 ∙ ap Err p.2)
    (values_refused_first c.args.number c.args.values.now c.args.token.now.items c.args.text.now c.split_at.result.0.now c.split_at.result.1.now [] c.first_white.result 0
    inside (c.first_white.ensures.white inside) c.split_at.ensures.front c.split_at.ensures.back (omega arith) (λ h. absurd (omega arith)) refl c.in_err-read.field-0.0 fails)

pub returns-in_err-read-2-clause-read : goal.returns-in_err-read-2-clause-read
returns-in_err-read-2-clause-read c =
    let p = err_from_is_err_and c.from_residual-in_err-read-2.result c.from_residual-in_err-read-2.ensures.1 in
    let token_is = c.deref.ensures.value ∙ c.in_ok-extend_from_slice.ensures.items in
    let inside : c.first_white.result < length c.args.text.now = grind (arith, nat_tests) in
    let first = ap (λ (t : List ℕ). read_tokens c.args.number (words t) (naming_of c.args.values.now)) (sym token_is) ∙ c.in_ok-read.ensures in
    at_err c.from_residual-in_err-read-2.result _ _ c.in_err-read-2.field-0.0 (p.1 ∙ ap Err p.2)
    (values_refused_later c.args.number c.args.values.now c.args.token.now.items c.args.text.now c.split_at.result.0.now c.split_at.result.1.now c.split_at-2.result.0.now c.first_white.result c.last_white.result
    inside (c.first_white.ensures.white inside) c.split_at.ensures.front c.split_at.ensures.back c.last_white.ensures.bound c.last_white.ensures.white c.split_at-2.ensures.front
    c.read.new.self first c.in_err-read-2.field-0.0 c.in_err-read-2.ensures)

pub returns-clause-read : goal.returns-clause-read
returns-clause-read c =
    let token_is = c.deref.ensures.value ∙ c.in_ok-extend_from_slice.ensures.items in
    let inside : c.first_white.result < length c.args.text.now = grind (arith, nat_tests) in
    let first = ap (λ (t : List ℕ). read_tokens c.args.number (words t) (naming_of c.args.values.now)) (sym token_is) ∙ c.in_ok-read.ensures in
    let kept = c.in_ok-extend_from_slice-2.ensures.items ∙ ap (λ (t : List ℕ). t ++ c.split_at-2.result.1.now) c.clear.ensures.items ∙ c.split_at-2.ensures.back in
    subst (TakesValues c.args.number c.args.values.now (c.args.token.now.items ++ c.args.text.now) c.read-2.new.self) (sym kept)
    (values_taken c.args.number c.args.values.now c.args.token.now.items c.args.text.now c.split_at.result.0.now c.split_at.result.1.now c.split_at-2.result.0.now c.first_white.result c.last_white.result
    inside (c.first_white.ensures.white inside) c.split_at.ensures.front c.split_at.ensures.back c.last_white.ensures.bound c.last_white.ensures.white c.split_at-2.ensures.front
    c.read.new.self first c.read-2.new.self c.in_ok-read-2.ensures)

pub returns-then-is_empty-clause-read : goal.returns-then-is_empty-clause-read
returns-then-is_empty-clause-read c =
    subst (TakesValues c.args.number c.args.values.now (c.args.token.now.items ++ c.args.text.now) c.args.values.now) (sym c.in_ok-extend_from_slice.ensures.items)
    (values_go_on c.args.number c.args.values.now c.args.token.now.items c.args.text.now c.split_at.result.0.now c.first_white.result c.first_white.ensures.bound c.split_at.ensures.front (ap length (sym c.split_at.ensures.back) ∙ eqb-true _ _ (sym c.is_empty.ensures ∙ c.if-is_empty.true)))

pub returns-then-is_empty-clause-open : goal.returns-then-is_empty-clause-open
returns-then-is_empty-clause-open c = λ token text.
    subst IsOpen (sym (c.in_ok-extend_from_slice.ensures.items ∙ ap (λ (t : List ℕ). c.args.token.now.items ++ t) c.split_at.ensures.front))
    (All-append (λ b. (b == 10) ≡ false) _ _ token (All-take (λ b. (b == 10) ≡ false) _ _ text))

pub returns-clause-open : goal.returns-clause-open
returns-clause-open c = λ token text.
    let kept = c.in_ok-extend_from_slice-2.ensures.items ∙ ap (λ (t : List ℕ). t ++ c.split_at-2.result.1.now) c.clear.ensures.items ∙ c.split_at-2.ensures.back ∙ ap (drop c.last_white.result) c.split_at.ensures.back in
    subst IsOpen (sym kept) (All-drop (λ b. (b == 10) ≡ false) c.last_white.result (drop c.first_white.result c.args.text.now) (All-drop (λ b. (b == 10) ≡ false) c.first_white.result c.args.text.now text))
