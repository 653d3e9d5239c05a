use Rattle.std.proofs.Common.{◌∙◌, ◌++◌, ◌≤◌, ◌^◌, List, ℕ, sym, ap, subst}
use Rattle.std.proofs.lemmas.Result.{err_from_is_err_and}
use Rattle.log_join.proofs.EndLemmas.{whole_text, whole_top}
use Rattle.log_join.proofs.log_joiner.LogJoiner.forks.Goals as goal

pub returns-clause-proof : goal.returns-clause-proof
returns-clause-proof c = (
  c.in_ok-lines.lines.items,
  c.in_ok-extend_from_slice.ensures.items ∙ ap (λ (t : List ℕ). c.args.out.now.items ++ t) c.deref.ensures.value,
  λ F cubes logs written b. whole_text F cubes logs written c.in_ok-lines.lines.items c.args.self.now b c.in_ok-lines.ensures.closed c.in_ok-lines.ensures.text c.in_ok-lines.ensures.few,
)

pub returns-in_err-lines-clause-long : goal.returns-in_err-lines-clause-long
returns-in_err-lines-clause-long c =
    let p = err_from_is_err_and c.from_residual.result c.from_residual.ensures.1 in
    rw (p.1, p.2) (λ e F cubes logs written steps b made.
    subst (λ (n : ℕ). 2 ^ 48 ≤ n) (sym (whole_top F cubes logs written steps c.args.self.now b made)) (c.in_err-lines.ensures.long e))
