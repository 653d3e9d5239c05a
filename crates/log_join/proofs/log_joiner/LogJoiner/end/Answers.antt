use Rattle.std.proofs.Common.{◌≡◌, ◌∙◌, ◌++◌, List, ℕ, max, refl, ap, arith}
use Rattle.lrat_text.specs.Runs.{text_of}
use Rattle.log_join.specs.JoinedLogs.{deletions}
use Rattle.log_join.proofs.SettlingLemmas.{log_ended}
use Rattle.log_join.proofs.log_joiner.LogJoiner.end.Goals as goal

max_one : (n : ℕ) → max n 1 ≡ max 1 n
max_one n = omega arith

pub returns-clause-ended : goal.returns-clause-ended
returns-clause-ended c = (
  c.in_ok-lines.lines.items,
  c.in_ok-extend_from_slice.ensures.items ∙ ap (λ (t : List ℕ). c.args.out.now.items ++ t) c.deref-2.ensures.value,
  λ F cubes logs h n written e none.
      let text : c.in_ok-lines.lines.items ≡ text_of (max 1 c.args.self.now.top) (deletions c.args.self.now.spent.items) =
      c.in_ok-lines.ensures ∙ ap (λ (k : ℕ). text_of k (deletions c.deref.result.now)) (c.max.ensures ∙ max_one c.args.self.now.top) ∙ ap (λ (ns : List ℕ). text_of (max 1 c.args.self.now.top) (deletions ns)) c.deref.ensures.value in
      log_ended F cubes logs h n written c.args.self.now _ c.in_ok-lines.lines.items e none refl refl refl refl refl c.clear.ensures.items text,
)
