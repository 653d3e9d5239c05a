use Rattle.std.proofs.Common.{ℕ, ◌+◌, ◌<◌, ◌^◌, refl, arith, sym, ap, subst, ◌∙◌, List, ◌++◌, codes}
use Rattle.std.specs.List.{All}
use Rattle.leaves.specs.Notes.{missing_text}
use Rattle.log_join.specs.Written.{leaves_of}
use Rattle.leaves.proofs.JoinLemmas.{open_are_few}
use Rattle.leaves.proofs.join.Join.unknown.Goals as goal

pub returns : goal.returns
returns c = record {
  status = refl;
  text = λ few.
      let are = c.deref.ensures.value ∙ c.in_ok-places.ensures few in
      let small = subst (All (λ p. p + 1 < 2 ^ 64)) (sym are) (open_are_few 0 (leaves_of c.args.self.now.lines.joiner) (omega (arith, few))) in
      c.in_ok-answer_lines.ensures.ok
      ∙ ap (λ (x : List ℕ). x ++ codes "s UNKNOWN\n") (c.in_ok-put_missing.ensures small ∙ ap (λ (ps : List ℕ). c.args.notes.items ++ missing_text ps) are);
}
