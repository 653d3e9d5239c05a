use Rattle.std.proofs.Common.{List, ℕ, ◌≤◌, [], ◌∷◌, ◌++◌, codes, decimal, length, sym, ◌∙◌, ap, subst, arith}
use Rattle.std.proofs.lemmas.Result.{on_ok_weaker}
use Rattle.lrat_text.specs.WrittenLine.{line_of}
use Rattle.lrat_text.specs.declared.step.Step.TheVariants.{Add}
use Rattle.cell_worker.specs.inner.SharedLines.{clause_text}
use Rattle.cell_worker.proofs.SpellingLemmas.{behind, first_bytes}
use Rattle.cell_worker.proofs.shared_text.put_import.Goals as goal

pub put_behind_first-requires : goal.put_behind_first-requires
put_behind_first-requires c =
    let hints = c.args.log ∷ c.args.there ∷ [] in
    let lits = c.args.lits.now in
    let line = c.deref.ensures.value ∙ c.in_ok-put_lemma.ensures ∙ ap (λ (t : List ℕ). t ++ line_of 1 (Add 1 lits hints [])) c.clear.ensures.items ∙ first_bytes lits hints in
    subst (λ (t : List ℕ). 1 ≤ length t) (sym line) (omega arith)

pub returns : goal.returns
returns c =
    let out = c.args.out.now.items in
    let hints = c.args.log ∷ c.args.there ∷ [] in
    let lits = c.args.lits.now in
    let more = clause_text lits hints ++ 10 ∷ [] in
    let line = c.deref.ensures.value ∙ c.in_ok-put_lemma.ensures ∙ ap (λ (t : List ℕ). t ++ line_of 1 (Add 1 lits hints [])) c.clear.ensures.items ∙ first_bytes lits hints in
    let front = c.in_ok-extend_from_slice.ensures.items ∙ ap (λ (t : List ℕ). t ++ codes " i") c.in_ok-put_number.ensures in
    on_ok_weaker c.put_behind_first.result
    (λ f. f 49 more line ∙ ap (λ (t : List ℕ). t ++ more) front ∙ behind out (decimal c.args.id) (codes " i") (clause_text lits hints) (10 ∷ [])) c.put_behind_first.ensures
