-- The lines of a log, copied into a session's text.
use Rattle.std.proofs.Common.{◌≡◌, ℕ, ◌+◌, ◌<◌, ◌≤◌, ◌^◌, List, [], ◌∷◌, ◌++◌, length, map, Ok, codes, refl, sym, ◌∙◌, ap, subst, append_assoc, arith}
use Rattle.std.proofs.lemmas.List.{append-nil, length-append, map-append}
use Rattle.std.specs.List.{Contains}
use Rattle.dimacs.specs.logic.ClauseMap.{ClauseMap}
use Rattle.dimacs.specs.logic.Literal.{Clause}
use Rattle.dimacs.specs.logic.Rat.{Group}
use Rattle.lrat_text.specs.Lines.{IsCut, IsOpen}
use Rattle.lrat_text.specs.Log.{after_step, top_after}
use Rattle.lrat_text.specs.Parser.{step_within}
use Rattle.lrat_text.specs.Runs.{text_of, top_of}
use Rattle.lrat_text.specs.WrittenLine.{line_text}
use Rattle.lrat_text.specs.declared.step.Step.{Step}
use Rattle.lrat_text.specs.declared.step.Step.TheVariants.{Add, Delete}
use Rattle.lrat_text.proofs.CutLemmas.{cut_same, none_cut}
use Rattle.lrat_text.proofs.LineLemmas.{spells_step_more, step_more, written_one_line_within}
use Rattle.lrat_text.proofs.RunLemmas.{top_append}
use Rattle.lrat_text.proofs.SpellingLemmas.{found_spells_within, spelled_found_within}
use Rattle.cube_solve.specs.SessionLog.{AreRightSteps}
use Rattle.sessions.specs.Lines.{Line}
use Rattle.incremental.specs.inner.LidrupLines.{ArePlain, HasLine, HasPut, IsPlain, AppendsLine, AppendsLines, deleted_text, learnt_text, line_said}
use Rattle.incremental.proofs.LineLemmas.{deleted_bare, deleted_read, learnt_bare, learnt_read, step_read}

-- ---- one line
-- a line that is read within a limit is read the same within a greater one
pub read_more : (a b : ℕ) → a ≤ b → b < 2 ^ 48 → (line : List ℕ) (step : Step) → step_within a line ≡ Ok step → step_within b line ≡ Ok step
read_more a b le few line step h = spelled_found_within b line step few (spells_step_more a b le line step (found_spells_within a line step h))

pub puts_learnt : (most : ℕ) → most ≤ 199999999 → (line old new : List ℕ) (id : ℕ) (C : Clause) (hints : List ℕ) (groups : List Group) (step : Step) → IsOpen line → new ≡ old ++ (learnt_text line ++ 10 ∷ [])
    → step_within 199999999 line ≡ Ok (Add id C hints groups) → step_within most line ≡ Ok step → IsPlain step → AppendsLine most (Ok (line_said step)) old new
puts_learnt most le line old new id C hints groups step bare text found is =
    let wide : step_within 199999999 line ≡ Ok step = read_more most 199999999 le (omega arith) line step is in
    let same : Add id C hints groups ≡ step = cc in
    let read : step_within most line ≡ Ok (Add id C hints groups) = is ∙ ap Ok (sym same) in
    subst (λ (s : Step). IsPlain s → AppendsLine most (Ok (line_said s)) old new) same
    (λ plain. record { line = learnt_text line; bare = learnt_bare line bare; read = learnt_read most line id C hints (read ∙ ap (λ (gs : List Group). Ok (Add id C hints gs)) plain); text = text })

pub puts_deleted : (most : ℕ) → most ≤ 199999999 → (line old new : List ℕ) (ids : List ℕ) (step : Step) → new ≡ old ++ (deleted_text ids ++ 10 ∷ []) → step_within 199999999 line ≡ Ok (Delete ids) → step_within most line ≡ Ok step → AppendsLine most (Ok (line_said step)) old new
puts_deleted most le line old new ids step text found is =
    let few : most < 2 ^ 48 = omega arith in
    let wide : step_within 199999999 line ≡ Ok step = read_more most 199999999 le (omega arith) line step is in
    let same : Delete ids ≡ step = cc in
    let limits = (found_spells_within 199999999 line (Delete ids) found).limits in
    subst (λ (s : Step). AppendsLine most (Ok (line_said s)) old new) same (record { line = deleted_text ids; bare = deleted_bare most few ids limits; read = deleted_read most few ids limits; text = text })

-- the line of a step is read as it, and has no LF
line_read : (most : ℕ) → most < 2 ^ 48 → (top : ℕ) (s : Step) → HasLine most top s → step_within most (line_text top s) ≡ Ok s
line_read most few top (Add id lits hints groups) h = step_read most few id (Add id lits hints groups) h.0 h
line_read most few top (Delete ids) h = step_read most few top (Delete ids) h.0 h.1

line_bare : (most : ℕ) → most < 2 ^ 48 → (top : ℕ) (s : Step) → HasLine most top s → ¬ (Contains (line_text top s) 10)
line_bare most few top (Add id lits hints groups) h = written_one_line_within most few id (Add id lits hints groups) h.0 h
line_bare most few top (Delete ids) h = written_one_line_within most few top (Delete ids) h.0 h.1

pub plain_steps : (vars most : ℕ) → vars ≤ most → (given : List ℕ) (M : ClauseMap) (top : ℕ) (steps : List Step) → AreRightSteps vars given M top steps → ArePlain most top steps
plain_steps vars most le given M top [] h = tt
plain_steps vars most le given M top (Add id lits hints groups ∷ steps) h =
    let r = h.1 in
    (step_more vars most le (Add id lits hints groups) h.0, r.1, plain_steps vars most le given (after_step M (Add id lits hints groups)) id steps h.2)
plain_steps vars most le given M top (Delete ids ∷ steps) h = let r = h.1 in ((r.0, h.0), tt, plain_steps vars most le given (after_step M (Delete ids)) top steps h.2)

-- ---- many
puts_append : (most : ℕ) (xs ys : List Line) (a b c : List ℕ) → AppendsLines most xs a b → AppendsLines most ys b c → AppendsLines most (xs ++ ys) a c
puts_append most [] ys a b c e h = subst (λ (x : List ℕ). AppendsLines most ys x c) e h
puts_append most (x ∷ xs) ys a b c h g = (h.0, h.1, puts_append most xs ys h.0 b c h.2 g)

pub has_begun : (most top : ℕ) (steps : List Step) (out log : List ℕ) → log ≡ text_of top steps → ArePlain most top steps → HasPut most top steps out out log
has_begun most top steps out log e plain = record { done = []; rest = steps; splits = refl; puts = refl; left_is = e; plain = plain }

module _ (most : ℕ) (few : most < 2 ^ 48) (top : ℕ) (steps : List Step) (old now : List ℕ) where
  -- the next line is that of the next step
  pub has_more : (lines line left new : List ℕ) → IsCut lines line left → ((step : Step) → step_within most line ≡ Ok step → IsPlain step → AppendsLine most (Ok (line_said step)) now new)
      → HasPut most top steps old now lines → HasPut most top steps old new left
  has_more lines line left new cut put h = at h.rest refl
    where
      at : (rest : List Step) → h.rest ≡ rest → HasPut most top steps old new left
      at [] e = absurd (let z : lines ≡ [] = h.left_is ∙ ap (text_of (top_of top h.done)) e in let l : length lines ≡ 0 = ap length z in let k : length lines ≡ length line + length (10 ∷ left) = ap length cut.0 ∙ length-append line (10 ∷ left) in omega arith)
      at (step ∷ rest) e =
          let t = top_of top h.done in
          let plain : ArePlain most t (step ∷ rest) = subst (ArePlain most t) e h.plain in
          let more = text_of (top_after t step) rest in
          let is : line ++ 10 ∷ left ≡ line_text t step ++ 10 ∷ more = sym cut.0 ∙ h.left_is ∙ ap (text_of t) e ∙ append_assoc (line_text t step) (codes "\n") more in
          let same = cut_same line (line_text t step) left more cut.1 (line_bare most few t step plain.0) is in
          let read : step_within most line ≡ Ok step = ap (step_within most) same.0 ∙ line_read most few t step plain.0 in
          let top_is : top_of top (h.done ++ step ∷ []) ≡ top_after t step = top_append top h.done (step ∷ []) in
          record {
            done = h.done ++ step ∷ [];
            rest = rest;
            splits = h.splits ∙ ap (λ (xs : List Step). h.done ++ xs) e ∙ sym (append_assoc h.done (step ∷ []) rest);
            puts = subst (λ (xs : List Line). AppendsLines most xs old new) (sym (map-append line_said h.done (step ∷ [])))
                (puts_append most (map line_said h.done) (line_said step ∷ []) old now new h.puts (new, put step read plain.1, refl));
            left_is = same.1 ∙ ap (λ n. text_of n rest) (sym top_is);
            plain = subst (λ n. ArePlain most n rest) (sym top_is) plain.2;
          }

  -- if no line is left, all were put
  pub has_ended : (lines : List ℕ) → IsOpen lines → HasPut most top steps old now lines → AppendsLines most (map line_said steps) old now
  has_ended lines bare h = at h.rest refl
    where
      at : (rest : List Step) → h.rest ≡ rest → AppendsLines most (map line_said steps) old now
      at [] e = subst (λ (xs : List Step). AppendsLines most (map line_said xs) old now) (sym (h.splits ∙ ap (λ (xs : List Step). h.done ++ xs) e ∙ append-nil h.done)) h.puts
      at (step ∷ rest) e =
          let t = top_of top h.done in
          absurd (none_cut lines (line_text t step) (text_of (top_after t step) rest) bare (h.left_is ∙ ap (text_of t) e ∙ append_assoc (line_text t step) (codes "\n") (text_of (top_after t step) rest)))
