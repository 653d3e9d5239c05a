-- Lines that are appended keep the bytes before them.
use Rattle.std.proofs.Common.{◌≡◌, ℕ, List, [], ◌∷◌, ◌++◌, sym, ◌∙◌, ap, append_assoc, append-nil}
use Rattle.cube_solve.specs.declared.answer.Answer as cube
use Rattle.cube_solve.specs.declared.answer.Answer.TheVariants as answer
use Rattle.sessions.specs.Lines.{Line, Read}
use Rattle.incremental.specs.inner.LidrupLines.{AppendsLine, AppendsLines}
use Rattle.incremental.specs.inner.ReaderSteps.{WritesAnswer}

abbrev pub Grows : List ℕ → List ℕ → Type 0
Grows old new = (more : List ℕ) × (new ≡ old ++ more)

pub grows_on : (a b c : List ℕ) → Grows a b → Grows b c → Grows a c
grows_on a b c g h = (g.0 ++ h.0, h.1 ∙ ap (λ (t : List ℕ). t ++ h.0) g.1 ∙ append_assoc a g.0 h.0)

pub grows_put : {most : ℕ} {r : Read} (old new : List ℕ) → AppendsLine most r old new → Grows old new
grows_put old new p = (p.line ++ 10 ∷ [], p.text)

pub grows_all : (most : ℕ) (said : List Line) (old new : List ℕ) → AppendsLines most said old new → Grows old new
grows_all most [] old new e = ([], e ∙ sym (append-nil old))
grows_all most (line ∷ said) old new p = grows_on old p.0 new (grows_put old p.0 p.1) (grows_all most said p.0 new p.2)

pub grows_closed : (most : ℕ) (a : cube.Answer) (old new : List ℕ) → WritesAnswer most a old new → Grows old new
grows_closed most (answer.Satisfied values) old new p = grows_on old p.0 new (grows_put old p.0 p.1) (grows_put p.0 new p.2)
grows_closed most (answer.Failed failure) old new p = grows_on old p.0 new (grows_put old p.0 p.1) (grows_put p.0 new p.2)
grows_closed most answer.Unknown old new p = grows_put old new p
