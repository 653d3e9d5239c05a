-- What a report says of its formula is true.
use Rattle.std.proofs.Common.{◌≡◌, ◌⊎◌, ℕ, ◌<◌, arith, List, Option, Some, None, Result, Ok, Err, IfOk, inl, inr, sym, ◌∙◌}
use Rattle.std.specs.Prelude.{IsSome, IfSome}
use Rattle.dimacs.specs.logic.Cnf.{Cnf, assignment_of}
use Rattle.dimacs.specs.logic.Limits.{Limits}
use Rattle.dimacs.specs.text.Grammar.{SpellsWithin}
use Rattle.lrat_text.specs.Proof.{Accepts}
use Rattle.lrat_check.specs.Soundness.{Soundness, IsUnsatisfiable}
use Rattle.proof_check.specs.inner.Checks.{IsTextReport}
use Rattle.node_main.specs.Decisions.{Decides}
use Rattle.node_main.specs.SolveReports.{Answers, IsRefused, Solves, Works}
use Rattle.proof_check.specs.Truth.{SpellsUnsatisfiable, IsTrueReport}
use Rattle.command_line.specs.declared.options.Options.{Options}
use Rattle.node_main.specs.declared.formula_split.Split.{Split}
use Rattle.node_main.specs.declared.formula_split.Split.TheVariants.{By, Faulty, OtherFormula}
use Rattle.reports.specs.declared.report.Report.{Report}

-- an accepted proof is there
refuted : Soundness → (F : Cnf) (proof : Option (List ℕ)) → IsSome proof → IfSome proof (Accepts F) → IsUnsatisfiable F
refuted sound F (Some bytes) there accepted = sound F bytes accepted
refuted sound F None there accepted = cc

apart : {m n : ℕ} → m ≡ n → m < n ⊎ n < m → ⊥
apart e (inl l) = omega (arith, e, l)
apart e (inr l) = omega (arith, e, l)

-- a report of another status says nothing
other_true : (L : Limits) (input : List ℕ) (r : Report) (status : ℕ) → r.status ≡ status → status < 10 → IsTrueReport L input r
other_true L input r status is low =
    record { satisfiable = λ e. absurd (apart (sym is ∙ e) (inl (omega (arith, low)))); unsatisfiable = λ e. absurd (apart (sym is ∙ e) (inl (omega (arith, low)))) }

refused_true : (L : Limits) (input line : List ℕ) (o : Options) (r : Report) → IsRefused line o r → IsTrueReport L input r
refused_true L input line o r is = other_true L input r 1 is.status (omega arith)

pub decides_true : Soundness → (L : Limits) (input : List ℕ) (F : Cnf) → SpellsWithin L input F → (o : Options) (r : Report) → Decides F o r → IsTrueReport L input r
decides_true sound L input F spells o r (inl is) =
    record { satisfiable = λ e. (F, spells, assignment_of is.values, is.satisfies); unsatisfiable = λ e. absurd (apart (sym is.status ∙ e) (inl (omega arith))) }
decides_true sound L input F spells o r (inr (inl is)) =
    record { satisfiable = λ e. absurd (apart (sym is.status ∙ e) (inr (omega arith))); unsatisfiable = λ e. (F, spells, refuted sound F r.proof is.there is.accepted) }
decides_true sound L input F spells o r (inr (inr is)) = other_true L input r 0 is.status (omega arith)

answers_true : Soundness → (L : Limits) (input : List ℕ) (F : Cnf) → SpellsWithin L input F → (o : Options) (r : Report) (split : Split) → Answers F o r split → IsTrueReport L input r
answers_true sound L input F spells o r (By leaves) is = decides_true sound L input F spells o r is
answers_true sound L input F spells o r (Faulty fault) is = refused_true L input _ o r is
answers_true sound L input F spells o r OtherFormula is = refused_true L input _ o r is

-- what is reported of an input is true
pub solves_true : {E : Type 0} → Soundness → (L : Limits) (input : List ℕ) (cubes : Option (List ℕ)) (o : Options) (r : Result Report E)
    → IfOk r (Solves L input cubes o) → IfOk r (IsTrueReport L input)
solves_true sound L input cubes o (Ok r) (inl (F, spells, split, splits, is)) = answers_true sound L input F spells o r split is
solves_true sound L input cubes o (Ok r) (inr (f, parsed, is)) = refused_true L input _ o r is
solves_true sound L input cubes o (Err fault) is = tt

pub works_true : {E : Type 0} → Soundness → (L : Limits) (input : List ℕ) (o : Options) (r : Result Report E) → IfOk r (Works L input o) → IfOk r (IsTrueReport L input)
works_true sound L input o (Ok r) (inl (F, spells, is)) = decides_true sound L input F spells o r is
works_true sound L input o (Ok r) (inr (f, parsed, is)) = refused_true L input _ o r is
works_true sound L input o (Err fault) is = tt
