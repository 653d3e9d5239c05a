-- Tests of models.
use Rattle.std.proofs.Common.{◌≡◌, Bool, false, not, ◌&&◌, List, sym, ◌∙◌, ap}
use Rattle.std.specs.FinMap.{get}
use Rattle.std.specs.List.{list_all}
use Rattle.dimacs.specs.logic.Literal.{Literal, has}
use Rattle.dimacs.specs.logic.Propagation.{Assumed}
use Rattle.lrat_check.specs.StepFaults.{is_tautology}
use Rattle.sessions.specs.Texts.{State, is_met, is_model}

pub model_is : (s : State) (model : List Literal) (pair met all : Bool) (held : Assumed) → pair ≡ is_tautology model → pair ≡ false → held ≡ has model
    → met ≡ list_all (λ id. is_met held (get s.live id)) s.given → all ≡ list_all held s.query → (met && all) ≡ is_model s model
model_is s model pair met all held is none same are within =
    ap (λ b. b && all) are
    ∙ ap (λ b. list_all (λ id. is_met held (get s.live id)) s.given && b) within
    ∙ ap (λ (α : Assumed). list_all (λ id. is_met α (get s.live id)) s.given && list_all α s.query) same
    ∙ ap (λ b. not b && (list_all (λ id. is_met (has model) (get s.live id)) s.given && list_all (has model) s.query)) (sym none ∙ is)
