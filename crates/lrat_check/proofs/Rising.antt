-- Strictly increasing candidates are named once.
use Rattle.std.proofs.Common.{◌≡◌, ℕ, ◌<◌, ◌≤◌, Bool, true, false, ◌||◌, List, [], ◌∷◌, Result, Ok, cond, refl, sym, ◌∙◌, ap, eqb, arith}
use Rattle.std.specs.Bool.{OnTrue, OnFalse}
use Rattle.std.proofs.lemmas.Bool.{ne_eqb}
use Rattle.dimacs.specs.logic.Rat.{Group}
use Rattle.lrat_check.specs.StepFaults.{is_named}
use Rattle.lrat_check.specs.inner.CandidateOrder.{IsRising}
use Rattle.lrat_check.proofs.Named.{named_more}

-- no number is above n
abbrev pub AllUpTo : ℕ → List ℕ → Type 0
AllUpTo n [] = Unit {0}
AllUpTo n (x ∷ ids) = (x ≤ n) × AllUpTo n ids

up_to_more : (n m : ℕ) (ids : List ℕ) → n ≤ m → AllUpTo n ids → AllUpTo m ids
up_to_more n m [] le h = tt
up_to_more n m (x ∷ ids) le h = (omega (arith, h.0), up_to_more n m ids le h.1)

-- the candidates of these groups rise from above those that were named
pub record GoOn (ids : List ℕ) (groups : List Group) : Type 0 where
  pub last : ℕ
  pub named : AllUpTo last ids
  pub rise : IsRising last groups

pub go_on-none : (groups : List Group) → IsRising 0 groups → GoOn [] groups
go_on-none groups rise = record { last = 0; named = tt; rise = rise }

pub go_on-more : (ids : List ℕ) (g : Group) (groups : List Group) → GoOn ids (g ∷ groups) → GoOn (g.0 ∷ ids) groups
go_on-more ids g groups h = record { last = g.0; named = (omega arith, up_to_more h.last g.0 ids (omega (arith, h.rise.0)) h.named); rise = h.rise.1 }

not_up_to : (n id : ℕ) (ids : List ℕ) → n < id → AllUpTo n ids → is_named ids id ≡ false
not_up_to n id [] lt h = refl
not_up_to n id (x ∷ ids) lt h = ap (λ b. b || is_named ids id) (ne_eqb id x (λ e. absurd (omega (arith, h.0, lt, e)))) ∙ not_up_to n id ids lt h.1

-- the next candidate was not named
pub go_on-new : (ids : List ℕ) (g : Group) (groups : List Group) → GoOn ids (g ∷ groups) → is_named ids g.0 ≡ false
go_on-new ids g groups h = not_up_to h.last g.0 ids h.rise.0 h.named

same_answer : {A E : Type 0} (x y : A) → ◌≡◌ {A = Result A E} (Ok x) (Ok y) → x ≡ y
same_answer x y e = cc

module _ (rising : Bool) (set : ℕ → Bool) (ids : List ℕ) (g : Group) (groups : List Group) where
  -- what was answered says whether the candidate was named
  pub before_is : (E : Type 0) (before : Bool) → OnTrue rising (GoOn ids (g ∷ groups)) → OnFalse rising ((q : ℕ) → set q ≡ is_named ids q)
      → OnTrue rising (◌≡◌ {A = Result Bool E} (Ok before) (Ok false)) → OnFalse rising (before ≡ set g.0) → before ≡ is_named ids g.0
  before_is E before = at rising
    where
      at : (b : Bool) → OnTrue b (GoOn ids (g ∷ groups)) → OnFalse b ((q : ℕ) → set q ≡ is_named ids q)
          → OnTrue b (◌≡◌ {A = Result Bool E} (Ok before) (Ok false)) → OnFalse b (before ≡ set g.0) → before ≡ is_named ids g.0
      at true rise is none found = same_answer before false none ∙ sym (go_on-new ids g groups rise)
      at false rise is none found = found ∙ is g.0

  pub rise_on : OnTrue rising (GoOn ids (g ∷ groups)) → OnTrue rising (GoOn (g.0 ∷ ids) groups)
  rise_on = at rising
    where
      at : (b : Bool) → OnTrue b (GoOn ids (g ∷ groups)) → OnTrue b (GoOn (g.0 ∷ ids) groups)
      at true rise = go_on-more ids g groups rise
      at false rise = tt

  pub named_on : (set' : ℕ → Bool) → OnFalse rising ((q : ℕ) → set q ≡ is_named ids q) → OnFalse rising ((q : ℕ) → set' q ≡ cond (eqb g.0 q) true (set q))
      → OnFalse rising ((q : ℕ) → set' q ≡ is_named (g.0 ∷ ids) q)
  named_on set' = at rising
    where
      at : (b : Bool) → OnFalse b ((q : ℕ) → set q ≡ is_named ids q) → OnFalse b ((q : ℕ) → set' q ≡ cond (eqb g.0 q) true (set q)) → OnFalse b ((q : ℕ) → set' q ≡ is_named (g.0 ∷ ids) q)
      at true is says = tt
      at false is says = named_more set set' ids g.0 is says
