-- One hint of the walk in code.
use Rattle.std.proofs.Common.{◌≡◌, ℕ, ◌+◌, ◌<◌, List, [], ◌∷◌, ◌++◌, Some, None, refl, sym, ◌∙◌, ap, subst, drop, length, get_or, add-one, drop-cons, append_assoc}
use Rattle.dimacs.specs.logic.Literal.{Literal, Clause, index_of}
use Rattle.dimacs.specs.logic.Propagation.{Assumed, with_literal}
use Rattle.lrat_check.specs.StepFaults.{Status, Satisfied, Unit, status}
use Rattle.lrat_check.proofs.Places.{member_below}
use Rattle.lrat_check.proofs.Walks.{unit_member}
use Rattle.proof_lift.specs.HintWalk.{Gone, Kept, ClauseImages, Passed, WalkOutcome, Open, Closed, Wrong, along, walk_status, walk_hint, lift_walk}
use Rattle.proof_lift.specs.declared.walk.Link.{Link}
use Rattle.proof_lift.specs.inner.Walks.{ImagesFit, passed_at, passed_in, passed_by, from_there}

-- where the next hint leads
walk_here : (T : ClauseImages) (hints : List ℕ) (i : ℕ) (A : Assumed) → i < length hints
    → lift_walk T (drop i hints) A ≡ walk_hint A (λ B. lift_walk T (drop (i + 1) hints) B) (T (get_or hints i 0))
walk_here T hints i A below = rw (add-one, drop-cons hints i 0) refl

pub walk_none : (T : ClauseImages) (hints : List ℕ) (i : ℕ) (A : Assumed) → i < length hints → None ≡ T (get_or hints i 0) → lift_walk T (drop i hints) A ≡ Wrong 3
walk_none T hints i A below is = walk_here T hints i A below ∙ ap (walk_hint A (λ B. lift_walk T (drop (i + 1) hints) B)) (sym is)

pub walk_gone : (T : ClauseImages) (hints : List ℕ) (i : ℕ) (A : Assumed) → i < length hints → Some Gone ≡ T (get_or hints i 0)
    → lift_walk T (drop i hints) A ≡ lift_walk T (drop (i + 1) hints) A
walk_gone T hints i A below is = walk_here T hints i A below ∙ ap (walk_hint A (λ B. lift_walk T (drop (i + 1) hints) B)) (sym is)

pub walk_kept : (T : ClauseImages) (hints : List ℕ) (i k : ℕ) (D : Clause) (A : Assumed) (s : Status) → i < length hints → Some (Kept k D) ≡ T (get_or hints i 0) → s ≡ status A D
    → lift_walk T (drop i hints) A ≡ walk_status k D A (λ B. lift_walk T (drop (i + 1) hints) B) s
walk_kept T hints i k D A s below is e =
    walk_here T hints i A below ∙ ap (walk_hint A (λ B. lift_walk T (drop (i + 1) hints) B)) (sym is)
    ∙ ap (walk_status k D A (λ B. lift_walk T (drop (i + 1) hints) B)) (sym e)

pub walk_passed : (T : ClauseImages) (hints : List ℕ) (i k : ℕ) (D : Clause) (A : Assumed) → i < length hints → Some (Kept k D) ≡ T (get_or hints i 0) → Satisfied ≡ status A D
    → lift_walk T (drop i hints) A ≡ lift_walk T (drop (i + 1) hints) A
walk_passed T hints i k D A below is e = walk_kept T hints i k D A Satisfied below is e

pub walk_joined : (T : ClauseImages) (hints : List ℕ) (i k : ℕ) (D : Clause) (A : Assumed) (l : Literal) → i < length hints → Some (Kept k D) ≡ T (get_or hints i 0) → Unit l ≡ status A D
    → lift_walk T (drop i hints) A ≡ along (record { number = k; clause = D; unit = l }) (lift_walk T (drop (i + 1) hints) (with_literal A l))
walk_joined T hints i k D A l below is e = walk_kept T hints i k D A (Unit l) below is e

-- a hint that is put after the others
from_push : (front : List Passed) (p : Passed) (w : WalkOutcome) → from_there (front ++ p ∷ []) w ≡ from_there front (along p w)
from_push front p Open = refl
from_push front p (Closed ps last conflict) = ap (λ qs. Closed qs last conflict) (append_assoc front (p ∷ []) ps)
from_push front p (Wrong number) = refl

map_push : (T : ClauseImages) (chain : List Link) (link : Link) → passed_by T (chain ++ link ∷ []) ≡ passed_by T chain ++ passed_in T link ∷ []
map_push T [] link = refl
map_push T (x ∷ chain) link = ap (λ ps. passed_in T x ∷ ps) (map_push T chain link)

pub from_joined : (T : ClauseImages) (chain : List Link) (hint : ℕ) (l : Literal) (k : ℕ) (D : Clause) (w : WalkOutcome) → Some (Kept k D) ≡ T hint
    → from_there (passed_by T (chain ++ record { hint = hint; unit = l } ∷ [])) w ≡ from_there (passed_by T chain) (along (record { number = k; clause = D; unit = l }) w)
from_joined T chain hint l k D w is =
    ap (λ ps. from_there ps w) (map_push T chain (record { hint = hint; unit = l }) ∙ ap (λ o. passed_by T chain ++ passed_at l o ∷ []) (sym is))
    ∙ from_push (passed_by T chain) (record { number = k; clause = D; unit = l }) w

-- the place of the unit literal
pub in_table : (T : ClauseImages) (n k places marks : ℕ) (D : Clause) (A : Assumed) (l : Literal) → ImagesFit places T → Some (Kept k D) ≡ T n → Unit l ≡ status A D → marks ≡ places
    → index_of l < marks
in_table T n k places marks D A l fit is e same_places =
    subst (λ m. index_of l < m) (sym same_places) (member_below places D l (fit n k D (sym is)) (unit_member A D l e))
