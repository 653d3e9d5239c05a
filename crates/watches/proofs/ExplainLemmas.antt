-- A trail after the reason of an entry changed.
use Rattle.std.proofs.Common.{◌≡◌, ℕ, ◌+◌, ◌<◌, cond, eqb, List, ◌∷◌, ◌++◌, length, get_or, set, take, drop, Some, ap, sym, ◌∙◌, subst, arith}
use Rattle.std.specs.List.{IsDistinct}
use Rattle.std.proofs.lemmas.List.{take-append-drop, take-set, drop-set-lt, drop_more, get_or-set_same, length-set}
use Rattle.dimacs.specs.logic.Literal.{Literal, IsWithin, negation, var_of}
use Rattle.watches.specs.declared.trail.Assigned.{Assigned}
use Rattle.watches.specs.declared.truth.Truth.{Truth}
use Rattle.watches.specs.declared.truth.Truth.TheVariants.{Free, True, False}
use Rattle.watches.specs.Law.{SameUpToReasons, IsExplained}
use Rattle.watches.specs.Trails.{holds}
use Rattle.watches.specs.inner.ReasonLaws.{holds_alike, variables_alike, length_alike, literal_alike, level_alike}
use Rattle.watches.specs.inner.TrailTables.{IsTrail, truth_of}

-- the entry of a place
pub explained_at : (es : List Assigned) (i : ℕ) (e : Assigned) (l : Literal) (n : ℕ) → i < length es → e ≡ get_or es i e → e.literal ≡ l → IsExplained es (set es i (record e { reason = Some n })) l n
explained_at es i e l n below is literal =
    let f : Assigned = record e { reason = Some n } in
    let more : i < length (set es i f) = let k = length-set es i f in omega arith in
    record {
      front = take i es;
      entry = e;
      rest = drop (i + 1) es;
      literal = literal;
      before = sym (take-append-drop i es) ∙ ap (λ xs. take i es ++ xs) (drop_more es i e below ∙ ap (λ x. x ∷ drop (i + 1) es) (sym is));
      after = sym (take-append-drop i (set es i f)) ∙ ap (λ xs. xs ++ drop i (set es i f)) (take-set es i f)
          ∙ ap (λ xs. take i es ++ xs) (drop_more (set es i f) i f more ∙ ap (λ x. x ∷ drop (i + 1) (set es i f)) (get_or-set_same es i f f below) ∙ ap (λ xs. f ∷ xs) (drop-set-lt (i + 1) es i f (omega arith)));
    }

truth_alike : (es fs : List Assigned) → SameUpToReasons es fs → (l : Literal) → truth_of fs l ≡ truth_of es l
truth_alike es fs a l =
    ap (λ b. cond b True (cond (holds fs (negation l)) False Free)) (holds_alike es fs a l)
    ∙ ap (λ b. cond (holds es l) True (cond b False Free)) (holds_alike es fs a (negation l))

-- its tables stay as they are
pub trail_alike : (vars : ℕ) (es fs : List Assigned) (values : List Truth) (places : List ℕ) (room : ℕ) → SameUpToReasons es fs → IsTrail vars es values places room → IsTrail vars fs values places room
trail_alike vars es fs values places room a t =
    let n = length_alike es fs a in
    record {
      valued = t.valued;
      placed = t.placed;
      agrees = λ l h. t.agrees l h ∙ sym (truth_alike es fs a l);
      within = λ k d b. let c : k < length es = omega arith in subst (IsWithin vars) (sym (literal_alike es fs a k d c)) (t.within k d c);
      apart = subst (IsDistinct eqb) (sym (variables_alike es fs a)) t.apart;
      rising = λ i j d le b. let c : j < length es = omega arith in let r = t.rising i j d le c in let x = level_alike es fs a i d (omega arith) in let y = level_alike es fs a j d c in omega arith;
      found = λ i d b. let c : i < length es = omega arith in ap (λ l. get_or places (var_of l) 0) (literal_alike es fs a i d c) ∙ t.found i d c;
      fits = t.fits;
    }
