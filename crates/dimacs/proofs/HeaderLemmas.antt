-- The header is read as the counts that it spells.
use Rattle.std.proofs.Common.{◌≡◌, ℕ, ◌≤◌, Bool, true, false, cond, List, [], ◌∷◌, Option, Some, None, Result, Ok, length, refl, sym, ap, ◌∙◌, arith, ltb, codes, bytes_eq}
use Rattle.std.proofs.lemmas.Slice.Eq.{bytes_eq-Decides}
use Rattle.std.proofs.lemmas.Bool.{le-ltb, ltb-false}
use Rattle.dimacs.specs.declared.fault.DimacsFault.{DimacsFault}
use Rattle.dimacs.specs.declared.fault.Kind.{Kind}
use Rattle.dimacs.specs.declared.fault.Kind.TheVariants.{AboveLimit, NoHeader, BadHeader}
use Rattle.dimacs.specs.logic.Cnf.{Cnf, FitsIn}
use Rattle.dimacs.specs.logic.Limits.{Limits}
use Rattle.dimacs.specs.text.Numbers.{natural}
use Rattle.dimacs.specs.text.Parser.{read_header, fault, header_end, header_count, header_four, header_vars}
use Rattle.dimacs.specs.text.Grammar.{IsHeader}
use Rattle.dimacs.proofs.RunLemmas.{fault≢ok}

pub record Header (L : Limits) (ws : List (List ℕ)) (h : ℕ × ℕ) : Type 0 where
  pub spelled : (f : Cnf) → f.vars ≡ h.0 → length f.clauses ≡ h.1 → IsHeader ws f
  pub vars : h.0 ≤ L.vars
  pub count : h.1 ≤ L.clauses

end_is : (line vars count : ℕ) (ws : List (List ℕ)) (h : ℕ × ℕ) → header_end line vars count ws ≡ Ok h → (ws ≡ []) × (vars ≡ h.0) × (count ≡ h.1)
end_is line vars count [] h e = (refl, cc, cc)
end_is line vars count (w ∷ ws) h e = absurd (fault≢ok _ _ _ e)

count_is : (L : Limits) (line vars : ℕ) (o : Option ℕ) (more : List (List ℕ)) (h : ℕ × ℕ) → header_count L line vars o more ≡ Ok h → (o ≡ Some h.1) × (more ≡ []) × (vars ≡ h.0) × (h.1 ≤ L.clauses)
count_is L line vars None more h e = absurd (fault≢ok _ _ _ e)
count_is L line vars (Some count) more h e = by_test (ltb L.clauses count) refl e where
  by_test : (t : Bool) → ltb L.clauses count ≡ t → cond t (fault AboveLimit line) (header_end line vars count more) ≡ Ok h → (Some count ≡ Some h.1) × (more ≡ []) × (vars ≡ h.0) × (h.1 ≤ L.clauses)
  by_test true q e = absurd (fault≢ok _ _ _ e)
  by_test false q e = let p = end_is line vars count more h e in (ap Some p.2, p.0, p.1, omega (arith, ltb-false _ _ q, p.2))

vars_is : (L : Limits) (line : ℕ) (o : Option ℕ) (more : List (List ℕ)) (h : ℕ × ℕ) → header_vars L line o more ≡ Ok h → (vars : ℕ) × (o ≡ Some vars) × (vars ≤ L.vars) × (header_four L line vars more ≡ Ok h)
vars_is L line None more h e = absurd (fault≢ok _ _ _ e)
vars_is L line (Some vars) more h e = by_test (ltb L.vars vars) refl e where
  by_test : (t : Bool) → ltb L.vars vars ≡ t → cond t (fault AboveLimit line) (header_four L line vars more) ≡ Ok h → (v : ℕ) × (Some vars ≡ Some v) × (v ≤ L.vars) × (header_four L line v more ≡ Ok h)
  by_test true q e = absurd (fault≢ok _ _ _ e)
  by_test false q e = (vars, refl, ltb-false _ _ q, e)

test_is : {A : Type 0} (xs ys : List ℕ) (k : Kind) (line : ℕ) (r : Result A DimacsFault) (y : A) → cond (bytes_eq xs ys) r (fault k line) ≡ Ok y → (xs ≡ ys) × (r ≡ Ok y)
test_is xs ys k line r y h = by_test (bytes_eq xs ys) refl h where
  by_test : (t : Bool) → bytes_eq xs ys ≡ t → cond t r (fault k line) ≡ Ok y → (xs ≡ ys) × (r ≡ Ok y)
  by_test true q h = ((bytes_eq-Decides xs ys).0 q, h)
  by_test false q h = absurd (fault≢ok _ _ _ h)

four_is : (L : Limits) (line : ℕ) (p cnf v : List ℕ) (vars : ℕ) (more : List (List ℕ)) (h : ℕ × ℕ) → p ≡ codes "p" → cnf ≡ codes "cnf" → natural v ≡ Some vars → vars ≤ L.vars → header_four L line vars more ≡ Ok h → Header L (p ∷ cnf ∷ v ∷ more) h
four_is L line p cnf v vars [] h a b c le e = absurd (fault≢ok _ _ _ e)
four_is L line p cnf v vars (w ∷ []) h a b c le e =
    let r = count_is L line vars (natural w) [] h e in
    record { spelled = λ f x y. (a, b, c ∙ ap Some (r.2 ∙ sym x), r.0 ∙ ap Some (sym y)); vars = omega (arith, r.2); count = r.3 }
four_is L line p cnf v vars (w ∷ d ∷ ws) h a b c le e =
    let r = count_is L line vars (natural w) (d ∷ ws) h e in absurd (nil r.1)
  where
    nil : d ∷ ws ≡ [] → ⊥
    nil q = cc

pub header_is : (L : Limits) (line : ℕ) (ws : List (List ℕ)) (h : ℕ × ℕ) → read_header L line ws ≡ Ok h → Header L ws h
unfolding read_header
header_is L line [] h e = absurd (fault≢ok _ _ _ e)
header_is L line (p ∷ []) h e = absurd (fault≢ok _ _ _ (test_is p (codes "p") NoHeader line _ h e).1)
header_is L line (p ∷ cnf ∷ []) h e =
    let a = test_is p (codes "p") NoHeader line _ h e in
    absurd (fault≢ok _ _ _ (test_is cnf (codes "cnf") BadHeader line _ h a.1).1)
header_is L line (p ∷ cnf ∷ v ∷ more) h e =
    let a = test_is p (codes "p") NoHeader line _ h e in
    let b = test_is cnf (codes "cnf") BadHeader line _ h a.1 in
    let c = vars_is L line (natural v) more h b.1 in
    four_is L line p cnf v c.0 more h a.0 b.0 c.1 c.2 c.3

pub spelled_header : (L : Limits) (line : ℕ) (ws : List (List ℕ)) (f : Cnf) → FitsIn L f → IsHeader ws f → read_header L line ws ≡ Ok (f.vars, length f.clauses)
unfolding read_header
spelled_header L line [] f is h = absurd h
spelled_header L line (p ∷ []) f is h = absurd h
spelled_header L line (p ∷ cnf ∷ []) f is h = absurd h
spelled_header L line (p ∷ cnf ∷ v ∷ []) f is h = absurd h
spelled_header L line (p ∷ cnf ∷ v ∷ c ∷ []) f is h = rw (h.0, h.1, h.2, h.3, le-ltb L.vars f.vars is.vars, le-ltb L.clauses (length f.clauses) is.clauses) refl
spelled_header L line (p ∷ cnf ∷ v ∷ c ∷ d ∷ ws) f is h = absurd h
