-- Formulas to which clauses are added.
use Rattle.std.proofs.Common.{◌≡◌, ℕ, ◌+◌, ◌<◌, ◌≤◌, max, List, [], ◌∷◌, ◌++◌, length, get_or, take, refl, sym, ◌∙◌, ap, arith, append_assoc, length-append}
use Rattle.std.specs.List.{All}
use Rattle.std.proofs.lemmas.List.{take_more}
use Rattle.std.proofs.lemmas.List.Elements.{All-append, All-weaker}
use Rattle.dimacs.specs.layout.Flat.{parts, Fills}
use Rattle.dimacs.specs.logic.Cnf.{Cnf, AreWithin, FitsIn, IsFormula, literal_count}
use Rattle.dimacs.specs.logic.Limits.{AreNoMore, Limits, large}
use Rattle.dimacs.specs.logic.Extension.{extended}
use Rattle.dimacs.specs.logic.Literal.{Literal, Clause, IsWithin}
use Rattle.dimacs.proofs.BaseLemmas.{count_take}
use Rattle.dimacs.proofs.BuilderLemmas.{within_more}
use Rattle.dimacs.proofs.FlatLemmas.{length_parts}
use Rattle.dimacs.proofs.FlatPush.{fills_count}
use Rattle.dimacs.proofs.FilledLemmas.{all_filled}

pub count_append : (cs ds : List Clause) → literal_count (cs ++ ds) ≡ literal_count cs + literal_count ds
count_append [] ds = omega arith
count_append (c ∷ cs) ds = omega (arith, count_append cs ds)

clauses_within : (m n : ℕ) (cs : List Clause) → m ≤ n → AreWithin m cs → AreWithin n cs
clauses_within m n cs le h = All-weaker (All (IsWithin m)) (All (IsWithin n)) (λ c w. within_more m n c le w) cs h

-- the limits are those of the sums
few_fits : (L : Limits) (f x : Cnf) → max f.vars x.vars ≤ L.vars → length f.clauses + length x.clauses ≤ L.clauses
    → literal_count f.clauses + literal_count x.clauses ≤ L.literals → FitsIn L (extended f x)
few_fits L f x vars clauses literals = record {
  vars = vars;
  clauses = omega (arith, length-append f.clauses x.clauses);
  literals = omega (arith, count_append f.clauses x.clauses);
}

-- what fits into no larger limits is a formula
pub fits_is_formula : (L : Limits) (f x : Cnf) → AreNoMore L large → IsFormula f → AreWithin x.vars x.clauses → FitsIn L (extended f x) → IsFormula (extended f x)
fits_is_formula L f x le h within fits = record {
  vars = omega (arith, fits.vars, le.0);
  clauses = omega (arith, fits.clauses, le.1);
  literals = omega (arith, fits.literals, le.2);
  within = All-append (All (IsWithin (max f.vars x.vars))) f.clauses x.clauses
      (clauses_within f.vars (max f.vars x.vars) f.clauses (omega arith) h.within)
      (clauses_within x.vars (max f.vars x.vars) x.clauses (omega arith) within);
}

fits_is_few : (L : Limits) (f x : Cnf) → FitsIn L (extended f x)
    → (max f.vars x.vars ≤ L.vars) × (length f.clauses + length x.clauses ≤ L.clauses) × (literal_count f.clauses + literal_count x.clauses ≤ L.literals)
fits_is_few L f x h = (
  h.vars,
  omega (arith, h.clauses, length-append f.clauses x.clauses),
  omega (arith, h.literals, count_append f.clauses x.clauses),
)

-- ---- clauses that are appended one by one
-- the next clause is no longer than what is left of the others
pub next_fits : (xs ys more : List Literal) (places behind ends : List ℕ) (i : ℕ) → Fills xs places → Fills ys behind → Fills more ends → parts ys behind ≡ parts xs places ++ take i (parts more ends)
    → i < length (parts more ends) → length ys + length (get_or (parts more ends) i []) ≤ length xs + length more
next_fits xs ys more places behind ends i f g h is below =
    let all = ap literal_count is in
    omega (arith, fills_count xs places f, fills_count ys behind g, fills_count more ends h, all, count_append (parts xs places) (take i (parts more ends)), count_take (parts more ends) i below)

-- one clause more
pub one_more : (cs front before after : List Clause) (i : ℕ) (C : Clause) → i < length cs → C ≡ get_or cs i [] → before ≡ front ++ take i cs → after ≡ before ++ C ∷ [] → after ≡ front ++ take (i + 1) cs
one_more cs front before after i C below is was now =
    now ∙ ap (λ (ds : List Clause). ds ++ C ∷ []) was ∙ append_assoc front (take i cs) (C ∷ [])
    ∙ ap (λ (D : Clause). front ++ (take i cs ++ D ∷ [])) is
    ∙ ap (λ (ds : List Clause). front ++ ds) (sym (take_more cs i [] below))

-- ---- a formula and an extension that lie in lists
pub record Lie (f x : Cnf) (xs more : List Literal) (places ends : List ℕ) : Type 0 where
  pub fills : Fills xs places
  pub more_fills : Fills more ends
  pub clauses : parts xs places ≡ f.clauses
  pub more_clauses : parts more ends ≡ x.clauses

abbrev pub AreFew : Limits → Cnf → Cnf → List Literal → List Literal → Type 0
AreFew L f x xs more = (max f.vars x.vars ≤ L.vars) × (length f.clauses + length x.clauses ≤ L.clauses) × (length xs + length more ≤ L.literals)

counts : (f x : Cnf) (xs more : List Literal) (places ends : List ℕ) → Lie f x xs more places ends → (literal_count f.clauses ≡ length xs) × (literal_count x.clauses ≡ length more)
counts f x xs more places ends l = (ap literal_count (sym l.clauses) ∙ fills_count xs places l.fills, ap literal_count (sym l.more_clauses) ∙ fills_count more ends l.more_fills)

pub above : (L : Limits) (f x : Cnf) (xs more : List Literal) (places ends : List ℕ) → Lie f x xs more places ends → ¬ (AreFew L f x xs more) → ¬ (FitsIn L (extended f x))
above L f x xs more places ends l many h =
    let few = fits_is_few L f x h in
    let n = counts f x xs more places ends l in
    many (few.0, few.1, omega (arith, few.2, n.0, n.1))

-- lists that are few fit into the limits
pub few_lie : (L : Limits) (f x : Cnf) (xs more : List Literal) (places ends : List ℕ) → Lie f x xs more places ends → AreFew L f x xs more → FitsIn L (extended f x)
few_lie L f x xs more places ends l few =
    let n = counts f x xs more places ends l in
    few_fits L f x few.0 few.1 (omega (arith, few.2, n.0, n.1))

-- the lists of the extended formula
pub record IsExtended (L : Limits) (f x : Cnf) (vars : ℕ) (all : List Literal) (ends : List ℕ) : Type 0 where
  pub fits : FitsIn L (extended f x)
  pub limit : vars ≤ 99999999
  pub within : All (IsWithin vars) all
  pub count : length ends ≤ 100000000
  pub total : length all ≤ 999999999
  pub is : record { vars = vars; clauses = parts all ends } ≡ extended f x

pub is_extended : (L : Limits) (f x : Cnf) (xs more : List Literal) (places ends : List ℕ) → Lie f x xs more places ends → AreFew L f x xs more → AreNoMore L large → IsFormula f → AreWithin x.vars x.clauses
    → (vars : ℕ) (all : List Literal) (behind : List ℕ) → vars ≡ max f.vars x.vars → Fills all behind → parts all behind ≡ parts xs places ++ parts more ends → IsExtended L f x vars all behind
is_extended L f x xs more places ends l few le h within vars all behind most fills joined =
    let fits : FitsIn L (extended f x) = few_lie L f x xs more places ends l few in
    let formula : IsFormula (extended f x) = fits_is_formula L f x le h within fits in
    let clauses : parts all behind ≡ f.clauses ++ x.clauses = joined ∙ ap (λ (cs : List Clause). cs ++ parts more ends) l.clauses ∙ ap (λ (cs : List Clause). f.clauses ++ cs) l.more_clauses in
    let size = ap (λ (cs : List Clause). length cs) clauses in
    let total = ap literal_count clauses in
    record {
      fits = fits;
      limit = omega (arith, formula.vars, most);
      within = all_filled (IsWithin vars) all behind fills (rw (most, clauses) formula.within);
      count = omega (arith, formula.clauses, size, length_parts all behind);
      total = omega (arith, formula.literals, total, fills_count all behind fills);
      is = rw (most, clauses) refl;
    }
