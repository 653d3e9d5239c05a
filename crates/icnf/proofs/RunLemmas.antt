-- What a token makes of what was read, on whatever line it stands.
use Rattle.std.proofs.Common.{◌≡◌, ℕ, Bool, true, false, cond, not, List, [], ◌∷◌, ℤ, nat_abs, Option, Some, None, Result, Ok, length, refl, sym, ap, leb, ltb, eqb}
use Rattle.dimacs.specs.logic.Cnf.{Cnf, greatest_in}
use Rattle.dimacs.specs.logic.Literal.{Literal, Clause, var_of, literal_of_number}
use Rattle.icnf.specs.declared.fault.IcnfFault.{IcnfFault}
use Rattle.icnf.specs.declared.fault.Kind.{Kind}
use Rattle.icnf.specs.declared.fault.Kind.TheVariants.{VariableAboveClauses, AboveLimit, RepeatedVariable, NotATree, CubeTooLong}
use Rattle.icnf.specs.declared.place.Place.{Place}
use Rattle.icnf.specs.declared.walk.Stage.{Stage}
use Rattle.icnf.specs.declared.walk.Stage.TheVariants.{Clauses, Outside, Inside, Complete}
use Rattle.icnf.specs.Leaves.{Cube}
use Rattle.icnf.specs.ReadState.{ReadState}
use Rattle.icnf.specs.Walk.{names, fits}
use Rattle.icnf.specs.Parser.{Token, Mark, Number, token, read_token, read_mark, read_number, read_found, begin, begin_behind, in_clause, in_cube, literal_in_cube, end_cube, finish, finish_at, end_behind, fault, format}
use Rattle.dimacs.proofs.RowRuns.{IsRun}

-- ---- results

pub fault≢ok : {A : Type 0} (k : Kind) (n : ℕ) (x : A) → fault k n ≡ Ok x → ⊥
fault≢ok k n x h = cc

pub ok_same : {A : Type 0} (x y : A) → let r : Result A IcnfFault = Ok x in r ≡ Ok y → x ≡ y
ok_same x y h = cc

-- past a test that was not met
pub past : {A : Type 0} (t : Bool) (k : Kind) (n : ℕ) (r : Result A IcnfFault) (c : A) → cond t (fault k n) r ≡ Ok c → (t ≡ false) × (r ≡ Ok c)
past true k n r c h = absurd (fault≢ok _ _ _ h)
past false k n r c h = (refl, h)

-- the same on another line
past_any : {A : Type 0} (t : Bool) (k : Kind) (m n : ℕ) (r q : Result A IcnfFault) (c : A) → (r ≡ Ok c → q ≡ Ok c) → cond t (fault k m) r ≡ Ok c → cond t (fault k n) q ≡ Ok c
past_any true k m n r q c f h = absurd (fault≢ok _ _ _ h)
past_any false k m n r q c f h = f h

either_any : {A : Type 0} (t : Bool) (r q r' q' : Result A IcnfFault) (c : A) → (r ≡ Ok c → q ≡ Ok c) → (r' ≡ Ok c → q' ≡ Ok c) → cond t r r' ≡ Ok c → cond t q q' ≡ Ok c
either_any true r q r' q' c f g h = f h
either_any false r q r' q' c f g h = g h

-- ---- a token on any line

begin_any : (m n : ℕ) (s c : ReadState) → begin m s ≡ Ok c → begin n s ≡ Ok c
begin_any m n s c h = past_any (leb 65536 (length s.walk.cubes)) AboveLimit m n _ _ c (λ e. e) h

behind_any : (m n : ℕ) (o : Clause) (s c : ReadState) → begin_behind m o s ≡ Ok c → begin_behind n o s ≡ Ok c
behind_any m n [] s c h = begin_any m n s c h
behind_any m n (x ∷ o) s c h = absurd (fault≢ok _ _ _ h)

mark_any : (m n : ℕ) (stage : Stage) (s c : ReadState) → read_mark m stage s ≡ Ok c → read_mark n stage s ≡ Ok c
mark_any m n Clauses s c h = behind_any m n s.clauses.open_clause s c h
mark_any m n Outside s c h = begin_any m n s c h
mark_any m n Inside s c h = absurd (fault≢ok _ _ _ h)
mark_any m n Complete s c h = absurd (fault≢ok _ _ _ h)

clause_any : (m n : ℕ) (z : ℤ) (s c : ReadState) → in_clause m z s ≡ Ok c → in_clause n z s ≡ Ok c
clause_any m n z s c h =
    past_any (leb s.limits.clauses (length s.clauses.done)) AboveLimit m n _ _ c
    (λ e. either_any (eqb (nat_abs z) 0) _ _ _ _ c (λ x. x)
    (λ f. past_any (ltb s.limits.vars (nat_abs z)) AboveLimit m n _ _ c (λ g. past_any (leb s.limits.literals s.clauses.total) AboveLimit m n _ _ c (λ x. x) g) f) e) h

end_any : (m n : ℕ) (forced : List Place) (s c : ReadState) → end_cube m forced s ≡ Ok c → end_cube n forced s ≡ Ok c
end_any m n [] s c h = h
end_any m n (p ∷ forced) s c h = absurd (fault≢ok _ _ _ h)

literal_any : (m n : ℕ) (l : Literal) (s c : ReadState) → literal_in_cube m l s ≡ Ok c → literal_in_cube n l s ≡ Ok c
literal_any m n l s c h =
    past_any (names s.walk.path (var_of l)) RepeatedVariable m n _ _ c
    (λ e. past_any (not (fits l s.walk.forced)) NotATree m n _ _ c (λ f. past_any (leb 64 (length s.walk.path)) CubeTooLong m n _ _ c (λ x. x) f) e) h

cube_any : (m n : ℕ) (z : ℤ) (s c : ReadState) → in_cube m z s ≡ Ok c → in_cube n z s ≡ Ok c
cube_any m n z s c h =
    either_any (eqb (nat_abs z) 0) _ _ _ _ c (end_any m n s.walk.forced s c)
    (λ e. past_any (ltb (greatest_in s.clauses.done) (nat_abs z)) VariableAboveClauses m n _ _ c (literal_any m n (literal_of_number z) s c) e) h

number_any : (m n : ℕ) (z : ℤ) (stage : Stage) (s c : ReadState) → read_number m z stage s ≡ Ok c → read_number n z stage s ≡ Ok c
number_any m n z Clauses s c h = clause_any m n z s c h
number_any m n z Outside s c h = absurd (fault≢ok _ _ _ h)
number_any m n z Inside s c h = cube_any m n z s c h
number_any m n z Complete s c h = absurd (fault≢ok _ _ _ h)

found_any : (m n : ℕ) (t : Token) (s c : ReadState) → read_found m (Some t) s ≡ Ok c → read_found n (Some t) s ≡ Ok c
found_any m n Mark s c h = mark_any m n s.walk.stage s c h
found_any m n (Number z) s c h = number_any m n z s.walk.stage s c h

-- ---- the end

behind_end : (m n : ℕ) (o : Clause) (r : Cnf × List Cube) → end_behind m o ≡ Ok r → ⊥
behind_end m n [] r h = fault≢ok _ _ _ h
behind_end m n (x ∷ o) r h = fault≢ok _ _ _ h

-- the end of a text that is read
pub at_complete : (n : ℕ) (stage : Stage) (s : ReadState) (f : Cnf) (cubes : List Cube) → finish_at n stage s ≡ Ok (f, cubes) → (stage ≡ Complete) × (f ≡ record { vars = greatest_in s.clauses.done; clauses = s.clauses.done }) × (cubes ≡ s.walk.cubes)
at_complete n Clauses s f cubes h = absurd (behind_end n n s.clauses.open_clause (f, cubes) h)
at_complete n Outside s f cubes h = absurd (fault≢ok _ _ _ h)
at_complete n Inside s f cubes h = absurd (fault≢ok _ _ _ h)
at_complete n Complete s f cubes h =
    let e = ok_same (record { vars = greatest_in s.clauses.done; clauses = s.clauses.done }, s.walk.cubes) (f, cubes) h in
    (refl, sym (ap (λ (p : Cnf × List Cube). p.0) e), sym (ap (λ (p : Cnf × List Cube). p.1) e))

complete_at : (n : ℕ) (stage : Stage) (s : ReadState) → stage ≡ Complete → finish_at n stage s ≡ Ok (record { vars = greatest_in s.clauses.done; clauses = s.clauses.done }, s.walk.cubes)
complete_at n stage s e = rw e refl

finish_any : (m n : ℕ) (s : ReadState) (f : Cnf) (cubes : List Cube) → finish m s ≡ Ok (f, cubes) → finish n s ≡ Ok (f, cubes)
unfolding finish
finish_any m n s f cubes h =
    let e = at_complete m s.walk.stage s f cubes h in
    rw (e.1, e.2) (complete_at n s.walk.stage s e.0)

-- ---- tokens, one after the other

abbrev pub read_one : Token → ReadState → Result ReadState IcnfFault
read_one t s = read_found 0 (Some t) s

found_token : (line : ℕ) (o : Option Token) (s c : ReadState) → read_found line o s ≡ Ok c → (t : Token) × (o ≡ Some t) × (read_one t s ≡ Ok c)
found_token line None s c h = absurd (fault≢ok _ _ _ h)
found_token line (Some t) s c h = (t, refl, found_any line 0 t s c h)

-- the lines after a header are a run over their tokens
pub tokens_run : IsRun format token read_one
unfolding read_token
tokens_run = record {
  forth = λ line w s c h. found_token line (token w) s c h;
  back = λ line w t s c e h. rw e (found_any 0 line t s c h);
  ends = λ m n s v h. finish_any m n s v.0 v.1 h;
}
