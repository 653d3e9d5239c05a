-- What a number makes of what was read, on whatever line it stands.
use Rattle.std.proofs.Common.{◌≡◌, ℕ, ◌+◌, ◌<◌, ◌≤◌, Bool, true, false, cond, [], ◌∷◌, ◌++◌, ℤ, nat_abs, Option, Some, None, Ok, length, refl, ap, ◌∙◌, arith, leb, ltb, eqb}
use Rattle.std.proofs.lemmas.Bool.{lt-leb, le-ltb, leb-false, ltb-false, eqb-true, eqb-false}
use Rattle.dimacs.specs.declared.fault.Kind.{Kind}
use Rattle.dimacs.specs.declared.fault.Kind.TheVariants.{TooManyClauses, VariableAboveHeader, AboveLimit, TooFewClauses}
use Rattle.dimacs.specs.text.BodyState.{BodyState}
use Rattle.dimacs.specs.logic.Cnf.{Cnf}
use Rattle.dimacs.specs.logic.Literal.{Clause, literal_of_number}
use Rattle.dimacs.specs.text.Numbers.{number}
use Rattle.dimacs.specs.text.Parser.{read_token, read_number, read_found, finish, fault, format}
use Rattle.dimacs.proofs.RowRuns.{IsRun}

pub fault≢ok : {A : Type 0} (k : Kind) (n : ℕ) (x : A) → fault k n ≡ Ok x → ⊥
fault≢ok k n x h = cc

-- what a number leaves, where it is read
unfoldable pub added : ℤ → BodyState → BodyState
added z b = cond (eqb (nat_abs z) 0) (record b { done = b.done ++ b.open_clause ∷ []; open_clause = [] }) (record b { open_clause = b.open_clause ++ literal_of_number z ∷ []; total = b.total + 1 })

-- when it is read
pub record Takes (z : ℤ) (b : BodyState) : Type 0 where
  pub room : length b.done < b.count
  pub within : nat_abs z ≤ b.vars
  pub limit : (nat_abs z ≡ 0 → ⊥) → b.total < b.limit

pub number_takes : (line : ℕ) (z : ℤ) (b c : BodyState) → read_number line z b ≡ Ok c → Takes z b × (added z b ≡ c)
unfolding added
number_takes line z b c h = one (leb b.count (length b.done)) refl h where
  four : (t : Bool) → leb b.count (length b.done) ≡ false → eqb (nat_abs z) 0 ≡ false → ltb b.vars (nat_abs z) ≡ false → leb b.limit b.total ≡ t
      → cond t (fault AboveLimit line) (Ok (record b { open_clause = b.open_clause ++ literal_of_number z ∷ []; total = b.total + 1 })) ≡ Ok c → Takes z b × (added z b ≡ c)
  four true p q r s h = absurd (fault≢ok _ _ _ h)
  four false p q r s h = (record { room = leb-false _ _ p; within = ltb-false _ _ r; limit = λ _. leb-false _ _ s }, rw q (cc))

  three : (t : Bool) → leb b.count (length b.done) ≡ false → eqb (nat_abs z) 0 ≡ false → ltb b.vars (nat_abs z) ≡ t
      → cond t (fault VariableAboveHeader line) (cond (leb b.limit b.total) (fault AboveLimit line) (Ok (record b { open_clause = b.open_clause ++ literal_of_number z ∷ []; total = b.total + 1 }))) ≡ Ok c → Takes z b × (added z b ≡ c)
  three true p q r h = absurd (fault≢ok _ _ _ h)
  three false p q r h = four (leb b.limit b.total) p q r refl h

  two : (t : Bool) → leb b.count (length b.done) ≡ false → eqb (nat_abs z) 0 ≡ t
      → cond t (Ok (record b { done = b.done ++ b.open_clause ∷ []; open_clause = [] })) (cond (ltb b.vars (nat_abs z)) (fault VariableAboveHeader line) (cond (leb b.limit b.total) (fault AboveLimit line) (Ok (record b { open_clause = b.open_clause ++ literal_of_number z ∷ []; total = b.total + 1 })))) ≡ Ok c → Takes z b × (added z b ≡ c)
  two true p q h = (record { room = leb-false _ _ p; within = omega (arith, eqb-true _ _ q); limit = λ n. absurd (n (eqb-true _ _ q)) }, rw q (cc))
  two false p q h = three (ltb b.vars (nat_abs z)) p q refl h

  one : (t : Bool) → leb b.count (length b.done) ≡ t → cond t (fault TooManyClauses line) (cond (eqb (nat_abs z) 0) (Ok (record b { done = b.done ++ b.open_clause ∷ []; open_clause = [] })) (cond (ltb b.vars (nat_abs z)) (fault VariableAboveHeader line) (cond (leb b.limit b.total) (fault AboveLimit line) (Ok (record b { open_clause = b.open_clause ++ literal_of_number z ∷ []; total = b.total + 1 }))))) ≡ Ok c → Takes z b × (added z b ≡ c)
  one true p h = absurd (fault≢ok _ _ _ h)
  one false p h = two (eqb (nat_abs z) 0) p refl h

takes_number : (line : ℕ) (z : ℤ) (b : BodyState) → Takes z b → read_number line z b ≡ Ok (added z b)
unfolding added
takes_number line z b t = by_zero (eqb (nat_abs z) 0) refl where
  by_zero : (e : Bool) → eqb (nat_abs z) 0 ≡ e → read_number line z b ≡ Ok (added z b)
  by_zero true q = rw (lt-leb b.count (length b.done) t.room, q) refl
  by_zero false q =
      let room = t.limit (eqb-false _ _ q) in
      rw (lt-leb b.count (length b.done) t.room, q, le-ltb b.vars (nat_abs z) t.within, lt-leb b.limit b.total room) refl

found_number : (line : ℕ) (o : Option ℤ) (b c : BodyState) → read_found line o b ≡ Ok c → (z : ℤ) × (o ≡ Some z) × (read_number line z b ≡ Ok c)
found_number line None b c h = absurd (fault≢ok _ _ _ h)
found_number line (Some z) b c h = (z, refl, h)

-- ---- lines

finish_any : (m n : ℕ) (b : BodyState) (f : Cnf) → finish m b ≡ Ok f → finish n b ≡ Ok f
unfolding finish
finish_any m n b f h = by_open b.open_clause h where
  by_few : (t : Bool) → cond t (fault TooFewClauses m) (Ok (record { vars = b.vars; clauses = b.done })) ≡ Ok f → cond t (fault TooFewClauses n) (Ok (record { vars = b.vars; clauses = b.done })) ≡ Ok f
  by_few true h = absurd (fault≢ok _ _ _ h)
  by_few false h = h

  by_open : (o : Clause) → finish m (record b { open_clause = o }) ≡ Ok f → finish n (record b { open_clause = o }) ≡ Ok f
  by_open [] h = by_few (ltb (length b.done) b.count) h
  by_open (x ∷ xs) h = absurd (fault≢ok _ _ _ h)

-- the formula at the end
pub finish_is : (n : ℕ) (b : BodyState) (f : Cnf) → finish n b ≡ Ok f → (b.open_clause ≡ []) × (b.count ≤ length b.done) × (f ≡ record { vars = b.vars; clauses = b.done })
unfolding finish
finish_is n b f h = by_open b.open_clause refl h where
  by_few : (t : Bool) → ltb (length b.done) b.count ≡ t → cond t (fault TooFewClauses n) (Ok (record { vars = b.vars; clauses = b.done })) ≡ Ok f → (b.count ≤ length b.done) × (f ≡ record { vars = b.vars; clauses = b.done })
  by_few true e h = absurd (fault≢ok _ _ _ h)
  by_few false e h = (ltb-false _ _ e, cc)

  by_open : (o : Clause) → b.open_clause ≡ o → finish n (record b { open_clause = o }) ≡ Ok f → (b.open_clause ≡ []) × (b.count ≤ length b.done) × (f ≡ record { vars = b.vars; clauses = b.done })
  by_open [] e h = let p = by_few (ltb (length b.done) b.count) refl h in (e, p.0, p.1)
  by_open (x ∷ xs) e h = absurd (fault≢ok _ _ _ h)

-- the lines after a header are a run over their numbers
pub numbers_run : IsRun format number (read_number 0)
unfolding read_token
numbers_run = record {
  forth = λ line w b c h.
      let z = found_number line (number w) b c h in
      let t = number_takes line z.0 b c z.2 in
      (z.0, z.1, takes_number 0 z.0 b t.0 ∙ ap Ok t.1);
  back = λ line w z b c e h. let t = number_takes 0 z b c h in rw e (takes_number line z b t.0 ∙ ap Ok t.1);
  ends = finish_any;
}
