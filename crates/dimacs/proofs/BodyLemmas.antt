-- The end of a text.
use Rattle.std.proofs.Common.{◌≡◌, ℕ, ◌<◌, ◌≤◌, List, [], ◌∷◌, Ok, length, refl, arith}
use Rattle.std.proofs.lemmas.Bool.{lt-ltb, le-ltb}
use Rattle.dimacs.specs.declared.fault.Kind.TheVariants.{ClauseNotEnded, TooFewClauses}
use Rattle.dimacs.specs.text.BodyState.{BodyState}
use Rattle.dimacs.specs.logic.Literal.{Clause}
use Rattle.dimacs.specs.text.Parser.{finish, fault}

abbrev pub state : ℕ → ℕ → ℕ → List Clause → Clause → ℕ → BodyState
state vars count most done open_clause total = record { vars = vars; count = count; limit = most; done = done; open_clause = open_clause; total = total }

module _ (n vars count most total : ℕ) (done : List Clause) where
  pub finish_open : (o : Clause) → 0 < length o → finish n (state vars count most done o total) ≡ fault ClauseNotEnded n
  unfolding finish
  finish_open [] h = absurd (omega arith)
  finish_open (l ∷ o) h = refl

  pub finish_few : (o : Clause) → o ≡ [] → length done < count → finish n (state vars count most done o total) ≡ fault TooFewClauses n
  unfolding finish
  finish_few o e h = rw (e, lt-ltb (length done) count h) refl

  pub finish_whole : (o : Clause) → o ≡ [] → count ≤ length done → finish n (state vars count most done o total) ≡ Ok (record { vars = vars; clauses = done })
  unfolding finish
  finish_whole o e h = rw (e, le-ltb (length done) count h) refl
