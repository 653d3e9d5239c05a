-- What goes out of a session, event by event.
use Rattle.std.proofs.Common.{◌≡◌, ℕ, List, [], ◌∷◌, ◌++◌, ap, refl, sym, subst, append_assoc, append-nil}
use Rattle.cube_solve.specs.declared.answer.Answer.{Answer}
use Rattle.dimacs.specs.logic.Literal.{Literal, Clause}
use Rattle.incremental.specs.SessionHistory.{Told, told_of}
use Rattle.sessions.specs.Answers.{Event, Given, Asked}
use Rattle.commands.specs.SessionLines.{status_after, status_of}
use Rattle.commands.specs.SessionMoments.{AreAnswered, IsAnswered, Moment, proof_behind, told_all}
use Rattle.commands.specs.declared.session_loop.Asking.{Asking}

-- ---- the last of all
pub last_status_is : (status : ℕ) (answers : List Answer) (a : Answer) → status_after status (answers ++ a ∷ []) ≡ status_of a
last_status_is status [] a = refl
last_status_is status (b ∷ answers) a = last_status_is (status_of b) answers a

pub last_proof_is : (bytes : List ℕ) (ms : List Moment) (m : Moment) → proof_behind bytes (ms ++ m ∷ []) ≡ m.proof
last_proof_is bytes [] m = refl
last_proof_is bytes (n ∷ ms) m = last_proof_is n.proof ms m

pub told_behind : (answers : List Answer) (a : Answer) → told_all (answers ++ a ∷ []) ≡ told_all answers ++ told_of a ∷ []
told_behind [] a = refl
told_behind (b ∷ answers) a = ap (λ (told : Told). told_of b ∷ told) (told_behind answers a)

-- ---- one event more
-- a clause has no answer
pub answered_clause : (o : Asking) (E : List Event) (told : Told) (D : List Event) (answers : List Answer) (ms : List Moment) (C : Clause)
    → AreAnswered o E told D answers ms → AreAnswered o E told (D ++ Given C ∷ []) answers ms
answered_clause o E told [] [] [] C h = tt
answered_clause o E told [] [] (m ∷ ms) C h = absurd h
answered_clause o E told [] (a ∷ answers) ms C h = absurd h
answered_clause o E told (Given B ∷ D) answers ms C h = answered_clause o (E ++ Given B ∷ []) told D answers ms C h
answered_clause o E told (Asked A ∷ D) [] ms C h = absurd h
answered_clause o E told (Asked A ∷ D) (a ∷ answers) [] C h = absurd h
answered_clause o E told (Asked A ∷ D) (a ∷ answers) (m ∷ ms) C h = (h.0, answered_clause o (E ++ Asked A ∷ []) (told ++ told_of a ∷ []) D answers ms C h.1)

-- a query has one
pub answered_query : (o : Asking) (E : List Event) (told : Told) (D : List Event) (answers : List Answer) (ms : List Moment) (A : List Literal) (a : Answer) (m : Moment)
    → AreAnswered o E told D answers ms → IsAnswered o (E ++ D) A (told ++ told_all answers) a m → AreAnswered o E told (D ++ Asked A ∷ []) (answers ++ a ∷ []) (ms ++ m ∷ [])
answered_query o E told [] [] [] A a m h k =
    let P : List Event → Type 0 = λ F. IsAnswered o F A (told ++ []) a m in
    let Q : Told → Type 0 = λ t. IsAnswered o E A t a m in
    (subst Q (append-nil told) (subst P (append-nil E) k), tt)
answered_query o E told [] [] (n ∷ ms) A a m h k = absurd h
answered_query o E told [] (b ∷ answers) ms A a m h k = absurd h
answered_query o E told (Given B ∷ D) answers ms A a m h k =
    let P : List Event → Type 0 = λ F. IsAnswered o F A (told ++ told_all answers) a m in
    answered_query o (E ++ Given B ∷ []) told D answers ms A a m h (subst P (sym (append_assoc E (Given B ∷ []) D)) k)
answered_query o E told (Asked B ∷ D) [] ms A a m h k = absurd h
answered_query o E told (Asked B ∷ D) (b ∷ answers) [] A a m h k = absurd h
answered_query o E told (Asked B ∷ D) (b ∷ answers) (n ∷ ms) A a m h k =
    let P : List Event → Type 0 = λ F. IsAnswered o F A (told ++ told_all (b ∷ answers)) a m in
    let Q : Told → Type 0 = λ t. IsAnswered o ((E ++ Asked B ∷ []) ++ D) A t a m in (
      h.0,
      answered_query o (E ++ Asked B ∷ []) (told ++ told_of b ∷ []) D answers ms A a m h.1
          (subst Q (sym (append_assoc told (told_of b ∷ []) (told_all answers))) (subst P (sym (append_assoc E (Asked B ∷ []) D)) k)),
    )
