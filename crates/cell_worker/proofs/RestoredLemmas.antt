-- What is written when an assignment is settled.
use Rattle.std.proofs.Common.{◌≡◌, ℕ, ◌+◌, ◌<◌, Bool, false, not, List, [], ◌∷◌, ◌++◌, length, get_or, append_assoc, refl, sym, ◌∙◌, ap, subst, arith}
use Rattle.std.specs.List.{All, Contains}
use Rattle.std.proofs.lemmas.Bool.{true≢false}
use Rattle.std.proofs.lemmas.List.{append-nil}
use Rattle.std.proofs.lemmas.List.Elements.{All-append, All-nil, Contains-append_left}
use Rattle.dimacs.specs.logic.ClauseMap.{ClauseMap, Live, live_in}
use Rattle.dimacs.specs.logic.Cnf.{Cnf}
use Rattle.dimacs.specs.logic.Literal.{Literal, Pos, Neg, Clause, IsTautology, literal_true, negation}
use Rattle.dimacs.specs.logic.Propagation.{Rup, negations}
use Rattle.dimacs.proofs.LiteralLemmas.{negation-negation}
use Rattle.dimacs.proofs.Members.{Contains-has}
use Rattle.lrat_text.specs.Log.{Cube}
use Rattle.lrat_text.proofs.ClauseMapLemmas.{numbered_at}
use Rattle.cube_solve.specs.SessionLog.{IsKnown}
use Rattle.cube_solve.specs.declared.session.Session.{Session}
use Rattle.shared_logs.specs.SharedLogs.{SharedStep, initial_state}
use Rattle.shared_logs.specs.SharedText.{Names}
use Rattle.cell_worker.specs.WorkerLog.{HasTurned, HasWritten, IsOwn, IsRightTurn, log_state}
use Rattle.cell_worker.specs.declared.turn.Turn.{Turn}
use Rattle.cell_worker.specs.declared.worker.CellWorker.{CellWorker}
use Rattle.cell_worker.specs.inner.OwnLines.{WritesOwn}
use Rattle.cell_worker.proofs.TextLemmas.{formula_lives}

-- ---- one clause
-- a clause without a true literal has no literal beside its negation
pub one_is_true : (a : ℕ → Bool) (l : Literal) → literal_true a l ≡ false → literal_true a (negation l) ≡ false → ⊥
one_is_true a (Pos v) h g = true≢false (sym (ap not h) ∙ g)
one_is_true a (Neg v) h g = true≢false (sym (ap not g) ∙ h)

pub no_pair_false : (a : ℕ → Bool) (C : Clause) → ((l : Literal) → Contains C l → literal_true a l ≡ false) → ¬ (IsTautology C)
no_pair_false a C all (l, i, j) = one_is_true a l (all l i) (all (negation l) j)

-- a live clause follows by itself
pub rup_itself : (live : Live) (n : ℕ) (C : Clause) → ¬ (IsTautology C) → live n C → Rup live C (n ∷ [])
rup_itself live n C plain lives = record {
  no_pair = plain;
  refutes = record {
    front = [];
    last = n;
    reached = negations C;
    clause = C;
    splits = refl;
    leads = refl;
    lives = lives;
    conflict = λ k i. Contains-has C (negation (negation k)) (subst (Contains C) (sym (negation-negation k)) i);
  };
}

module _ {P : Type 0} where
  -- fewer numbers are counted among those of given clauses
  pub known_fewer : (given more : List ℕ) (M : ClauseMap) (s : Session P) → IsKnown (given ++ more) M s → IsKnown given M s
  known_fewer given more M s h = record {
    linked = h.linked;
    before = λ n i. h.before n (Contains-append_left given more n i);
    apart = λ n i. h.apart n (Contains-append_left given more n i);
  }

  -- the clauses of the formula are live
  pub still_lives : (F : Cnf) (names : Names) (steps : List SharedStep) (text : List ℕ) (w : CellWorker P) (i : ℕ) → HasWritten F names steps text w → i < length F.clauses
      → live_in (log_state F steps).live (i + 1) (get_or F.clauses i [])
  still_lives F names steps text w i h below =
      formula_lives (length F.clauses) (initial_state F) steps (i + 1) (get_or F.clauses i []) (h.is_text).is_log (omega arith) (omega arith) (numbered_at F.clauses i [] below)

  -- ---- one call after another
  pub writes_nothing : (w : CellWorker P) → WritesOwn w w
  writes_nothing w F names steps text h = ([], All-nil IsOwn, subst (λ (ls : List SharedStep). HasWritten F names ls text w) (sym (append-nil steps)) h)

  pub writes_on : (a b c : CellWorker P) → WritesOwn a b → WritesOwn b c → WritesOwn a c
  writes_on a b c f g F names steps text h =
      let x = f F names steps text h in
      let y = g F names (steps ++ x.0) text x.2 in
      (x.0 ++ y.0, All-append IsOwn x.0 y.0 x.1 y.1, subst (λ (ls : List SharedStep). HasWritten F names ls text c) (append_assoc steps x.0 y.0) y.2)

  -- a turn whose end is right whatever was written
  pub turned_so : (F : Cnf) (names : Names) (steps mine : List SharedStep) (text : List ℕ) (query : Cube) (how : Turn) (w u : CellWorker P) → All IsOwn mine → HasWritten F names (steps ++ mine) text w
      → WritesOwn w u → ((lines : List SharedStep) → IsRightTurn F query lines how) → HasTurned F names steps text query how u
  turned_so F names steps mine text query how w u own h on right =
      let x = on F names (steps ++ mine) text h in
      record {
        lines = mine ++ x.0;
        own = All-append IsOwn mine x.0 own x.1;
        right = right (mine ++ x.0);
        written = subst (λ (ls : List SharedStep). HasWritten F names ls text u) (append_assoc steps mine x.0) x.2;
      }
