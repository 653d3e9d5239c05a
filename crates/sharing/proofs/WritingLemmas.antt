-- What a worker has written, and what stands of it in the folder.
use Rattle.std.proofs.Common.{◌≡◌, Bool, true, false, MatchBool, inl, inr, ℕ, ◌+◌, ◌≤◌, List, [], ◌∷◌, ◌++◌, refl, sym, ap, ◌∙◌, subst, arith}
use Rattle.std.specs.List.{All, Contains}
use Rattle.std.specs.Bool.{OnTrue}
use Rattle.std.proofs.lemmas.Bool.{cases_lt, MatchBool-at_true, MatchBool-at_false}
use Rattle.std.proofs.lemmas.List.{append-nil, append_assoc}
use Rattle.std.proofs.lemmas.List.Elements.{All-contains}
use Rattle.dimacs.proofs.Members.{Contains-head, Contains-cons}
use Rattle.dimacs.specs.logic.Cnf.{Cnf}
use Rattle.dimacs.specs.logic.Literal.{Clause, negation}
use Rattle.lrat_text.specs.Log.{Cube}
use Rattle.shared_logs.specs.SharedLogs.{SharedStep, Lemma, Import, Clock}
use Rattle.shared_logs.specs.SharedText.{Names, begins}
use Rattle.cell_worker.specs.WorkerLog.{EndsClosing, HasTurned, HasWritten, IsRightTurn, IsSharedText, clock_in, last_in, names_in}
use Rattle.cell_worker.specs.declared.turn.Turn.{Turn}
use Rattle.cell_worker.specs.declared.turn.Turn.TheVariants as turn
use Rattle.cell_worker.specs.declared.worker.CellWorker.{CellWorker}
use Rattle.sharing.specs.Sharing.{EndsImporting, IsBeginning}
use Rattle.sharing.specs.declared.run.Shared.{Shared}
use Rattle.sharing.specs.inner.Writing.{Extends, GoesOn, HasEnded, IsWriting, IsWritingSteps}

-- lines begin with themselves, and with what the lines with which they begin begin with
pub extends_self : (steps : List SharedStep) → Extends steps steps
extends_self steps = ([], sym (append-nil steps))

pub extends_trans : (a b c : List SharedStep) → Extends a b → Extends b c → Extends a c
extends_trans a b c (m, e) (n, f) = (m ++ n, f ∙ ap (λ x. x ++ n) e ∙ append_assoc a m n)

-- lines with more lines behind them
pub extends_by : (a b more : List SharedStep) → Extends a b → Extends a (b ++ more)
extends_by a b more h = extends_trans a b (b ++ more) h (more, refl)

-- a worker that has written on twice has written on
pub goes_nowhere : {P : Type 0} (w : CellWorker P) → GoesOn w w
goes_nowhere w F steps text h = (steps, extends_self steps, h)

pub goes : {P : Type 0} (a b c : CellWorker P) → GoesOn a b → GoesOn b c → GoesOn a c
goes a b c h k F steps text w =
    let x = h F steps text w in
    let y = k F x.0 text x.2 in
    (y.0, extends_trans steps x.0 y.0 x.1 y.1, y.2)

-- if each number up to the last one stands for a name, so it is with one name more
pub named_more : (names : Names) (top : ℕ) (name : List ℕ) → ((n : ℕ) → 1 ≤ n → n ≤ top → (m : List ℕ) × Contains names (n, m))
    → (n : ℕ) → 1 ≤ n → n ≤ top + 1 → (m : List ℕ) × Contains ((top + 1, name) ∷ names) (n, m)
named_more names top name named n low high = elim (cases_lt top n) [
  | inl above ↦ (
      let is : top + 1 ≡ n = omega (arith, above, high) in
      (name, subst (λ k. Contains ((top + 1, name) ∷ names) (k, name)) is (Contains-head (top + 1, name) names)))
  | inr below ↦ (let m = named n low below in (m.0, Contains-cons (top + 1, name) (n, m.0) names m.1))
]

-- the first bytes of a text of a log with imports are the beginning of one
pub beginning : (F : Cnf) (names : Names) (steps : List SharedStep) (front rest : List ℕ) → IsSharedText F names steps (front ++ rest) → IsBeginning F front
beginning F names steps front rest text = record { names = names; steps = steps; rest = rest; text = text }

pub beginning_behind : (F : Cnf) (names : Names) (steps : List SharedStep) (log front rest more : List ℕ) → more ≡ front ++ rest
    → IsSharedText F names steps (log ++ more) → IsBeginning F (log ++ front)
beginning_behind F names steps log front rest more is text =
    beginning F names steps (log ++ front) rest
    (subst (IsSharedText F names steps) (sym (append_assoc log front rest)) (subst (λ m. IsSharedText F names steps (log ++ m)) is text))

pub beginning_whole : (F : Cnf) (names : Names) (steps : List SharedStep) (text : List ℕ) → IsSharedText F names steps text → IsBeginning F text
beginning_whole F names steps text is = beginning F names steps text [] (subst (IsSharedText F names steps) (sym (append-nil text)) is)

-- a lemma that closes a query at the end of some lines closes it at the end of more lines
pub closing_behind : (q : Cube) (number : ℕ) (steps lines : List SharedStep) → EndsClosing q number lines → EndsClosing q number (steps ++ lines)
closing_behind q number steps lines e =
    let last : List SharedStep = Lemma number e.clause e.hints ∷ [] in
    record {
      front = steps ++ e.front;
      clause = e.clause;
      hints = e.hints;
      ends = subst (λ (x : List SharedStep). steps ++ x ≡ (steps ++ e.front) ++ last) (sym e.ends) (sym (append_assoc steps e.front last));
      negates = e.negates;
    }

module _ {P : Type 0} where
  -- what was handed out is a beginning
  pub beginning_of : (F : Cnf) (text : List ℕ) (w : CellWorker P) → IsWriting F text w → IsBeginning F text
  beginning_of F text w h = beginning F h.1.names h.0 text w.log.items (h.1.written).is_text

  -- a worker that has given as many names and is where its log ends
  pub writes : (F : Cnf) (names : Names) (steps : List SharedStep) (text : List ℕ) (old new : CellWorker P) → names_in new ≡ names_in old
      → ((n : ℕ) → 1 ≤ n → n ≤ names_in old → (m : List ℕ) × Contains names (n, m)) → HasWritten F names steps text new → IsWritingSteps F steps text new
  writes F names steps text old new same named written =
      record { names = names; written = written; named = λ n low high. named n low (subst (λ k. n ≤ k) same high) }

-- an import whose literals are negations of a query's literals
pub importing : (q : Cube) (steps : List SharedStep) (number : ℕ) (C : Clause) (name : List ℕ) (there : ℕ) → All (λ l. Contains q (negation l)) C
    → EndsImporting q (steps ++ Import number C name there ∷ [])
importing q steps number C name there all =
    record {
      front = steps;
      number = number;
      clause = C;
      name = name;
      there = there;
      ends = refl;
      negates = λ l i. All-contains (λ k. Contains q (negation k)) C l all i;
    }

module _ {P : Type 0} where
  -- a worker that has taken over an offer has written its import
  abbrev Imported : CellWorker P → CellWorker P → ℕ → ℕ → Clause → Type 0
  Imported old new log there C =
      (F : Cnf) (names : Names) (steps : List SharedStep) (text name : List ℕ) → HasWritten F names steps text old → Contains names (log, name)
      → HasWritten F names (steps ++ Import (last_in new) C name there ∷ []) text new

  pub imported : (lent : Bool) (old new : CellWorker P) (log there : ℕ) (C : Clause) → MatchBool lent (Imported old new log there C) (new ≡ old) → lent ≡ true
      → names_in new ≡ names_in old → 1 ≤ log → log ≤ names_in old → (F : Cnf) (steps : List SharedStep) (text : List ℕ) → IsWritingSteps F steps text old
      → (name : List ℕ) × IsWritingSteps F (steps ++ Import (last_in new) C name there ∷ []) text new
  imported lent old new log there C stands told same low high F steps text h =
      let one : Imported old new log there C = MatchBool-at_true (Imported old new log there C) (new ≡ old) told stands in
      let name = h.named log low high in
      (name.0, writes F h.names (steps ++ Import (last_in new) C name.0 there ∷ []) text old new same h.named (one F h.names steps text name.0 h.written name.1))

  -- a worker that has not is as it was
  pub not_imported : (lent : Bool) (old new : CellWorker P) (log there : ℕ) (C : Clause) → MatchBool lent (Imported old new log there C) (new ≡ old)
      → lent ≡ false → GoesOn old new
  not_imported lent old new log there C stands told =
      subst (GoesOn old) (sym (MatchBool-at_false (Imported old new log there C) (new ≡ old) told stands)) (goes_nowhere old)

  -- a worker whose clock was moved
  abbrev Advanced : CellWorker P → CellWorker P → Type 0
  Advanced old new =
      (F : Cnf) (names : Names) (steps : List SharedStep) (text : List ℕ) → HasWritten F names steps text old
      → HasWritten F names (steps ++ Clock (clock_in new) ∷ []) text new

  pub advanced : (moved : Bool) (old new : CellWorker P) → MatchBool moved (Advanced old new) (new ≡ old) → moved ≡ true → names_in new ≡ names_in old
      → GoesOn old new
  advanced moved old new stands told same F steps text h =
      let one : Advanced old new = MatchBool-at_true (Advanced old new) (new ≡ old) told stands in (
        steps ++ Clock (clock_in new) ∷ [],
        (Clock (clock_in new) ∷ [], refl),
        writes F h.names (steps ++ Clock (clock_in new) ∷ []) text old new same h.named (one F h.names steps text h.written),
      )

  pub not_advanced : (moved : Bool) (old new : CellWorker P) → MatchBool moved (Advanced old new) (new ≡ old) → moved ≡ false → GoesOn old new
  not_advanced moved old new stands told =
      subst (GoesOn old) (sym (MatchBool-at_false (Advanced old new) (new ≡ old) told stands)) (goes_nowhere old)

pub on_true : (b : Bool) (P Q : Type 0) → (P → Q) → OnTrue b P → OnTrue b Q
on_true true P Q f p = f p
on_true false P Q f p = p

-- nothing is the text of a log with imports
pub empty_text : (F : Cnf) → IsSharedText F [] [] []
empty_text F = record { spelled = begins; is_log = tt }

module _ {P : Type 0} where
  -- what a turn has written stands behind what was written before
  pub turned : (query : Cube) (how : Turn) (old new : CellWorker P)
      → ((F : Cnf) (names : Names) (steps : List SharedStep) (text : List ℕ) → HasWritten F names steps text old → HasTurned F names steps text query how new)
      → names_in new ≡ names_in old → (F : Cnf) (steps : List SharedStep) (text : List ℕ) → IsWritingSteps F steps text old
      → (lines : List SharedStep) × IsRightTurn F query lines how × IsWritingSteps F (steps ++ lines) text new
  turned query how old new stands same F steps text h =
      let t = stands F h.names steps text h.written in
      (t.lines, t.right, writes F h.names (steps ++ t.lines) text old new same h.named t.written)

pub on_true_at : (b : Bool) (P : Type 0) → b ≡ true → OnTrue b P → P
on_true_at b P is p = subst (λ (x : Bool). OnTrue x P) is p

pub closed_turn : (F : Cnf) (query : Cube) (lines : List SharedStep) (how : Turn) (number : ℕ) → how ≡ turn.Closed number → IsRightTurn F query lines how
    → EndsClosing query number lines
closed_turn F query lines how number is right = subst (IsRightTurn F query lines) is right

module _ {P : Type 0} where
  -- a search that went on behind longer lines went on behind those with which they begin
  pub further : (F : Cnf) (q : Cube) (a b : List SharedStep) (bytes : List ℕ) (e : Shared) (w : CellWorker P) → Extends a b → HasEnded F q b bytes e w → HasEnded F q a bytes e w
  further F q a b bytes e w by h = record { longer = h.longer; extends = extends_trans a b h.longer by h.extends; stands = h.stands; fits = h.fits }

module _ {P : Type 0} where
  -- a worker that has given no name
  pub fresh_writing : (F : Cnf) (steps : List SharedStep) (w : CellWorker P) → names_in w ≡ 0 → HasWritten F [] steps [] w → IsWritingSteps F steps [] w
  fresh_writing F steps w none h = record { names = []; written = h; named = λ n low high. absurd (omega (arith, none, low, high)) }
