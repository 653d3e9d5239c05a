-- A log that is read piece by piece, and those of its lemmas that close leaves.
use Rattle.std.proofs.Common.{◌≡◌, ◌≢◌, ◌⊎◌, inl, inr, ℕ, zero, suc, ◌+◌, ◌-◌, ◌^◌, Bool, true, false, List, [], ◌∷◌, ◌++◌, length, length-append, map, min, Option, Some, None, Ok, Err, cond, refl, sym, ◌∙◌, ap, subst, append_assoc, arith}
use Rattle.std.proofs.lemmas.List.{append-nil}
use Rattle.std.proofs.lemmas.Bool.{cases_eq}
use Rattle.std.specs.FinMap.{get}
use Rattle.dimacs.specs.logic.ClauseMap.{ClauseMap, map_of}
use Rattle.dimacs.specs.logic.Cnf.{Cnf}
use Rattle.dimacs.specs.logic.Literal.{Clause}
use Rattle.icnf.specs.Leaves.{Cube}
use Rattle.lrat_check.specs.Logs.{IsBegun, LogState, TakesLogLine, log_end, log_of}
use Rattle.lrat_check.specs.declared.line_checker.CheckFault.{CheckFault}
use Rattle.lrat_check.specs.inner.LogStates.{RefusesAndKeeps}
use Rattle.lrat_check.proofs.LogLines.{HasTakenLog, hands_more, hands_piece, log_stops, log_taken}
use Rattle.lrat_text.specs.Log.{additions, log_top}
use Rattle.lrat_text.specs.Grammar.{LineSpellsWithin}
use Rattle.lrat_text.specs.declared.step.Step.{Step}
use Rattle.lrat_text.specs.LineSink.{HandsOn, LineRefused, PieceStops}
use Rattle.lrat_text.specs.declared.line_splitter.PieceFault.{PieceFault}
use Rattle.lrat_text.specs.declared.line_splitter.PieceFault.TheVariants.{NoMemory, Line}
use Rattle.lrat_check.specs.Refusals.{piece_refusal}
use Rattle.std.proofs.lemmas.List.Elements.{All-nil}
use Rattle.lrat_text.proofs.PieceLemmas.{cut_more}
use Rattle.log_join.specs.ClosedLeaves.{Numbered}
use Rattle.log_join.specs.JoinedLogs.{live_from, with_live}
use Rattle.log_join.proofs.PlacedLemmas.{counted_top}
use Rattle.receipts.specs.ClosedLeaves.{closes_new_leaf, closing_of}
use Rattle.receipts.specs.LogReceipt.{HasLogFault, IsLogSoFar}
use Rattle.receipts.specs.declared.receipt_builder.ReceiptBuilder.{ReceiptBuilder}
use Rattle.sha2.specs.Hashers.{Holds256}

-- ---- live lemmas, and those that close
live_append : (n : ℕ) (o : Option Clause) (xs ys : List Numbered) → with_live n o xs ++ ys ≡ with_live n o (xs ++ ys)
live_append n None xs ys = refl
live_append n (Some C) xs ys = refl

pub live_snoc : (f : ℕ → ℕ) (M : ClauseMap) (first count last : ℕ) → last ≡ first + count → live_from f M first (suc count) ≡ live_from f M first count ++ with_live (f last) (get M last) []
live_snoc f M first zero last e =
    let s : first ≡ last = omega arith in
    ap (λ (n : ℕ). with_live (f n) (get M n) []) s
live_snoc f M first (suc count) last e =
    ap (λ (xs : List Numbered). with_live (f first) (get M first) xs) (live_snoc f M (first + 1) count last (omega arith))
    ∙ sym (live_append (f first) (get M first) (live_from f M (first + 1) count) (with_live (f last) (get M last) []))

cond_append : (b : Bool) (x : Numbered) (xs ys : List Numbered) → cond b (x ∷ (xs ++ ys)) (xs ++ ys) ≡ cond b (x ∷ xs) xs ++ ys
cond_append true x xs ys = refl
cond_append false x xs ys = refl

pub closing_snoc : (cubes : List Cube) (before : List Clause) (ls : List Numbered) (l : Numbered)
    → closing_of cubes before (ls ++ l ∷ []) ≡ closing_of cubes before ls ++ cond (closes_new_leaf cubes (before ++ map (λ k. k.clause) ls) l.clause) (l ∷ []) []
closing_snoc cubes before [] l = ap (λ (Cs : List Clause). cond (closes_new_leaf cubes Cs l.clause) (l ∷ []) []) (sym (append-nil before))
closing_snoc cubes before (x ∷ ls) l =
    let Cs : List Clause = before ++ x.clause ∷ [] in
    let rest : List Numbered = cond (closes_new_leaf cubes (before ++ x.clause ∷ map (λ k. k.clause) ls) l.clause) (l ∷ []) [] in
    let more : closing_of cubes Cs (ls ++ l ∷ []) ≡ closing_of cubes Cs ls ++ rest =
    closing_snoc cubes Cs ls l
    ∙ ap (λ (Ds : List Clause). closing_of cubes Cs ls ++ cond (closes_new_leaf cubes Ds l.clause) (l ∷ []) []) (append_assoc before (x.clause ∷ []) (map (λ k. k.clause) ls)) in
    ap (λ (xs : List Numbered). cond (closes_new_leaf cubes before x.clause) (x ∷ xs) xs) more
    ∙ cond_append (closes_new_leaf cubes before x.clause) x (closing_of cubes Cs ls) rest

-- ---- pieces
pub met_more : (F : Cnf) (bytes more : List ℕ) (fault : CheckFault) → HasLogFault F bytes fault → HasLogFault F (bytes ++ more) fault
met_more F bytes more fault (inl e) = inl e
met_more F bytes more fault (inr h) = inr (λ later. ap (log_of F) (append_assoc bytes more later) ∙ h (more ++ later))

pub met_now : (F : Cnf) (bytes : List ℕ) (fault : CheckFault) → HasLogFault F bytes fault → (fault.number ≡ 14) ⊎ (log_of F bytes ≡ Err fault)
met_now F bytes fault (inl e) = inl e
met_now F bytes fault (inr h) = inr (ap (log_of F) (sym (append-nil bytes)) ∙ h [])

pub line_met : (F : Cnf) (first : LogState) (bytes : List ℕ) (s : LogState) (line piece : List ℕ) (t : LogState) (fault : CheckFault) → IsBegun F first → HandsOn TakesLogLine first bytes s line
    → LineRefused TakesLogLine RefusesAndKeeps s (line ++ piece) t fault → HasLogFault F (bytes ++ piece) fault
line_met F first bytes s line piece t fault b h (m, rest, bad, later, handed, cut, refused) = at (cases_eq fault.number 14)
  where
    behind : (more : List ℕ) → LineRefused TakesLogLine RefusesAndKeeps first ((bytes ++ piece) ++ more) t fault
    behind more = (m, rest ++ more, bad, later ++ more, hands_more TakesLogLine first (bytes ++ piece) m rest more (hands_piece TakesLogLine first bytes s line piece m rest h handed), cut_more rest bad later more cut, refused)

    at : (fault.number ≡ 14) ⊎ (fault.number ≢ 14) → HasLogFault F (bytes ++ piece) fault
    at (inl e) = inl e
    at (inr some) = inr (λ more. elim (log_stops F first ((bytes ++ piece) ++ more) t fault b (behind more)) [
      | inl none ↦ absurd (some (ap (λ (f : CheckFault). f.number) none))
      | inr is ↦ is
    ])

-- ---- the end
pub ended_well : (F : Cnf) (first : LogState) (bytes : List ℕ) (t : LogState) (rest : List ℕ) → IsBegun F first → HandsOn TakesLogLine first bytes t rest → log_end t rest ≡ Ok tt
    → (steps : List Step) × LineSpellsWithin (log_top F) bytes steps × HasTakenLog F bytes steps t rest
ended_well F first bytes t rest b h e =
    let r = log_taken F first bytes t rest b h in
    let none : rest ≡ [] = at rest e in
    let same : bytes ≡ r.1.front = r.1.whole ∙ ap (λ (x : List ℕ). r.1.front ++ x) none ∙ append-nil r.1.front in
    (r.0, subst (λ (x : List ℕ). LineSpellsWithin (log_top F) x r.0) (sym same) r.1.spelled, r.1)
  where
    at : (xs : List ℕ) → log_end t xs ≡ Ok tt → xs ≡ []
    at [] e = refl
    at (x ∷ xs) e = absurd cc

pub count_is : (F : Cnf) (bytes rest : List ℕ) (steps : List Step) (t : LogState) → HasTakenLog F bytes steps t rest → t.top - t.base ≡ additions steps
count_is F bytes rest steps t h =
    let e = counted_top (length F.clauses) (map_of F) (length F.clauses) steps h.log in
    let a = h.top in
    let b = h.base in
    omega arith

pub capped : (m a n : ℕ) (x : List ℕ) (y : List ℕ) (cap : ℕ) → a ≡ min cap (length x) → n ≡ length y → m ≡ min (a + n) cap → m ≡ min cap (length (x ++ y))
capped m a n x y cap e f g = let l = length-append x y in omega arith

-- a piece that was taken
pub reads_more : (F : Cnf) (bytes piece : List ℕ) (old new : ReceiptBuilder) → IsLogSoFar F bytes old → HandsOn TakesLogLine old.checker (old.begun ++ piece) new.checker new.begun
    → Holds256 new.hasher (bytes ++ piece) → new.bytes ≡ min (old.bytes + length piece) (2 ^ 64 - 1) → IsLogSoFar F (bytes ++ piece) new
reads_more F bytes piece old new h handed hashed counted = record {
  first = h.first;
  begun = h.begun;
  checked = hands_piece TakesLogLine h.first bytes old.checker old.begun piece new.checker new.begun h.checked handed;
  hashed = hashed;
  counted = capped new.bytes old.bytes (length piece) bytes piece (2 ^ 64 - 1) h.counted refl counted;
}

-- before the first piece
pub none_handed : (s : LogState) → HandsOn TakesLogLine s [] s []
none_handed s = record { lines = []; whole = refl; one_by_one = All-nil _; taken = refl }

-- a piece that was not
pub piece_met : (F : Cnf) (bytes piece : List ℕ) (old : ReceiptBuilder) (t : LogState) (fault : PieceFault CheckFault) → IsLogSoFar F bytes old
    → PieceStops TakesLogLine RefusesAndKeeps old.checker (old.begun ++ piece) t fault → HasLogFault F (bytes ++ piece) (piece_refusal fault)
piece_met F bytes piece old t NoMemory h stops = inl refl
piece_met F bytes piece old t (Line fault) h stops = line_met F h.first bytes old.checker old.begun piece t fault h.begun h.checked stops
