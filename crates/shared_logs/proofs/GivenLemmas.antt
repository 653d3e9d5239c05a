-- Every clause that a log has had under a number, whether it was deleted since or not.
use Rattle.std.proofs.Common.{◌≡◌, ◌≢◌, ℕ, ◌+◌, ◌≤◌, inl, inr, ◌⊎◌, Bool, true, false, not, cond, List, [], ◌∷◌, ◌++◌, length, fold, Some, None, refl, sym, ◌∙◌, ap, subst, arith}
use Rattle.std.specs.Prelude.{nat_eq}
use Rattle.std.specs.List.{list_any}
use Rattle.std.specs.FinMap.{get, insert, get-retain_keys, nat_cmp-IsAntisymmetric}
use Rattle.std.proofs.lemmas.Bool.{cases_eq}
use Rattle.std.proofs.lemmas.List.Sums.{fold-append}
use Rattle.dimacs.specs.logic.ClauseMap.{ClauseMap, map_of, live_in}
use Rattle.dimacs.specs.logic.Cnf.{Cnf}
use Rattle.dimacs.specs.logic.Literal.{Clause}
use Rattle.lrat_text.specs.Proof.{without}
use Rattle.lrat_text.proofs.ClauseMapLemmas.{get_here, get_other, none_some, some_is, numbered_between}
use Rattle.shared_logs.specs.SharedLogs.{SharedStep, Lemma, Import, Deletion, Clock, SharedLogState, initial_state, after_line, clock_after, IsSharedStep, AreSharedSteps, IsSharedLog}

-- ---- one clause more, and fewer
pub inserted_cases : (M : ClauseMap) (n q : ℕ) (C D : Clause) → live_in (insert M n C) q D → ((q ≡ n) × (C ≡ D)) ⊎ ((q ≢ n) × live_in M q D)
inserted_cases M n q C D h = elim (cases_eq q n) [
  | inl e ↦ inl (e, some_is C D (sym (subst (λ k. get (insert M n C) k ≡ Some C) (sym e) (get_here M n C)) ∙ h))
  | inr ne ↦ inr (ne, sym (get_other M n q C ne) ∙ h)
]

inserted_same : (M : ClauseMap) (n q : ℕ) (C D : Clause) → q ≡ n → C ≡ D → live_in (insert M n C) q D
inserted_same M n q C D e same = subst (λ k. get (insert M n C) k ≡ Some D) (sym e) (get_here M n C ∙ ap (λ (X : Clause). Some X) same)

pub inserted_other : (M : ClauseMap) (n q : ℕ) (C D : Clause) → q ≢ n → live_in M q D → live_in (insert M n C) q D
inserted_other M n q C D ne h = get_other M n q C ne ∙ h

pub get_without : (M : ClauseMap) (ids : List ℕ) (q : ℕ) → get (without M ids) q ≡ cond (not (list_any (nat_eq q) ids)) (get M q) None
get_without M ids q = get-retain_keys M (λ id. not (list_any (nat_eq id) ids)) q
    (λ x e. ap (λ (y : ℕ). not (list_any (nat_eq y) ids)) (sym (nat_cmp-IsAntisymmetric q x e)))

without_live : (M : ClauseMap) (ids : List ℕ) (q : ℕ) (C : Clause) → live_in (without M ids) q C → live_in M q C
without_live M ids q C e = at (not (list_any (nat_eq q) ids)) (sym (get_without M ids q) ∙ e)
  where
    at : (b : Bool) → cond b (get M q) None ≡ Some C → get M q ≡ Some C
    at true h = h
    at false h = absurd (none_some C h)

pub live_without : (M : ClauseMap) (ids : List ℕ) (q : ℕ) (C : Clause) → list_any (nat_eq q) ids ≡ false → live_in M q C → live_in (without M ids) q C
live_without M ids q C e h = get_without M ids q ∙ ap (λ (b : Bool). cond (not b) (get M q) None) e ∙ h

-- ---- what a log was given
abbrev pub given_after : ClauseMap → SharedStep → ClauseMap
given_after M (Lemma number C hints) = insert M number C
given_after M (Import number C name there) = insert M number C
given_after M (Deletion numbers) = M
given_after M (Clock time) = M

-- the formula's clauses and those of these lines
abbrev pub given : Cnf → List SharedStep → ClauseMap
given F lines = fold given_after (map_of F) lines

abbrev pub state_after : Cnf → List SharedStep → SharedLogState
state_after F lines = fold after_line (initial_state F) lines

-- the live clauses are among those given, whose numbers go up to the last one
pub record IsAmong (s : SharedLogState) (G : ClauseMap) : Type 0 where
  pub live : (n : ℕ) (C : Clause) → live_in s.live n C → live_in G n C
  pub low : (n : ℕ) (C : Clause) → live_in G n C → n ≤ s.last

among_more : (s : SharedLogState) (G : ClauseMap) (number clock : ℕ) (C : Clause) → IsAmong s G → number ≡ s.last + 1
    → IsAmong (record { live = insert s.live number C; last = number; clock = clock }) (insert G number C)
among_more s G number clock C a next = record {
  live = λ n D h. elim (inserted_cases s.live number n C D h) [
    | inl (e, same) ↦ inserted_same G number n C D e same
    | inr (ne, old) ↦ inserted_other G number n C D ne (a.live n D old)
  ];
  low = λ n D h. elim (inserted_cases G number n C D h) [
    | inl (e, same) ↦ omega arith
    | inr (ne, old) ↦ let l = a.low n D old in omega arith
  ];
}

among_step : (m : ℕ) (s : SharedLogState) (G : ClauseMap) (line : SharedStep) → IsAmong s G → IsSharedStep m s line → IsAmong (after_line s line) (given_after G line)
among_step m s G (Lemma number C hints) a h = among_more s G number s.clock C a h.0
among_step m s G (Import number C name there) a h = among_more s G number s.clock C a h
among_step m s G (Deletion numbers) a h = record { live = λ n C l. a.live n C (without_live s.live numbers n C l); low = a.low }
among_step m s G (Clock time) a h = record { live = a.live; low = a.low }

pub among_steps : (m : ℕ) (s : SharedLogState) (G : ClauseMap) (lines : List SharedStep) → IsAmong s G → AreSharedSteps m s lines → IsAmong (fold after_line s lines) (fold given_after G lines)
among_steps m s G [] a h = a
among_steps m s G (line ∷ lines) a h = among_steps m (after_line s line) (given_after G line) lines (among_step m s G line a h.0) h.1

among_first : (F : Cnf) → IsAmong (initial_state F) (map_of F)
among_first F = record { live = λ n C h. h; low = λ n C h. let b = (numbered_between F.clauses n C h).1 in omega arith }

pub among_log : (F : Cnf) (lines : List SharedStep) → IsSharedLog F lines → IsAmong (state_after F lines) (given F lines)
among_log F lines h = among_steps (length F.clauses) (initial_state F) (map_of F) lines (among_first F) h

-- what is given stays given, since numbers rise
keeps_step : (m : ℕ) (s : SharedLogState) (G : ClauseMap) (line : SharedStep) (n : ℕ) (C : Clause) → IsAmong s G → IsSharedStep m s line → live_in G n C → live_in (given_after G line) n C
keeps_step m s G (Lemma number D hints) n C a h g =
    let l = a.low n C g in
    let e = h.0 in
    inserted_other G number n D C (λ (same : n ≡ number). omega arith) g
keeps_step m s G (Import number D name there) n C a h g =
    let l = a.low n C g in
    inserted_other G number n D C (λ (same : n ≡ number). omega arith) g
keeps_step m s G (Deletion numbers) n C a h g = g
keeps_step m s G (Clock time) n C a h g = g

stays_given : (m : ℕ) (s : SharedLogState) (G : ClauseMap) (lines : List SharedStep) (n : ℕ) (C : Clause) → IsAmong s G → AreSharedSteps m s lines → live_in G n C → live_in (fold given_after G lines) n C
stays_given m s G [] n C a h g = g
stays_given m s G (line ∷ lines) n C a h g =
    stays_given m (after_line s line) (given_after G line) lines n C (among_step m s G line a h.0) h.1 (keeps_step m s G line n C a h.0 g)

-- ---- first lines
pub steps_split : (m : ℕ) (s : SharedLogState) (xs ys : List SharedStep) → AreSharedSteps m s (xs ++ ys) → AreSharedSteps m s xs × AreSharedSteps m (fold after_line s xs) ys
steps_split m s [] ys h = (tt, h)
steps_split m s (x ∷ xs) ys h = let r = steps_split m (after_line s x) xs ys h.1 in ((h.0, r.0), r.1)

pub clock_is : (s : SharedLogState) (lines : List SharedStep) → (fold after_line s lines).clock ≡ fold clock_after s.clock lines
clock_is s [] = refl
clock_is s (line ∷ lines) = clock_is (after_line s line) lines

pub lemma_given : (F : Cnf) (before after : List SharedStep) (number : ℕ) (C : Clause) (hints : List ℕ) → IsSharedLog F (before ++ Lemma number C hints ∷ after)
    → live_in (given F (before ++ Lemma number C hints ∷ after)) number C
lemma_given F before after number C hints h =
    let m = length F.clauses in
    let p = steps_split m (initial_state F) before (Lemma number C hints ∷ after) h in
    let s = state_after F before in
    let line = Lemma number C hints in
    subst (λ (M : ClauseMap). live_in M number C) (sym (fold-append given_after (map_of F) before (line ∷ after)))
    (stays_given m (after_line s line) (given_after (given F before) line) after number C (among_step m s (given F before) line (among_log F before p.0) p.1.0) p.1.1
    (get_here (given F before) number C))
