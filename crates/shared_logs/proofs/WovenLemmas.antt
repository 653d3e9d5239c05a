-- What lines that are taken by the clock make is a log: a clause that a line left uses is live under the number that it has in the one log.
use Rattle.std.proofs.Common.{◌≡◌, ℕ, ◌+◌, ◌<◌, ◌≤◌, inl, inr, ◌⊎◌, Bool, true, false, List, [], ◌∷◌, ◌++◌, length, fold, nat_le, bytes_eq, if◌then◌else◌, refl, sym, ◌∙◌, ap, subst, append_assoc, arith}
use Rattle.std.specs.Prelude.{nat_eq}
use Rattle.std.specs.List.{Contains, list_any}
use Rattle.std.specs.FinMap.{insert}
use Rattle.std.proofs.lemmas.Bool.{both_ways, cases_Bool, eqb-true, le-leb, leb-true}
use Rattle.std.proofs.lemmas.List.Elements.{Contains-append_right}
use Rattle.std.proofs.lemmas.List.Sums.{fold-append}
use Rattle.std.proofs.lemmas.Map.Views.{Contains-from_any}
use Rattle.std.proofs.lemmas.Slice.Eq.{bytes_eq-Decides}
use Rattle.dimacs.specs.logic.ClauseMap.{ClauseMap, map_of, live_in}
use Rattle.dimacs.specs.logic.Cnf.{Cnf}
use Rattle.dimacs.specs.logic.Literal.{Clause}
use Rattle.dimacs.proofs.Members.{Contains-head}
use Rattle.lrat_text.specs.Log.{AreLogSteps}
use Rattle.lrat_text.specs.Proof.{without}
use Rattle.lrat_text.specs.Runs.{after_steps, top_of}
use Rattle.lrat_text.specs.declared.step.Step.{Step}
use Rattle.lrat_text.proofs.RunLemmas.{log_append}
use Rattle.lrat_text.proofs.ClauseMapLemmas.{get_here, numbered_between}
use Rattle.shared_logs.specs.SharedLogs.{SharedStep, Lemma, Import, Deletion, Clock, SharedLog, Cell, IsCell, IsSharedStep, IsSharedLog, HasLine, initial_state, clock_after, clock_of}
use Rattle.shared_logs.specs.WovenLogs.{AreByClock, AreUsing, NamedLine, Numbering, Weaves, ends, takes, deletes, WovenLogsAreLogs, lines_of, numbering_after, own_numbers, with_number, written}
use Rattle.shared_logs.proofs.GivenLemmas.{among_log, clock_is, given, given_after, inserted_cases, inserted_other, lemma_given, live_without, state_after, steps_split}
use Rattle.shared_logs.proofs.LineLemmas.{clocks_rise}
use Rattle.shared_logs.proofs.NumberingLemmas.{hint_used, number_cases, rup_renumbered}

-- ---- lines of a log among lines
pub lines_append : (name : List ℕ) (xs ys : List NamedLine) → lines_of name (xs ++ ys) ≡ lines_of name xs ++ lines_of name ys
lines_append name [] ys = refl
lines_append name (x ∷ xs) ys = at (lines_append name xs ys) (bytes_eq x.0 name)
  where
    at : lines_of name (xs ++ ys) ≡ lines_of name xs ++ lines_of name ys → (b : Bool) → (if b then x.1 ∷ lines_of name (xs ++ ys) else lines_of name (xs ++ ys)) ≡ (if b then x.1 ∷ lines_of name xs else lines_of name xs) ++ lines_of name ys
    at e true = ap (λ (ls : List SharedStep). x.1 ∷ ls) e
    at e false = e

own_line : (x : NamedLine) (lines : List NamedLine) → lines_of x.0 (x ∷ lines) ≡ x.1 ∷ lines_of x.0 lines
own_line x lines = ap (λ (b : Bool). if b then x.1 ∷ lines_of x.0 lines else lines_of x.0 lines) ((bytes_eq-Decides x.0 x.0).1 refl)

-- what the log of a name was given by one line more
gave : (F : Cnf) (before : List NamedLine) (L : List ℕ) (line : SharedStep) (n : ℕ) (C : Clause) (name : List ℕ) (k : ℕ) (D : Clause)
    → ((G : ClauseMap) → given_after G line ≡ insert G n C)
    → live_in (given F (lines_of name (before ++ (L, line) ∷ []))) k D
    → ((L ≡ name) × (n ≡ k) × (C ≡ D)) ⊎ ((L ≡ name → n ≡ k → ⊥) × live_in (given F (lines_of name before)) k D)
gave F before L line n C name k D adds h =
    at (bytes_eq L name) refl (subst (λ (M : ClauseMap). live_in M k D) (fold-append given_after (map_of F) (lines_of name before) (lines_of name ((L, line) ∷ [])))
    (subst (λ (ls : List SharedStep). live_in (given F ls) k D) (lines_append name before ((L, line) ∷ [])) h))
  where
    at : (b : Bool) → bytes_eq L name ≡ b → live_in (fold given_after (given F (lines_of name before)) (if b then line ∷ [] else [])) k D
        → ((L ≡ name) × (n ≡ k) × (C ≡ D)) ⊎ ((L ≡ name → n ≡ k → ⊥) × live_in (given F (lines_of name before)) k D)
    at true e live = elim (inserted_cases (given F (lines_of name before)) n k C D (subst (λ (M : ClauseMap). live_in M k D) (adds (given F (lines_of name before))) live)) [
      | inl (same, is) ↦ inl ((bytes_eq-Decides L name).0 e, sym same, is)
      | inr (ne, old) ↦ inr (λ x same. ne (sym same), old)
    ]
    at false e live = inr (λ x same. both_ways (bytes_eq L name) e ((bytes_eq-Decides L name).1 x), live)

-- the log of a name was given nothing by a line that adds nothing
gave_nothing : (F : Cnf) (before : List NamedLine) (L : List ℕ) (line : SharedStep) (name : List ℕ) (k : ℕ) (D : Clause)
    → ((G : ClauseMap) → given_after G line ≡ G)
    → live_in (given F (lines_of name (before ++ (L, line) ∷ []))) k D → live_in (given F (lines_of name before)) k D
gave_nothing F before L line name k D same h =
    at (bytes_eq L name) (subst (λ (M : ClauseMap). live_in M k D) (fold-append given_after (map_of F) (lines_of name before) (lines_of name ((L, line) ∷ [])))
    (subst (λ (ls : List SharedStep). live_in (given F ls) k D) (lines_append name before ((L, line) ∷ [])) h))
  where
    at : (b : Bool) → live_in (fold given_after (given F (lines_of name before)) (if b then line ∷ [] else [])) k D → live_in (given F (lines_of name before)) k D
    at true live = subst (λ (M : ClauseMap). live_in M k D) (same (given F (lines_of name before))) live
    at false live = live

-- ---- the state between two lines
-- Numbers go up to the last one; and a clause that a log was given is live under its number in the one log, if a line left uses that.
record IsWeaving (F : Cnf) (before lines : List NamedLine) (f : Numbering) (M : ClauseMap) (top : ℕ) : Type 0 where
  bound : (name : List ℕ) (n : ℕ) → f name n ≤ top
  known : (name : List ℕ) (n : ℕ) (C : Clause) → live_in (given F (lines_of name before)) n C → AreUsing f top lines (f name n) → live_in M (f name n) C

-- after a line that gives clause C under number n, which has the number g in the one log
gives : (F : Cnf) (before lines : List NamedLine) (f : Numbering) (M N : ClauseMap) (top up : ℕ) (L : List ℕ) (line : SharedStep) (n g : ℕ) (C : Clause)
    → IsWeaving F before ((L, line) ∷ lines) f M top → ((G : ClauseMap) → given_after G line ≡ insert G n C)
    → top ≤ up → g ≤ up → live_in N g C → ((id : ℕ) (D : Clause) → id ≤ top → live_in M id D → live_in N id D)
    → ((id : ℕ) → AreUsing (with_number f L n g) up lines id → AreUsing f top ((L, line) ∷ lines) id)
    → IsWeaving F (before ++ (L, line) ∷ []) lines (with_number f L n g) N up
gives F before lines f M N top up L line n g C w adds higher low here keeps later = record {
  bound = λ name k. elim (number_cases f L n g name k) [
    | inl (a, b, is) ↦ subst (λ id. id ≤ up) (sym is) low
    | inr (a, is) ↦ let b = w.bound name k in subst (λ id. id ≤ up) (sym is) (omega arith)
  ];
  known = λ name k D live using. elim (gave F before L line n C name k D adds live) [
    | inl (same, number, clause) ↦ elim (number_cases f L n g name k) [
      | inl (a, b, is) ↦ subst (λ id. live_in N id D) (sym is) (subst (λ (X : Clause). live_in N g X) clause here)
      | inr (other, is) ↦ absurd (other same number)
    ]
    | inr (other, old) ↦ elim (number_cases f L n g name k) [
      | inl (a, b, is) ↦ absurd (other a b)
      | inr (a, is) ↦
          subst (λ id. live_in N id D) (sym is)
          (keeps (f name k) D (w.bound name k)
          (w.known name k D old (later (f name k) (subst (λ id. AreUsing (with_number f L n g) up lines id) is using))))
    ]
  ];
}

-- after a line that gives nothing
passes : (F : Cnf) (before lines : List NamedLine) (f : Numbering) (M : ClauseMap) (top : ℕ) (L : List ℕ) (line : SharedStep)
    → IsWeaving F before ((L, line) ∷ lines) f M top → ((G : ClauseMap) → given_after G line ≡ G)
    → ((id : ℕ) → AreUsing f top lines id → AreUsing f top ((L, line) ∷ lines) id) → IsWeaving F (before ++ (L, line) ∷ []) lines f M top
passes F before lines f M top L line w same later = record {
  bound = w.bound;
  known = λ name n C live using. w.known name n C (gave_nothing F before L line name n C same live) (later (f name n) using);
}

-- a deletion of what no line left uses
forgets : (F : Cnf) (before lines : List NamedLine) (f : Numbering) (M : ClauseMap) (top : ℕ) (ids : List ℕ)
    → IsWeaving F before lines f M top → ((g : ℕ) → Contains ids g → ¬ (AreUsing f top lines g)) → IsWeaving F before lines f (without M ids) top
forgets F before lines f M top ids w unused = record {
  bound = w.bound;
  known = λ name n C live using. live_without M ids (f name n) C (is_other (f name n) using) (w.known name n C live using);
}
  where
    is_other : (g : ℕ) → AreUsing f top lines g → list_any (nat_eq g) ids ≡ false
    is_other g using = elim (cases_Bool (list_any (nat_eq g) ids)) [
      | inl e ↦ absurd (unused g (Contains-from_any eqb-true g ids e) using)
      | inr e ↦ e
    ]

first_state : (F : Cnf) (lines : List NamedLine) → IsWeaving F [] lines (own_numbers (length F.clauses)) (map_of F) (length F.clauses)
first_state F lines = record {
  bound = λ name n. low (length F.clauses) n;
  known = λ name n C live using. subst (λ id. live_in (map_of F) id C) (sym (own (length F.clauses) n (let b = (numbered_between F.clauses n C live).1 in omega arith))) live;
}
  where
    low : (m n : ℕ) → (if nat_le n m then n else 0) ≤ m
    low m n = at (nat_le n m) refl
      where
        at : (b : Bool) → nat_le n m ≡ b → (if b then n else 0) ≤ m
        at true e = leb-true n m e
        at false e = omega arith

    own : (m n : ℕ) → n ≤ m → (if nat_le n m then n else 0) ≡ n
    own m n l = ap (λ (b : Bool). if b then n else 0) (le-leb n m l)

-- ---- lines by the clock
two_splits : (T U before after : List SharedStep) (x : SharedStep) → T ++ U ≡ before ++ x ∷ after
    → ((v : List SharedStep) × (T ≡ before ++ x ∷ v)) ⊎ ((v : List SharedStep) × (before ≡ T ++ v))
two_splits [] U before after x e = inr (before, refl)
two_splits (t ∷ T) U [] after x e =
    let is : t ≡ x = cc in
    inl (T, ap (λ (y : SharedStep). y ∷ T) is)
two_splits (t ∷ T) U (b ∷ before) after x e =
    let is : t ≡ b = cc in
    let rest : T ++ U ≡ before ++ x ∷ after = cc in
    elim (two_splits T U before after x rest) [
      | inl (v, s) ↦ inl (v, ap (λ (y : SharedStep). y ∷ T) is ∙ ap (λ (ls : List SharedStep). b ∷ ls) s)
      | inr (v, s) ↦ inr (v, ap (λ (ls : List SharedStep). b ∷ ls) s ∙ ap (λ (y : SharedStep). y ∷ (T ++ v)) (sym is))
    ]

more_left : (v after : List SharedStep) (x : SharedStep) → (next : SharedStep) × (rest : List SharedStep) × (v ++ x ∷ after ≡ next ∷ rest)
more_left [] after x = (x, after, refl)
more_left (y ∷ v) after x = (y, v ++ x ∷ after, refl)

module _ (F : Cnf) (cell : Cell) (whole : List NamedLine) (is : IsCell F cell) (order : AreByClock cell whole) where
  -- the log that a line is of: this line comes after its own ones before it
  next_line : (before after : List NamedLine) (x : NamedLine) → whole ≡ before ++ x ∷ after
      → (log : SharedLog) × Contains cell log × (log.name ≡ x.0) × (rest : List SharedStep) × (log.steps ≡ lines_of x.0 before ++ x.1 ∷ rest)
  next_line before after x e =
      let (log, within, named) = order.named x (subst (λ (ls : List NamedLine). Contains ls x) (sym e) (Contains-append_right before (x ∷ after) x (Contains-head x after))) in
      let (rest, splits) = order.firsts log within in
      let lines : lines_of log.name whole ≡ lines_of x.0 before ++ x.1 ∷ lines_of x.0 after =
      ap (λ (name : List ℕ). lines_of name whole) named ∙ ap (λ (ls : List NamedLine). lines_of x.0 ls) e
      ∙ lines_append x.0 before (x ∷ after) ∙ ap (λ (ls : List SharedStep). lines_of x.0 before ++ ls) (own_line x after) in
      (log, within, named, lines_of x.0 after ++ rest, splits ∙ ap (λ (ls : List SharedStep). ls ++ rest) lines ∙ append_assoc (lines_of x.0 before) (x.1 ∷ lines_of x.0 after) rest)

  line_parts : (before after : List NamedLine) (x : NamedLine) → whole ≡ before ++ x ∷ after
      → IsSharedLog F (lines_of x.0 before) × IsSharedStep (length F.clauses) (state_after F (lines_of x.0 before)) x.1
  line_parts before after x e =
      let (log, within, named, rest, splits) = next_line before after x e in
      let p = steps_split (length F.clauses) (initial_state F) (lines_of x.0 before) (x.1 ∷ rest) (subst (λ (ls : List SharedStep). IsSharedLog F ls) splits (is.logs log within)) in
      (p.0, p.1.0)

  -- an imported clause was given to the log that the import names, in a line before it: else that log has a line left with a lower clock
  import_given : (before after : List NamedLine) (L : List ℕ) (n : ℕ) (C : Clause) (other : List ℕ) (there : ℕ) → whole ≡ before ++ (L, Import n C other there) ∷ after
      → live_in (given F (lines_of other before)) there C
  import_given before after L n C other there e =
      let (log, within, named, rest, splits) = next_line before after (L, Import n C other there) e in
      let s = is.imports log within C other there (clock_of (lines_of L before)) (n, record { before = lines_of L before; after = rest; splits = splits; clock = refl }) in
      subst (λ (name : List ℕ). live_in (given F (lines_of name before)) there C) s.named
      (found s.log s.within s.written s.writes.0 s.writes.1 s.earlier)
    where
      found : (log : SharedLog) → Contains cell log → (time : ℕ) (hints : List ℕ) → HasLine log.steps (Lemma there C hints) time → time < clock_of (lines_of L before)
          → live_in (given F (lines_of log.name before)) there C
      found log within time hints has early =
          let T = lines_of log.name before in
          let (rest, splits) = order.firsts log within in
          let U = lines_of log.name ((L, Import n C other there) ∷ after) ++ rest in
          let taken : log.steps ≡ T ++ U =
          splits ∙ ap (λ (ls : List SharedStep). ls ++ rest) (ap (λ (ls : List NamedLine). lines_of log.name ls) e ∙ lines_append log.name before ((L, Import n C other there) ∷ after))
          ∙ append_assoc T (lines_of log.name ((L, Import n C other there) ∷ after)) rest in
          let first : IsSharedLog F T = (steps_split (length F.clauses) (initial_state F) T U (subst (λ (ls : List SharedStep). IsSharedLog F ls) taken (is.logs log within))).0 in
          elim (two_splits T U has.before has.after (Lemma there C hints) (sym taken ∙ has.splits)) [
            | inl (v, front) ↦
                subst (λ (ls : List SharedStep). live_in (given F ls) there C) (sym front)
                (lemma_given F has.before v there C hints (subst (λ (ls : List SharedStep). IsSharedLog F ls) front first))
            | inr (v, behind) ↦ absurd (late log within time hints has early v behind)
          ]
        where
          late : (log : SharedLog) → Contains cell log → (time : ℕ) (hints : List ℕ) → (has : HasLine log.steps (Lemma there C hints) time) → time < clock_of (lines_of L before)
              → (v : List SharedStep) → has.before ≡ lines_of log.name before ++ v → ⊥
          late log within time hints has early v behind =
              let T = lines_of log.name before in
              let x = Lemma there C hints in
              let (next, rest, left) = more_left v has.after x in
              let apart : log.steps ≡ T ++ (v ++ x ∷ has.after) =
              has.splits ∙ ap (λ (ls : List SharedStep). ls ++ x ∷ has.after) behind ∙ append_assoc T v (x ∷ has.after) in
              let lower = order.lowest before after (L, Import n C other there) e log within (next, rest, apart ∙ ap (λ (ls : List SharedStep). T ++ ls) left) in
              let steps = (steps_split (length F.clauses) (initial_state F) T (v ++ x ∷ has.after) (subst (λ (ls : List SharedStep). IsSharedLog F ls) apart (is.logs log within))).1 in
              let rises = clocks_rise (length F.clauses) (state_after F T) v (x ∷ has.after) steps in
              let clock : (state_after F T).clock ≡ clock_of T = clock_is (initial_state F) T in
              let at_line : time ≡ fold clock_after (clock_of T) v = sym has.clock ∙ ap (λ (ls : List SharedStep). clock_of ls) behind ∙ fold-append clock_after 0 T v in
              let start : clock_of T ≤ fold clock_after (clock_of T) v = subst (λ (t : ℕ). t ≤ fold clock_after t v) clock rises in
              omega (arith, lower, early, at_line, start)

  -- ---- along the lines
  one_more : (before lines : List NamedLine) (x : NamedLine) → whole ≡ before ++ x ∷ lines → whole ≡ (before ++ x ∷ []) ++ lines
  one_more before lines x e = e ∙ sym (append_assoc before (x ∷ []) lines)

  line_holds : (before lines : List NamedLine) (f : Numbering) (M : ClauseMap) (top : ℕ) (x : NamedLine) → whole ≡ before ++ x ∷ lines → IsWeaving F before (x ∷ lines) f M top
      → AreLogSteps (length F.clauses) M top (written f top x)
      × IsWeaving F (before ++ x ∷ []) lines (numbering_after f top x) (after_steps M (written f top x)) (top_of top (written f top x))
  line_holds before lines f M top (name, Lemma number C hints) e w =
      let (first, own) = line_parts before lines (name, Lemma number C hints) e in
      let a = among_log F (lines_of name before) first in
      let among : (n : ℕ) (D : Clause) → Contains hints n → live_in (state_after F (lines_of name before)).live n D → live_in M (f name n) D =
      λ n D i live. w.known name n D (a.live n D live) (inl (hint_used (f name) hints n i)) in (
        ((refl, refl, rup_renumbered (live_in (state_after F (lines_of name before)).live) (live_in M) (f name) C hints among own.1), tt),
        gives F before lines f M (insert M (top + 1) C) top (top + 1) name (Lemma number C hints) number (top + 1) C w (λ G. refl) (omega arith) (omega arith) (get_here M (top + 1) C)
            (λ id D low live. inserted_other M (top + 1) id C D (λ (same : id ≡ top + 1). omega arith) live)
            (λ id using. inr using),
      )
  line_holds before lines f M top (name, Import number C other there) e w = (
    tt,
    gives F before lines f M M top top name (Import number C other there) number (f other there) C w (λ G. refl) (omega arith) (w.bound other there)
        (w.known other there C (import_given before lines name number C other there e) (inl refl)) (λ id D low live. live) (λ id using. inr using),
  )
  line_holds before lines f M top (name, Deletion numbers) e w = (tt, passes F before lines f M top name (Deletion numbers) w (λ G. refl) (λ id using. inr using))
  line_holds before lines f M top (name, Clock time) e w = (tt, passes F before lines f M top name (Clock time) w (λ G. refl) (λ id using. inr using))

  log_holds : (before lines : List NamedLine) (f : Numbering) (M : ClauseMap) (top : ℕ) (steps : List Step) → whole ≡ before ++ lines
      → IsWeaving F before lines f M top → Weaves (length F.clauses) f M top lines steps → AreLogSteps (length F.clauses) M top steps
  log_holds before [] f M top [] e w ends = tt
  log_holds before _ f M top _ e w (takes {x = x} {lines = lines} {steps = steps} rest) =
      let (here, next) = line_holds before lines f M top x e w in
      log_append (length F.clauses) M top (written f top x) steps here
      (log_holds (before ++ x ∷ []) lines (numbering_after f top x) (after_steps M (written f top x)) (top_of top (written f top x)) steps (one_more before lines x e) next rest)
  log_holds before lines f M top _ e w (deletes {ids = ids} {steps = steps} step unused rest) =
      (step, log_holds before lines f (without M ids) top steps e (forgets F before lines f M top ids w unused) rest)

pub woven_logs_are_logs : WovenLogsAreLogs
woven_logs_are_logs F cell lines steps is order woven =
    log_holds F cell lines is order [] lines (own_numbers (length F.clauses)) (map_of F) (length F.clauses) steps refl (first_state F lines) woven
