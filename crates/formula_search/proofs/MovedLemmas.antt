-- What a search over the kept clauses says of the formula, if its log was handed on piece by piece behind the lines of the resolvents.
use Rattle.std.proofs.Common.{◌≡◌, ℕ, zero, suc, ◌+◌, ◌-◌, ◌^◌, ◌<◌, ◌≤◌, Bool, List, [], ◌∷◌, ◌++◌, length, map, slice_index_or, sym, ◌∙◌, ap, refl, subst, arith, append_assoc}
use Rattle.std.specs.List.{All, AllPairs}
use Rattle.std.proofs.lemmas.List.{append-nil, length-append, length-map, map-append}
use Rattle.std.proofs.lemmas.List.Elements.{All-cons, All-head, All-map, All-nil, All-tail}
use Rattle.std.proofs.lemmas.List.Kept.{AllPairs-cons}
use Rattle.dimacs.specs.logic.Cnf.{Cnf}
use Rattle.dimacs.specs.logic.ClauseMap.{ClauseMap, live_in, map_of}
use Rattle.dimacs.specs.logic.Literal.{Clause}
use Rattle.lrat_text.specs.Grammar.{LineSpellsWithin, IsStepWithin, IsClauseNumber}
use Rattle.lrat_text.specs.Log.{Cube, after_step, top_after, AreLogSteps, EndsAt, IsLog, Negates, additions, log_top, Closes}
use Rattle.lrat_text.specs.Runs.{after_steps}
use Rattle.lrat_text.specs.WrittenLine.{line_of, line_text}
use Rattle.lrat_text.specs.declared.step.Step.{Step}
use Rattle.lrat_text.specs.declared.step.Step.TheVariants.{Add, Delete}
use Rattle.lrat_text.proofs.CountingLemmas.{one_list_under}
use Rattle.lrat_text.proofs.LineLemmas.{spells_more, written_one_line_within, written_spells_within}
use Rattle.lrat_text.proofs.RunLemmas.{spells_append_within}
use Rattle.proof_join.specs.RenumberedSteps.{renumbered}
use Rattle.cube_solve.specs.Counts.{IsCounted, IsCountedToEnd}
use Rattle.cube_solve.specs.Outcome.{IsBrief, allowed}
use Rattle.cube_solve.specs.declared.observer.Counts.{Counts}
use Rattle.elimination.specs.Kept.{AddsResolvents, IsKept, IsLeftOf}
use Rattle.elimination.specs.declared.kept.Kept.{Kept}
use Rattle.renumbered_logs.specs.Renumbered.{behind_all, steps_behind, Avoids}
use Rattle.formula_search.specs.declared.streaming.Ending.{Ending}
use Rattle.formula_search.specs.inner.Streams.{AreCountsBehind, AreLines, IsMoved}
use Rattle.renumbered_logs.proofs.WholeLemmas.{whole_count, whole_fresh, whole_live, whole_log, whole_rises}

-- ---- lists
front_all : {X : Type 0} (P : X → Type 0) (xs ys : List X) → All P (xs ++ ys) → All P xs
front_all P [] ys h = All-nil P
front_all P (x ∷ xs) ys h = All-cons P x xs (All-head P x (xs ++ ys) h) (front_all P xs ys (All-tail P x (xs ++ ys) h))

last_all : {X : Type 0} (P : X → Type 0) (xs : List X) (y : X) → All P (xs ++ y ∷ []) → P y
last_all P [] y h = All-head P y [] h
last_all P (x ∷ xs) y h = last_all P xs y (All-tail P x (xs ++ y ∷ []) h)

pairs_tail : {X : Type 0} (R : X → X → Type 0) (x : X) (xs : List X) → AllPairs R (x ∷ xs) → AllPairs R xs
pairs_tail R x xs h = λ i j d lt b. h (suc i) (suc j) d (omega arith) (omega arith)

pairs_head : {X : Type 0} (R : X → X → Type 0) (x : X) (xs : List X) → AllPairs R (x ∷ xs) → All (R x) xs
pairs_head R x xs h = λ i d b. h zero (suc i) d (omega arith) (omega arith)

rising_map : (f : ℕ → ℕ) (low : ℕ) → ((n j : ℕ) → low < n → n < j → f n < f j) → (xs : List ℕ) → All (λ n. low < n) xs → AllPairs (λ x y. x < y) xs
    → AllPairs (λ x y. x < y) (map f xs)
rising_map f low rises [] above h = λ i j d lt b. absurd (omega arith)
rising_map f low rises (x ∷ xs) above h =
    let first : low < x = All-head (λ n. low < n) x xs above in
    let later : All (λ y. x < y) xs = pairs_head (λ a b. a < b) x xs h in
    AllPairs-cons (λ a b. a < b) (f x) (map f xs)
    (All-map (λ y. f x < y) f xs (λ i d b. rises x (slice_index_or xs i d) first (later i d b)))
    (rising_map f low rises xs (All-tail (λ n. low < n) x xs above) (pairs_tail (λ a b. a < b) x xs h))

log_front : (m : ℕ) (M : ClauseMap) (top : ℕ) (xs ys : List Step) → AreLogSteps m M top (xs ++ ys) → AreLogSteps m M top xs
log_front m M top [] ys h = tt
log_front m M top (x ∷ xs) ys h = (h.0, log_front m (after_step M x) (top_after top x) xs ys h.1)

-- ---- steps and lines under other numbers
step_within : (most high : ℕ) (f : ℕ → ℕ) (step : Step) → IsStepWithin most step → IsStepWithin high (renumbered f step) → IsStepWithin most (renumbered f step)
step_within most high f (Add id lits hints groups) own h = (h.0, own.1, h.2, h.3)
step_within most high f (Delete ids) own h = h

lines_spell : (most high : ℕ) → most < 2 ^ 48 → (f : ℕ → ℕ) (steps : List Step) (log file : List ℕ) → LineSpellsWithin most log steps → All (IsStepWithin high) (map (renumbered f) steps)
    → AreLines file (map (renumbered f) steps) → LineSpellsWithin most file (map (renumbered f) steps)
lines_spell most high few f [] log file h limits lines = lines
lines_spell most high few f (step ∷ steps) log file (line, rest, whole, one, first, more) limits (top, later, number, text, lines) =
    let new : Step = renumbered f step in
    let is : IsStepWithin most new = step_within most high f step first.limits (All-head (IsStepWithin high) new (map (renumbered f) steps) limits) in (
      line_text top new,
      later,
      text ∙ append_assoc (line_text top new) (10 ∷ []) later,
      written_one_line_within most few top new number is,
      written_spells_within most few top new number is,
      lines_spell most high few f steps rest later more (All-tail (IsStepWithin high) new (map (renumbered f) steps) limits) lines,
    )

-- the last line is one by itself
lines_last : (xs : List Step) (y : Step) (file : List ℕ) → AreLines file (xs ++ y ∷ []) → (front : List ℕ) × (top : ℕ) × (file ≡ front ++ line_of top y) × AreLines front xs
lines_last [] y file (top, rest, number, e, none) = ([], top, e ∙ ap (λ (t : List ℕ). line_of top y ++ t) none ∙ append-nil (line_of top y), refl)
lines_last (x ∷ xs) y file (top, rest, number, e, more) =
    let (front, last, is, lines) = lines_last xs y rest more in
    (line_of top x ++ front, last, e ∙ ap (λ (t : List ℕ). line_of top x ++ t) is ∙ sym (append_assoc (line_of top x) front (line_of last y)), (top, front, number, refl, lines))

negates_behind : (q : Cube) (f : ℕ → ℕ) (step : Step) → Negates q step → Negates q (renumbered f step)
negates_behind q f (Add id lits hints groups) h = h
negates_behind q f (Delete ids) h = h

ends_behind : (q : Cube) (f : ℕ → ℕ) (before steps : List Step) → EndsAt q steps → EndsAt q (before ++ map (renumbered f) steps)
ends_behind q f before steps (front, last, splits, negates) = (
  before ++ map (renumbered f) front,
  renumbered f last,
  ap (λ (xs : List Step). before ++ map (renumbered f) xs) splits
      ∙ ap (λ (xs : List Step). before ++ xs) (map-append (renumbered f) front (last ∷ []))
      ∙ sym (append_assoc before (map (renumbered f) front) (renumbered f last ∷ [])),
  negates_behind q f last negates,
)

-- ---- a search over the kept clauses, whose log was handed on behind the resolvents
module _ (F all kept : Cnf) (numbers : List ℕ) (gone : List Bool) (before : List ℕ) (a : AddsResolvents F all before) (k : IsKept all kept numbers gone)
    (few : F.vars ≤ 199999999) where
  abbrev place : ℕ → ℕ
  place = behind_all numbers (length all.clauses)

  low_top : log_top kept ≤ 199999999
  low_top = let v = k.vars in let w = a.vars in omega arith

  own : 199999999 < 2 ^ 48
  own = omega arith

  later_rises : (n j : ℕ) → length kept.clauses < n → n < j → place n < place j
  later_rises n j low lt = (whole_rises F all kept numbers gone before a k n j low lt).1

  later_above : (n : ℕ) → length kept.clauses < n → length F.clauses < place n
  later_above n low = (whole_rises F all kept numbers gone before a k n (n + 1) low (omega arith)).0

  module _ (log file : List ℕ) (m : IsMoved numbers (length all.clauses) gone log file) where
    same_steps : (steps : List Step) → LineSpellsWithin (log_top kept) log steps → m.steps ≡ steps
    same_steps steps s =
        let top : log_top kept < 2 ^ 48 = (let t = low_top in omega arith) in
        one_list_under 199999999 (log_top kept) own top log m.steps steps m.spelled s

    all_spelled : (steps : List Step) → LineSpellsWithin (log_top kept) log steps → LineSpellsWithin (log_top F) (before ++ file) (a.steps ++ steps_behind numbers (length all.clauses) steps)
    all_spelled steps s =
        let top : log_top F < 2 ^ 48 = omega arith in
        let is = same_steps steps s in
        let le : log_top kept ≤ log_top F = (let v = k.vars in let w = a.vars in omega arith) in
        spells_append_within (log_top F) before file a.steps (steps_behind numbers (length all.clauses) steps) a.spells
        (lines_spell (log_top F) 199999999 top place steps log file (spells_more (log_top kept) (log_top F) le log steps s)
        (subst (λ (xs : List Step). All (IsStepWithin 199999999) (steps_behind numbers (length all.clauses) xs)) is m.limits)
        (subst (λ (xs : List Step). AreLines file (steps_behind numbers (length all.clauses) xs)) is m.lines))

    counted_moved : (c d : Counts) → IsCounted kept c log → d.conflicts ≡ c.conflicts + additions a.steps → d.lemmas ≡ c.lemmas → IsCounted F d (before ++ file)
    counted_moved c d h conflicts lemmas = record {
      steps = a.steps ++ steps_behind numbers (length all.clauses) h.steps;
      spells = all_spelled h.steps h.spells;
      log = whole_log F all kept numbers gone before a k h.steps h.log;
      conflicts = (let e = whole_count F all kept numbers gone before a k h.steps in let f = h.conflicts in omega arith);
      numbers = map place h.numbers;
      live = record {
        rising = rising_map place (length kept.clauses) later_rises h.numbers (h.live).above (h.live).rising;
        above = All-map (λ n. length F.clauses < n) place h.numbers (λ i d b. later_above (slice_index_or h.numbers i d) ((h.live).above i d b));
        lives = All-map (λ n. (C : Clause) × live_in (after_steps (map_of F) (a.steps ++ steps_behind numbers (length all.clauses) h.steps)) n C) place h.numbers
            (λ i d b. let c = (h.live).lives i d b in (c.0, whole_live F all kept numbers gone before a k h.steps h.log (slice_index_or h.numbers i d) c.0 c.1));
      };
      lemmas = length-map h.numbers place ∙ h.lemmas ∙ sym lemmas;
    }

    closes_moved : Closes kept [] log → Closes F [] (before ++ file)
    closes_moved (steps, spells, is, ends) = (
      a.steps ++ steps_behind numbers (length all.clauses) steps,
      all_spelled steps spells,
      whole_log F all kept numbers gone before a k steps is,
      ends_behind [] place a.steps steps ends,
    )

    brief_moved : (n most : ℕ) → Closes kept [] log → IsBrief kept n log → n + additions a.steps ≤ most → IsBrief F most (before ++ file)
    brief_moved n most (steps, spells, is, ends) h room =
        let few_top : log_top kept < 2 ^ 48 = (let t = low_top in omega arith) in
        let same : steps ≡ h.front ++ h.last ∷ [] = one_list_under (log_top kept) (log_top kept) few_top few_top log steps (h.front ++ h.last ∷ []) spells h.spells in
        let early : List Step = steps_behind numbers (length all.clauses) h.front in
        let moved : steps_behind numbers (length all.clauses) (h.front ++ h.last ∷ []) ≡ early ++ renumbered place h.last ∷ [] = map-append (renumbered place) h.front (h.last ∷ []) in
        let joined : a.steps ++ steps_behind numbers (length all.clauses) (h.front ++ h.last ∷ []) ≡ (a.steps ++ early) ++ renumbered place h.last ∷ [] =
        ap (λ xs. a.steps ++ xs) moved ∙ sym (append_assoc a.steps early (renumbered place h.last ∷ [])) in
        let log_all : IsLog kept (h.front ++ h.last ∷ []) = subst (λ xs. IsLog kept xs) same is in
        let avoid : All (Avoids gone) (h.front ++ h.last ∷ []) = subst (λ xs. All (Avoids gone) xs) (same_steps (h.front ++ h.last ∷ []) h.spells) m.avoid in
        record {
          front = a.steps ++ early;
          last = renumbered place h.last;
          spells = subst (λ xs. LineSpellsWithin (log_top F) (before ++ file) xs) joined (all_spelled (h.front ++ h.last ∷ []) h.spells);
          count = (let e = whole_count F all kept numbers gone before a k (h.front ++ h.last ∷ []) in let f : additions (a.steps ++ steps_behind numbers (length all.clauses) (h.front ++ h.last ∷ [])) ≡ additions ((a.steps ++ early) ++ renumbered place h.last ∷ []) = ap additions joined in let b = h.count in omega arith);
          fresh = whole_fresh F all kept numbers gone before a k h.front (log_front (length kept.clauses) (map_of kept) (length kept.clauses) h.front (h.last ∷ []) log_all)
              (front_all (Avoids gone) h.front (h.last ∷ []) avoid) h.fresh;
        }

  module _ (log file : List ℕ) (m : IsMoved numbers (length all.clauses) gone log file) (c d : Counts) (h : IsCountedToEnd kept c log)
      (conflicts : d.conflicts ≡ c.conflicts + additions a.steps) (lemmas : d.lemmas ≡ c.lemmas) where
    abbrev closing : Step
    closing = Add h.id h.lits h.hints []

    before_spelled : LineSpellsWithin 199999999 h.before (h.counted).steps
    before_spelled = spells_more (log_top kept) 199999999 low_top h.before (h.counted).steps (h.counted).spells

    line_spelled : LineSpellsWithin 199999999 (line_of h.id closing) (closing ∷ [])
    line_spelled = (
      line_text h.id closing,
      [],
      refl,
      written_one_line_within 199999999 own h.id closing (h.limits).0 h.limits,
      written_spells_within 199999999 own h.id closing (h.limits).0 h.limits,
      refl,
    )

    spelled : LineSpellsWithin 199999999 log ((h.counted).steps ++ closing ∷ [])
    spelled = subst (λ t. LineSpellsWithin 199999999 t ((h.counted).steps ++ closing ∷ [])) (sym h.whole)
        (spells_append_within 199999999 h.before (line_of h.id closing) (h.counted).steps (closing ∷ []) before_spelled line_spelled)

    steps_are : m.steps ≡ (h.counted).steps ++ closing ∷ []
    steps_are = one_list_under 199999999 199999999 own own log m.steps ((h.counted).steps ++ closing ∷ []) m.spelled spelled

    abbrev early : List Step
    early = steps_behind numbers (length all.clauses) (h.counted).steps

    moved : steps_behind numbers (length all.clauses) m.steps ≡ early ++ renumbered place closing ∷ []
    moved = ap (λ xs. map (renumbered place) xs) steps_are ∙ map-append (renumbered place) (h.counted).steps (closing ∷ [])

    all_limits : All (IsStepWithin 199999999) (early ++ renumbered place closing ∷ [])
    all_limits = subst (λ xs. All (IsStepWithin 199999999) xs) moved m.limits

    parts : (front : List ℕ) × (top : ℕ) × (file ≡ front ++ line_of top (renumbered place closing)) × AreLines front early
    parts = lines_last early (renumbered place closing) file (subst (λ xs. AreLines file xs) moved m.lines)

    front_moved : IsMoved numbers (length all.clauses) gone h.before parts.0
    front_moved = record {
      steps = (h.counted).steps;
      spelled = before_spelled;
      avoid = front_all (Avoids gone) (h.counted).steps (closing ∷ []) (subst (λ xs. All (Avoids gone) xs) steps_are m.avoid);
      limits = front_all (IsStepWithin 199999999) early (renumbered place closing ∷ []) all_limits;
      lines = parts.3;
    }

    counted_to_end_moved : IsCountedToEnd F d (before ++ file)
    counted_to_end_moved = record {
      before = before ++ parts.0;
      counted = counted_moved h.before parts.0 front_moved c d h.counted conflicts lemmas;
      id = place h.id;
      lits = h.lits;
      hints = map place h.hints;
      limits = last_all (IsStepWithin 199999999) early (renumbered place closing) all_limits;
      whole = ap (λ (t : List ℕ). before ++ t) parts.2 ∙ sym (append_assoc before parts.0 (line_of (place h.id) (renumbered place closing)));
    }

-- ---- what is kept of a formula
module _ (F : Cnf) (k : Kept) (left : IsLeftOf F k) (few : F.vars ≤ 199999999) (some : 1 ≤ k.all) (high : k.all ≤ 2 ^ 47) (log file : List ℕ)
    (moved : IsMoved k.numbers.items k.all k.eliminated.items log file) (e : Ending) (c : Counts) (b : AreCountsBehind k.all (length F.clauses) k.lines e c) where
  among : IsMoved k.numbers.items (length (left.all).clauses) k.eliminated.items log file
  among = subst (λ n. IsMoved k.numbers.items n k.eliminated.items log file) (sym left.count) moved

  more_conflicts : c.conflicts ≡ e.counts.conflicts + additions (left.adds).steps
  more_conflicts = let d = b.conflicts in let n = left.count in let m = (left.adds).count in omega arith

  pub model_counted : IsCounted k.formula e.counts log → IsCounted F c (k.lines ++ file)
  model_counted h =
      counted_moved F left.all k.formula k.numbers.items k.eliminated.items k.lines left.adds left.kept few log file among e.counts c h more_conflicts b.lemmas

  pub refuted_behind : Closes k.formula [] log → IsBrief k.formula (allowed (2 ^ 47 - k.all) + 1) log → IsCountedToEnd k.formula e.counts log
      → Closes F [] (k.lines ++ file) × IsBrief F (allowed (2 ^ 47) + 1) (k.lines ++ file) × IsCountedToEnd F c (k.lines ++ file)
  refuted_behind closes brief counted =
      let n = left.count in
      let m = (left.adds).count in (
        closes_moved F left.all k.formula k.numbers.items k.eliminated.items k.lines left.adds left.kept few log file among closes,
        brief_moved F left.all k.formula k.numbers.items k.eliminated.items k.lines left.adds left.kept few log file among (allowed (2 ^ 47 - k.all) + 1) (allowed (2 ^ 47) + 1) closes brief (omega arith),
        counted_to_end_moved F left.all k.formula k.numbers.items k.eliminated.items k.lines left.adds left.kept few log file among e.counts c counted more_conflicts b.lemmas,
      )

  pub long_behind : length file ≡ e.bytes → length (k.lines ++ file) ≡ c.bytes
  long_behind long = length-append k.lines file ∙ ap (λ n. length k.lines + n) long ∙ sym b.bytes
