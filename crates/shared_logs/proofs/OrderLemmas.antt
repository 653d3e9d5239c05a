-- The lines of a cell have an order by the clock, and what they make of a formula: the next line is taken from a log whose clock is the lowest.
use Rattle.std.proofs.Common.{◌≡◌, ℕ, zero, suc, ◌+◌, ◌-◌, ◌<◌, ◌≤◌, inl, inr, ◌⊎◌, Bool, true, false, List, [], ◌∷◌, ◌++◌, length, bytes_eq, if◌then◌else◌, refl, sym, ◌∙◌, ap, subst, append_assoc, append-nil, length-append, arith}
use Rattle.std.specs.List.{Contains}
use Rattle.std.proofs.lemmas.Bool.{cases_lt}
use Rattle.std.proofs.lemmas.List.Elements.{Contains-append_cases}
use Rattle.std.proofs.lemmas.Slice.Eq.{bytes_eq-Decides}
use Rattle.dimacs.specs.logic.ClauseMap.{ClauseMap, map_of}
use Rattle.dimacs.proofs.Members.{Contains-head, Contains-cons, Contains-cons_cases, Contains-nil}
use Rattle.lrat_text.specs.Runs.{after_steps, top_of}
use Rattle.lrat_text.specs.declared.step.Step.{Step}
use Rattle.shared_logs.specs.SharedLogs.{SharedStep, SharedLog, Cell, clock_of}
use Rattle.shared_logs.specs.WovenLogs.{AgreeByName, AreAllLines, AreByClock, CellsCanBeWoven, HasMore, NamedLine, Numbering, Weaves, ends, takes, lines_of, numbering_after, own_numbers, written}
use Rattle.shared_logs.proofs.WovenLemmas.{lines_append}

-- ---- every list of lines makes some steps
weaving : (m : ℕ) (f : Numbering) (M : ClauseMap) (top : ℕ) (lines : List NamedLine) → (steps : List Step) × Weaves m f M top lines steps
weaving m f M top [] = ([], ends)
weaving m f M top (x ∷ lines) =
    let r = weaving m (numbering_after f top x) (after_steps M (written f top x)) (top_of top (written f top x)) lines in
    (written f top x ++ r.0, takes r.1)

-- ---- one line more
pub no_more : (T : List SharedStep) (next : SharedStep) (rest : List SharedStep) → T ≡ T ++ next ∷ rest → ⊥
no_more T next rest e =
    let same = ap length e in
    let sum = length-append T (next ∷ rest) in
    omega arith

last_split : (done before after : List NamedLine) (x y : NamedLine) → done ++ x ∷ [] ≡ before ++ y ∷ after
    → ((done ≡ before) × (x ≡ y)) ⊎ ((v : List NamedLine) × (done ≡ before ++ y ∷ v))
last_split [] [] after x y e = inl (refl, cc)
last_split [] (b ∷ []) after x y e = absurd cc
last_split [] (b ∷ c ∷ before) after x y e = absurd cc
last_split (d ∷ done) [] after x y e =
    let is : d ≡ y = cc in
    inr (done, ap (λ (z : NamedLine). z ∷ done) is)
last_split (d ∷ done) (b ∷ before) after x y e =
    let is : d ≡ b = cc in
    let rest : done ++ x ∷ [] ≡ before ++ y ∷ after = cc in
    elim (last_split done before after x y rest) [
      | inl (s, same) ↦ inl (ap (λ (ls : List NamedLine). d ∷ ls) s ∙ ap (λ (z : NamedLine). z ∷ before) is, same)
      | inr (v, s) ↦ inr (v, ap (λ (ls : List NamedLine). d ∷ ls) s ∙ ap (λ (z : NamedLine). z ∷ (before ++ y ∷ v)) is)
    ]

-- the number of lines that are left of these logs
left_of : List SharedLog → List NamedLine → ℕ
left_of [] done = 0
left_of (log ∷ logs) done = (length log.steps - length (lines_of log.name done)) + left_of logs done

longer : (name : List ℕ) (done : List NamedLine) (x : NamedLine)
    → ((x.0 ≡ name) × (lines_of name (done ++ x ∷ []) ≡ lines_of name done ++ x.1 ∷ [])) ⊎ ((x.0 ≡ name → ⊥) × (lines_of name (done ++ x ∷ []) ≡ lines_of name done))
longer name done x = at (bytes_eq x.0 name) refl (lines_append name done (x ∷ []))
  where
    at : (b : Bool) → bytes_eq x.0 name ≡ b → lines_of name (done ++ x ∷ []) ≡ lines_of name done ++ (if b then x.1 ∷ [] else [])
        → ((x.0 ≡ name) × (lines_of name (done ++ x ∷ []) ≡ lines_of name done ++ x.1 ∷ [])) ⊎ ((x.0 ≡ name → ⊥) × (lines_of name (done ++ x ∷ []) ≡ lines_of name done))
    at true e s = inl ((bytes_eq-Decides x.0 name).0 e, s)
    at false e s = inr (λ same. no (sym e ∙ (bytes_eq-Decides x.0 name).1 same), s ∙ append-nil (lines_of name done))
      where
        no : false ≡ true → ⊥
        no e = cc

never_more : (logs : List SharedLog) (done : List NamedLine) (x : NamedLine) → left_of logs (done ++ x ∷ []) ≤ left_of logs done
unfolding left_of
never_more [] done x = omega arith
never_more (log ∷ logs) done x =
    let later = never_more logs done x in
    elim (longer log.name done x) [
      | inl (e, s) ↦
          let long = ap length s in
          let sum = length-append (lines_of log.name done) (x.1 ∷ []) in
          omega arith
      | inr (apart, s) ↦ let long = ap length s in omega arith
    ]

-- a line of one of the logs was left
one_less : (logs : List SharedLog) (done : List NamedLine) (log : SharedLog) (next : SharedStep) (rest : List SharedStep) → Contains logs log
    → log.steps ≡ lines_of log.name done ++ next ∷ rest → left_of logs (done ++ (log.name, next) ∷ []) < left_of logs done
unfolding left_of
one_less [] done log next rest i splits = absurd (Contains-nil log i)
one_less (other ∷ logs) done log next rest i splits = elim (Contains-cons_cases other log logs i) [
  | inl e ↦ here e
  | inr i ↦
      let later = one_less logs done log next rest i splits in
      let head = never_more (other ∷ []) done (log.name, next) in
      omega arith
]
  where
    own : (log : SharedLog) → log.steps ≡ lines_of log.name done ++ next ∷ rest → length log.steps - length (lines_of log.name (done ++ (log.name, next) ∷ [])) < length log.steps - length (lines_of log.name done)
    own log splits = elim (longer log.name done (log.name, next)) [
      | inl (e, s) ↦
          let long = ap length s in
          let sum = length-append (lines_of log.name done) (next ∷ []) in
          let all = ap length splits in
          let parts = length-append (lines_of log.name done) (next ∷ rest) in
          omega arith
      | inr (apart, s) ↦ absurd (apart refl)
    ]

    here : other ≡ log → left_of (other ∷ logs) (done ++ (log.name, next) ∷ []) < left_of (other ∷ logs) done
    here e = subst (λ (o : SharedLog). left_of (o ∷ logs) (done ++ (log.name, next) ∷ []) < left_of (o ∷ logs) done) (sym e)
        (let l = own log splits in let later = never_more logs done (log.name, next) in omega arith)

module _ (cell : Cell) (agree : AgreeByName cell) where
  -- the log is as low as any of these that has a line left
  abbrev IsLowest : List SharedLog → List NamedLine → SharedLog → Type 0
  IsLowest logs done best = (log : SharedLog) → Contains logs log → HasMore log done → clock_of (lines_of best.name done) ≤ clock_of (lines_of log.name done)

  one_more : (done : List NamedLine) (best : SharedLog) (next : SharedStep) (rest : List SharedStep) → AreByClock cell done → Contains cell best
      → best.steps ≡ lines_of best.name done ++ next ∷ rest → IsLowest cell done best → AreByClock cell (done ++ (best.name, next) ∷ [])
  one_more done best next rest is within splits low = record {
    named = λ x i. elim (Contains-append_cases done ((best.name, next) ∷ []) x i) [
      | inl before ↦ is.named x before
      | inr last ↦ elim (Contains-cons_cases (best.name, next) x [] last) [
        | inl e ↦ (best, within, ap (λ (z : NamedLine). z.0) e)
        | inr none ↦ absurd (Contains-nil x none)
      ]
    ];
    firsts = λ log i. elim (longer log.name done (best.name, next)) [
      | inl (e, s) ↦ (
        rest,
        agree log best i within (sym e) ∙ splits ∙ ap (λ (name : List ℕ). lines_of name done ++ next ∷ rest) e ∙ sym (append_assoc (lines_of log.name done) (next ∷ []) rest)
            ∙ ap (λ (ls : List SharedStep). ls ++ rest) (sym s),
      )
      | inr (apart, s) ↦ let (left, e) = is.firsts log i in (left, e ∙ ap (λ (ls : List SharedStep). ls ++ left) (sym s))
    ];
    lowest = λ before after y e log i. elim (last_split done before after (best.name, next) y e) [
      | inl (s, same) ↦
          subst (λ (ls : List NamedLine). HasMore log ls → clock_of (lines_of y.0 ls) ≤ clock_of (lines_of log.name ls)) s
          (subst (λ (z : NamedLine). HasMore log done → clock_of (lines_of z.0 done) ≤ clock_of (lines_of log.name done)) same (low log i))
      | inr (v, s) ↦ is.lowest before v y s log i
    ];
  }

  least : (done : List NamedLine) → AreByClock cell done → (logs : List SharedLog) → ((log : SharedLog) → Contains logs log → Contains cell log)
      → ((log : SharedLog) → Contains logs log → log.steps ≡ lines_of log.name done) ⊎ ((best : SharedLog) × Contains logs best × HasMore best done × IsLowest logs done best)
  least done is [] among = inl (λ log i. absurd (Contains-nil log i))
  least done is (log ∷ logs) among = at (is.firsts log (among log (Contains-head log logs))) (least done is logs (λ other i. among other (Contains-cons log other logs i)))
    where
      ended : (other : SharedLog) → other.steps ≡ lines_of other.name done → HasMore other done → ⊥
      ended other e (next, rest, s) = no_more (lines_of other.name done) next rest (sym e ∙ s)

      at : (rest : List SharedStep) × (log.steps ≡ lines_of log.name done ++ rest)
          → ((other : SharedLog) → Contains logs other → other.steps ≡ lines_of other.name done) ⊎ ((best : SharedLog) × Contains logs best × HasMore best done × IsLowest logs done best)
          → ((other : SharedLog) → Contains (log ∷ logs) other → other.steps ≡ lines_of other.name done)
          ⊎ ((best : SharedLog) × Contains (log ∷ logs) best × HasMore best done × IsLowest (log ∷ logs) done best)
      at ([], e) (inl all) = inl (λ other i. elim (Contains-cons_cases log other logs i) [
        | inl same ↦ subst (λ (o : SharedLog). o.steps ≡ lines_of o.name done) same (e ∙ append-nil (lines_of log.name done))
        | inr i ↦ all other i
      ])
      at ([], e) (inr (best, i, more, low)) =
          inr (
            best,
            Contains-cons log best logs i,
            more,
            λ other j left. elim (Contains-cons_cases log other logs j) [
              | inl same ↦ absurd (ended log (e ∙ append-nil (lines_of log.name done)) (subst (λ (o : SharedLog). HasMore o done) (sym same) left))
              | inr j ↦ low other j left
            ],
          )
      at (next ∷ rest, e) (inl all) = inr (
        log,
        Contains-head log logs,
        (next, rest, e),
        λ other j left. elim (Contains-cons_cases log other logs j) [
          | inl same ↦ subst (λ (o : SharedLog). clock_of (lines_of log.name done) ≤ clock_of (lines_of o.name done)) same (omega arith)
          | inr j ↦ absurd (ended other (all other j) left)
        ],
      )
      at (next ∷ rest, e) (inr (best, i, more, low)) = elim (cases_lt (clock_of (lines_of log.name done)) (clock_of (lines_of best.name done))) [
        | inl less ↦ inr (
          log,
          Contains-head log logs,
          (next, rest, e),
          λ other j left. elim (Contains-cons_cases log other logs j) [
            | inl same ↦ subst (λ (o : SharedLog). clock_of (lines_of log.name done) ≤ clock_of (lines_of o.name done)) same (omega arith)
            | inr j ↦ let l = low other j left in omega arith
          ],
        )
        | inr up ↦ inr (
          best,
          Contains-cons log best logs i,
          more,
          λ other j left. elim (Contains-cons_cases log other logs j) [
            | inl same ↦ subst (λ (o : SharedLog). clock_of (lines_of best.name done) ≤ clock_of (lines_of o.name done)) same up
            | inr j ↦ low other j left
          ],
        )
      ]

  order_from : (n : ℕ) (done : List NamedLine) → AreByClock cell done → left_of cell done ≤ n → (lines : List NamedLine) × AreByClock cell lines × AreAllLines cell lines
  order_from zero done is bound = elim (least done is cell (λ log i. i)) [
    | inl all ↦ (done, is, all)
    | inr (best, i, (next, rest, e), low) ↦ let less = one_less cell done best next rest i e in absurd (omega arith)
  ]
  order_from (suc n) done is bound = elim (least done is cell (λ log i. i)) [
    | inl all ↦ (done, is, all)
    | inr (best, i, (next, rest, e), low) ↦
        let less = one_less cell done best next rest i e in
        order_from n (done ++ (best.name, next) ∷ []) (one_more done best next rest is i e low) (omega arith)
  ]

  no_line : AreByClock cell []
  no_line = record {
    named = λ x i. absurd (Contains-nil x i);
    firsts = λ log i. (log.steps, refl);
    lowest = λ before after x e. absurd (none before after x e);
  }
    where
      none : (before after : List NamedLine) (x : NamedLine) → [] ≡ before ++ x ∷ after → ⊥
      none [] after x e = cc
      none (b ∷ before) after x e = cc

pub cells_can_be_woven : CellsCanBeWoven
cells_can_be_woven F cell agree =
    let (lines, order, all) = order_from cell agree (left_of cell []) [] (no_line cell agree) (omega arith) in
    let w = weaving (length F.clauses) (own_numbers (length F.clauses)) (map_of F) (length F.clauses) lines in
    (lines, w.0, order, all, w.1)
