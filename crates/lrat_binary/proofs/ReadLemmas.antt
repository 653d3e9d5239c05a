-- What is read without a fault is spelled so.
use Rattle.std.proofs.Common.{◌≡◌, ◌⊎◌, ℕ, zero, suc, ◌+◌, ◌-◌, ◌*◌, ◌^◌, ◌<◌, ◌≤◌, ◌==◌, ◌&&◌, nat_lt, nat_le, Bool, true, false, cond, List, [], ◌∷◌, ◌++◌, map, length, Option, Some, None, inl, inr, refl, sym, ap, subst, ◌∙◌, arith, append_assoc, length-append}
use Rattle.std.specs.List.{All, flat_map}
use Rattle.std.proofs.lemmas.Bool.{ltb-true, ltb-false, leb-true, eqb-true, eq-eqb, and_parts, cases_lt, lt-ltb, true≢false}
use Rattle.std.proofs.lemmas.List.{append-nil, map-append}
use Rattle.std.proofs.lemmas.List.Elements.{All-nil, All-cons, All-push, All-head, All-tail}
use Rattle.std.proofs.lemmas.Grind.{flat_map-append}
use Rattle.dimacs.specs.logic.Literal.{Literal, Pos, Neg, IsWithin, index_of}
use Rattle.dimacs.specs.logic.Rat.{Group}
use Rattle.lrat_text.specs.Grammar.{IsClauseNumber, IsGroup, IsStepWithin}
use Rattle.lrat_text.specs.GroupLists.{with_hint}
use Rattle.lrat_text.specs.declared.fault.TextFault.{TextFault}
use Rattle.lrat_text.specs.declared.fault.TextFault.TheVariants.{BadToken, LineNotEnded, NumberTooLarge}
use Rattle.lrat_text.specs.declared.step.Step.{Step}
use Rattle.lrat_text.specs.declared.step.Step.TheVariants.{Add, Delete}
use Rattle.lrat_binary.specs.Grammar.{SpellsNumbers, Spells, SpellsWithin, clause_code, candidate_code, group_codes, step_codes, step_letter}
use Rattle.lrat_binary.specs.Parser.{StepPrefix, AtId, AtLiterals, AtHints, AtDeleted, BetweenSteps, BetweenStepsWithin, InStep, Outcome, Goes, Ends, Fails, ReadResult, token_of, number_taken, byte_taken, letter_taken, from_outcome, with_steps, read}
use Rattle.lrat_binary.proofs.StepSinkLemmas.{read-byte}
use Rattle.lrat_binary.proofs.TokenLemmas.{token_even, token_odd, token_cases}
use Rattle.lrat_binary.proofs.NumberLemmas.{Completes, completes_more, number_spelled, number_below}

abbrev full : List Step → ReadResult
full steps = (steps, None)

none_fails : {P : Type 0} (steps : List Step) (fault : TextFault) → ([], Some fault) ≡ full steps → P
none_fails steps fault e = let f : Some fault ≡ None = ap (λ (r : ReadResult). r.1) e in absurd cc

read-nil : (part : StepPrefix) (v w : ℕ) → read (InStep part v w) [] ≡ ([], Some LineNotEnded)
unfolding read
read-nil part v w = refl

read-none : (most : ℕ) → read (BetweenStepsWithin most) [] ≡ ([], None)
unfolding read
read-none most = refl

-- ---- a number at the front

record Front (part : StepPrefix) (v w : ℕ) (xs : List ℕ) (steps : List Step) : Type 0 where
  front : List ℕ
  rest : List ℕ
  number : ℕ
  splits : xs ≡ front ++ rest
  completes : Completes v w front number
  next : from_outcome (number_taken part (token_of number)) (λ next. read next rest) ≡ full steps

not_needless : (b w : ℕ) → (b == 0 && nat_lt 1 w) ≡ false → b ≡ 0 → w ≤ 1
not_needless b w e none = elim (cases_lt 1 w) [
  | inl more ↦ absurd (true≢false (sym (ap (λ (x : Bool). x && nat_lt 1 w) (eq-eqb b 0 none) ∙ lt-ltb 1 w more) ∙ e))
  | inr few ↦ few
]

by_byte : (part : StepPrefix) (b : ℕ) (bs : List ℕ) (v w : ℕ) (steps : List Step) → ((v w : ℕ) → read (InStep part v w) bs ≡ full steps → Front part v w bs steps)
    → from_outcome (byte_taken part v w b) (λ next. read next bs) ≡ full steps → Front part v w (b ∷ bs) steps
by_byte part b bs v w steps later e = at (nat_lt b 128) refl (b == 0 && nat_lt 1 w) refl (nat_lt w (2 ^ 42) && nat_lt b 256) refl e
  where
    at : (x : Bool) → nat_lt b 128 ≡ x → (y : Bool) → (b == 0 && nat_lt 1 w) ≡ y → (z : Bool) → (nat_lt w (2 ^ 42) && nat_lt b 256) ≡ z
        → from_outcome (cond x (cond y (Fails BadToken) (number_taken part (token_of (v + w * b)))) (cond z (Goes (InStep part (v + w * (b - 128)) (128 * w))) (Fails NumberTooLarge))) (λ next. read next bs) ≡ full steps
        → Front part v w (b ∷ bs) steps
    at true lt true ey z ez f = none_fails steps BadToken f
    at true lt false ey z ez f = record {
      front = b ∷ [];
      rest = bs;
      number = v + w * b;
      splits = refl;
      completes = (ltb-true b 128 lt, not_needless b w ey, refl);
      next = f;
    }
    at false ge y ey true ez f =
        let r = later (v + w * (b - 128)) (128 * w) f in
        let small = and_parts (nat_lt w (2 ^ 42)) (nat_lt b 256) ez in
        record {
          front = b ∷ r.front;
          rest = r.rest;
          number = r.number;
          splits = ap (λ (xs : List ℕ). b ∷ xs) r.splits;
          completes = completes_more v w b r.front r.number (ltb-false b 128 ge) (ltb-true b 256 small.1) (ltb-true w (2 ^ 42) small.0) r.completes;
          next = r.next;
        }
    at false ge y ey false ez f = none_fails steps NumberTooLarge f

number_read : (part : StepPrefix) (xs : List ℕ) (v w : ℕ) (steps : List Step) → read (InStep part v w) xs ≡ full steps → Front part v w xs steps
number_read part [] v w steps h = none_fails steps LineNotEnded (sym (read-nil part v w) ∙ h)
number_read part (b ∷ bs) v w steps h = by_byte part b bs v w steps (λ v' w' f. number_read part bs v' w' steps f) (sym (read-byte (InStep part v w) b bs) ∙ h)

-- ---- what came before the next number

abbrev pub lemma_codes : ℕ → List Literal → List ℕ
lemma_codes id lits = clause_code id ∷ (map index_of lits ++ 0 ∷ [])

abbrev pub reason_codes : List ℕ → List Group → List ℕ
reason_codes hints groups = map clause_code hints ++ flat_map group_codes groups

abbrev pub codes_of : StepPrefix → List ℕ
codes_of (AtId most) = []
codes_of (AtLiterals most id lits) = clause_code id ∷ map index_of lits
codes_of (AtHints most id lits hints groups) = lemma_codes id lits ++ reason_codes hints groups
codes_of (AtDeleted most ids) = map clause_code ids

abbrev pub letter_of : StepPrefix → ℕ
letter_of (AtId most) = 97
letter_of (AtLiterals most id lits) = 97
letter_of (AtHints most id lits hints groups) = 97
letter_of (AtDeleted most ids) = 100

abbrev pub most_of : StepPrefix → ℕ
most_of (AtId most) = most
most_of (AtLiterals most id lits) = most
most_of (AtHints most id lits hints groups) = most
most_of (AtDeleted most ids) = most

abbrev pub IsPrefix : StepPrefix → Type 0
IsPrefix (AtId most) = Unit {0}
IsPrefix (AtLiterals most id lits) = IsClauseNumber id × All (IsWithin most) lits
IsPrefix (AtHints most id lits hints groups) = IsClauseNumber id × All (IsWithin most) lits × All IsClauseNumber hints × All IsGroup groups
IsPrefix (AtDeleted most ids) = All IsClauseNumber ids

-- what a number does that stands next
data Move (part : StepPrefix) (n : ℕ) : Type 0 where
  goes : (next : StepPrefix) → number_taken part (token_of n) ≡ Goes (InStep next 0 1) → codes_of next ≡ codes_of part ++ n ∷ [] → IsPrefix next → letter_of next ≡ letter_of part → most_of next ≡ most_of part → Move part n
  ends : (step : Step) → number_taken part (token_of n) ≡ Ends (most_of part) step → step_codes step ≡ codes_of part ++ n ∷ [] → IsStepWithin (most_of part) step → step_letter step ≡ letter_of part → Move part n
  stops : (fault : TextFault) → number_taken part (token_of n) ≡ Fails fault → Move part n

with_hint_codes : (n : ℕ) (g : Group) (groups : List Group) → flat_map group_codes (with_hint n (g ∷ groups)) ≡ flat_map group_codes (g ∷ groups) ++ clause_code n ∷ []
with_hint_codes n g [] =
    ap (λ (xs : List ℕ). candidate_code g.0 ∷ xs) (append-nil (map clause_code (g.1 ++ n ∷ [])) ∙ map-append clause_code g.1 (n ∷ []) ∙ ap (λ (xs : List ℕ). xs ++ clause_code n ∷ []) (sym (append-nil (map clause_code g.1))))
with_hint_codes n g (h ∷ groups) =
    ap (λ (xs : List ℕ). group_codes g ++ xs) (with_hint_codes n h groups) ∙ sym (append_assoc (group_codes g) (flat_map group_codes (h ∷ groups)) (clause_code n ∷ []))

with_hint_limits : (n : ℕ) (g : Group) (groups : List Group) → IsClauseNumber n → All IsGroup (g ∷ groups) → All IsGroup (with_hint n (g ∷ groups))
with_hint_limits n g [] is h =
    let first : IsGroup g = All-head IsGroup g [] h in
    All-cons IsGroup (g.0, g.1 ++ n ∷ []) [] (first.0, All-push IsClauseNumber g.1 n first.1 is) (All-nil IsGroup)
with_hint_limits n g (h ∷ groups) is all =
    All-cons IsGroup g (with_hint n (h ∷ groups)) (All-head IsGroup g (h ∷ groups) all) (with_hint_limits n h groups is (All-tail IsGroup g (h ∷ groups) all))

-- ---- a number that is even

literal_even : (most id : ℕ) (lits : List Literal) (k : ℕ) → 1 ≤ k → IsPrefix (AtLiterals most id lits) → Move (AtLiterals most id lits) (2 * k)
literal_even most id lits k some is = at (nat_le k most) refl
  where
    at : (b : Bool) → nat_le k most ≡ b → Move (AtLiterals most id lits) (2 * k)
    at true le = goes (AtLiterals most id (lits ++ Pos k ∷ []))
        (ap (number_taken (AtLiterals most id lits)) (token_even k some) ∙ ap (λ (b : Bool). cond b (Goes (InStep (AtLiterals most id (lits ++ Pos k ∷ [])) 0 1)) (Fails NumberTooLarge)) le)
        (ap (λ (xs : List ℕ). clause_code id ∷ xs) (map-append index_of lits (Pos k ∷ []))) (is.0, All-push (IsWithin most) lits (Pos k) is.1 (some, leb-true k most le)) refl refl
    at false gt = stops NumberTooLarge (ap (number_taken (AtLiterals most id lits)) (token_even k some) ∙ ap (λ (b : Bool). cond b (Goes (InStep (AtLiterals most id (lits ++ Pos k ∷ [])) 0 1)) (Fails NumberTooLarge)) gt)

literal_odd : (most id : ℕ) (lits : List Literal) (k : ℕ) → 1 ≤ k → IsPrefix (AtLiterals most id lits) → Move (AtLiterals most id lits) (2 * k + 1)
literal_odd most id lits k some is = at (nat_le k most) refl
  where
    at : (b : Bool) → nat_le k most ≡ b → Move (AtLiterals most id lits) (2 * k + 1)
    at true le = goes (AtLiterals most id (lits ++ Neg k ∷ []))
        (ap (number_taken (AtLiterals most id lits)) (token_odd k some) ∙ ap (λ (b : Bool). cond b (Goes (InStep (AtLiterals most id (lits ++ Neg k ∷ [])) 0 1)) (Fails NumberTooLarge)) le)
        (ap (λ (xs : List ℕ). clause_code id ∷ xs) (map-append index_of lits (Neg k ∷ []))) (is.0, All-push (IsWithin most) lits (Neg k) is.1 (some, leb-true k most le)) refl refl
    at false gt = stops NumberTooLarge (ap (number_taken (AtLiterals most id lits)) (token_odd k some) ∙ ap (λ (b : Bool). cond b (Goes (InStep (AtLiterals most id (lits ++ Neg k ∷ [])) 0 1)) (Fails NumberTooLarge)) gt)

move_even : (part : StepPrefix) (k : ℕ) → IsClauseNumber k → IsPrefix part → Move part (2 * k)
move_even (AtId most) k h is = goes (AtLiterals most k []) (ap (number_taken (AtId most)) (token_even k h.0)) refl (h, All-nil (IsWithin most)) refl refl
move_even (AtLiterals most id lits) k h is = literal_even most id lits k h.0 is
move_even (AtHints most id lits hints []) k h is =
    goes (AtHints most id lits (hints ++ k ∷ []) []) (ap (number_taken (AtHints most id lits hints [])) (token_even k h.0))
    (ap (λ (xs : List ℕ). lemma_codes id lits ++ xs) (append-nil (map clause_code (hints ++ k ∷ [])) ∙ map-append clause_code hints (k ∷ []) ∙ ap (λ (xs : List ℕ). xs ++ (2 * k) ∷ []) (sym (append-nil (map clause_code hints))))
    ∙ sym (append_assoc (lemma_codes id lits) (reason_codes hints []) ((2 * k) ∷ [])))
    (is.0, is.1, All-push IsClauseNumber hints k is.2 h, is.3) refl refl
move_even (AtHints most id lits hints (g ∷ groups)) k h is =
    goes (AtHints most id lits hints (with_hint k (g ∷ groups))) (ap (number_taken (AtHints most id lits hints (g ∷ groups))) (token_even k h.0))
    (ap (λ (xs : List ℕ). lemma_codes id lits ++ (map clause_code hints ++ xs)) (with_hint_codes k g groups)
    ∙ ap (λ (xs : List ℕ). lemma_codes id lits ++ xs) (sym (append_assoc (map clause_code hints) (flat_map group_codes (g ∷ groups)) ((2 * k) ∷ [])))
    ∙ sym (append_assoc (lemma_codes id lits) (reason_codes hints (g ∷ groups)) ((2 * k) ∷ [])))
    (is.0, is.1, is.2, with_hint_limits k g groups h is.3) refl refl
move_even (AtDeleted most ids) k h is =
    goes (AtDeleted most (ids ++ k ∷ [])) (ap (number_taken (AtDeleted most ids)) (token_even k h.0)) (map-append clause_code ids (k ∷ [])) (All-push IsClauseNumber ids k is h) refl refl

move_odd : (part : StepPrefix) (k : ℕ) → IsClauseNumber k → IsPrefix part → Move part (2 * k + 1)
move_odd (AtId most) k h is = stops BadToken (ap (number_taken (AtId most)) (token_odd k h.0))
move_odd (AtLiterals most id lits) k h is = literal_odd most id lits k h.0 is
move_odd (AtHints most id lits hints groups) k h is =
    goes (AtHints most id lits hints (groups ++ (k, []) ∷ [])) (ap (number_taken (AtHints most id lits hints groups)) (token_odd k h.0))
    (ap (λ (xs : List ℕ). lemma_codes id lits ++ (map clause_code hints ++ xs)) (flat_map-append group_codes groups ((k, []) ∷ []))
    ∙ ap (λ (xs : List ℕ). lemma_codes id lits ++ xs) (sym (append_assoc (map clause_code hints) (flat_map group_codes groups) ((2 * k + 1) ∷ [])))
    ∙ sym (append_assoc (lemma_codes id lits) (reason_codes hints groups) ((2 * k + 1) ∷ [])))
    (is.0, is.1, is.2, All-push IsGroup groups (k, []) is.3 (h, All-nil IsClauseNumber)) refl refl
move_odd (AtDeleted most ids) k h is = stops BadToken (ap (number_taken (AtDeleted most ids)) (token_odd k h.0))

move_zero : (part : StepPrefix) → IsPrefix part → Move part 0
move_zero (AtId most) is = stops BadToken refl
move_zero (AtLiterals most id lits) is =
    goes (AtHints most id lits [] []) refl (append-nil (lemma_codes id lits)) (is.0, is.1, All-nil IsClauseNumber, All-nil IsGroup) refl refl
move_zero (AtHints most id lits hints groups) is =
    ends (Add id lits hints groups) refl
    (sym (append_assoc (lemma_codes id lits) (reason_codes hints groups) (0 ∷ []) ∙ append_assoc (clause_code id ∷ map index_of lits) (0 ∷ []) (reason_codes hints groups ++ 0 ∷ [])))
    is refl
move_zero (AtDeleted most ids) is = ends (Delete ids) refl refl is refl

move_one : (part : StepPrefix) → Move part 1
move_one (AtId most) = stops BadToken refl
move_one (AtLiterals most id lits) = stops BadToken refl
move_one (AtHints most id lits hints groups) = stops BadToken refl
move_one (AtDeleted most ids) = stops BadToken refl

move : (part : StepPrefix) (n : ℕ) → n < 2 ^ 49 → IsPrefix part → Move part n
move part n small is =
    elim (token_cases n) [
      | inl e ↦ subst (Move part) (sym e) (move_zero part is)
      | inr (inl e) ↦ subst (Move part) (sym e) (move_one part)
      | inr (inr (k, h)) ↦ by_half k h.some h.whole
    ]
  where
    by_half : (k : ℕ) → 1 ≤ k → (n ≡ 2 * k) ⊎ (n ≡ 2 * k + 1) → Move part n
    by_half k some (inl e) = subst (Move part) (sym e) (move_even part k (some, omega arith) is)
    by_half k some (inr e) = subst (Move part) (sym e) (move_odd part k (some, omega arith) is)

-- ---- a step

pub record Whole (part : StepPrefix) (xs : List ℕ) (steps : List Step) : Type 0 where
  pub codes : List ℕ
  pub front : List ℕ
  pub rest : List ℕ
  pub step : Step
  pub later : List Step
  pub splits : xs ≡ front ++ rest
  pub spelled : SpellsNumbers front codes
  pub whole : step_codes step ≡ codes_of part ++ codes
  pub limits : IsStepWithin (most_of part) step
  pub letter : step_letter step ≡ letter_of part
  pub given : steps ≡ step ∷ later
  pub next : read (BetweenStepsWithin (most_of part)) rest ≡ full later
  pub shorter : length rest < length xs

front_some : (v w : ℕ) (front : List ℕ) (n : ℕ) → Completes v w front n → 0 < length front
front_some v w [] n h = absurd h
front_some v w (b ∷ bs) n h = omega arith

module _ (part : StepPrefix) (xs : List ℕ) (steps : List Step) (f : Front part 0 1 xs steps) where
  rest_shorter : length f.rest < length xs
  rest_shorter = omega (arith, front_some 0 1 f.front f.number f.completes, ap length f.splits, length-append f.front f.rest)

  on_goes : (next : StepPrefix) → codes_of next ≡ codes_of part ++ f.number ∷ [] → letter_of next ≡ letter_of part → most_of next ≡ most_of part → Whole next f.rest steps → Whole part xs steps
  on_goes next codes letter same w = record {
    codes = f.number ∷ w.codes;
    front = f.front ++ w.front;
    rest = w.rest;
    step = w.step;
    later = w.later;
    splits = f.splits ∙ ap (λ (ys : List ℕ). f.front ++ ys) w.splits ∙ sym (append_assoc f.front w.front w.rest);
    spelled = (f.front, w.front, refl, number_spelled f.front f.number f.completes, w.spelled);
    whole = w.whole ∙ ap (λ (ys : List ℕ). ys ++ w.codes) codes ∙ append_assoc (codes_of part) (f.number ∷ []) w.codes;
    limits = subst (λ (m : ℕ). IsStepWithin m w.step) same w.limits;
    letter = w.letter ∙ letter;
    given = w.given;
    next = subst (λ (m : ℕ). read (BetweenStepsWithin m) w.rest ≡ full w.later) same w.next;
    shorter = omega (arith, w.shorter, rest_shorter);
  }

  on_ends : (step : Step) → step_codes step ≡ codes_of part ++ f.number ∷ [] → IsStepWithin (most_of part) step → step_letter step ≡ letter_of part → with_steps (step ∷ []) (read (BetweenStepsWithin (most_of part)) f.rest) ≡ full steps → Whole part xs steps
  on_ends step codes limits letter e = record {
    codes = f.number ∷ [];
    front = f.front;
    rest = f.rest;
    step = step;
    later = (read (BetweenStepsWithin (most_of part)) f.rest).0;
    splits = f.splits;
    spelled = (f.front, [], sym (append-nil f.front), number_spelled f.front f.number f.completes, refl);
    whole = codes;
    limits = limits;
    letter = letter;
    given = sym (ap (λ (r : ReadResult). r.0) e);
    next = ap (λ (o : Option TextFault). ((read (BetweenStepsWithin (most_of part)) f.rest).0, o)) (ap (λ (r : ReadResult). r.1) e);
    shorter = rest_shorter;
  }

  by_move : ((next : StepPrefix) → IsPrefix next → read (InStep next 0 1) f.rest ≡ full steps → Whole next f.rest steps) → Move part f.number → Whole part xs steps
  by_move later (goes next e codes is letter same) = on_goes next codes letter same (later next is (sym (ap (λ (o : Outcome). from_outcome o (λ next. read next f.rest)) e) ∙ f.next))
  by_move later (ends step e codes limits letter) = on_ends step codes limits letter (sym (ap (λ (o : Outcome). from_outcome o (λ next. read next f.rest)) e) ∙ f.next)
  by_move later (stops fault e) = none_fails steps fault (sym (ap (λ (o : Outcome). from_outcome o (λ next. read next f.rest)) e) ∙ f.next)

whole_read : (fuel : ℕ) (part : StepPrefix) (xs : List ℕ) (steps : List Step) → length xs ≤ fuel → IsPrefix part → read (InStep part 0 1) xs ≡ full steps → Whole part xs steps
whole_read zero part xs steps few is h =
    let f = number_read part xs 0 1 steps h in
    absurd (omega (arith, rest_shorter part xs steps f))
whole_read (suc fuel) part xs steps few is h =
    let f = number_read part xs 0 1 steps h in
    by_move part xs steps f (λ next is' h'. whole_read fuel next f.rest steps (omega (arith, rest_shorter part xs steps f)) is' h') (move part f.number (number_below f.front f.number f.completes) is)

-- ---- a proof

step_spelled : (b : ℕ) (bs : List ℕ) (steps : List Step) (part : StepPrefix) (w : Whole part bs steps) → codes_of part ≡ [] → b ≡ letter_of part → SpellsWithin (most_of part) w.rest w.later → SpellsWithin (most_of part) (b ∷ bs) steps
step_spelled b bs steps part w none letter spelled =
    subst (λ (ss : List Step). SpellsWithin (most_of part) (b ∷ bs) ss) (sym w.given) (
      b ∷ w.front,
      w.rest,
      ap (λ (ys : List ℕ). b ∷ ys) w.splits,
      (w.limits, letter ∙ sym w.letter, subst (SpellsNumbers w.front) (sym (w.whole ∙ ap (λ (ys : List ℕ). ys ++ w.codes) none)) w.spelled),
      spelled,
    )

by_letter : (most b : ℕ) (bs : List ℕ) (steps : List Step) → ((part : StepPrefix) → IsPrefix part → codes_of part ≡ [] → b ≡ letter_of part → most_of part ≡ most → read (InStep part 0 1) bs ≡ full steps → SpellsWithin most (b ∷ bs) steps)
    → from_outcome (letter_taken most b) (λ next. read next bs) ≡ full steps → SpellsWithin most (b ∷ bs) steps
by_letter most b bs steps later h = at (b == 97) refl (b == 100) refl h
  where
    at : (x : Bool) → b == 97 ≡ x → (y : Bool) → b == 100 ≡ y
        → from_outcome (cond x (Goes (InStep (AtId most) 0 1)) (cond y (Goes (InStep (AtDeleted most []) 0 1)) (Fails BadToken))) (λ next. read next bs) ≡ full steps → SpellsWithin most (b ∷ bs) steps
    at true is y other e = later (AtId most) tt refl (eqb-true b 97 is) refl e
    at false is true other e = later (AtDeleted most []) (All-nil IsClauseNumber) refl (eqb-true b 100 other) refl e
    at false is false other e = none_fails steps BadToken e

found : (most fuel : ℕ) (xs : List ℕ) (steps : List Step) → length xs ≤ fuel → read (BetweenStepsWithin most) xs ≡ full steps → SpellsWithin most xs steps
found most fuel [] steps few h = subst (λ (ss : List Step). SpellsWithin most [] ss) (ap (λ (r : ReadResult). r.0) (sym (read-none most) ∙ h)) refl
found most zero (b ∷ bs) steps few h = absurd (omega arith)
found most (suc fuel) (b ∷ bs) steps few h =
    by_letter most b bs steps
    (λ part is none letter same e.
    let w = whole_read fuel part bs steps (omega arith) is e in
    subst (λ (m : ℕ). SpellsWithin m (b ∷ bs) steps) same (step_spelled b bs steps part w none letter (found (most_of part) fuel w.rest w.later (omega (arith, w.shorter)) w.next)))
    (sym (read-byte (BetweenStepsWithin most) b bs) ∙ h)

pub found_spells_within : (most : ℕ) (bytes : List ℕ) (steps : List Step) → read (BetweenStepsWithin most) bytes ≡ full steps → SpellsWithin most bytes steps
found_spells_within most bytes steps h = found most (length bytes) bytes steps (omega arith) h

pub found_spells : (bytes : List ℕ) (steps : List Step) → read BetweenSteps bytes ≡ full steps → Spells bytes steps
found_spells bytes steps h = found_spells_within 2000000 bytes steps h
