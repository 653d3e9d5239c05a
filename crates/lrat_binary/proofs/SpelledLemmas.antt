-- What bytes spell is read, and no fault.
use Rattle.std.proofs.Common.{◌≡◌, ℕ, ◌+◌, ◌-◌, ◌*◌, ◌^◌, ◌<◌, ◌≤◌, ◌==◌, ◌&&◌, nat_lt, nat_le, Bool, cond, List, [], ◌∷◌, ◌++◌, map, None, inl, inr, refl, sym, ap, subst, ◌∙◌, arith, append_assoc}
use Rattle.std.specs.List.{AllByRecursion, flat_map}
use Rattle.std.proofs.lemmas.Bool.{lt-ltb, le-ltb, le-leb, ne_eqb, and_from, and_left, and_right, cases_eq}
use Rattle.std.proofs.lemmas.List.{append-nil}
use Rattle.std.proofs.lemmas.List.Elements.{recursion_from_All}
use Rattle.dimacs.specs.logic.Literal.{Literal, Pos, Neg, IsWithin, index_of}
use Rattle.dimacs.specs.logic.Rat.{Group}
use Rattle.lrat_text.specs.Grammar.{IsClauseNumber, IsGroup, IsStepWithin}
use Rattle.lrat_text.specs.GroupLists.{with_hint}
use Rattle.lrat_text.specs.declared.fault.TextFault.TheVariants.{BadToken, NumberTooLarge}
use Rattle.lrat_text.specs.declared.step.Step.{Step}
use Rattle.lrat_text.specs.declared.step.Step.TheVariants.{Add, Delete}
use Rattle.lrat_text.proofs.ReadStepLemmas.{with_hint_last}
use Rattle.lrat_binary.specs.Grammar.{SpellsNumber, SpellsNumbers, SpellsStepWithin, Spells, SpellsWithin, clause_code, group_codes, step_codes}
use Rattle.lrat_binary.specs.Parser.{StepPrefix, AtId, AtLiterals, AtHints, AtDeleted, BetweenSteps, BetweenStepsWithin, InStep, Outcome, Goes, Ends, Fails, token_of, hint_taken, number_taken, byte_taken, from_outcome, with_steps, read}
use Rattle.lrat_binary.proofs.StepSinkLemmas.{read-byte}
use Rattle.lrat_binary.proofs.TokenLemmas.{token_even, token_odd}
use Rattle.lrat_binary.proofs.NumberLemmas.{Completes, number_completes}

-- ---- a number at the front

module _ (part : StepPrefix) where
  last_byte : (b v w : ℕ) → b < 128 → (b ≡ 0 → w ≤ 1) → byte_taken part v w b ≡ number_taken part (token_of (v + w * b))
  last_byte b v w few needed =
      ap (λ (x : Bool). cond x (cond (b == 0 && nat_lt 1 w) (Fails BadToken) (number_taken part (token_of (v + w * b)))) (cond (nat_lt w (2 ^ 42) && nat_lt b 256) (Goes (InStep part (v + w * (b - 128)) (128 * w))) (Fails NumberTooLarge))) (lt-ltb b 128 few)
      ∙ ap (λ (x : Bool). cond x (Fails BadToken) (number_taken part (token_of (v + w * b)))) (elim (cases_eq b 0) [ inl e ↦ and_right (b == 0) (nat_lt 1 w) (le-ltb 1 w (needed e)) | inr other ↦ and_left (b == 0) (nat_lt 1 w) (ne_eqb b 0 other) ])

  other_byte : (b v w : ℕ) → 128 ≤ b → b < 256 → w < 2 ^ 42 → byte_taken part v w b ≡ Goes (InStep part (v + w * (b - 128)) (128 * w))
  other_byte b v w many few small =
      ap (λ (x : Bool). cond x (cond (b == 0 && nat_lt 1 w) (Fails BadToken) (number_taken part (token_of (v + w * b)))) (cond (nat_lt w (2 ^ 42) && nat_lt b 256) (Goes (InStep part (v + w * (b - 128)) (128 * w))) (Fails NumberTooLarge))) (le-ltb b 128 many)
      ∙ ap (λ (x : Bool). cond x (Goes (InStep part (v + w * (b - 128)) (128 * w))) (Fails NumberTooLarge)) (and_from (nat_lt w (2 ^ 42)) (nat_lt b 256) (lt-ltb w (2 ^ 42) small) (lt-ltb b 256 few))

  pub number_at : (bytes : List ℕ) (v w n : ℕ) (more : List ℕ) → Completes v w bytes n → read (InStep part v w) (bytes ++ more) ≡ from_outcome (number_taken part (token_of n)) (λ next. read next more)
  number_at [] v w n more h = absurd h
  number_at (b ∷ []) v w n more h =
      read-byte (InStep part v w) b more
      ∙ ap (λ (o : Outcome). from_outcome o (λ next. read next more)) (last_byte b v w h.0 h.1 ∙ ap (λ (x : ℕ). number_taken part (token_of x)) (sym h.2))
  number_at (b ∷ c ∷ bs) v w n more h =
      read-byte (InStep part v w) b (c ∷ bs ++ more)
      ∙ ap (λ (o : Outcome). from_outcome o (λ next. read next (c ∷ bs ++ more))) (other_byte b v w h.0 h.1 h.2)
      ∙ number_at (c ∷ bs) (v + w * (b - 128)) (128 * w) n more h.3

  one_at : (bytes front rest : List ℕ) (n : ℕ) (outcome : Outcome) (more : List ℕ) → bytes ≡ front ++ rest → SpellsNumber front n → n < 2 ^ 49 → number_taken part (token_of n) ≡ outcome
      → read (InStep part 0 1) (bytes ++ more) ≡ from_outcome outcome (λ next. read next (rest ++ more))
  one_at bytes front rest n outcome more splits spells small taken =
      ap (λ (xs : List ℕ). read (InStep part 0 1) (xs ++ more)) splits
      ∙ ap (read (InStep part 0 1)) (append_assoc front rest more)
      ∙ number_at front 0 1 n (rest ++ more) (number_completes front n small spells)
      ∙ ap (λ (o : Outcome). from_outcome o (λ next. read next (rest ++ more))) taken

-- ---- numbers in a row

-- the first numbers lead from one part to another, and others are left
record Passes (part : StepPrefix) (bytes : List ℕ) (next : StepPrefix) (codes : List ℕ) : Type 0 where
  rest : List ℕ
  spelled : SpellsNumbers rest codes
  reads : (more : List ℕ) → read (InStep part 0 1) (bytes ++ more) ≡ read (InStep next 0 1) (rest ++ more)

passes_none : (part next : StepPrefix) (bytes codes : List ℕ) → part ≡ next → SpellsNumbers bytes codes → Passes part bytes next codes
passes_none part next bytes codes e spelled = record { rest = bytes; spelled = spelled; reads = λ more. ap (λ (p : StepPrefix). read (InStep p 0 1) (bytes ++ more)) e }

passes_one : (part next : StepPrefix) (bytes front rest : List ℕ) (n : ℕ) (last : StepPrefix) (codes : List ℕ) → bytes ≡ front ++ rest → SpellsNumber front n → n < 2 ^ 49 → number_taken part (token_of n) ≡ Goes (InStep next 0 1)
    → Passes next rest last codes → Passes part bytes last codes
passes_one part next bytes front rest n last codes splits spells small taken p = record {
  rest = p.rest;
  spelled = p.spelled;
  reads = λ more. one_at part bytes front rest n (Goes (InStep next 0 1)) more splits spells small taken ∙ p.reads more;
}

-- and on
passes_on : (part : StepPrefix) (bytes : List ℕ) (next : StepPrefix) (codes : List ℕ) (last : StepPrefix) (others : List ℕ) (p : Passes part bytes next codes) → Passes next p.rest last others → Passes part bytes last others
passes_on part bytes next codes last others p q = record { rest = q.rest; spelled = q.spelled; reads = λ more. p.reads more ∙ q.reads more }

within_back : (most n : ℕ) (x y : Outcome) → n ≤ most → cond (nat_le n most) x y ≡ x
within_back most n x y h = ap (λ (b : Bool). cond b x y) (le-leb n most h)

pub literal_taken_as : (most id : ℕ) (lits : List Literal) (l : Literal) → IsWithin most l → number_taken (AtLiterals most id lits) (token_of (index_of l)) ≡ Goes (InStep (AtLiterals most id (lits ++ l ∷ [])) 0 1)
literal_taken_as most id lits (Pos v) h = ap (number_taken (AtLiterals most id lits)) (token_even v h.0) ∙ within_back most v (Goes (InStep (AtLiterals most id (lits ++ Pos v ∷ [])) 0 1)) (Fails NumberTooLarge) h.1
literal_taken_as most id lits (Neg v) h = ap (number_taken (AtLiterals most id lits)) (token_odd v h.0) ∙ within_back most v (Goes (InStep (AtLiterals most id (lits ++ Neg v ∷ [])) 0 1)) (Fails NumberTooLarge) h.1

literal_below : (most : ℕ) → most < 2 ^ 48 → (l : Literal) → IsWithin most l → index_of l < 2 ^ 49
literal_below most few (Pos v) h = omega (arith, few, h.1)
literal_below most few (Neg v) h = omega (arith, few, h.1)

literals_pass : (most : ℕ) → most < 2 ^ 48 → (id : ℕ) (more lits : List Literal) (bytes codes : List ℕ) → AllByRecursion (IsWithin most) more → SpellsNumbers bytes (map index_of more ++ codes) → Passes (AtLiterals most id lits) bytes (AtLiterals most id (lits ++ more)) codes
literals_pass most few id [] lits bytes codes h spelled = passes_none (AtLiterals most id lits) (AtLiterals most id (lits ++ [])) bytes codes (ap (AtLiterals most id) (sym (append-nil lits))) spelled
literals_pass most few id (l ∷ more) lits bytes codes h (front, rest, splits, number, spelled) =
    let r : Passes (AtLiterals most id (lits ++ l ∷ [])) rest (AtLiterals most id ((lits ++ l ∷ []) ++ more)) codes = literals_pass most few id more (lits ++ l ∷ []) rest codes h.1 spelled in
    passes_one (AtLiterals most id lits) (AtLiterals most id (lits ++ l ∷ [])) bytes front rest (index_of l) (AtLiterals most id (lits ++ l ∷ more)) codes splits number (literal_below most few l h.0) (literal_taken_as most id lits l h.0)
    (subst (λ (ls : List Literal). Passes (AtLiterals most id (lits ++ l ∷ [])) rest (AtLiterals most id ls) codes) (append_assoc lits (l ∷ []) more) r)

deleted_pass : (most : ℕ) (more ids : List ℕ) (bytes codes : List ℕ) → AllByRecursion IsClauseNumber more → SpellsNumbers bytes (map clause_code more ++ codes) → Passes (AtDeleted most ids) bytes (AtDeleted most (ids ++ more)) codes
deleted_pass most [] ids bytes codes h spelled = passes_none (AtDeleted most ids) (AtDeleted most (ids ++ [])) bytes codes (ap (AtDeleted most) (sym (append-nil ids))) spelled
deleted_pass most (n ∷ more) ids bytes codes h (front, rest, splits, number, spelled) =
    let r : Passes (AtDeleted most (ids ++ n ∷ [])) rest (AtDeleted most ((ids ++ n ∷ []) ++ more)) codes = deleted_pass most more (ids ++ n ∷ []) rest codes h.1 spelled in
    passes_one (AtDeleted most ids) (AtDeleted most (ids ++ n ∷ [])) bytes front rest (2 * n) (AtDeleted most (ids ++ n ∷ more)) codes splits number (omega (arith, h.0.1)) (ap (number_taken (AtDeleted most ids)) (token_even n h.0.0))
    (subst (λ (ns : List ℕ). Passes (AtDeleted most (ids ++ n ∷ [])) rest (AtDeleted most ns) codes) (append_assoc ids (n ∷ []) more) r)

module _ (most id : ℕ) (lits : List Literal) where
  hints_pass : (more hints : List ℕ) (bytes codes : List ℕ) → AllByRecursion IsClauseNumber more → SpellsNumbers bytes (map clause_code more ++ codes) → Passes (AtHints most id lits hints []) bytes (AtHints most id lits (hints ++ more) []) codes
  hints_pass [] hints bytes codes h spelled = passes_none (AtHints most id lits hints []) (AtHints most id lits (hints ++ []) []) bytes codes (ap (λ (ns : List ℕ). AtHints most id lits ns []) (sym (append-nil hints))) spelled
  hints_pass (n ∷ more) hints bytes codes h (front, rest, splits, number, spelled) =
      let r : Passes (AtHints most id lits (hints ++ n ∷ []) []) rest (AtHints most id lits ((hints ++ n ∷ []) ++ more) []) codes = hints_pass more (hints ++ n ∷ []) rest codes h.1 spelled in
      passes_one (AtHints most id lits hints []) (AtHints most id lits (hints ++ n ∷ []) []) bytes front rest (2 * n) (AtHints most id lits (hints ++ n ∷ more) []) codes splits number (omega (arith, h.0.1)) (ap (number_taken (AtHints most id lits hints [])) (token_even n h.0.0))
      (subst (λ (ns : List ℕ). Passes (AtHints most id lits (hints ++ n ∷ []) []) rest (AtHints most id lits ns []) codes) (append_assoc hints (n ∷ []) more) r)

  module _ (hints : List ℕ) where
    -- a hint of the last of some groups
    hint_taken_last : (n : ℕ) (groups : List Group) (c : ℕ) (hs : List ℕ) → hint_taken most id lits hints (groups ++ (c, hs) ∷ []) n ≡ Goes (InStep (AtHints most id lits hints (with_hint n (groups ++ (c, hs) ∷ []))) 0 1)
    hint_taken_last n [] c hs = refl
    hint_taken_last n (g ∷ groups) c hs = refl

    group_pass : (more : List ℕ) (groups : List Group) (c : ℕ) (hs : List ℕ) (bytes codes : List ℕ) → AllByRecursion IsClauseNumber more → SpellsNumbers bytes (map clause_code more ++ codes)
        → Passes (AtHints most id lits hints (groups ++ (c, hs) ∷ [])) bytes (AtHints most id lits hints (groups ++ (c, hs ++ more) ∷ [])) codes
    group_pass [] groups c hs bytes codes h spelled =
        passes_none (AtHints most id lits hints (groups ++ (c, hs) ∷ [])) (AtHints most id lits hints (groups ++ (c, hs ++ []) ∷ [])) bytes codes (ap (λ (ns : List ℕ). AtHints most id lits hints (groups ++ (c, ns) ∷ [])) (sym (append-nil hs))) spelled
    group_pass (n ∷ more) groups c hs bytes codes h (front, rest, splits, number, spelled) =
        let r : Passes (AtHints most id lits hints (groups ++ (c, hs ++ n ∷ []) ∷ [])) rest (AtHints most id lits hints (groups ++ (c, (hs ++ n ∷ []) ++ more) ∷ [])) codes = group_pass more groups c (hs ++ n ∷ []) rest codes h.1 spelled in
        passes_one (AtHints most id lits hints (groups ++ (c, hs) ∷ [])) (AtHints most id lits hints (groups ++ (c, hs ++ n ∷ []) ∷ [])) bytes front rest (2 * n) (AtHints most id lits hints (groups ++ (c, hs ++ n ∷ more) ∷ [])) codes splits number (omega (arith, h.0.1))
        (ap (number_taken (AtHints most id lits hints (groups ++ (c, hs) ∷ []))) (token_even n h.0.0) ∙ hint_taken_last n groups c hs ∙ ap (λ (gs : List Group). Goes (InStep (AtHints most id lits hints gs) 0 1)) (with_hint_last n groups c hs))
        (subst (λ (ns : List ℕ). Passes (AtHints most id lits hints (groups ++ (c, hs ++ n ∷ []) ∷ [])) rest (AtHints most id lits hints (groups ++ (c, ns) ∷ [])) codes) (append_assoc hs (n ∷ []) more) r)

    groups_pass : (more groups : List Group) (bytes codes : List ℕ) → AllByRecursion IsGroup more → SpellsNumbers bytes (flat_map group_codes more ++ codes) → Passes (AtHints most id lits hints groups) bytes (AtHints most id lits hints (groups ++ more)) codes
    groups_pass [] groups bytes codes h spelled = passes_none (AtHints most id lits hints groups) (AtHints most id lits hints (groups ++ [])) bytes codes (ap (AtHints most id lits hints) (sym (append-nil groups))) spelled
    groups_pass (g ∷ more) groups bytes codes h (front, rest, splits, number, spelled) =
        let others : List ℕ = flat_map group_codes more ++ codes in
        let is : SpellsNumbers rest (map clause_code g.1 ++ others) = subst (SpellsNumbers rest) (append_assoc (map clause_code g.1) (flat_map group_codes more) codes) spelled in
        let p : Passes (AtHints most id lits hints (groups ++ (g.0, []) ∷ [])) rest (AtHints most id lits hints (groups ++ (g.0, g.1) ∷ [])) others = group_pass g.1 groups g.0 [] rest others (recursion_from_All IsClauseNumber g.1 h.0.1) is in
        let q : Passes (AtHints most id lits hints (groups ++ (g.0, g.1) ∷ [])) p.rest (AtHints most id lits hints ((groups ++ (g.0, g.1) ∷ []) ++ more)) codes = groups_pass more (groups ++ (g.0, g.1) ∷ []) p.rest codes h.1 p.spelled in
        passes_one (AtHints most id lits hints groups) (AtHints most id lits hints (groups ++ (g.0, []) ∷ [])) bytes front rest (2 * g.0 + 1) (AtHints most id lits hints (groups ++ g ∷ more)) codes splits number (omega (arith, h.0.0.1))
        (ap (number_taken (AtHints most id lits hints groups)) (token_odd g.0 h.0.0.0))
        (subst (λ (gs : List Group). Passes (AtHints most id lits hints (groups ++ (g.0, []) ∷ [])) rest (AtHints most id lits hints gs) codes) (append_assoc groups ((g.0, g.1) ∷ []) more)
        (passes_on (AtHints most id lits hints (groups ++ (g.0, []) ∷ [])) rest (AtHints most id lits hints (groups ++ (g.0, g.1) ∷ [])) others (AtHints most id lits hints ((groups ++ (g.0, g.1) ∷ []) ++ more)) codes p q))

-- ---- a step

-- the last number of a step
ends_by : (most : ℕ) (part : StepPrefix) (step : Step) (bytes : List ℕ) (more : List ℕ) → number_taken part (token_of 0) ≡ Ends most step → SpellsNumbers bytes (0 ∷ []) → read (InStep part 0 1) (bytes ++ more) ≡ with_steps (step ∷ []) (read (BetweenStepsWithin most) more)
ends_by most part step bytes more e (front, rest, splits, number, none) =
    one_at part bytes front rest 0 (Ends most step) more splits number (omega arith) e ∙ ap (λ (xs : List ℕ). with_steps (step ∷ []) (read (BetweenStepsWithin most) (xs ++ more))) none

addition_at : (most : ℕ) → most < 2 ^ 48 → (id : ℕ) (lits : List Literal) (hints : List ℕ) (groups : List Group) (bytes more : List ℕ) → IsStepWithin most (Add id lits hints groups) → SpellsNumbers bytes (step_codes (Add id lits hints groups))
    → read (InStep (AtId most) 0 1) (bytes ++ more) ≡ with_steps (Add id lits hints groups ∷ []) (read (BetweenStepsWithin most) more)
addition_at most few id lits hints groups bytes more h (front, rest, splits, number, spelled) =
    let p : Passes (AtLiterals most id []) rest (AtLiterals most id lits) (0 ∷ (map clause_code hints ++ flat_map group_codes groups ++ 0 ∷ []))
    = literals_pass most few id lits [] rest (0 ∷ (map clause_code hints ++ flat_map group_codes groups ++ 0 ∷ [])) (recursion_from_All (IsWithin most) lits h.1) spelled in
    let first = one_at (AtId most) bytes front rest (2 * id) (Goes (InStep (AtLiterals most id []) 0 1)) more splits number (omega (arith, h.0.1)) (ap (number_taken (AtId most)) (token_even id h.0.0)) in
    first ∙ p.reads more ∙ reasons p.rest p.spelled
  where
    reasons : (xs : List ℕ) → SpellsNumbers xs (0 ∷ (map clause_code hints ++ flat_map group_codes groups ++ 0 ∷ [])) → read (InStep (AtLiterals most id lits) 0 1) (xs ++ more) ≡ with_steps (Add id lits hints groups ∷ []) (read (BetweenStepsWithin most) more)
    reasons xs (zero_front, left, cut, end, others) =
        let is : SpellsNumbers left (map clause_code hints ++ (flat_map group_codes groups ++ 0 ∷ [])) = subst (SpellsNumbers left) (append_assoc (map clause_code hints) (flat_map group_codes groups) (0 ∷ [])) others in
        let q : Passes (AtHints most id lits [] []) left (AtHints most id lits hints []) (flat_map group_codes groups ++ 0 ∷ []) = hints_pass most id lits hints [] left (flat_map group_codes groups ++ 0 ∷ []) (recursion_from_All IsClauseNumber hints h.2) is in
        let r : Passes (AtHints most id lits hints []) q.rest (AtHints most id lits hints groups) (0 ∷ []) = groups_pass most id lits hints groups [] q.rest (0 ∷ []) (recursion_from_All IsGroup groups h.3) q.spelled in
        one_at (AtLiterals most id lits) xs zero_front left 0 (Goes (InStep (AtHints most id lits [] []) 0 1)) more cut end (omega arith) refl
        ∙ q.reads more ∙ r.reads more ∙ ends_by most (AtHints most id lits hints groups) (Add id lits hints groups) r.rest more refl r.spelled

deletion_at : (most : ℕ) (ids bytes more : List ℕ) → IsStepWithin most (Delete ids) → SpellsNumbers bytes (step_codes (Delete ids)) → read (InStep (AtDeleted most []) 0 1) (bytes ++ more) ≡ with_steps (Delete ids ∷ []) (read (BetweenStepsWithin most) more)
deletion_at most ids bytes more h spelled =
    let p : Passes (AtDeleted most []) bytes (AtDeleted most ids) (0 ∷ []) = deleted_pass most ids [] bytes (0 ∷ []) (recursion_from_All IsClauseNumber ids h) spelled in
    p.reads more ∙ ends_by most (AtDeleted most ids) (Delete ids) p.rest more refl p.spelled

step_at : (most : ℕ) → most < 2 ^ 48 → (step : Step) (bytes more : List ℕ) → SpellsStepWithin most bytes step → read (BetweenStepsWithin most) (bytes ++ more) ≡ with_steps (step ∷ []) (read (BetweenStepsWithin most) more)
step_at most few step [] more h = absurd h
step_at most few (Add id lits hints groups) (b ∷ bytes) more (limits, letter, spelled) =
    ap (λ (x : ℕ). read (BetweenStepsWithin most) (x ∷ bytes ++ more)) letter ∙ read-byte (BetweenStepsWithin most) 97 (bytes ++ more) ∙ addition_at most few id lits hints groups bytes more limits spelled
step_at most few (Delete ids) (b ∷ bytes) more (limits, letter, spelled) =
    ap (λ (x : ℕ). read (BetweenStepsWithin most) (x ∷ bytes ++ more)) letter ∙ read-byte (BetweenStepsWithin most) 100 (bytes ++ more) ∙ deletion_at most ids bytes more limits spelled

read-none : (most : ℕ) → read (BetweenStepsWithin most) [] ≡ ([], None)
unfolding read
read-none most = refl

pub spelled_found_within : (most : ℕ) → most < 2 ^ 48 → (steps : List Step) (bytes : List ℕ) → SpellsWithin most bytes steps → read (BetweenStepsWithin most) bytes ≡ (steps, None)
spelled_found_within most few [] bytes e = ap (read (BetweenStepsWithin most)) e ∙ read-none most
spelled_found_within most few (step ∷ steps) bytes (front, rest, splits, spells, later) =
    ap (read (BetweenStepsWithin most)) splits ∙ step_at most few step front rest spells ∙ ap (with_steps (step ∷ [])) (spelled_found_within most few steps rest later)

pub spelled_found : (steps : List Step) (bytes : List ℕ) → Spells bytes steps → read BetweenSteps bytes ≡ (steps, None)
spelled_found steps bytes h = spelled_found_within 2000000 (omega arith) steps bytes h
