-- What is read of a proof in binary form is spelled by it, byte by byte.
use Rattle.std.proofs.Common.{◌≡◌, ◌⊎◌, ℕ, ◌+◌, ◌-◌, ◌*◌, ◌/◌, ◌%◌, ◌^◌, ◌<◌, ◌≤◌, ◌==◌, ◌&&◌, nat_lt, nat_le, Bool, false, cond, List, [], ◌∷◌, ◌++◌, Some, Ok, Err, inl, inr, refl, sym, ap, subst, ◌∙◌, arith, true≢false}
use Rattle.std.proofs.lemmas.Bool.{leb-true, leb-false, eqb-true, eqb-false, eq-eqb, cases_lt, cases_eq, lt-ltb}
use Rattle.dimacs.specs.logic.Literal.{Literal, Pos, Neg, IsWithin, index_of}
use Rattle.drat_forms.specs.Grammar.{DratStep, Add, Delete, SpellsNumber, BinaryLiterals}
use Rattle.drat_forms.specs.Moves.{goes_to, with_literal, literal_read, zero_read, after_step, code_read, after_bits}
use Rattle.drat_forms.specs.declared.fault.DratFault.TheVariants.{BadByte, VariableTooLarge}
use Rattle.drat_forms.specs.declared.place.Begun.{Begun}
use Rattle.drat_forms.specs.declared.place.Begun.TheVariants.{Nothing, Addition, Deletion}
use Rattle.drat_forms.specs.declared.place.Place.TheVariants.{Step, Bits}
use Rattle.drat_forms.proofs.StepLemmas.{ends_here, literal_here, by_test}
use Rattle.drat_forms.proofs.SpelledSoFar.{BinarySteps, GoesOn, StepEnds, StepsCome, BinaryGoesOn, Completes, CodeCame, InCode, FromMove}

-- ---- numbers

completes_more : (v w b : ℕ) (front : List ℕ) (n : ℕ) → 128 ≤ b → Completes (v + w * (b - 128)) (128 * w) front n → Completes v w (b ∷ front) n
completes_more v w b [] n many h = absurd h
completes_more v w b (c ∷ bytes) n many h = (many, h)

spread : (v w x y : ℕ) → (v + w * x) + (128 * w) * y ≡ v + w * (x + 128 * y)
spread v w x y = omega arith

not_zero : (b w : ℕ) → (b ≡ 0 → w ≤ 1) → 1 < w → 0 < b
not_zero b w h more = elim (cases_eq b 0) [ inl e ↦ absurd (omega (arith, h e)) | inr other ↦ omega arith ]

completes_spells : (v w : ℕ) (bytes : List ℕ) (n : ℕ) → 1 ≤ w → Completes v w bytes n → (high : ℕ) × (n ≡ v + w * high) × (1 < w → 0 < high) × SpellsNumber bytes high
completes_spells v w [] n some h = absurd h
completes_spells v w (b ∷ []) n some h = (b, h.2, not_zero b w h.1, (h.0, refl))
completes_spells v w (b ∷ c ∷ bytes) n some h =
    let r = completes_spells (v + w * (b - 128)) (128 * w) (c ∷ bytes) n (omega arith) h.1 in
    let high : 0 < r.0 = r.2 (omega arith) in (
      (b - 128) + 128 * r.0,
      r.1 ∙ spread v w (b - 128) r.0,
      λ more. omega arith,
      (h.0, r.0, high, omega (arith, h.0), r.3),
    )

number_spelled : (bytes : List ℕ) (n : ℕ) → Completes 0 1 bytes n → SpellsNumber bytes n
number_spelled bytes n h =
    let r = completes_spells 0 1 bytes n (omega arith) h in
    let e : n ≡ r.0 = omega (arith, r.1) in
    subst (SpellsNumber bytes) (sym e) r.3

zero_spelled : (bytes : List ℕ) → SpellsNumber bytes 0 → bytes ≡ 0 ∷ []
zero_spelled [] h = absurd h
zero_spelled (b ∷ []) h = ap (λ (x : ℕ). x ∷ []) (sym h.1)
zero_spelled (b ∷ c ∷ bytes) h = absurd (omega (arith, h.0, h.2, h.3))

not_needless : (b w : ℕ) → (b == 0 && nat_lt 1 w) ≡ false → b ≡ 0 → w ≤ 1
not_needless b w e none = elim (cases_lt 1 w) [
  | inl more ↦ absurd (true≢false (sym (ap (λ (x : Bool). x && nat_lt 1 w) (eq-eqb b 0 none) ∙ lt-ltb 1 w more) ∙ e))
  | inr few ↦ few
]

-- the literal of a code
halves : (n : ℕ) → (n ≡ 2 * (n / 2)) ⊎ (n ≡ 2 * (n / 2) + 1)
halves n = elim (cases_eq (n % 2) 0) [ inl e ↦ inl (omega arith) | inr other ↦ inr (omega arith) ]

coded : (most n : ℕ) → (n ≡ 0 → ⊥) → (n ≡ 1 → ⊥) → n / 2 ≤ most → (l : Literal) × (n ≡ index_of l) × IsWithin most l
coded most n some more few = elim (halves n) [ inl e ↦ (Pos (n / 2), e, (omega (arith, some, more), few)) | inr e ↦ (Neg (n / 2), e, (omega (arith, some, more), few)) ]

module _ (most : ℕ) where
  addition_spelled : (literals : List Literal) (steps : List DratStep) (bytes more rest : List ℕ) → bytes ≡ 97 ∷ more → BinaryLiterals most more literals rest → GoesOn (BinarySteps most) Nothing literals rest steps → BinarySteps most bytes (Add literals ∷ steps)
  addition_spelled [] steps bytes more rest e h later = (rest, (more, e, h), later)
  addition_spelled (l ∷ literals) steps bytes more rest e h later = (rest, (more, e, h), later)

  -- a number that lies ahead
  code_first : (begun : Begun) (bytes words : List ℕ) → InCode most begun 0 1 bytes words → BinaryGoesOn most begun bytes words
  code_first begun bytes words i = by_code i.next
    where
      by_code : CodeCame most begun i.number i.more words → BinaryGoesOn most begun bytes words
      by_code (inl (e, h)) =
          let front : i.front ≡ 0 ∷ [] = zero_spelled i.front (subst (SpellsNumber i.front) e (number_spelled i.front i.number i.completes)) in
          ends_here (BinaryLiterals most) (BinarySteps most) begun bytes i.more words (i.split ∙ ap (λ (xs : List ℕ). xs ++ i.more) front) h
      by_code (inr (l, e, h)) =
          literal_here (BinaryLiterals most) (BinarySteps most) begun most l bytes i.more words
          (λ literals rest spelled. (i.front, i.more, i.split, subst (SpellsNumber i.front) e (number_spelled i.front i.number i.completes), h.within, spelled)) h

  -- a number ends
  zero_came : (begun : Begun) (bytes words : List ℕ) → FromMove most (zero_read begun Step) bytes words → StepEnds (BinarySteps most) begun bytes words
  zero_came Nothing bytes words h = record { steps = []; later = refl; is = h.1 ∙ ap (λ (xs : List ℕ). 0 ∷ xs) h.2 }
  zero_came Addition bytes words h = record { steps = h.2.steps; later = h.2.spelled; is = h.1 ∙ ap (λ (xs : List ℕ). 0 ∷ xs) h.2.is }
  zero_came Deletion bytes words h = record { steps = h.2.steps; later = h.2.spelled; is = h.1 ∙ ap (λ (xs : List ℕ). 1 ∷ xs) h.2.is }

  code_came : (begun : Begun) (n : ℕ) (bytes words : List ℕ) → FromMove most (code_read most begun n) bytes words → CodeCame most begun n bytes words
  code_came begun n bytes words h =
      by_test most P bytes words (n == 0) (zero_read begun Step) (cond (n == 1) (Err BadByte) (literal_read most begun n (Bits 0 1))) h
      (λ e g. inl (eqb-true n 0 e, zero_came begun bytes words g))
      (λ some g. by_test most P bytes words (n == 1) (Err BadByte) (literal_read most begun n (Bits 0 1)) g (λ e k. absurd k)
      (λ more k. by_test most P bytes words (nat_le (n / 2) most) (Ok (record { begun = with_literal begun; place = Bits 0 1; word = Some n })) (Err VariableTooLarge) k
      (λ few l. taken (coded most n (eqb-false n 0 some) (eqb-false n 1 more) (leb-true (n / 2) most few)) l.0 l.1 l.2)
      (λ many l. absurd l)))
    where
      P : Type 0
      P = CodeCame most begun n bytes words

      taken : (l : Literal) × (n ≡ index_of l) × IsWithin most l → (later : List ℕ) → words ≡ n ∷ later → InCode most (with_literal begun) 0 1 bytes later → CodeCame most begun n bytes words
      taken (l, e, within) later is i = inr (l, e, record { later = later; within = within; goes_on = code_first (with_literal begun) bytes later i; is = is ∙ ap (λ (x : ℕ). x ∷ later) e })

  pub found_bits : (begun : Begun) (v w b : ℕ) (bytes words : List ℕ) → FromMove most (after_bits most begun v w b) bytes words → InCode most begun v w (b ∷ bytes) words
  found_bits begun v w b bytes words h =
      by_test most P bytes words (nat_le (v / 2) most && nat_le w (2 ^ 28)) (cond (nat_le 128 b) (goes_to begun (Bits (v + w * (b - 128)) (128 * w))) (cond (b == 0 && nat_lt 1 w) (Err BadByte) (code_read most begun (v + w * b)))) (Err VariableTooLarge) h
      (λ few g. by_test most P bytes words (nat_le 128 b) (goes_to begun (Bits (v + w * (b - 128)) (128 * w))) (cond (b == 0 && nat_lt 1 w) (Err BadByte) (code_read most begun (v + w * b))) g
      (λ e k. record {
        front = b ∷ k.2.front;
        more = k.2.more;
        number = k.2.number;
        completes = completes_more v w b k.2.front k.2.number (leb-true 128 b e) k.2.completes;
        split = ap (λ (xs : List ℕ). b ∷ xs) k.2.split;
        next = subst (CodeCame most begun k.2.number k.2.more) (sym k.1) k.2.next;
      })
      (λ less k. by_test most P bytes words (b == 0 && nat_lt 1 w) (Err BadByte) (code_read most begun (v + w * b)) k
      (λ e l. absurd l)
      (λ e l. record { front = b ∷ []; more = bytes; number = v + w * b; completes = (leb-false 128 b less, not_needless b w e, refl); split = refl; next = code_came begun (v + w * b) bytes words l })))
      (λ many g. absurd g)
    where
      P : Type 0
      P = InCode most begun v w (b ∷ bytes) words

  -- a letter
  addition_here : (b : ℕ) (bytes words : List ℕ) → b ≡ 97 → BinaryGoesOn most Nothing bytes words → StepsCome (BinarySteps most) (b ∷ bytes) words
  addition_here b bytes words e i = record {
    steps = Add i.literals ∷ i.steps;
    spelled = addition_spelled i.literals i.steps (b ∷ bytes) bytes i.rest (ap (λ (x : ℕ). x ∷ bytes) e) i.spelled i.later;
    is = i.is;
  }

  deletion_here : (b : ℕ) (bytes words : List ℕ) → b ≡ 100 → BinaryGoesOn most Deletion bytes words → StepsCome (BinarySteps most) (b ∷ bytes) words
  deletion_here b bytes words e i = record {
    steps = Delete i.literals ∷ i.steps;
    spelled = (i.rest, (bytes, ap (λ (x : ℕ). x ∷ bytes) e, i.spelled), i.later);
    is = i.is;
  }

  pub found_step : (b : ℕ) (bytes words : List ℕ) → FromMove most (after_step b) bytes words → StepsCome (BinarySteps most) (b ∷ bytes) words
  found_step b bytes words h =
      by_test most P bytes words (b == 97) (goes_to Nothing (Bits 0 1)) (cond (b == 100) (goes_to Deletion (Bits 0 1)) (Err BadByte)) h
      (λ e g. addition_here b bytes words (eqb-true b 97 e) (code_first Nothing bytes words (subst (InCode most Nothing 0 1 bytes) (sym g.1) g.2)))
      (λ none g. by_test most P bytes words (b == 100) (goes_to Deletion (Bits 0 1)) (Err BadByte) g
      (λ e k. deletion_here b bytes words (eqb-true b 100 e) (code_first Deletion bytes words (subst (InCode most Deletion 0 1 bytes) (sym k.1) k.2)))
      (λ none2 k. absurd k))
    where
      P : Type 0
      P = StepsCome (BinarySteps most) (b ∷ bytes) words
