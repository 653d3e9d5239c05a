-- Reading gives exactly the events that a text spells.
use Rattle.std.proofs.Common.{◌≡◌, ◌∙◌, inl, inr, ℕ, ◌+◌, ◌<◌, ◌≤◌, Bool, true, false, cond, List, [], ◌∷◌, ◌++◌, map, length, ℤ, pos, negsuc, nat_abs, Option, Some, None, Result, Ok, Err, refl, sym, ap, subst, arith, append_assoc, codes, bytes_eq}
use Rattle.std.specs.Prelude.{nat_lt, nat_le, All}
use Rattle.std.proofs.lemmas.Bool.{cases_Bool, both_ways}
use Rattle.std.proofs.lemmas.Bool.Decides.{nat_tests}
use Rattle.std.proofs.lemmas.List.{append-nil}
use Rattle.std.proofs.lemmas.List.Elements.{All-cons, All-nil, All-head, All-tail}
use Rattle.std.proofs.lemmas.Slice.Eq.{bytes_eq-Decides}
use Rattle.dimacs.specs.logic.Cnf.{literal_count}
use Rattle.dimacs.specs.logic.Limits.{Limits}
use Rattle.dimacs.specs.logic.Literal.{Literal, Clause, IsWithin, literal_of_number, number_of}
use Rattle.dimacs.specs.text.Numbers.{number}
use Rattle.dimacs.specs.text.Rows.{◌>>=◌, by_tokens}
use Rattle.dimacs.specs.text.Grammar.{ended}
use Rattle.dimacs.specs.text.Words.{lines, words_of}
use Rattle.dimacs.proofs.LiteralLemmas.{literal_back, literal_size, number_back, number_size}
use Rattle.dimacs.proofs.RowLemmas.{bind_ok}
use Rattle.icnf.specs.Parser as icnf
use Rattle.icnf.specs.Parser.{read_header}
use Rattle.icnf.specs.Grammar.{IsHeader}
use Rattle.icnf.specs.declared.fault.IcnfFault.{IcnfFault}
use Rattle.icnf.specs.declared.fault.Kind.TheVariants.{NoHeader, BadToken, ClauseNotEnded, AboveLimit}
use Rattle.icnf.proofs.SpellingLemmas.{header_is, spelled_header}
use Rattle.lrat_text.specs.Log.{Cube}
use Rattle.sessions.specs.Answers.{Event, Given, Asked}
use Rattle.sessions.specs.Events.{AreHeaded, AreLines, IsNext, IsShort, LineRead, Progress, Row, SpellsEvent, SpellsWithin, clauses_of, end_line, events_within, literals_in, literals_of, nothing_read, put_clause, put_query, read_event, read_lines, read_number, read_row, read_token, read_tokens, start, with_event}
use Rattle.sessions.proofs.TokenLemmas.{number_above, number_ends, number_reads, token_behind, token_is}

abbrev Within : ℕ → List Literal → Type 0
Within most ls = All (IsWithin most) ls

ok_is : {A : Type 0} (x y : A) → (let r : Result A IcnfFault = Ok x in r ≡ Ok y) → x ≡ y
ok_is x y e = cc

not_ok : {A : Type 0} (f : IcnfFault) (y : A) → (let r : Result A IcnfFault = Err f in r ≡ Ok y) → ⊥
not_ok f y e = cc

-- ---- the literals of a line
zero_is : (z : ℤ) → nat_abs z ≡ 0 → z ≡ pos 0
zero_is (pos n) e = ap pos e
zero_is (negsuc n) e = absurd (omega arith)

-- after the 0 nothing stands
nothing_more : (most line : ℕ) (ws : List (List ℕ)) (c d : LineRead) → c.ended ≡ true → read_tokens most line ws c ≡ Ok d → (ws ≡ []) × (c ≡ d)
unfolding read_tokens
nothing_more most line [] c d ended e = (refl, ok_is c d e)
nothing_more most line (w ∷ ws) c d ended e =
    let z = bind_ok (read_token most line w c) (read_tokens most line ws) d e in
    absurd (not_ok (record { kind = ClauseNotEnded; line = line }) z.0 (sym (token_behind most line w c ended) ∙ z.1))

-- what was read of the tokens after others
record Behind (most : ℕ) (ws : List (List ℕ)) (c d : LineRead) : Type 0 where
  literals : List Literal
  are : d.literals ≡ c.literals ++ literals
  spelled : map number ws ≡ map Some (ended literals)
  within : Within most literals

behind_zero : (most line : ℕ) (ws : List (List ℕ)) (w : List ℕ) (z : ℤ) (c d : LineRead) → number w ≡ Some z → nat_abs z ≡ 0 → read_tokens most line ws (record c { ended = true }) ≡ Ok d → Behind most (w ∷ ws) c d
behind_zero most line ws w z c d is none rest =
    let past = nothing_more most line ws (record c { ended = true }) d refl rest in
    record {
      literals = [];
      are = ap (λ (x : LineRead). x.literals) (sym past.1) ∙ sym (append-nil c.literals);
      spelled = ap (λ o. o ∷ map number ws) (is ∙ ap Some (zero_is z none)) ∙ ap (λ (x : List (List ℕ)). Some (pos 0) ∷ map number x) past.0;
      within = All-nil (IsWithin most);
    }

behind_more : (most : ℕ) (ws : List (List ℕ)) (w : List ℕ) (z : ℤ) (c d : LineRead) → number w ≡ Some z → 0 < nat_abs z → nat_abs z ≤ most
    → Behind most ws (record c { literals = c.literals ++ literal_of_number z ∷ [] }) d → Behind most (w ∷ ws) c d
behind_more most ws w z c d is some low rest =
    let size = literal_size z in
    record {
      literals = literal_of_number z ∷ rest.literals;
      are = rest.are ∙ append_assoc c.literals (literal_of_number z ∷ []) rest.literals;
      spelled = ap (λ o. o ∷ map number ws) (is ∙ ap Some (sym (number_back z))) ∙ ap (λ x. Some (number_of (literal_of_number z)) ∷ x) rest.spelled;
      within = All-cons (IsWithin most) (literal_of_number z) rest.literals (omega arith, omega arith) rest.within;
    }

tokens_spelled : (most line : ℕ) (ws : List (List ℕ)) (c d : LineRead) → c.ended ≡ false → d.ended ≡ true → read_tokens most line ws c ≡ Ok d → Behind most ws c d
unfolding read_tokens
tokens_spelled most line [] c d open_ closed e = absurd (both_ways c.ended open_ (ap (λ (x : LineRead). x.ended) (ok_is c d e) ∙ closed))
tokens_spelled most line (w ∷ ws) c d open_ closed e =
    let next = bind_ok (read_token most line w c) (read_tokens most line ws) d e in
    at (number w) refl next.0 next.1 next.2 (λ x o r. tokens_spelled most line ws x d o closed r)
  where
    found : (z : ℤ) → number w ≡ Some z → (next : LineRead) → read_number most line z c ≡ Ok next → read_tokens most line ws next ≡ Ok d
        → ((x : LineRead) → x.ended ≡ false → read_tokens most line ws x ≡ Ok d → Behind most ws x d) → Behind most (w ∷ ws) c d
    found z is next one rest later = elim (cases_Bool (nat_le (nat_abs z) 0)) [
      | inl none ↦
          let zero : nat_abs z ≡ 0 = grind (arith, nat_tests) in
          let same = ok_is (record c { ended = true }) next (sym (number_ends most line z c zero) ∙ one) in
          behind_zero most line ws w z c d is zero (ap (λ (x : LineRead). read_tokens most line ws x) same ∙ rest)
      | inr some ↦
          let more : 0 < nat_abs z = grind (arith, nat_tests) in
          elim (cases_Bool (nat_le (nat_abs z) most)) [
            | inl low ↦
                let le : nat_abs z ≤ most = grind (arith, nat_tests) in
                let same = ok_is (record c { literals = c.literals ++ literal_of_number z ∷ [] }) next (sym (number_reads most line z c more le) ∙ one) in
                behind_more most ws w z c d is more le (later (record c { literals = c.literals ++ literal_of_number z ∷ [] }) open_ (ap (λ (x : LineRead). read_tokens most line ws x) same ∙ rest))
            | inr high ↦
                let above : most < nat_abs z = grind (arith, nat_tests) in
                absurd (not_ok (record { kind = AboveLimit; line = line }) next (sym (number_above most line z c above) ∙ one))
          ]
    ]

    at : (o : Option ℤ) → number w ≡ o → (next : LineRead) → read_token most line w c ≡ Ok next → read_tokens most line ws next ≡ Ok d
        → ((x : LineRead) → x.ended ≡ false → read_tokens most line ws x ≡ Ok d → Behind most ws x d) → Behind most (w ∷ ws) c d
    at None is next one rest later = absurd (not_ok (record { kind = BadToken; line = line }) next (sym (token_is most line w c None open_ is) ∙ one))
    at (Some z) is next one rest later = found z is next (sym (token_is most line w c (Some z) open_ is) ∙ one) rest later

literals_spelled : (most line : ℕ) (ws : List (List ℕ)) (ls : List Literal) → literals_in most line ws ≡ Ok ls → (map number ws ≡ map Some (ended ls)) × Within most ls
literals_spelled most line ws ls e =
    let d = bind_ok (read_tokens most line ws nothing_read) (end_line line) ls e in
    by d.0 d.1 d.2
  where
    closed : (d : LineRead) → d.ended ≡ true → read_tokens most line ws nothing_read ≡ Ok d → d.literals ≡ ls → (map number ws ≡ map Some (ended ls)) × Within most ls
    closed d is read same =
        let b = tokens_spelled most line ws nothing_read d refl is read in
        let all : b.literals ≡ ls = sym b.are ∙ same in
        (b.spelled ∙ ap (λ (x : List Literal). map Some (ended x)) all, subst (λ (x : List Literal). Within most x) all b.within)

    by : (d : LineRead) → read_tokens most line ws nothing_read ≡ Ok d → end_line line d ≡ Ok ls → (map number ws ≡ map Some (ended ls)) × Within most ls
    by d read end = elim (cases_Bool d.ended) [
      | inl is ↦ closed d is read (ok_is d.literals ls (sym (ap (λ x. cond x (Ok d.literals) (icnf.fault ClauseNotEnded line)) is) ∙ end))
      | inr not ↦ absurd (not_ok (record { kind = ClauseNotEnded; line = line }) ls (sym (ap (λ x. cond x (Ok d.literals) (icnf.fault ClauseNotEnded line)) not) ∙ end))
    ]

-- and back
numbers_one : (ws : List (List ℕ)) (z : ℤ) (zs : List (Option ℤ)) → map number ws ≡ Some z ∷ zs → (w : List ℕ) × (more : List (List ℕ)) × (ws ≡ w ∷ more) × (number w ≡ Some z) × (map number more ≡ zs)
numbers_one [] z zs e = absurd cc
numbers_one (w ∷ more) z zs e = (w, more, refl, cc, cc)

numbers_none : (ws : List (List ℕ)) → map number ws ≡ [] → ws ≡ []
numbers_none [] e = refl
numbers_none (w ∷ ws) e = absurd cc

literals_end : (most line : ℕ) (ws : List (List ℕ)) (w : List ℕ) (c : LineRead) → c.ended ≡ false → number w ≡ Some (pos 0) → ws ≡ w ∷ [] → (read_tokens most line ws c >>= end_line line) ≡ Ok c.literals
unfolding read_tokens
literals_end most line ws w c open_ is all = rw (all, token_is most line w c (Some (pos 0)) open_ is) refl

literals_on : (most line : ℕ) (ws more : List (List ℕ)) (w : List ℕ) (l : Literal) (c : LineRead) → c.ended ≡ false → number w ≡ Some (number_of l) → IsWithin most l → ws ≡ w ∷ more
    → read_tokens most line ws c ≡ read_tokens most line more (record c { literals = c.literals ++ l ∷ [] })
unfolding read_tokens
literals_on most line ws more w l c open_ is within all =
    let size = number_size l in
    let reads : read_number most line (number_of l) c ≡ Ok (record c { literals = c.literals ++ l ∷ [] }) =
    number_reads most line (number_of l) c (omega (arith, within.0)) (omega (arith, within.1)) ∙ ap (λ (x : Literal). Ok (record c { literals = c.literals ++ x ∷ [] })) (literal_back l within.0) in
    rw (all, token_is most line w c (Some (number_of l)) open_ is, reads) refl

literals_read : (most line : ℕ) (ls : List Literal) (ws : List (List ℕ)) (c : LineRead) → c.ended ≡ false → map number ws ≡ map Some (ended ls) → Within most ls → (read_tokens most line ws c >>= end_line line) ≡ Ok (c.literals ++ ls)
literals_read most line [] ws c open_ e within =
    let (w, more, all, is, rest) = numbers_one ws (pos 0) [] e in
    literals_end most line ws w c open_ is (all ∙ ap (λ (x : List (List ℕ)). w ∷ x) (numbers_none more rest)) ∙ ap Ok (sym (append-nil c.literals))
literals_read most line (l ∷ ls) ws c open_ e within =
    let (w, more, all, is, rest) = numbers_one ws (number_of l) (map Some (ended ls)) e in
    ap (λ (r : Result LineRead IcnfFault). r >>= end_line line) (literals_on most line ws more w l c open_ is (All-head (IsWithin most) l ls within) all)
    ∙ literals_read most line ls more (record c { literals = c.literals ++ l ∷ [] }) open_ rest (All-tail (IsWithin most) l ls within)
    ∙ ap Ok (append_assoc c.literals (l ∷ []) ls)

spelled_literals : (most line : ℕ) (ws : List (List ℕ)) (ls : List Literal) → map number ws ≡ map Some (ended ls) → Within most ls → literals_in most line ws ≡ Ok ls
spelled_literals most line ws ls e within = literals_read most line ls ws nothing_read refl e within

-- ---- events within the limits, one after the other
abbrev Takes : Progress → Event → Type 0
Takes p (Given C) = (p.clauses < p.limits.clauses) × (p.literals + length C ≤ p.limits.literals) × Within p.limits.vars C
Takes p (Asked A) = (length A ≤ p.limits.vars) × Within p.limits.vars A

abbrev after : Progress → Event → Progress
after p (Given C) = record p { clauses = p.clauses + 1; literals = p.literals + length C }
after p (Asked A) = p

abbrev Fits : Progress → List Event → Type 0
Fits p [] = Unit {0}
Fits p (e ∷ E) = Takes p e × Fits (after p e) E

-- ---- the line of an event
is_a : (word : List ℕ) → bytes_eq word (codes "a") ≡ true → word ≡ codes "a"
is_a word e = (bytes_eq-Decides word (codes "a")).0 e

row_clause : (line : ℕ) (p q : Progress) (o : Option Event) (C : Clause) → put_clause line p C ≡ Ok (q, o) → Within p.limits.vars C → (o ≡ Some (Given C)) × (q ≡ after p (Given C)) × Takes p (Given C)
row_clause line p q o C e within = at (nat_le p.limits.clauses p.clauses) (nat_lt p.limits.literals (p.literals + length C)) refl refl e
  where
    at : (x y : Bool) → nat_le p.limits.clauses p.clauses ≡ x → nat_lt p.limits.literals (p.literals + length C) ≡ y
        → cond x (icnf.fault {A = Progress × Option Event} AboveLimit line) (cond y (icnf.fault {A = Progress × Option Event} AboveLimit line) (Ok (record p { clauses = p.clauses + 1; literals = p.literals + length C }, Some (Given C)))) ≡ Ok (q, o)
        → (o ≡ Some (Given C)) × (q ≡ after p (Given C)) × Takes p (Given C)
    at true y a b e = absurd cc
    at false true a b e = absurd cc
    at false false a b e =
        let pair : (record p { clauses = p.clauses + 1; literals = p.literals + length C }, Some (Given C)) ≡ (q, o) = ok_is (record p { clauses = p.clauses + 1; literals = p.literals + length C }, Some (Given C)) (q, o) e in (
          sym (ap (λ (x : Progress × Option Event). x.1) pair),
          sym (ap (λ (x : Progress × Option Event). x.0) pair),
          (grind (arith, nat_tests, a), grind (arith, nat_tests, b), within),
        )

row_query : (line : ℕ) (p q : Progress) (o : Option Event) (A : Cube) → put_query line p A ≡ Ok (q, o) → Within p.limits.vars A → (o ≡ Some (Asked A)) × (q ≡ after p (Asked A)) × Takes p (Asked A)
row_query line p q o A e within = at (nat_lt p.limits.vars (length A)) refl e
  where
    at : (x : Bool) → nat_lt p.limits.vars (length A) ≡ x → cond x (icnf.fault {A = Progress × Option Event} AboveLimit line) (Ok (p, Some (Asked A))) ≡ Ok (q, o) → (o ≡ Some (Asked A)) × (q ≡ after p (Asked A)) × Takes p (Asked A)
    at true a e = absurd cc
    at false a e =
        let pair : (p, Some (Asked A)) ≡ (q, o) = ok_is (p, Some (Asked A)) (q, o) e in
        (sym (ap (λ (x : Progress × Option Event). x.1) pair), sym (ap (λ (x : Progress × Option Event). x.0) pair), (grind (arith, nat_tests, a), within))

-- what a line of an event gives
record IsRow (word : List ℕ) (more : List (List ℕ)) (p q : Progress) (o : Option Event) : Type 0 where
  event : Event
  is : o ≡ Some event
  after_it : q ≡ after p event
  spelled : SpellsEvent (word ∷ more) event
  takes : Takes p event

event_spelled : (line : ℕ) (word : List ℕ) (more : List (List ℕ)) (p q : Progress) (o : Option Event) → read_event line word more p ≡ Ok (q, o) → IsRow word more p q o
event_spelled line word more p q o e = at (bytes_eq word (codes "a")) refl e
  where
    at : (b : Bool) → bytes_eq word (codes "a") ≡ b → cond b (literals_in p.limits.vars line more >>= put_query line p) (literals_in p.limits.vars line (word ∷ more) >>= put_clause line p) ≡ Ok (q, o) → IsRow word more p q o
    at true mark e =
        let ls = bind_ok (literals_in p.limits.vars line more) (put_query line p) (q, o) e in
        let spelled = literals_spelled p.limits.vars line more ls.0 ls.1 in
        let row = row_query line p q o ls.0 ls.2 spelled.1 in
        record { event = Asked ls.0; is = row.0; after_it = row.1; spelled = (is_a word mark, spelled.0); takes = row.2 }
    at false mark e =
        let ls = bind_ok (literals_in p.limits.vars line (word ∷ more)) (put_clause line p) (q, o) e in
        let spelled = literals_spelled p.limits.vars line (word ∷ more) ls.0 ls.1 in
        let row = row_clause line p q o ls.0 ls.2 spelled.1 in
        record { event = Given ls.0; is = row.0; after_it = row.1; spelled = spelled.0; takes = row.2 }

no_mark : (word : List ℕ) (more : List (List ℕ)) (C : Clause) → map number (word ∷ more) ≡ map Some (ended C) → bytes_eq word (codes "a") ≡ false
no_mark word more C e = elim (cases_Bool (bytes_eq word (codes "a"))) [
  | inl t ↦ absurd (at C (ap (λ (x : List ℕ). number x ∷ map number more) (sym (is_a word t)) ∙ e))
  | inr f ↦ f
]
  where
    at : (C : Clause) → None ∷ map number more ≡ map Some (ended C) → ⊥
    at [] e = cc
    at (l ∷ C) e = cc

spelled_event : (line : ℕ) (word : List ℕ) (more : List (List ℕ)) (p : Progress) (e : Event) → SpellsEvent (word ∷ more) e → Takes p e → read_event line word more p ≡ Ok (after p e, Some e)
spelled_event line word more p (Given C) spelled (few, small, within) =
    let a : nat_le p.limits.clauses p.clauses ≡ false = grind (arith, nat_tests) in
    let b : nat_lt p.limits.literals (p.literals + length C) ≡ false = grind (arith, nat_tests) in
    rw (no_mark word more C spelled, spelled_literals p.limits.vars line (word ∷ more) C spelled within, a, b) refl
spelled_event line word more p (Asked A) (mark, spelled) (short, within) =
    let a : nat_lt p.limits.vars (length A) ≡ false = grind (arith, nat_tests) in
    rw (mark, spelled_literals p.limits.vars line more A spelled within, a) refl

-- ---- the lines
headed_after : (p : Progress) (e : Event) → (after p e).headed ≡ p.headed
headed_after p (Given C) = refl
headed_after p (Asked A) = refl

row_event : (line : ℕ) (word : List ℕ) (more : List (List ℕ)) (p : Progress) → p.headed ≡ true → read_row line (word ∷ more) p ≡ read_event line word more p
unfolding read_row
row_event line word more p h = rw h refl

row_header : (line : ℕ) (word : List ℕ) (more : List (List ℕ)) (p : Progress) → p.headed ≡ false → read_row line (word ∷ more) p ≡ (read_header line (word ∷ more) >>= λ h. Ok (record p { headed = true }, None))
unfolding read_row
row_header line word more p h = rw h refl

row_none : (line : ℕ) (p : Progress) → read_row line [] p ≡ Ok (p, None)
unfolding read_row
row_none line p = refl

with_some : (e : Event) (later : Result (List Event) IcnfFault) (E : List Event) → with_event (Some e) later ≡ Ok E → (D : List Event) × (later ≡ Ok D) × (E ≡ e ∷ D)
with_some e later E h = let z = bind_ok later (λ D. Ok (e ∷ D)) E h in (z.0, z.1, sym (ok_is (e ∷ z.0) E z.2))

line_read : (n : ℕ) (ws : List (List ℕ)) (p : Progress) (later : Progress → Result (List Event) IcnfFault) (r : Row) → read_row (n + 1) ws p ≡ r
    → (read_row (n + 1) ws p >>= λ x. with_event x.1 (later x.0)) ≡ (r >>= λ x. with_event x.1 (later x.0))
line_read n ws p later r e = ap (λ (x : Row). x >>= λ y. with_event y.1 (later y.0)) e

lines_spelled : (more : List (List ℕ)) (n : ℕ) (p : Progress) (E : List Event) → p.headed ≡ true → read_lines n more p ≡ Ok E → AreLines more E × Fits p E
unfolding read_lines
lines_spelled [] n p E h e = subst (λ (D : List Event). AreLines [] D × Fits p D) (ok_is [] E (sym (ap (λ b. cond b (Ok []) (icnf.fault NoHeader n)) h) ∙ e)) (tt, tt)
lines_spelled (line ∷ more) n p E h e = at (words_of line) refl (λ m q D g r. lines_spelled more m q D g r)
  where
    at : (ws : List (List ℕ)) → words_of line ≡ ws → ((m : ℕ) (q : Progress) (D : List Event) → q.headed ≡ true → read_lines m more q ≡ Ok D → AreLines more D × Fits q D)
        → by_tokens (words_of line) (AreLines more E) (λ tokens. IsNext tokens E (λ D. AreLines more D)) × Fits p E
    at [] is rest =
        let r = rest (n + 1) p E h (sym (line_read n (words_of line) p (λ q. read_lines (n + 1) more q) (Ok (p, None)) (ap (λ ws. read_row (n + 1) ws p) is ∙ row_none (n + 1) p)) ∙ e) in
        (subst (λ (ws : List (List ℕ)). by_tokens ws (AreLines more E) (λ tokens. IsNext tokens E (λ D. AreLines more D))) (sym is) r.0, r.1)
    at (w ∷ ws) is rest =
        let z = bind_ok (read_row (n + 1) (words_of line) p) (λ x. with_event x.1 (read_lines (n + 1) more x.0)) E e in
        let row = event_spelled (n + 1) w ws p (z.0).0 (z.0).1 (sym (row_event (n + 1) w ws p h) ∙ ap (λ (x : List (List ℕ)). read_row (n + 1) x p) (sym is) ∙ z.1) in
        let later = with_some row.event (read_lines (n + 1) more (z.0).0) E (ap (λ (o : Option Event). with_event o (read_lines (n + 1) more (z.0).0)) (sym row.is) ∙ z.2) in
        let r = rest (n + 1) (after p row.event) later.0 (headed_after p row.event ∙ h) (ap (λ (q : Progress). read_lines (n + 1) more q) (sym row.after_it) ∙ later.1) in (
          subst (λ (ts : List (List ℕ)). by_tokens ts (AreLines more E) (λ tokens. IsNext tokens E (λ D. AreLines more D))) (sym is)
              (subst (λ (D : List Event). IsNext (w ∷ ws) D (λ X. AreLines more X)) (sym later.2) (row.spelled, r.0)),
          subst (λ (D : List Event). Fits p D) (sym later.2) (row.takes, r.1),
        )

spelled_lines : (more : List (List ℕ)) (n : ℕ) (p : Progress) (E : List Event) → p.headed ≡ true → AreLines more E → Fits p E → read_lines n more p ≡ Ok E
unfolding read_lines
spelled_lines [] n p [] h lines fits = ap (λ b. cond b (Ok []) (icnf.fault NoHeader n)) h
spelled_lines [] n p (e ∷ E) h lines fits = absurd lines
spelled_lines (line ∷ more) n p E h lines fits = at (words_of line) refl E lines fits (λ m q D g l f. spelled_lines more m q D g l f)
  where
    at : (ws : List (List ℕ)) → words_of line ≡ ws → (E : List Event) → by_tokens (words_of line) (AreLines more E) (λ tokens. IsNext tokens E (λ D. AreLines more D)) → Fits p E
        → ((m : ℕ) (q : Progress) (D : List Event) → q.headed ≡ true → AreLines more D → Fits q D → read_lines m more q ≡ Ok D)
        → (read_row (n + 1) (words_of line) p >>= λ x. with_event x.1 (read_lines (n + 1) more x.0)) ≡ Ok E
    at [] is E l f rest =
        line_read n (words_of line) p (λ q. read_lines (n + 1) more q) (Ok (p, None)) (ap (λ ws. read_row (n + 1) ws p) is ∙ row_none (n + 1) p)
        ∙ rest (n + 1) p E h (subst (λ (ws : List (List ℕ)). by_tokens ws (AreLines more E) (λ tokens. IsNext tokens E (λ D. AreLines more D))) is l) f
    at (w ∷ ws) is [] l f rest = absurd (subst (λ (ts : List (List ℕ)). by_tokens ts (AreLines more []) (λ tokens. IsNext tokens [] (λ D. AreLines more D))) is l)
    at (w ∷ ws) is (e ∷ E) l f rest =
        let here : IsNext (w ∷ ws) (e ∷ E) (λ D. AreLines more D) = subst (λ (ts : List (List ℕ)). by_tokens ts (AreLines more (e ∷ E)) (λ tokens. IsNext tokens (e ∷ E) (λ D. AreLines more D))) is l in
        line_read n (words_of line) p (λ q. read_lines (n + 1) more q) (Ok (after p e, Some e))
        (ap (λ (x : List (List ℕ)). read_row (n + 1) x p) is ∙ row_event (n + 1) w ws p h ∙ spelled_event (n + 1) w ws p e here.0 f.0)
        ∙ ap (λ (r : Result (List Event) IcnfFault). r >>= λ D. Ok (e ∷ D)) (rest (n + 1) (after p e) E (headed_after p e ∙ h) here.1 f.1)

-- ---- the header
abbrev headed : Progress → Progress
headed p = record p { headed = true }

text_spelled : (more : List (List ℕ)) (n : ℕ) (p : Progress) (E : List Event) → p.headed ≡ false → read_lines n more p ≡ Ok E → AreHeaded more E × Fits (headed p) E
unfolding read_lines
text_spelled [] n p E h e = absurd (not_ok (record { kind = NoHeader; line = n }) E (sym (ap (λ b. cond b (Ok []) (icnf.fault NoHeader n)) h) ∙ e))
text_spelled (line ∷ more) n p E h e = at (words_of line) refl (λ m r. text_spelled more m p E h r)
  where
    at : (ws : List (List ℕ)) → words_of line ≡ ws → ((m : ℕ) → read_lines m more p ≡ Ok E → AreHeaded more E × Fits (headed p) E)
        → by_tokens (words_of line) (AreHeaded more E) (λ header. IsHeader header × AreLines more E) × Fits (headed p) E
    at [] is rest =
        let r = rest (n + 1) (sym (line_read n (words_of line) p (λ q. read_lines (n + 1) more q) (Ok (p, None)) (ap (λ ws. read_row (n + 1) ws p) is ∙ row_none (n + 1) p)) ∙ e) in
        (subst (λ (ws : List (List ℕ)). by_tokens ws (AreHeaded more E) (λ header. IsHeader header × AreLines more E)) (sym is) r.0, r.1)
    at (w ∷ ws) is rest =
        let z = bind_ok (read_row (n + 1) (words_of line) p) (λ x. with_event x.1 (read_lines (n + 1) more x.0)) E e in
        let row : (read_header (n + 1) (w ∷ ws) >>= λ u. Ok (headed p, None)) ≡ Ok z.0 = sym (row_header (n + 1) w ws p h) ∙ ap (λ (x : List (List ℕ)). read_row (n + 1) x p) (sym is) ∙ z.1 in
        let u = bind_ok (read_header (n + 1) (w ∷ ws)) (λ x. Ok (headed p, None)) z.0 row in
        let same : (headed p, None) ≡ z.0 = ok_is (headed p, None) z.0 u.2 in
        let r = lines_spelled more (n + 1) (headed p) E refl (ap (λ (x : Progress × Option Event). with_event x.1 (read_lines (n + 1) more x.0)) same ∙ z.2) in
        (subst (λ (ts : List (List ℕ)). by_tokens ts (AreHeaded more E) (λ header. IsHeader header × AreLines more E)) (sym is) (header_is (n + 1) (w ∷ ws) u.0 u.1, r.0), r.1)

spelled_text : (more : List (List ℕ)) (n : ℕ) (p : Progress) (E : List Event) → p.headed ≡ false → AreHeaded more E → Fits (headed p) E → read_lines n more p ≡ Ok E
unfolding read_lines
spelled_text [] n p E h lines fits = absurd lines
spelled_text (line ∷ more) n p E h lines fits = at (words_of line) refl lines (λ m l. spelled_text more m p E h l fits)
  where
    at : (ws : List (List ℕ)) → words_of line ≡ ws → by_tokens (words_of line) (AreHeaded more E) (λ header. IsHeader header × AreLines more E) → ((m : ℕ) → AreHeaded more E → read_lines m more p ≡ Ok E)
        → (read_row (n + 1) (words_of line) p >>= λ x. with_event x.1 (read_lines (n + 1) more x.0)) ≡ Ok E
    at [] is l rest =
        line_read n (words_of line) p (λ q. read_lines (n + 1) more q) (Ok (p, None)) (ap (λ ws. read_row (n + 1) ws p) is ∙ row_none (n + 1) p)
        ∙ rest (n + 1) (subst (λ (ws : List (List ℕ)). by_tokens ws (AreHeaded more E) (λ header. IsHeader header × AreLines more E)) is l)
    at (w ∷ ws) is l rest =
        let here : IsHeader (w ∷ ws) × AreLines more E = subst (λ (ts : List (List ℕ)). by_tokens ts (AreHeaded more E) (λ header. IsHeader header × AreLines more E)) is l in
        line_read n (words_of line) p (λ q. read_lines (n + 1) more q) (Ok (headed p, None))
        (ap (λ (x : List (List ℕ)). read_row (n + 1) x p) is ∙ row_header (n + 1) w ws p h
        ∙ ap (λ (r : Result (Unit {0}) IcnfFault). r >>= λ u. Ok (headed p, None)) (spelled_header (n + 1) (w ∷ ws) here.0))
        ∙ spelled_lines more (n + 1) (headed p) E refl here.1 fits

-- ---- the limits
record Within_limits (p : Progress) (E : List Event) : Type 0 where
  clauses : p.clauses + length (clauses_of E) ≤ p.limits.clauses
  literals : p.literals + literal_count (clauses_of E) ≤ p.limits.literals
  within : All (λ e. Within p.limits.vars (literals_of e)) E
  short : All (IsShort p.limits.vars) E

fits_limits : (E : List Event) (p : Progress) → p.clauses ≤ p.limits.clauses → p.literals ≤ p.limits.literals → Fits p E → Within_limits p E
fits_limits [] p few small fits = record { clauses = omega arith; literals = omega arith; within = All-nil (λ e. Within p.limits.vars (literals_of e)); short = All-nil (IsShort p.limits.vars) }
fits_limits (Given C ∷ E) p few small ((one, total, within), rest) =
    let r = fits_limits E (after p (Given C)) (omega arith) (omega arith) rest in
    record {
      clauses = omega (arith, r.clauses);
      literals = omega (arith, r.literals);
      within = All-cons (λ e. Within p.limits.vars (literals_of e)) (Given C) E within r.within;
      short = All-cons (IsShort p.limits.vars) (Given C) E tt r.short;
    }
fits_limits (Asked A ∷ E) p few small ((short, within), rest) =
    let r = fits_limits E p few small rest in
    record {
      clauses = r.clauses;
      literals = r.literals;
      within = All-cons (λ e. Within p.limits.vars (literals_of e)) (Asked A) E within r.within;
      short = All-cons (IsShort p.limits.vars) (Asked A) E short r.short;
    }

limits_fit : (E : List Event) (p : Progress) → Within_limits p E → Fits p E
limits_fit [] p h = tt
limits_fit (Given C ∷ E) p h = (
  (omega (arith, h.clauses), omega (arith, h.literals), All-head (λ e. Within p.limits.vars (literals_of e)) (Given C) E h.within),
  limits_fit E (after p (Given C)) (record {
    clauses = omega (arith, h.clauses);
    literals = omega (arith, h.literals);
    within = All-tail (λ e. Within p.limits.vars (literals_of e)) (Given C) E h.within;
    short = All-tail (IsShort p.limits.vars) (Given C) E h.short;
  }),
)
limits_fit (Asked A ∷ E) p h = (
  (All-head (IsShort p.limits.vars) (Asked A) E h.short, All-head (λ e. Within p.limits.vars (literals_of e)) (Asked A) E h.within),
  limits_fit E p (record {
    clauses = h.clauses;
    literals = h.literals;
    within = All-tail (λ e. Within p.limits.vars (literals_of e)) (Asked A) E h.within;
    short = All-tail (IsShort p.limits.vars) (Asked A) E h.short;
  }),
)

pub read_is_spelled : (L : Limits) (text : List ℕ) (E : List Event) → events_within L text ≡ Ok E → SpellsWithin L text E
read_is_spelled L text E e =
    let r = text_spelled (lines text) 0 (start L) E refl e in
    let l = fits_limits E (headed (start L)) (omega arith) (omega arith) r.1 in
    (record { clauses = omega (arith, l.clauses); literals = omega (arith, l.literals); within = l.within; short = l.short }, r.0)

pub spelled_is_read : (L : Limits) (text : List ℕ) (E : List Event) → SpellsWithin L text E → events_within L text ≡ Ok E
spelled_is_read L text E (limits, headed_) =
    spelled_text (lines text) 0 (start L) E refl headed_
    (limits_fit E (headed (start L)) (record { clauses = omega (arith, limits.clauses); literals = omega (arith, limits.literals); within = limits.within; short = limits.short }))

-- ---- the literals of an event
all_within : (p : Progress) (e : Event) → Takes p e → Within p.limits.vars (literals_of e)
all_within p (Given C) takes = takes.2
all_within p (Asked A) takes = takes.1

some_is : (d e : Event) → Some d ≡ Some e → d ≡ e
some_is d e h = cc

none_some : (e : Event) → (let o : Option Event = None in o ≡ Some e) → ⊥
none_some e h = cc

no_event : (p q : Progress) (e : Event) → (let r : Row = Ok (p, None) in r ≡ Ok (q, Some e)) → ⊥
no_event p q e h = none_some e (ap (λ (x : Progress × Option Event). x.1) (ok_is {A = Progress × Option Event} (p, None) (q, Some e) h))

-- they have variables within the limits
pub row_within : (line : ℕ) (ws : List (List ℕ)) (p q : Progress) (e : Event) → read_row line ws p ≡ Ok (q, Some e) → All (IsWithin p.limits.vars) (literals_of e)
row_within line [] p q e h = absurd (no_event p q e (sym (row_none line p) ∙ h))
row_within line (word ∷ more) p q e h = elim (cases_Bool p.headed) [
  | inl is ↦
      let row = event_spelled line word more p q (Some e) (sym (row_event line word more p is) ∙ h) in
      subst (λ (x : Event). Within p.limits.vars (literals_of x)) (sym (some_is e row.event row.is)) (all_within p row.event row.takes)
  | inr not ↦
      let head = bind_ok (read_header line (word ∷ more)) (λ x. Ok (record p { headed = true }, None)) (q, Some e) (sym (row_header line word more p not) ∙ h) in
      absurd (no_event (record p { headed = true }) q e head.2)
]
