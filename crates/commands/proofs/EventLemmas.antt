-- Events that are heard line by line.
use Rattle.std.proofs.Common.{◌≡◌, ◌≢◌, inl, inr, ℕ, ◌+◌, ◌≤◌, max, true, false, Bool, List, [], ◌∷◌, ◌++◌, Option, Some, None, Result, Ok, Err, IfOk, MatchResult, refl, sym, ◌∙◌, ap, subst, arith, append_assoc, append-nil}
use Rattle.std.specs.List.{All}
use Rattle.std.specs.Prelude.{if◌then◌else◌}
use Rattle.std.proofs.Math.Nat.{le-max_left}
use Rattle.std.proofs.lemmas.List.Elements.{All-append, All-cons, All-head, All-nil, All-tail}
use Rattle.dimacs.specs.logic.Limits.{Limits}
use Rattle.dimacs.specs.logic.Cnf.{greatest_of}
use Rattle.dimacs.specs.logic.Literal.{Literal, IsWithin}
use Rattle.dimacs.specs.text.Rows.{Fails}
use Rattle.dimacs.specs.text.Words.{lines, words_of}
use Rattle.icnf.specs.declared.fault.IcnfFault.{IcnfFault}
use Rattle.icnf.specs.declared.fault.Kind.TheVariants.{NoHeader, NoMemory}
use Rattle.icnf.specs.Parser.{no_memory}
use Rattle.lrat_text.specs.Lines.{IsOpen}
use Rattle.reports.specs.declared.refusal.Refusal.{Refusal}
use Rattle.sessions.specs.Answers.{Event, Given, Asked}
use Rattle.sessions.specs.Events.{Progress, Row, literals_of, read_row}
use Rattle.sessions.specs.Heard.{Heard, after_row, at_end, by_row, greatest, heard_from, heard_within, no_more}
use Rattle.sessions.specs.Rows.{Held, event_of}
use Rattle.sessions.specs.Sides.{Ends}
use Rattle.sessions.specs.declared.event_lines.Sent.{Sent}
use Rattle.sessions.specs.declared.event_lines.Sent.TheVariants as sent
use Rattle.sessions.proofs.SpellingLemmas.{row_within}
use Rattle.sessions.proofs.TextLemmas.{first_line, last_piece}
use Rattle.commands.specs.Known.{HoldsOf}
use Rattle.commands.specs.Refusals.{IsWanting}
use Rattle.commands.specs.declared.event_source.EventSource.{EventSource}
use Rattle.commands.specs.declared.event_source.Next.{Next}
use Rattle.commands.specs.declared.event_source.Next.TheVariants as next
use Rattle.commands.specs.inner.EventSource.{AreWithin, Hears, HearsNext, IsClosed, IsWaiting, TakesLine, after_events, coming_by, listed}
use Rattle.commands.specs.inner.Greatest.{counted}
use Rattle.commands.specs.inner.Texts.{IsTaken}
use Rattle.commands.proofs.CutLemmas.{AreSmall, up_to}

-- ---- one line
after_row_is : (E : List Event) (o : Option Event) (later : Heard) → after_events E (after_row o later) ≡ after_events (E ++ listed o) later
after_row_is E None later = ap (λ (x : List Event). let h : Heard = record later { events = x ++ later.events } in h) (sym (append-nil E))
after_row_is E (Some e) later = ap (λ (x : List Event). let h : Heard = record later { events = x } in h) (sym (append_assoc E (e ∷ []) later.events))

after_none : (E : List Event) (fault : Option IcnfFault) → after_events E (no_more fault) ≡ record { events = E; fault = fault }
after_none E fault = ap (λ (x : List Event). let h : Heard = record { events = x; fault = fault } in h) (append-nil E)

-- the bytes of a line, with its LF, or without it where it is the last one
abbrev pub shown : Bool → List ℕ → List ℕ
shown true line = line
shown false line = line ++ 10 ∷ []

-- what is heard of a line and of what follows it
heard_row : (n : ℕ) (line rest : List ℕ) (ended : Bool) (p : Progress) → IsOpen line → Ends ended rest
    → heard_from n (lines (shown ended line ++ rest)) p ≡ by_row (read_row (n + 1) (words_of line) p) (λ q. coming_by ended (n + 1) q rest)
unfolding heard_from
heard_row n line rest false p bare ends =
    ap (λ (ls : List (List ℕ)). heard_from n ls p) (ap lines (append_assoc line (10 ∷ []) rest) ∙ first_line line rest bare)
heard_row n line rest true p bare none =
    ap (λ (ls : List (List ℕ)). heard_from n ls p) (ap lines (ap (λ (b : List ℕ). line ++ b) none ∙ append-nil line) ∙ last_piece line bare)

-- ---- the bytes of a source
pub line_open : (old left : Option (List ℕ)) (ended : Bool) (line : List ℕ) → TakesLine old left ended line → IsOpen line
line_open None left ended line h = h
line_open (Some all) None ended line h = absurd h
line_open (Some all) (Some rest) true line h = h.0
line_open (Some all) (Some rest) false line h = h.0

taken_on : (all old left : Option (List ℕ)) (bytes line : List ℕ) (ended : Bool) → IsTaken all bytes old false → TakesLine old left ended line → IsTaken all (bytes ++ shown ended line) left ended
taken_on None old left bytes line ended h k = tt
taken_on (Some all) None left bytes line ended h k = absurd h
taken_on (Some all) (Some rest) None bytes line ended h k = absurd k
taken_on (Some all) (Some rest) (Some more) bytes line true h k =
    (h.0 ∙ ap (λ (b : List ℕ). bytes ++ b) k.1 ∙ sym (append-nil (bytes ++ line)) ∙ ap (λ (b : List ℕ). (bytes ++ line) ++ b) (sym k.2), k.2)
taken_on (Some all) (Some rest) (Some more) bytes line false h k =
    (h.0 ∙ ap (λ (b : List ℕ). bytes ++ b) (k.1 ∙ sym (append_assoc line (10 ∷ []) more)) ∙ sym (append_assoc bytes (line ++ 10 ∷ []) more), tt)

ends_nil : (b : Bool) → Ends {X = ℕ} b []
ends_nil true = refl
ends_nil false = tt

-- what is so of these bytes whatever follows is so of all bytes of the source
of_taken : (P : List ℕ → Type 0) (all left : Option (List ℕ)) (bytes : List ℕ) (ended : Bool) → IsTaken all bytes left ended → ((more : List ℕ) → Ends ended more → P (bytes ++ more)) → HoldsOf all P
of_taken P None left bytes ended h f = (bytes ++ [], f [] (ends_nil ended))
of_taken P (Some all) None bytes ended h f = absurd h
of_taken P (Some all) (Some rest) bytes ended h f = subst P (sym h.0) (f rest h.1)

-- ---- variables
abbrev Within : ℕ → List Literal → Type 0
Within most ls = All (IsWithin most) ls

pub greatest_within : (most : ℕ) (ls : List Literal) → Within most ls → greatest_of ls ≤ most
greatest_within most [] h = omega arith
greatest_within most (l ∷ ls) h = let one = All-head (IsWithin most) l ls h in omega (arith, one.1, greatest_within most ls (All-tail (IsWithin most) l ls h))

swap : (a b c : ℕ) → max a (max b c) ≡ max b (max a c)
swap a b c = omega arith

pub greatest_on : (E : List Event) (e : Event) → greatest (E ++ e ∷ []) ≡ max (greatest_of (literals_of e)) (greatest E)
greatest_on [] e = refl
greatest_on (d ∷ E) e = ap (λ (n : ℕ). max (greatest_of (literals_of d)) n) (greatest_on E e) ∙ swap (greatest_of (literals_of d)) (greatest_of (literals_of e)) (greatest E)

-- the greatest variable after a line
counted_is : (E : List Event) (says : Sent) (ls : List Literal) → counted says ls (greatest E) ≡ greatest (E ++ listed (event_of says ls))
counted_is E sent.Nothing ls = ap greatest (sym (append-nil E))
counted_is E sent.Clause ls = sym (greatest_on E (Given ls))
counted_is E sent.Query ls = sym (greatest_on E (Asked ls))

-- the literals of a line's event are within the limits
pub line_within : (n : ℕ) (ws : List (List ℕ)) (p q : Progress) (says : Sent) (ls : List Literal) → read_row n ws p ≡ Ok (q, event_of says ls) → AreWithin p.limits.vars says ls
line_within n ws p q sent.Nothing ls h = tt
line_within n ws p q sent.Clause ls h = row_within n ws p q (Given ls) h
line_within n ws p q sent.Query ls h = row_within n ws p q (Asked ls) h

-- so the greatest variable stays within them
pub greatest_few : (most : ℕ) (says : Sent) (ls : List Literal) (n m : ℕ) → AreWithin most says ls → m ≡ counted says ls n → n ≤ most → m ≤ most
greatest_few most sent.Nothing ls n m h is few = omega (arith, is, few)
greatest_few most sent.Clause ls n m h is few = omega (arith, is, few, greatest_within most ls h)
greatest_few most sent.Query ls n m h is few = omega (arith, is, few, greatest_within most ls h)

-- and they are literals of variables up to it
pub line_waits : (most : ℕ) (says : Sent) (ls : List Literal) (n m : ℕ) → AreWithin most says ls → m ≡ counted says ls n → IsWaiting says m ls
line_waits most sent.Nothing ls n m h is = tt
line_waits most sent.Clause ls n m h is = up_to most m ls (omega (arith, is, le-max_left (greatest_of ls) n)) h
line_waits most sent.Query ls n m h is = up_to most m ls (omega (arith, is, le-max_left (greatest_of ls) n)) h

small_on : (most : ℕ) (E : List Event) (says : Sent) (ls : List Literal) → AreSmall most E → AreWithin most says ls → AreSmall most (E ++ listed (event_of says ls))
small_on most E says ls h within = All-append (λ e. Within most (literals_of e)) E (listed (event_of says ls)) h (one says within)
  where
    one : (s : Sent) → AreWithin most s ls → AreSmall most (listed (event_of s ls))
    one sent.Nothing w = All-nil (λ e. Within most (literals_of e))
    one sent.Clause w = All-cons (λ e. Within most (literals_of e)) (Given ls) [] w (All-nil (λ e. Within most (literals_of e)))
    one sent.Query w = All-cons (λ e. Within most (literals_of e)) (Asked ls) [] w (All-nil (λ e. Within most (literals_of e)))

-- ---- line after line
-- what is read of the next line
pub row_from : (n m : ℕ) (line text : List ℕ) (p q : Progress) (r : Row) → m ≡ n + 1 → text ≡ line → q ≡ p → read_row m (words_of text) q ≡ r → read_row (n + 1) (words_of line) p ≡ r
row_from n m line text p q r number same before h =
    ap (λ (k : ℕ). read_row k (words_of line) p) (sym number) ∙ ap (λ (b : List ℕ). read_row m (words_of b) p) (sym same) ∙ ap (λ (z : Progress). read_row m (words_of text) z) (sym before) ∙ h

module _ {B : Type 0} (L : Limits) (all : Option (List ℕ)) (remaining : B → Option (List ℕ)) (E : List Event) (x : EventSource B) (left : Option (List ℕ)) (ended : Bool) (line : List ℕ)
    (open_ : x.has_ended ≡ false) (takes : TakesLine (remaining x.source) left ended line) (h : Hears L all remaining E x) where
  bare : IsOpen line
  bare = line_open (remaining x.source) left ended line takes

  taken : IsTaken all (h.bytes ++ shown ended line) left ended
  taken = taken_on all (remaining x.source) left h.bytes line ended (subst (λ (b : Bool). IsTaken all h.bytes (remaining x.source) b) open_ h.taken) takes

  -- what is heard then
  from_here : (more : List ℕ) → Ends ended more → heard_within L ((h.bytes ++ shown ended line) ++ more) ≡ after_events E (by_row (read_row (x.read + 1) (words_of line) x.lines.progress) (λ q. coming_by ended (x.read + 1) q more))
  from_here more ends =
      let b : List ℕ = shown ended line ++ more in
      ap (heard_within L) (append_assoc h.bytes (shown ended line) more)
      ∙ h.heard_so.is b (subst (λ (o : Bool). Ends o b) (sym open_) tt)
      ∙ ap (λ (o : Bool). after_events E (coming_by o x.read x.lines.progress b)) open_
      ∙ ap (after_events E) (heard_row x.read line more ended x.lines.progress bare ends)

  -- a line that is read
  pub hears_line : (y : EventSource B) (says : Sent) (held : Held) → remaining y.source ≡ left → y.has_ended ≡ ended → y.read ≡ x.read + 1 → y.lines ≡ held → held.progress.limits ≡ x.lines.progress.limits → y.greatest ≡ counted says held.read.literals x.greatest
      → read_row (x.read + 1) (words_of line) x.lines.progress ≡ Ok (held.progress, event_of says held.read.literals) → Hears L all remaining (E ++ listed (event_of says y.lines.read.literals)) y
  hears_line y says held source still number same kept most row =
      let ls : List Literal = held.read.literals in
      let D : List Event = E ++ listed (event_of says ls) in
      let bytes : List ℕ = h.bytes ++ shown ended line in
      let taken_so : IsTaken all bytes (remaining y.source) y.has_ended = subst (λ (b : Bool). IsTaken all bytes (remaining y.source) b) (sym still) (subst (λ (o : Option (List ℕ)). IsTaken all bytes o ended) (sym source) taken) in
      subst (λ (k : Held). Hears L all remaining (E ++ listed (event_of says k.read.literals)) y) (sym same)
      record {
        bytes = bytes;
        taken = taken_so;
        heard_so = record {
          is = λ more ends.
              from_here more (subst (λ (b : Bool). Ends b more) still ends)
              ∙ ap (λ (r : Row). after_events E (by_row r (λ q. coming_by ended (x.read + 1) q more))) row
              ∙ after_row_is E (event_of says ls) (coming_by ended (x.read + 1) held.progress more)
              ∙ ap (λ (n : ℕ). after_events D (coming_by ended n held.progress more)) (sym number)
              ∙ ap (λ (k : Held). after_events D (coming_by ended y.read k.progress more)) (sym same)
              ∙ ap (λ (b : Bool). after_events D (coming_by b y.read y.lines.progress more)) (sym still);
          greatest_is = most ∙ ap (counted says ls) h.heard_so.greatest_is ∙ counted_is E says ls;
          within = small_on L.vars E says ls h.heard_so.within
              (subst (λ (M : Limits). AreWithin M.vars says ls) h.heard_so.limits (line_within (x.read + 1) (words_of line) x.lines.progress held.progress says ls row));
          limits = ap (λ (k : Held). k.progress.limits) same ∙ kept ∙ h.heard_so.limits;
        };
      }

  -- the first fault
  pub hears_fault : (fault : IcnfFault) → read_row (x.read + 1) (words_of line) x.lines.progress ≡ Err fault → HoldsOf all (λ text. heard_within L text ≡ record { events = E; fault = Some fault })
  hears_fault fault row =
      of_taken (λ text. heard_within L text ≡ record { events = E; fault = Some fault }) all left (h.bytes ++ shown ended line) ended taken
      (λ more ends. from_here more ends ∙ ap (λ (r : Row). after_events E (by_row r (λ q. coming_by ended (x.read + 1) q more))) row ∙ after_none E (Some fault))

-- ---- the end
at_end_is : (E : List Event) (n : ℕ) (p : Progress) → p.headed ≡ true → after_events E (at_end n p) ≡ record { events = E; fault = None }
at_end_is E n p headed = ap (λ (b : Bool). after_events E (if b then no_more None else no_more (Some (record { kind = NoHeader; line = n })))) headed ∙ after_none E None

at_end_faulty : (E : List Event) (n : ℕ) (p : Progress) → p.headed ≡ false → after_events E (at_end n p) ≡ record { events = E; fault = Some (record { kind = NoHeader; line = n }) }
at_end_faulty E n p bare = ap (λ (b : Bool). after_events E (if b then no_more None else no_more (Some (record { kind = NoHeader; line = n })))) bare ∙ after_none E (Some (record { kind = NoHeader; line = n }))

module _ {B : Type 0} (L : Limits) (all : Option (List ℕ)) (remaining : B → Option (List ℕ)) (E : List Event) (x : EventSource B) (ended : x.has_ended ≡ true) (h : Hears L all remaining E x) where
  all_heard : (k : Heard) → after_events E (at_end x.read x.lines.progress) ≡ k → HoldsOf all (λ text. heard_within L text ≡ k)
  all_heard k is =
      of_taken (λ text. heard_within L text ≡ k) all (remaining x.source) h.bytes x.has_ended h.taken
      (λ more ends. h.heard_so.is more ends ∙ ap (λ (b : Bool). after_events E (coming_by b x.read x.lines.progress more)) ended ∙ is)

  by_head : (b : Bool) → x.lines.progress.headed ≡ b → HearsNext L all remaining E x (if b then next.Ended else next.Faulty (record { kind = NoHeader; line = x.read }))
  by_head true headed = all_heard (record { events = E; fault = None }) (at_end_is E x.read x.lines.progress headed)
  by_head false bare = all_heard (record { events = E; fault = Some (record { kind = NoHeader; line = x.read }) }) (at_end_faulty E x.read x.lines.progress bare)

  pub hears_end : (found : Next) → IsClosed x.read x.lines.progress found → HearsNext L all remaining E x found
  hears_end found is = subst (λ (n : Next). HearsNext L all remaining E x n) (sym is) (by_head x.lines.progress.headed refl)

-- what comes of a fault of a line
pub fault_by : {B : Type 0} (L : Limits) (all : Option (List ℕ)) (remaining : B → Option (List ℕ)) (E : List Event) (y : EventSource B) (fault : IcnfFault) (row : Row) (r : Result Next Refusal)
    → MatchResult r (λ n. (n ≡ next.Faulty fault) × (fault.kind ≢ NoMemory)) IsWanting → Fails no_memory fault row → (row ≡ Err fault → HoldsOf all (λ text. heard_within L text ≡ record { events = E; fault = Some fault })) → IfOk r (HearsNext L all remaining E y)
fault_by L all remaining E y fault row (Ok n) m (inl wants) f = absurd (m.1 (ap (λ (z : IcnfFault). z.kind) wants))
fault_by L all remaining E y fault row (Ok n) m (inr is) f = subst (λ (z : Next). HearsNext L all remaining E y z) (sym m.0) (f is)
fault_by L all remaining E y fault row (Err e) m h f = tt
