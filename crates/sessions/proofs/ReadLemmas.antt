-- What has been taken of the events.
use Rattle.std.proofs.Common.{◌≡◌, ◌⊎◌, inl, inr, ℕ, ◌+◌, Bool, true, false, List, [], ◌∷◌, ◌++◌, Option, Some, None, Result, Ok, Err, cond, refl, sym, ◌∙◌, ap, subst, append_assoc, eqb}
use Rattle.std.proofs.lemmas.List.{append-nil}
use Rattle.std.proofs.lemmas.List.Elements.{All-append, All-nil}
use Rattle.dimacs.specs.logic.Limits.{Limits}
use Rattle.dimacs.specs.text.Rows.{◌>>=◌, Fails}
use Rattle.dimacs.specs.text.Words.{lines, words_of}
use Rattle.icnf.specs.Parser as icnf
use Rattle.icnf.specs.declared.fault.IcnfFault.{IcnfFault}
use Rattle.icnf.specs.declared.fault.Kind.TheVariants.{NoHeader}
use Rattle.lrat_text.specs.Lines.{IsOpen}
use Rattle.sessions.specs.Answers.{Event}
use Rattle.sessions.specs.Check.{HasTaken, ReadsBy, coming_by, front}
use Rattle.sessions.specs.Follows.{Follows}
use Rattle.sessions.specs.Events.{Progress, Row, events_within, read_lines, read_row, start, with_event}
use Rattle.sessions.specs.inner.Feeding.{EndsRow, HearsRow, closing}
use Rattle.sessions.specs.Sides.{Ends, IsHigh}
use Rattle.sessions.specs.inner.Sides.{EndsEvents, IsFirst}
use Rattle.sessions.specs.declared.check.SessionCheck.{SessionCheck}
use Rattle.sessions.specs.declared.proof_side.Phase.{Phase}
use Rattle.sessions.specs.declared.proof_side.ProofSide.{ProofSide}
use Rattle.sessions.proofs.FeedLemmas.{follows_begun, follows_event, follows_events}
use Rattle.sessions.proofs.TextLemmas.{first_line, last_piece}

open_nil : IsOpen []
open_nil = All-nil (λ b. eqb b 10 ≡ false)

pub high_of : {L : Limits} (E : List Event) (p : List ℕ) (x : ProofSide) → Follows L E p x → IsHigh x.phase x.lines.known
high_of E p x (inl broken) = subst (λ (q : Phase). IsHigh q x.lines.known) (sym broken) tt
high_of E p x (inr r) = r.high

-- ---- events in front of others
of_row : Option Event → List Event
of_row None = []
of_row (Some e) = e ∷ []

front_row : (E : List Event) (o : Option Event) (later : Result (List Event) IcnfFault) → front E (with_event o later) ≡ front (E ++ of_row o) later
unfolding of_row
front_row E None (Ok D) = ap (λ (X : List Event). Ok (X ++ D)) (sym (append-nil E))
front_row E None (Err f) = refl
front_row E (Some e) (Ok D) = ap Ok (sym (append_assoc E (e ∷ []) D))
front_row E (Some e) (Err f) = refl

-- ---- a line
lines_row : (n : ℕ) (line : List ℕ) (more : List (List ℕ)) (p : Progress) → read_lines n (line ∷ more) p ≡ (read_row (n + 1) (words_of line) p >>= λ r. with_event r.1 (read_lines (n + 1) more r.0))
unfolding read_lines
lines_row n line more p = refl

lines_none : (n : ℕ) (p : Progress) → read_lines n [] p ≡ cond p.headed (Ok []) (icnf.fault NoHeader n)
unfolding read_lines
lines_none n p = refl

module _ (E : List Event) (n : ℕ) (line : List ℕ) (more : List (List ℕ)) (p : Progress) where
  row_passes : (q : Progress) (o : Option Event) → read_row (n + 1) (words_of line) p ≡ Ok (q, o) → front E (read_lines n (line ∷ more) p) ≡ front (E ++ of_row o) (read_lines (n + 1) more q)
  row_passes q o is =
      ap (front E) (lines_row n line more p ∙ ap (λ (r : Row). r >>= λ x. with_event x.1 (read_lines (n + 1) more x.0)) is)
      ∙ front_row E o (read_lines (n + 1) more q)

  row_fails : (f : IcnfFault) → read_row (n + 1) (words_of line) p ≡ Err f → front E (read_lines n (line ∷ more) p) ≡ Err f
  row_fails f is = ap (front E) (lines_row n line more p ∙ ap (λ (r : Row). r >>= λ x. with_event x.1 (read_lines (n + 1) more x.0)) is)

coming_false : (x : SessionCheck) (more : List ℕ) → x.proof.no_event ≡ false → coming_by x.proof.no_event x more ≡ read_lines x.read (lines (x.begun.items ++ more)) x.events.progress
coming_false x more e = ap (λ b. coming_by b x more) e

any : (b : Bool) (xs : List ℕ) → b ≡ false → Ends b xs
any b xs e = subst (λ (c : Bool). Ends c xs) (sym e) tt

none_left : (b : Bool) (xs : List ℕ) → b ≡ true → Ends b xs → xs ≡ []
none_left b xs e h = subst (λ (c : Bool). Ends c xs) e h

front_nil : (r : Result (List Event) IcnfFault) → r ≡ front [] r
front_nil (Ok D) = refl
front_nil (Err f) = refl

fine_reads : (L : Limits) (o : Option IcnfFault) (e : List ℕ) (E : List Event) (x : SessionCheck) → o ≡ None → ReadsBy L o e E x → ReadsBy L None e E x
fine_reads L o e E x is h = subst (λ (r : Option IcnfFault). ReadsBy L r e E x) is h

module _ {L : Limits} where
  -- the events that were heard by then
  heard : (E : List Event) (p : List ℕ) (o : Option Event) (old new : ProofSide) → old.no_event ≡ false → HearsRow o old new → Follows L E p old → Follows L (E ++ of_row o) p new
  unfolding of_row
  heard E p None old new more is f = subst (λ (X : List Event). Follows L X p new) (sym (append-nil E)) (subst (λ (x : ProofSide). Follows L E p x) (sym is) f)
  heard E p (Some e) old new more hears f = follows_event E p e old new more (hears (high_of E p old f)) f

  -- a piece of the line that is begun
  pub taken_part : (e p piece : List ℕ) (old new : SessionCheck) → old.fault ≡ None → old.proof.no_event ≡ false → new.fault ≡ old.fault → new.proof ≡ old.proof → new.read ≡ old.read → new.events.progress ≡ old.events.progress
      → new.begun.items ≡ old.begun.items ++ piece → IsOpen piece → HasTaken L e p old → HasTaken L (e ++ piece) p new
  taken_part e p piece old new fine more_events same_fault same_proof same_read same_progress begun bare h =
      let r = fine_reads L old.fault e h.events old fine h.reads in
      let no_event : new.proof.no_event ≡ false = ap (λ (x : ProofSide). x.no_event) same_proof ∙ more_events in
      record {
        events = h.events;
        reads = subst (λ (o : Option IcnfFault). ReadsBy L o (e ++ piece) h.events new) (sym (same_fault ∙ fine)) (
          subst (λ (b : List ℕ). IsOpen b) (sym begun) (All-append (λ b. eqb b 10 ≡ false) old.begun.items piece r.0 bare),
          λ more ends.
              ap (events_within L) (append_assoc e piece more)
              ∙ r.1 (piece ++ more) (any old.proof.no_event (piece ++ more) more_events)
              ∙ ap (front h.events) (
              coming_false old (piece ++ more) more_events
              ∙ ap (λ (b : List ℕ). read_lines old.read (lines b) old.events.progress) (sym (append_assoc old.begun.items piece more) ∙ ap (λ (b : List ℕ). b ++ more) (sym begun))
              ∙ ap (λ (n : ℕ). read_lines n (lines (new.begun.items ++ more)) old.events.progress) (sym same_read)
              ∙ ap (λ (q : Progress). read_lines new.read (lines (new.begun.items ++ more)) q) (sym same_progress)
              ∙ sym (coming_false new more no_event)
              ),
        );
        follows = subst (λ (x : ProofSide). Follows L h.events p x) (sym same_proof) h.follows;
      }

  -- the end of a line
  pub taken_line : (e p : List ℕ) (old new : SessionCheck) → old.fault ≡ None → old.proof.no_event ≡ false → new.proof.no_event ≡ old.proof.no_event → EndsRow old new → HasTaken L e p old → HasTaken L (e ++ 10 ∷ []) p new
  taken_line e p old new fine more_events flag (inl f) h =
      let r = fine_reads L old.fault e h.events old fine h.reads in
      record {
        events = h.events;
        reads = subst (λ (o : Option IcnfFault). ReadsBy L o (e ++ 10 ∷ []) h.events new) (sym f.is) (at r f.fails);
        follows = subst (λ (x : ProofSide). Follows L h.events p x) (sym f.proof) h.follows;
      }
    where
      at : ReadsBy L None e h.events old → Fails icnf.no_memory f.fault (read_row (old.read + 1) (words_of old.begun.items) old.events.progress)
          → (f.fault ≡ icnf.no_memory) ⊎ ((more : List ℕ) → Ends new.proof.no_event more → events_within L ((e ++ 10 ∷ []) ++ more) ≡ Err f.fault)
      at r (inl none) = inl none
      at r (inr is) = inr (λ more ends.
          ap (events_within L) (append_assoc e (10 ∷ []) more)
          ∙ r.1 (10 ∷ more) (any old.proof.no_event (10 ∷ more) more_events)
          ∙ ap (front h.events) (coming_false old (10 ∷ more) more_events ∙ ap (λ (ls : List (List ℕ)). read_lines old.read ls old.events.progress) (first_line old.begun.items more r.0))
          ∙ row_fails h.events old.read old.begun.items (lines more) old.events.progress f.fault is)
  taken_line e p old new fine more_events flag (inr t) h =
      let r = fine_reads L old.fault e h.events old fine h.reads in
      record {
        events = h.events ++ of_row t.event;
        reads = subst (λ (o : Option IcnfFault). ReadsBy L o (e ++ 10 ∷ []) (h.events ++ of_row t.event) new) (sym t.fine) (
          subst (λ (b : List ℕ). IsOpen b) (sym t.begun) open_nil,
          λ more ends.
              ap (events_within L) (append_assoc e (10 ∷ []) more)
              ∙ r.1 (10 ∷ more) (any old.proof.no_event (10 ∷ more) more_events)
              ∙ ap (front h.events) (coming_false old (10 ∷ more) more_events ∙ ap (λ (ls : List (List ℕ)). read_lines old.read ls old.events.progress) (first_line old.begun.items more r.0))
              ∙ row_passes h.events old.read old.begun.items (lines more) old.events.progress new.events.progress t.event t.row
              ∙ ap (front (h.events ++ of_row t.event)) (
              ap (λ (b : List ℕ). read_lines (old.read + 1) (lines (b ++ more)) new.events.progress) (sym t.begun)
              ∙ ap (λ (n : ℕ). read_lines n (lines (new.begun.items ++ more)) new.events.progress) (sym t.read)
              ∙ sym (coming_false new more (flag ∙ more_events))
              ),
        );
        follows = heard h.events p t.event old.proof new.proof more_events t.hears h.follows;
      }

  -- the end of the events
  pub taken_last : (e p : List ℕ) (old mid new : SessionCheck) → old.fault ≡ None → old.proof.no_event ≡ false → EndsRow old mid → (IsHigh mid.proof.phase mid.proof.lines.known → EndsEvents mid.proof new.proof)
      → new.proof.no_event ≡ true → new.begun.items ≡ mid.begun.items → new.fault ≡ closing mid.fault mid.events.progress.headed mid.read → HasTaken L e p old → HasTaken L e p new
  taken_last e p old mid new fine more_events (inl f) ends ended begun is h =
      let r = fine_reads L old.fault e h.events old fine h.reads in
      let follows : Follows L h.events p mid.proof = subst (λ (x : ProofSide). Follows L h.events p x) (sym f.proof) h.follows in
      record {
        events = h.events;
        reads = subst (λ (o : Option IcnfFault). ReadsBy L o e h.events new) (sym (is ∙ ap (λ (o : Option IcnfFault). closing o mid.events.progress.headed mid.read) f.is)) (at r f.fails);
        follows = follows_events h.events p mid.proof new.proof (ends (high_of h.events p mid.proof follows)) follows;
      }
    where
      at : ReadsBy L None e h.events old → Fails icnf.no_memory f.fault (read_row (old.read + 1) (words_of old.begun.items) old.events.progress)
          → (f.fault ≡ icnf.no_memory) ⊎ ((more : List ℕ) → Ends new.proof.no_event more → events_within L (e ++ more) ≡ Err f.fault)
      at r (inl none) = inl none
      at r (inr failed) = inr (λ more left.
          ap (λ (b : List ℕ). events_within L (e ++ b)) (none_left new.proof.no_event more ended left)
          ∙ r.1 [] (any old.proof.no_event [] more_events)
          ∙ ap (front h.events) (coming_false old [] more_events ∙ ap (λ (ls : List (List ℕ)). read_lines old.read ls old.events.progress) (ap lines (append-nil old.begun.items) ∙ last_piece old.begun.items r.0))
          ∙ row_fails h.events old.read old.begun.items [] old.events.progress f.fault failed)
  taken_last e p old mid new fine more_events (inr t) ends ended begun is h =
      let r = fine_reads L old.fault e h.events old fine h.reads in
      let follows : Follows L (h.events ++ of_row t.event) p mid.proof = heard h.events p t.event old.proof mid.proof more_events t.hears h.follows in
      record {
        events = h.events ++ of_row t.event;
        reads = at r mid.events.progress.headed refl;
        follows = follows_events (h.events ++ of_row t.event) p mid.proof new.proof (ends (high_of (h.events ++ of_row t.event) p mid.proof follows)) follows;
      }
    where
      all : ReadsBy L None e h.events old → (more : List ℕ) → Ends new.proof.no_event more → (b : Bool) → mid.events.progress.headed ≡ b
          → events_within L (e ++ more) ≡ front (h.events ++ of_row t.event) (cond b (Ok []) (icnf.fault NoHeader mid.read))
      all r more left b headed =
          ap (λ (x : List ℕ). events_within L (e ++ x)) (none_left new.proof.no_event more ended left)
          ∙ r.1 [] (any old.proof.no_event [] more_events)
          ∙ ap (front h.events) (coming_false old [] more_events ∙ ap (λ (ls : List (List ℕ)). read_lines old.read ls old.events.progress) (ap lines (append-nil old.begun.items) ∙ last_piece old.begun.items r.0))
          ∙ row_passes h.events old.read old.begun.items [] old.events.progress mid.events.progress t.event t.row
          ∙ ap (front (h.events ++ of_row t.event)) (
          ap (λ (n : ℕ). read_lines n [] mid.events.progress) (sym t.read)
          ∙ lines_none mid.read mid.events.progress
          ∙ ap (λ b. cond b (Ok []) (icnf.fault NoHeader mid.read)) headed
          )

      at : ReadsBy L None e h.events old → (b : Bool) → mid.events.progress.headed ≡ b → ReadsBy L new.fault e (h.events ++ of_row t.event) new
      at r true headed =
          subst (λ (o : Option IcnfFault). ReadsBy L o e (h.events ++ of_row t.event) new)
          (sym (is ∙ ap (λ (o : Option IcnfFault). closing o mid.events.progress.headed mid.read) t.fine ∙ ap (λ b. closing None b mid.read) headed)) (
            subst (λ (b : List ℕ). IsOpen b) (sym (begun ∙ t.begun)) open_nil,
            λ more left. all r more left true headed ∙ ap (λ b. front (h.events ++ of_row t.event) (coming_by b new more)) (sym ended),
          )
      at r false headed =
          subst (λ (o : Option IcnfFault). ReadsBy L o e (h.events ++ of_row t.event) new)
          (sym (is ∙ ap (λ (o : Option IcnfFault). closing o mid.events.progress.headed mid.read) t.fine ∙ ap (λ b. closing None b mid.read) headed))
          (inr (λ more left. all r more left false headed))

  -- nothing was taken
  pub taken_begun : (x : SessionCheck) → IsFirst L x.proof → x.fault ≡ None → x.read ≡ 0 → x.events.progress ≡ start L → x.begun.items ≡ [] → HasTaken L [] [] x
  taken_begun x first fine read progress begun = record {
    events = [];
    reads = subst (λ (o : Option IcnfFault). ReadsBy L o [] [] x) (sym fine) (
      subst (λ (b : List ℕ). IsOpen b) (sym begun) open_nil,
      λ more ends.
          front_nil (read_lines 0 (lines more) (start L))
          ∙ ap (front []) (
          ap (λ (n : ℕ). read_lines n (lines more) (start L)) (sym read)
          ∙ ap (λ (q : Progress). read_lines x.read (lines more) q) (sym progress)
          ∙ ap (λ (b : List ℕ). read_lines x.read (lines (b ++ more)) x.events.progress) (sym begun)
          ∙ sym (coming_false x more first.no_event)
          ),
    );
    follows = follows_begun x.proof first;
  }

  -- memory ran out
  pub taken_broken : (e f p : List ℕ) (old new : SessionCheck) → new.fault ≡ Some icnf.no_memory → new.proof ≡ old.proof → HasTaken L e p old → HasTaken L f p new
  taken_broken e f p old new broken same h = record {
    events = h.events;
    reads = subst (λ (o : Option IcnfFault). ReadsBy L o f h.events new) (sym broken) (inl refl);
    follows = subst (λ (x : ProofSide). Follows L h.events p x) (sym same) h.follows;
  }

  -- the proof goes on
  pub taken_proof : (e p q : List ℕ) (old : SessionCheck) (y : ProofSide) → y.no_event ≡ old.proof.no_event → ((E : List Event) → Follows L E p old.proof → Follows L E q y) → HasTaken L e p old → HasTaken L e q (record old { proof = y })
  taken_proof e p q old y flag goes h = record {
    events = h.events;
    reads = at old.fault h.reads;
    follows = goes h.events h.follows;
  }
    where
      coming_same : (b : Bool) (more : List ℕ) → coming_by b old more ≡ coming_by b (record old { proof = y }) more
      coming_same true more = refl
      coming_same false more = refl

      at : (o : Option IcnfFault) → ReadsBy L o e h.events old → ReadsBy L o e h.events (record old { proof = y })
      at None r = (
        r.0,
        λ more ends.
            r.1 more (subst (λ (b : Bool). Ends b more) flag ends)
            ∙ ap (λ b. front h.events (coming_by b old more)) (sym flag)
            ∙ ap (front h.events) (coming_same y.no_event more),
      )
      at (Some f) (inl none) = inl none
      at (Some f) (inr is) = inr (λ more ends. is more (subst (λ (b : Bool). Ends b more) flag ends))
