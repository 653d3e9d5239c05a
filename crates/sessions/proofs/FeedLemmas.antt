-- What has been taken of a session's proof and of its events.
use Rattle.std.proofs.Common.{◌≡◌, ◌⊎◌, inl, inr, ℕ, ◌+◌, Bool, true, false, List, [], ◌∷◌, ◌++◌, sym, ◌∙◌, ap, subst, append_assoc, take, length, eqb}
use Rattle.std.proofs.lemmas.List.{append-nil}
use Rattle.std.proofs.lemmas.List.Elements.{All-append, All-nil}
use Rattle.std.proofs.Math.Seq.{take-append-add, take-length}
use Rattle.dimacs.specs.logic.Limits.{Limits}
use Rattle.dimacs.specs.text.Words.{lines}
use Rattle.lrat_check.specs.ProofFaults.{no_memory}
use Rattle.lrat_text.specs.Lines.{IsCut, IsOpen}
use Rattle.sessions.specs.Answers.{Event, counted}
use Rattle.sessions.specs.Follows.{Follows}
use Rattle.sessions.specs.Texts.{State, behind, listed, session_within, text_from}
use Rattle.sessions.specs.View.{state_of}
use Rattle.sessions.specs.Sides.{Ends, IsBroken, IsHigh, IsResting, later, later_by}
use Rattle.sessions.specs.inner.Sides.{EndsEvents, EndsLine, EndsProof, Hears, IsFirst}
use Rattle.sessions.specs.declared.known.Known.{Known}
use Rattle.sessions.specs.declared.proof_side.Phase.{Phase}
use Rattle.sessions.specs.declared.proof_side.Phase.TheVariants as phase
use Rattle.sessions.specs.declared.proof_side.ProofSide.{ProofSide}
use Rattle.sessions.proofs.TextLemmas.{behind_behind, last_piece, tally_more, text_line}

open_nil : IsOpen []
open_nil = All-nil (λ b. eqb b 10 ≡ false)

not_reading : (x : ProofSide) → x.phase ≡ phase.Reading → IsBroken x → ⊥
not_reading x e broken = let h : phase.Reading ≡ phase.Stopped no_memory = sym e ∙ broken in absurd cc

reading_live : (x : ProofSide) → x.phase ≡ phase.Reading → (x.no_byte ≡ false) ⊎ IsResting x.phase → x.no_byte ≡ false
reading_live x e (inl more) = more
reading_live x e (inr rests) = absurd (subst (λ (q : Phase). IsResting q) e rests)

pub taken_front : (piece text rest : List ℕ) (n : ℕ) → IsCut piece text rest → n ≡ length text + 1 → take n piece ≡ text ++ 10 ∷ []
taken_front piece text rest n cut is = ap (take n) cut.0 ∙ ap (λ (m : ℕ). take m (text ++ 10 ∷ rest)) is ∙ take-append-add text (10 ∷ rest) 1

pub taken_all : (piece : List ℕ) (n : ℕ) → n ≡ length piece → take n piece ≡ piece
taken_all piece n is = ap (λ (m : ℕ). take m piece) is ∙ take-length piece

lives : (old new : ProofSide) → new.no_byte ≡ old.no_byte → (IsResting old.phase → IsResting new.phase) → (old.no_byte ≡ false) ⊎ IsResting old.phase → (new.no_byte ≡ false) ⊎ IsResting new.phase
lives old new same rests (inl more) = inl (same ∙ more)
lives old new same rests (inr quiet) = inr (rests quiet)

module _ {L : Limits} where
  -- nothing was taken
  pub follows_begun : (x : ProofSide) → IsFirst L x → Follows L [] [] x
  follows_begun x h = inr (record {
    told = [];
    counts = h.tally;
    high = subst (λ (p : Phase). IsHigh p x.lines.known) (sym h.phase) tt;
    bare = subst (λ (b : List ℕ). IsOpen b) (sym h.begun_is) open_nil;
    live = inl h.no_byte;
    is = λ D more ends bytes.
        ap (λ (s : State). text_from s 1 D (lines more)) (sym h.state)
        ∙ ap (λ (n : ℕ). text_from (state_of x.lines.known) n D (lines more)) (sym h.line)
        ∙ ap (λ (b : List ℕ). text_from (state_of x.lines.known) x.line D (lines (b ++ more))) (sym h.begun_is)
        ∙ ap (λ (p : Phase). later_by p x.lines.known x.line D (lines (x.begun.items ++ more))) (sym h.phase);
  })

  -- a piece of the line that is begun
  pub follows_part : (E : List Event) (p piece : List ℕ) (old new : ProofSide) → new.phase ≡ old.phase → new.lines.known ≡ old.lines.known → new.line ≡ old.line → new.no_event ≡ old.no_event → new.no_byte ≡ old.no_byte
      → new.begun.items ≡ old.begun.items ++ piece → IsOpen piece → old.phase ≡ phase.Reading → Follows L E p old → Follows L E (p ++ piece) new
  follows_part E p piece old new same_phase known line no_event no_byte begun bare reading (inl broken) = inl (same_phase ∙ broken)
  follows_part E p piece old new same_phase known line no_event no_byte begun bare reading (inr r) = inr (record {
    told = r.told;
    counts = ap (λ (k : Known). k.tally) known ∙ r.counts;
    high = subst (λ (q : Phase). IsHigh q new.lines.known) (sym same_phase) (subst (λ (k : Known). IsHigh old.phase k) (sym known) r.high);
    bare = subst (λ (b : List ℕ). IsOpen b) (sym begun) (All-append (λ b. eqb b 10 ≡ false) old.begun.items piece r.bare bare);
    live = inl (no_byte ∙ reading_live old reading r.live);
    is = λ D more ends bytes.
        ap (session_within L (E ++ D)) (append_assoc p piece more)
        ∙ r.is D (piece ++ more) (subst (λ (b : Bool). Ends b D) no_event ends) (subst (λ (b : Bool). Ends b (piece ++ more)) (sym (reading_live old reading r.live)) tt)
        ∙ ap (λ (b : List ℕ). behind r.told (later_by old.phase old.lines.known old.line D (lines b))) (sym (append_assoc old.begun.items piece more) ∙ ap (λ (b : List ℕ). b ++ more) (sym begun))
        ∙ ap (λ (k : Known). behind r.told (later_by old.phase k old.line D (lines (new.begun.items ++ more)))) (sym known)
        ∙ ap (λ (n : ℕ). behind r.told (later_by old.phase new.lines.known n D (lines (new.begun.items ++ more)))) (sym line)
        ∙ ap (λ (q : Phase). behind r.told (later_by q new.lines.known new.line D (lines (new.begun.items ++ more)))) (sym same_phase);
  })

  -- the end of the line that is begun
  pub follows_line : (E : List Event) (p text : List ℕ) (old mid new : ProofSide) → old.phase ≡ phase.Reading → mid.no_byte ≡ old.no_byte → mid.lines.known ≡ old.lines.known → mid.line ≡ old.line → mid.no_event ≡ old.no_event
      → mid.begun.items ≡ old.begun.items ++ text → IsOpen text → EndsLine mid new → Follows L E p old → Follows L E (p ++ (text ++ 10 ∷ [])) new
  follows_line E p text old mid new reading same_byte known line no_event begun bare (inl broken) f = inl broken
  follows_line E p text old mid new reading same_byte known line no_event begun bare (inr t) (inl broken) = absurd (not_reading old reading broken)
  follows_line E p text old mid new reading same_byte known line no_event begun bare (inr t) (inr r) = inr (record {
    told = r.told ++ listed t.answer;
    counts = tally_more r.told (listed t.answer) old.lines.known.tally new.lines.known.tally r.counts (t.tally ∙ ap (λ (k : Known). counted k.tally (listed t.answer)) known);
    high = t.high;
    bare = subst (λ (b : List ℕ). IsOpen b) (sym t.begun) open_nil;
    live = inl (t.no_byte ∙ same_byte ∙ reading_live old reading r.live);
    is = λ D more ends bytes.
        let left : Ends mid.no_event D = subst (λ (b : Bool). Ends b D) t.no_event ends in
        let whole : IsOpen mid.begun.items = subst (λ (b : List ℕ). IsOpen b) (sym begun) (All-append (λ b. eqb b 10 ≡ false) old.begun.items text r.bare bare) in
        ap (session_within L (E ++ D)) (append_assoc p (text ++ 10 ∷ []) more ∙ ap (λ (b : List ℕ). p ++ b) (append_assoc text (10 ∷ []) more))
        ∙ r.is D (text ++ 10 ∷ more) (subst (λ (b : Bool). Ends b D) no_event left) (subst (λ (b : Bool). Ends b (text ++ 10 ∷ more)) (sym (reading_live old reading r.live)) tt)
        ∙ ap (λ (q : Phase). behind r.told (later_by q old.lines.known old.line D (lines (old.begun.items ++ (text ++ 10 ∷ more))))) reading
        ∙ ap (λ (b : List ℕ). behind r.told (text_from (state_of old.lines.known) old.line D (lines b))) (sym (append_assoc old.begun.items text (10 ∷ more)) ∙ ap (λ (b : List ℕ). b ++ 10 ∷ more) (sym begun))
        ∙ ap (λ (k : Known). behind r.told (text_from (state_of k) old.line D (lines (mid.begun.items ++ 10 ∷ more)))) (sym known)
        ∙ ap (λ (n : ℕ). behind r.told (text_from (state_of mid.lines.known) n D (lines (mid.begun.items ++ 10 ∷ more)))) (sym line)
        ∙ ap (behind r.told) (text_line (state_of mid.lines.known) mid.line D mid.begun.items more whole ∙ t.is D (lines more) left)
        ∙ behind_behind r.told (listed t.answer) (later new D (lines more))
        ∙ ap (λ (b : List ℕ). behind (r.told ++ listed t.answer) (later new D (lines (b ++ more)))) (sym t.begun);
  })

  -- an event
  pub follows_event : (E : List Event) (p : List ℕ) (e : Event) (old new : ProofSide) → old.no_event ≡ false → Hears old e new → Follows L E p old → Follows L (E ++ e ∷ []) p new
  follows_event E p e old new more (inl broken) f = inl broken
  follows_event E p e old new more (inr (t, same)) (inl broken) = inl (t.stays broken)
  follows_event E p e old new more (inr (t, same)) (inr r) = inr (record {
    told = r.told;
    counts = t.tally ∙ r.counts;
    high = t.high;
    bare = subst (λ (b : List ℕ). IsOpen b) (sym t.begun) r.bare;
    live = lives old new t.no_byte t.rests r.live;
    is = λ D bytes ends rest.
        ap (λ (X : List Event). session_within L X (p ++ bytes)) (append_assoc E (e ∷ []) D)
        ∙ r.is (e ∷ D) bytes (subst (λ (b : Bool). Ends b (e ∷ D)) (sym more) tt) (subst (λ (b : Bool). Ends b bytes) t.no_byte rest)
        ∙ ap (behind r.told) (t.is D (lines (old.begun.items ++ bytes)) ends)
        ∙ ap (λ (b : List ℕ). behind r.told (later new D (lines (b ++ bytes)))) (sym t.begun);
  })

  -- no event comes any more
  pub follows_events : (E : List Event) (p : List ℕ) (old new : ProofSide) → EndsEvents old new → Follows L E p old → Follows L E p new
  follows_events E p old new (t, none) (inl broken) = inl (t.stays broken)
  follows_events E p old new (t, none) (inr r) = inr (record {
    told = r.told;
    counts = t.tally ∙ r.counts;
    high = t.high;
    bare = subst (λ (b : List ℕ). IsOpen b) (sym t.begun) r.bare;
    live = lives old new t.no_byte t.rests r.live;
    is = λ D bytes ends rest.
        r.is D bytes (any old.no_event D (subst (λ (b : Bool). Ends b D) none ends)) (subst (λ (b : Bool). Ends b bytes) t.no_byte rest)
        ∙ ap (behind r.told) (t.is D (lines (old.begun.items ++ bytes)) ends)
        ∙ ap (λ (b : List ℕ). behind r.told (later new D (lines (b ++ bytes)))) (sym t.begun);
  })
    where
      any : (b : Bool) (D : List Event) → D ≡ [] → Ends b D
      any true D e = e
      any false D e = tt

  -- no byte comes any more
  pub follows_end : (E : List Event) (p : List ℕ) (old new : ProofSide) → old.phase ≡ phase.Reading → EndsProof old new → Follows L E p old → Follows L E p new
  follows_end E p old new reading t (inl broken) = absurd (not_reading old reading broken)
  follows_end E p old new reading t (inr r) = inr (record {
    told = r.told;
    counts = t.tally ∙ r.counts;
    high = t.high;
    bare = subst (λ (b : List ℕ). IsOpen b) (sym t.begun) r.bare;
    live = inr t.rests;
    is = λ D bytes ends rest.
        let none : bytes ≡ [] = subst (λ (b : Bool). Ends b bytes) t.no_byte rest in
        let left : Ends old.no_event D = subst (λ (b : Bool). Ends b D) t.no_event ends in
        ap (λ (b : List ℕ). session_within L (E ++ D) (p ++ b)) none
        ∙ r.is D [] left (subst (λ (b : Bool). Ends {X = ℕ} b []) (sym (reading_live old reading r.live)) tt)
        ∙ ap (λ (q : Phase). behind r.told (later_by q old.lines.known old.line D (lines (old.begun.items ++ [])))) reading
        ∙ ap (λ (b : List (List ℕ)). behind r.told (text_from (state_of old.lines.known) old.line D b)) (ap lines (append-nil old.begun.items) ∙ last_piece old.begun.items r.bare)
        ∙ ap (behind r.told) (t.is D (lines (new.begun.items ++ bytes)) left);
  })
