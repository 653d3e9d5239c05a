-- What the text answers if no byte comes any more.
use Rattle.std.proofs.Common.{◌≡◌, ℕ, true, false, List, [], ◌∷◌, cond, refl, sym, ◌∙◌, ap, subst, length, eqb, suc, arith}
use Rattle.std.proofs.lemmas.Bool.{true≢false, ne_eqb}
use Rattle.sessions.specs.Answers.{Event}
use Rattle.sessions.specs.Texts.{State, by_left, end_of, is_between, pieces_from, stopped, text_from}
use Rattle.sessions.specs.View.{state_of}
use Rattle.sessions.specs.inner.Sides.{EndsProof, fault_at}
use Rattle.sessions.specs.declared.proof_side.Phase.TheVariants as phase
use Rattle.sessions.specs.declared.proof_side.ProofSide.{ProofSide}

text_end : (s : State) (line : ℕ) (D : List Event) (piece : List ℕ) → text_from s line D (piece ∷ []) ≡ end_of s line D piece
unfolding text_from pieces_from
text_end s line D piece = refl

pub ends_cut : (old new : ProofSide) → eqb (length old.begun.items) 0 ≡ false → new ≡ record old { phase = phase.Stopped (fault_at old.line 1 2); no_byte = true } → EndsProof old new
ends_cut old new some is = subst (λ (x : ProofSide). EndsProof old x) (sym is) (record {
  tally = refl;
  high = tt;
  begun = refl;
  no_event = refl;
  no_byte = refl;
  rests = tt;
  is = λ D pieces ends. text_end (state_of old.lines.known) old.line D old.begun.items ∙ cut old.begun.items some D;
})
  where
    cut : (b : List ℕ) → eqb (length b) 0 ≡ false → (D : List Event) → end_of (state_of old.lines.known) old.line D b ≡ stopped old.line 1 2
    cut [] e D = absurd (true≢false e)
    cut (x ∷ b) e D = refl

none_begun : (b : List ℕ) → eqb (length b) 0 ≡ true → b ≡ []
none_begun [] e = refl
none_begun (x ∷ b) e = absurd (true≢false (sym e ∙ some (length b)))
  where
    some : (n : ℕ) → eqb (suc n) 0 ≡ false
    some n = ne_eqb (suc n) 0 (λ e. absurd (omega arith))

pub ends_open : (old new : ProofSide) → eqb (length old.begun.items) 0 ≡ true → is_between old.lines.known.stage ≡ false → new ≡ record old { phase = phase.Stopped (fault_at old.line 22 0); no_byte = true } → EndsProof old new
ends_open old new none open_ is = subst (λ (x : ProofSide). EndsProof old x) (sym is) (record {
  tally = refl;
  high = tt;
  begun = refl;
  no_event = refl;
  no_byte = refl;
  rests = tt;
  is = λ D pieces ends.
      text_end (state_of old.lines.known) old.line D old.begun.items
      ∙ ap (end_of (state_of old.lines.known) old.line D) (none_begun old.begun.items none)
      ∙ ap (λ b. cond b (by_left old.line D) (stopped old.line 22 0)) open_;
})

pub ends_right : (old new : ProofSide) → eqb (length old.begun.items) 0 ≡ true → is_between old.lines.known.stage ≡ true → new ≡ record old { phase = phase.Ended; no_byte = true } → EndsProof old new
ends_right old new none closed is = subst (λ (x : ProofSide). EndsProof old x) (sym is) (record {
  tally = refl;
  high = tt;
  begun = refl;
  no_event = refl;
  no_byte = refl;
  rests = tt;
  is = λ D pieces ends.
      text_end (state_of old.lines.known) old.line D old.begun.items
      ∙ ap (end_of (state_of old.lines.known) old.line D) (none_begun old.begun.items none)
      ∙ ap (λ b. cond b (by_left old.line D) (stopped old.line 22 0)) closed;
})
