use Rattle.std.proofs.Common.{ℕ, List, inl, inr, sym, subst}
use Rattle.std.specs.Prelude.{Contains, Option, map}
use Rattle.std.specs.Map.Iter.{deref_pair}
use Rattle.std.proofs.lemmas.Map.Iter.{rest_more}
use Rattle.dimacs.proofs.Members.{Contains-cons_cases}
use Rattle.proof_lift.specs.declared.lemma_images.LogLemma.{LogLemma}
use Rattle.proof_lift.proofs.live_numbers.put_lemmas.Goals as goal

pub loop-number-preserved : goal.loop-number-preserved
loop-number-preserved c =
    let p = c.in_ok-push_live.ensures in
    let step = rest_more deref_pair c.loop-number.number-iterator c.next.new.self c.next.result (c.in-Some.number, c.in-Some._own) c.in-Some.is c.next.ensures.steps in
    record {
      numbers = λ h. p.numbers (c.loop-number.invariant.numbers h);
      stay = λ n h. p.stay n (c.loop-number.invariant.stay n h);
      each = λ n i D key e u. elim (c.loop-number.invariant.each n i D key e u) [
        | inl later ↦ elim (Contains-cons_cases c.in-Some.number.now n (map (λ x. x.0) c.next.new.self) (subst (λ (es : List (ℕ × Option LogLemma)). Contains (map (λ x. x.0) es) n) step later)) [
          | inl same ↦ inr (p.each n i D (sym same) e u)
          | inr rest ↦ inl rest
        ]
        | inr there ↦ inr (p.stay n there)
      ];
    }
