-- Events that are the same.
use Rattle.std.proofs.Common.{◌≡◌, true, [], ◌∷◌, refl, sym, ◌∙◌, ap, subst, length, eqb, arith, Decides}
use Rattle.std.proofs.lemmas.Bool.{true≢false, and_parts, and_from, eqb-true, eq-eqb}
use Rattle.dimacs.specs.logic.Literal.{Clause, same}
use Rattle.dimacs.proofs.LiteralLemmas.{same-true, same-itself}
use Rattle.icnf.specs.Comparison.{begins_with, is_clause}
use Rattle.sessions.specs.Answers.{Event, Given, Asked}
use Rattle.sessions.specs.Texts.{is_event}

begins_same : (d c : Clause) → begins_with d c ≡ true → length d ≡ length c → d ≡ c
begins_same [] [] b e = refl
begins_same [] (k ∷ c) b e = absurd (omega arith)
begins_same (l ∷ d) [] b e = absurd (omega arith)
begins_same (l ∷ d) (k ∷ c) b e =
    let parts = and_parts (same k l) (begins_with d c) b in
    let first : k ≡ l = same-true k l parts.0 in
    let rest : d ≡ c = begins_same d c parts.1 (omega arith) in
    ap (λ x. x ∷ d) (sym first) ∙ ap (λ x. k ∷ x) rest

pub is_clause-true : (d c : Clause) → is_clause d c ≡ true → d ≡ c
is_clause-true d c e =
    let parts = and_parts (begins_with d c) (eqb (length d) (length c)) e in
    begins_same d c parts.0 (eqb-true (length d) (length c) parts.1)

pub is_event-true : (e d : Event) → is_event e d ≡ true → e ≡ d
is_event-true (Given C) (Given D) e = ap Given (is_clause-true C D e)
is_event-true (Asked A) (Asked B) e = ap Asked (is_clause-true A B e)
is_event-true (Given C) (Asked B) e = absurd (true≢false (sym e))
is_event-true (Asked A) (Given D) e = absurd (true≢false (sym e))

begins_itself : (c : Clause) → begins_with c c ≡ true
begins_itself [] = refl
begins_itself (l ∷ c) = and_from (same l l) (begins_with c c) (same-itself l) (begins_itself c)

is_clause-itself : (c : Clause) → is_clause c c ≡ true
is_clause-itself c = and_from (begins_with c c) (eqb (length c) (length c)) (begins_itself c) (eq-eqb (length c) (length c) refl)

pub is_clause-Decides : (d c : Clause) → Decides (is_clause d c) (d ≡ c)
is_clause-Decides d c = (is_clause-true d c, λ e. subst (λ (x : Clause). is_clause d x ≡ true) e (is_clause-itself d))
