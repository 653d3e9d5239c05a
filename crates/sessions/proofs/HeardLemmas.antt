-- What is heard line by line is what is read of the whole.
use Rattle.std.proofs.Common.{◌≡◌, ◌∙◌, ap, refl, ℕ, ◌+◌, Bool, true, false, List, [], ◌∷◌, Option, Some, None, Result, Ok, Err, if◌then◌else◌}
use Rattle.dimacs.specs.text.Rows.{◌>>=◌}
use Rattle.dimacs.specs.text.Words.{words_of}
use Rattle.icnf.specs.Parser as icnf
use Rattle.icnf.specs.declared.fault.IcnfFault.{IcnfFault}
use Rattle.icnf.specs.declared.fault.Kind.TheVariants.{NoHeader}
use Rattle.sessions.specs.Answers.{Event}
use Rattle.sessions.specs.Events.{Progress, Row, read_lines, read_row, with_event}
use Rattle.sessions.specs.Heard.{Heard, after_row, by_row, heard_from, no_more, outcome_by, outcome_of}

front_by : (e : Event) (E : List Event) (fault : Option IcnfFault) → with_event (Some e) (outcome_by fault E) ≡ outcome_by fault (e ∷ E)
front_by e E None = refl
front_by e E (Some f) = refl

-- an event in front stands in front of what is read
with_front : (e : Option Event) (h : Heard) → with_event e (outcome_of h) ≡ outcome_of (after_row e h)
with_front None h = refl
with_front (Some e) h = front_by e h.events h.fault

row_is : (row : Row) (read : Progress → Result (List Event) IcnfFault) (heard : Progress → Heard) → ((p : Progress) → read p ≡ outcome_of (heard p))
    → (row >>= λ r. with_event r.1 (read r.0)) ≡ outcome_of (by_row row heard)
row_is (Ok r) read heard same = ap (λ later. with_event r.1 later) (same r.0) ∙ with_front r.1 (heard r.0)
row_is (Err f) read heard same = refl

end_is : (n : ℕ) (headed : Bool) → (let r : Result (List Event) IcnfFault = if headed then Ok [] else icnf.fault NoHeader n in r) ≡ outcome_of (if headed then no_more None else no_more (Some (record { kind = NoHeader; line = n })))
end_is n true = refl
end_is n false = refl

pub heard_is_read : (n : ℕ) (ls : List (List ℕ)) (p : Progress) → read_lines n ls p ≡ outcome_of (heard_from n ls p)
unfolding read_lines heard_from
heard_is_read n [] p = end_is n p.headed
heard_is_read n (line ∷ more) p =
    row_is (read_row (n + 1) (words_of line) p) (λ q. read_lines (n + 1) more q) (λ q. heard_from (n + 1) more q) (λ q. heard_is_read (n + 1) more q)
