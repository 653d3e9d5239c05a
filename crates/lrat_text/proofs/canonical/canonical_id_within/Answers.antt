use Rattle.std.proofs.Common.{refl, sym}
use Rattle.lrat_text.specs.Parser.{line_tokens}
use Rattle.lrat_text.proofs.CanonicalLemmas.{begun, some_token}
use Rattle.lrat_text.proofs.canonical.canonical_id_within.Goals as goal
use Rattle.lrat_text.proofs.canonical.canonical_id_within.Goals.{then-begins_deletion-via-then-begins_deletion, then-begins_deletion-via-else-begins_deletion+then-not-is_single_spaced}

pub returns-in_default : goal.returns-in_default
returns-in_default c = λ most step few s. absurd (some_token most c.args.line.now step s c.in_default.ensures.token)

pub returns-then-begins_deletion : goal.returns-then-begins_deletion
returns-then-begins_deletion c = λ most step few s.
    let b = begun most few c.args.line.now step s c.in-Some.first (line_tokens c.in-Some.rest.now) c.in-Some.ensures.token in
    elim c.then-begins_deletion.branch [
      | then-begins_deletion-via-then-begins_deletion w ↦ rw (b.written, sym c.begins_deletion.ensures, w.if-begins_deletion.true) refl
      | then-begins_deletion-via-else-begins_deletion+then-not-is_single_spaced w ↦ rw (b.written, sym c.begins_deletion.ensures, w.if-begins_deletion.false, sym w.is_single_spaced.ensures, w.if-not-is_single_spaced.true) refl
    ]

pub returns-in-Plus : goal.returns-in-Plus
returns-in-Plus c = λ most step few s.
    let b = begun most few c.args.line.now step s c.in-Some.first (line_tokens c.in-Some.rest.now) c.in-Some.ensures.token in
    rw (b.written, sym c.begins_deletion.ensures, c.if-begins_deletion.false, sym c.is_single_spaced.ensures, c.if-not-is_single_spaced.false) (cc)

pub returns-in_default-first : goal.returns-in_default-first
returns-in_default-first c = λ most step few s.
    let b = begun most few c.args.line.now step s c.in-Some.first (line_tokens c.in-Some.rest.now) c.in-Some.ensures.token in
    absurd (c.in_default-first.not-Plus b.number b.first_is)
