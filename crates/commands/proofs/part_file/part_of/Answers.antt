use Rattle.std.proofs.Common.{Bool, [], Some, sym, subst}
use Rattle.commands.specs.inner.Parts.{IsPart}
use Rattle.commands.proofs.PartLemmas.{binary_begins, nothing_waits}
use Rattle.commands.proofs.part_file.part_of.Goals as goal

pub returns-then-binary : goal.returns-then-binary
returns-then-binary g c = λ path h.
    let P : Bool → Type 0 = λ b. IsPart g.D.Drafts.made b path [] (record { draft = c.args.draft; form = Some c.within.result }) in
    subst P (sym c.if-binary.true) (binary_begins g.D.Drafts.made path c.args.draft c.within.result c.within.ensures (nothing_waits c.within.result c.within.ensures) h)
