use Rattle.std.proofs.Common.{ℕ, Bool, List, [], IsTrue}
use Rattle.std.proofs.lemmas.Result.{IfOk-weaker}
use Rattle.commands.specs.Written.{Keeps}
use Rattle.commands.specs.inner.Parts.{IsPart}
use Rattle.commands.proofs.atomic_write.fill.Goals as goal

pub returns-in-Ok-clause-kept : goal.returns-in-Ok-clause-kept
returns-in-Ok-clause-kept g c =
    let Stands : Bool → List ℕ → List ℕ → Type 0 = Keeps g.D.Drafts.kept c.args.disk.now c.keep.new.disk in
    IfOk-weaker c.keep.result
    (λ b. IsTrue b → (binary : Bool) (path text : List ℕ) → IsPart g.D.Drafts.made binary path text c.append_packed.new.part → Stands binary path text)
    (λ b. IsTrue b → (binary : Bool) (path : List ℕ) → IsPart g.D.Drafts.made binary path [] c.args.part → Stands binary path c.args.text.now)
    (λ b keeps is binary path start. keeps is binary path c.args.text.now (c.in-Ok.ensures.written binary path [] start)) c.keep.ensures.kept
