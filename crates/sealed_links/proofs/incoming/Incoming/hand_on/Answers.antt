use Rattle.std.proofs.Common.{List, [], ℕ, ◌++◌, ap, refl, subst, sym, ◌∙◌}
use Rattle.std.proofs.lemmas.Result.{err_from_is_err_and}
use Rattle.sealed_links.specs.Links.{StopsWithin}
use Rattle.sealed_links.specs.Records.{IsWrong}
use Rattle.sealed_links.specs.inner.Looks.{HasRecord}
use Rattle.sealed_links.proofs.OpenedLemmas.{begins_handing, front_of, memory_at, one_more_handed, part_of, wrong_at}
use Rattle.sealed_links.proofs.incoming.Incoming.hand_on.Goals as goal

pub records-init : goal.records-init
records-init c = begins_handing c.args.self.now c.args.out.now.items

pub records-preserved : goal.records-preserved
records-preserved c =
    let now = c.records.self in
    let Q : List ℕ → Type 0 = λ bytes. HasRecord now.key now.number bytes c.in-Record.long in
    let there = subst Q (front_of c.records.at _ now.held.items c.deref.ensures.value) c.in-Record.ensures in
    let handed = c.in_ok-append-in-Record.ensures.ok ∙ ap (λ ys. c.records.out.items ++ ys) (part_of c.records.at c.in-Record.long _ now.held.items c.deref-in-Record.ensures.value) in
    one_more_handed c.args.self.now now _ c.args.out.now.items c.records.out.items _ c.records.at c.in-Record.long c.records.invariant there handed refl refl refl

pub returns-in-Wrong-clause-err : goal.returns-in-Wrong-clause-err
returns-in-Wrong-clause-err c =
    let now = c.records.self in
    let Q : List ℕ → Type 0 = λ bytes. IsWrong now.key now.number bytes in
    wrong_at c.args.self.now now c.args.out.now.items c.records.out.items c.records.at c.records.invariant (subst Q (front_of c.records.at _ now.held.items c.deref.ensures.value) c.in-Wrong.ensures)

pub returns-in_err-append-in-Record-clause-err : goal.returns-in_err-append-in-Record-clause-err
returns-in_err-append-in-Record-clause-err c =
    let p = err_from_is_err_and c.from_residual.result c.from_residual.ensures.1 in
    let why = c.in_err-append-in-Record.ensures.err in
    let Q : List ℕ → Type 0 = λ out. StopsWithin c.in_err-append-in-Record.field-0.0 c.args.self.now [] c.args.out.now.items out in
    rw (p.1, p.2) (subst Q (sym why.1) (memory_at c.in_err-append-in-Record.field-0.0 c.args.self.now c.records.self c.args.out.now.items c.records.out.items c.records.at c.records.invariant why.0))
