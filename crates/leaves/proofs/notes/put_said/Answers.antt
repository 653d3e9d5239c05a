use Rattle.std.specs.Prelude.{is_ok, if◌then◌else◌}
use Rattle.std.proofs.Common.{◌≡◌, ◌++◌, ℕ, List, Result, Ok, Err, OnOk, subst, sym}
use Rattle.leaves.specs.Notes.{said}
use Rattle.leaves.specs.declared.notes.Note.{Note}
use Rattle.leaves.proofs.notes.put_said.Goals as goal

where_ok : {T E : Type 0} (r : Result T E) (new text old : List ℕ) → new ≡ (if is_ok r then text else old) → OnOk r (new ≡ text)
where_ok (Ok x) new text old e = e
where_ok (Err f) new text old e = tt

pub returns-in-NoReceipt : goal.returns-in-NoReceipt
returns-in-NoReceipt c =
    subst (λ (n : Note). OnOk c.put_at.result (c.put_at.new.out.items ≡ c.args.out.now.items ++ said n)) (sym c.in-NoReceipt.is) c.put_at.ensures

pub returns-in-OtherFormula : goal.returns-in-OtherFormula
returns-in-OtherFormula c =
    let put = c.extend_from_slice-in-OtherFormula in
    subst (λ (n : Note). OnOk put.result (put.new.self.items ≡ c.args.out.now.items ++ said n)) (sym c.in-OtherFormula.is)
    (where_ok put.result put.new.self.items _ _ put.ensures.items)
