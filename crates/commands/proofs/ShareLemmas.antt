-- What a worker of a cell leaves and tells.
use Rattle.std.specs.Prelude.{◌≡◌, ◌≢◌, ℕ, Bool, List, [], Option, Some, None, Ok, Err, IsSome}
use Rattle.std.proofs.Common.{inl, inr, subst}
use Rattle.commands.specs.FormulaTree.{Begins, IsHushed, OfFormula}
use Rattle.commands.specs.Known.{HoldsOf}
use Rattle.commands.specs.Share.{IsLogOver, OfQuietFormula, Shares, SharesLeaf}
use Rattle.commands.specs.declared.formula_tree.Begun.{Begun}
use Rattle.commands.specs.declared.formula_tree.Begun.TheVariants.{With}
use Rattle.commands.proofs.OfLemmas.{of_map}
use Rattle.dimacs.specs.logic.Cnf.{Cnf}
use Rattle.dimacs.specs.logic.Limits.{Limits}
use Rattle.dimacs.specs.text.Parser.{GivesFormula, no_memory, parse_within}
use Rattle.dimacs.specs.text.Rows.{Fails}
use Rattle.dimacs.specs.declared.fault.DimacsFault.{DimacsFault}
use Rattle.icnf.specs.Leaves.{Cube}
use Rattle.leaves.specs.Leaf.{Prints}
use Rattle.leaves.specs.SplitReader.{SplitsAsWithin}
use Rattle.leaves.specs.declared.split.Split.{Split}
use Rattle.reports.specs.Faults.{input_fault_text}
use Rattle.reports.specs.declared.report.Report.{Report}
use Rattle.shared_logs.specs.SharedText.{begins}
use Rattle.sharing.specs.Sharing.{IsBeginning}

-- an empty log is the beginning of one over any formula
pub nothing_begun : (F : Cnf) → IsBeginning F []
nothing_begun F = record { names = []; steps = []; rest = []; text = record { spelled = begins; is_log = tt } }

-- a log over the formula that was read
pub log_of_read : (L : Limits) (F : Cnf) (known : Option (List ℕ)) (bytes : List ℕ) → HoldsOf known (λ text. GivesFormula (Ok F) (parse_within L text)) → IsBeginning F bytes
    → HoldsOf known (λ text. IsLogOver L text bytes)
log_of_read L F known bytes reads begun =
    of_map (λ text. GivesFormula (Ok F) (parse_within L text)) (λ text. IsLogOver L text bytes) known (λ text gives. inr (F, gives, begun)) reads

-- what holds of the formula that was read
pub of_read : (L : Limits) (quiet : Bool) (P : Cnf → Type 0) (F : Cnf) (known : Option (List ℕ)) (r : Report) → HoldsOf known (λ text. GivesFormula (Ok F) (parse_within L text)) → P F
    → HoldsOf known (λ text. OfQuietFormula L quiet text P r)
of_read L quiet P F known r reads p =
    of_map (λ text. GivesFormula (Ok F) (parse_within L text)) (λ text. OfQuietFormula L quiet text P r) known (λ text gives. inr (F, gives, p)) reads

fails_is : (L : Limits) (fault : DimacsFault) (text : List ℕ) → Fails no_memory fault (parse_within L text) → fault ≢ no_memory → parse_within L text ≡ Err fault
fails_is L fault text (inl e) other = absurd (other e)
fails_is L fault text (inr e) other = e

-- a fault of the input is told
pub of_fault : (L : Limits) (quiet : Bool) (P : Cnf → Type 0) (known : Option (List ℕ)) (fault : DimacsFault) (told r : Report) → HoldsOf known (λ text. Fails no_memory fault (parse_within L text))
    → Prints 1 (input_fault_text fault) told → fault ≢ no_memory → IsHushed quiet told r → HoldsOf known (λ text. OfQuietFormula L quiet text P r)
of_fault L quiet P known fault told r h prints other hushed =
    of_map (λ text. Fails no_memory fault (parse_within L text)) (λ text. OfQuietFormula L quiet text P r) known
    (λ text fails. inl (told, (fault, fails_is L fault text fails other, prints), hushed)) h

-- a log over the formula of a split that was read
splits_over : (L : Limits) (text lines bytes : List ℕ) (s : Split) → IsBeginning s.formula bytes → OfFormula L text (λ F. SplitsAsWithin L F lines s) → IsLogOver L text bytes
splits_over L text lines bytes s begun (F, gives, splits) =
    let P : Cnf → Type 0 = λ G. IsBeginning G bytes in
    inr (F, gives, subst P splits.formula begun)

over_lines : (L : Limits) (text bytes : List ℕ) (s : Split) (begun : Begun) → begun ≡ With s → IsBeginning s.formula bytes → (o : Option (List ℕ)) → HoldsOf o (λ lines. Begins L text lines begun)
    → IsLogOver L text bytes
over_lines L text bytes s begun is log None (lines, h) =
    let P : Begun → Type 0 = Begins L text lines in
    splits_over L text lines bytes s log (subst P is h)
over_lines L text bytes s begun is log (Some lines) h =
    let P : Begun → Type 0 = Begins L text lines in
    splits_over L text lines bytes s log (subst P is h)

pub log_of_split : (L : Limits) (a b : Option (List ℕ)) (begun : Begun) (s : Split) (bytes : List ℕ) → begun ≡ With s → IsBeginning s.formula bytes
    → HoldsOf a (λ text. HoldsOf b (λ lines. Begins L text lines begun)) → HoldsOf a (λ text. IsLogOver L text bytes)
log_of_split L a b begun s bytes is log h =
    of_map (λ text. HoldsOf b (λ lines. Begins L text lines begun)) (λ text. IsLogOver L text bytes) a (λ text k. over_lines L text bytes s begun is log b k) h

-- a worker that begins with a leaf that there is
pub shares_leaf : (logged told : List ℕ → Type 0) (o : Option Cube) (F G : Cnf) (S T : List Cube) (quiet witness : Bool) (r : Report)
    → IsSome o → F ≡ G → S ≡ T → Shares logged told F S quiet witness r → SharesLeaf logged told o G T quiet witness r
shares_leaf logged told None F G S T quiet witness r some f t h = absurd cc
shares_leaf logged told (Some q) F G S T quiet witness r some f t h =
    let P : Cnf → Type 0 = λ x. Shares logged told x T quiet witness r in
    let Q : List Cube → Type 0 = λ x. Shares logged told F x quiet witness r in
    subst P f (subst Q t h)
