-- What is woven, told and written.
use Rattle.std.specs.Prelude.{◌≡◌, ◌≢◌, ℕ, zero, suc, ◌+◌, Bool, true, false, List, [], ◌∷◌, ◌++◌, length, flat_map, Option, Ok, Err, refl}
use Rattle.std.specs.Bool.{OnTrue}
use Rattle.std.proofs.Common.{inl, inr, sym, ◌∙◌, ap, subst, cond, get_or, arith}
use Rattle.std.proofs.lemmas.List.{append-nil, append_assoc, length-append}
use Rattle.commands.specs.Known.{HoldsOf}
use Rattle.commands.specs.Weave.{AreClosed, AreNotes, Note, OfInput, TellsWoven, Weaves, fails, note_text, weaves}
use Rattle.commands.specs.Written.{Keeps}
use Rattle.commands.specs.declared.filter.Ending.{Ending}
use Rattle.commands.specs.declared.filter.Ending.TheVariants.{Kept, Dropped}
use Rattle.commands.specs.declared.part_file.Part.{Part}
use Rattle.commands.specs.inner.Filter.{Grew, Settles}
use Rattle.commands.specs.inner.Parts.{IsPart}
use Rattle.commands.specs.inner.Weave.{EndsSo, HasTold, KeepsTold}
use Rattle.commands.proofs.OfLemmas.{of_map}
use Rattle.dimacs.specs.logic.Cnf.{Cnf}
use Rattle.dimacs.specs.logic.Limits.{Limits}
use Rattle.dimacs.specs.text.Parser.{GivesFormula, no_memory, parse_within}
use Rattle.dimacs.specs.text.Rows.{Fails}
use Rattle.dimacs.specs.declared.fault.DimacsFault.{DimacsFault}
use Rattle.reports.specs.Faults.{input_fault_text}
use Rattle.icnf.specs.Leaves.{Cube}
use Rattle.leaves.specs.BlockLift.{are_closed, leaf_line, told_text}
use Rattle.leaves.specs.Leaf.{Prints}
use Rattle.lidrup.specs.CubeLog.{ClosesCube}
use Rattle.reports.specs.declared.report.Report.{Report}
use Rattle.weaving.specs.Woven.{HasWoven}
use Rattle.weaving.specs.declared.weaver.Weaver.{Weaver}

-- ---- notes
notes_push : (notes : List Note) (n : Note) → flat_map note_text (notes ++ n ∷ []) ≡ flat_map note_text notes ++ note_text n
notes_push [] n = append-nil (note_text n)
notes_push (m ∷ notes) n = ap (λ (x : List ℕ). note_text m ++ x) (notes_push notes n) ∙ sym (append_assoc (note_text m) (flat_map note_text notes) (note_text n))

pub noted : (before after : List ℕ) (n : Note) → after ≡ before ++ note_text n → AreNotes before → AreNotes after
noted before after n is (notes, e) = (notes ++ n ∷ [], is ∙ ap (λ (x : List ℕ). x ++ note_text n) e ∙ sym (notes_push notes n))

pub no_notes : AreNotes []
no_notes = ([], refl)

-- ---- leaves
closed_push : (F : Cnf) (log : List ℕ) (cubes : List Cube) (told : List Bool) (q : Cube) (b : Bool) → AreClosed F log cubes told → OnTrue b (ClosesCube F q log)
    → AreClosed F log (cubes ++ q ∷ []) (told ++ b ∷ [])
closed_push F log [] [] q b h last = (last, tt)
closed_push F log [] (c ∷ told) q b h last = absurd h
closed_push F log (p ∷ cubes) [] q b h last = absurd h
closed_push F log (p ∷ cubes) (c ∷ told) q b h last = (h.0, closed_push F log cubes told q b h.1 last)

text_push : (i : ℕ) (bs : List Bool) (b : Bool) → told_text i (bs ++ b ∷ []) ≡ told_text i bs ++ leaf_line (i + length bs) b
text_push i [] b = let e : i + 0 ≡ i = omega arith in append-nil (leaf_line i b) ∙ ap (λ n. leaf_line n b) (sym e)
text_push i (c ∷ bs) b =
    let e : i + 1 + length bs ≡ i + length (c ∷ bs) = omega arith in
    ap (λ (x : List ℕ). leaf_line i c ++ x) (text_push (i + 1) bs b ∙ ap (λ n. told_text (i + 1) bs ++ leaf_line n b) e)
    ∙ sym (append_assoc (leaf_line i c) (told_text (i + 1) bs) (leaf_line (i + length (c ∷ bs)) b))

status_push : (bs : List Bool) (b : Bool) → ◌≡◌ {A = ℕ} (cond b (cond (are_closed bs) 20 0) 0) (cond (are_closed (bs ++ b ∷ [])) 20 0)
status_push [] true = refl
status_push [] false = refl
status_push (true ∷ bs) b = status_push bs b
status_push (false ∷ bs) true = refl
status_push (false ∷ bs) false = refl

closes_at : {S : Type 0} (w : Weaver S) (q : Cube) (b : Bool) → OnTrue b ((F : Cnf) (handed : List ℕ) → HasWoven F handed w.text → ClosesCube F q (handed ++ w.text.out.items))
    → (F : Cnf) (handed : List ℕ) → HasWoven F handed w.text → OnTrue b (ClosesCube F q (handed ++ w.text.out.items))
closes_at w q true h F handed woven = h F handed woven
closes_at w q false h F handed woven = tt

pub told_none : {S : Type 0} (w : Weaver S) (before : List ℕ) → HasTold w [] before before 20
told_none w before = record { told = []; long = refl; closed = λ F handed woven. tt; text = sym (append-nil before); status_is = refl }

-- a leaf is told after those before it
pub told_more : {S : Type 0} (w : Weaver S) (cubes : List Cube) (q : Cube) (before after line : List ℕ) (status place : ℕ) (b : Bool) → place ≡ length cubes → line ≡ after ++ leaf_line place b
    → OnTrue b ((F : Cnf) (handed : List ℕ) → HasWoven F handed w.text → ClosesCube F q (handed ++ w.text.out.items))
    → HasTold w cubes before after status → HasTold w (cubes ++ q ∷ []) before line (cond b status 0)
told_more w cubes q before after line status place b here is closes t =
    let at : place ≡ 0 + length t.told = omega (arith, here, t.long) in
    record {
      told = t.told ++ b ∷ [];
      long = omega (arith, t.long, length-append t.told (b ∷ []), length-append cubes (q ∷ []));
      closed = λ F handed woven. closed_push F (handed ++ w.text.out.items) cubes t.told q b (t.closed F handed woven) (closes_at w q b closes F handed woven);
      text = is ∙ ap (λ (x : List ℕ). x ++ leaf_line place b) t.text ∙ append_assoc before (told_text 0 t.told) (leaf_line place b)
          ∙ ap (λ (x : List ℕ). before ++ x) (ap (λ n. told_text 0 t.told ++ leaf_line n b) at ∙ sym (text_push 0 t.told b));
      status_is = ap (λ (s : ℕ). cond b s 0) t.status_is ∙ status_push t.told b;
    }

pub told_as : {S : Type 0} (w : Weaver S) (cubes : List Cube) (before after : List ℕ) (status : ℕ) (r : Report) → HasTold w cubes before after status → Prints status after r
    → (F : Cnf) (handed : List ℕ) → HasWoven F handed w.text → TellsWoven F (handed ++ w.text.out.items) cubes true before r
told_as w cubes before after status r t prints F handed woven =
    (t.told, t.closed F handed woven, record { status_is = prints.status_is ∙ t.status_is; text_is = prints.text_is ∙ t.text; no_proof = prints.no_proof })

abbrev one_leaf : List Cube
one_leaf = [] ∷ []

one_cube : (i : ℕ) → get_or one_leaf i [] ≡ []
one_cube zero = refl
one_cube (suc i) = refl

-- the cube of the one leaf of a formula that is not split
pub single_cube : (tree : List Cube) (i : ℕ) → tree ≡ [] ∷ [] → get_or tree i [] ≡ []
single_cube tree i is = ap (λ (t : List Cube). get_or t i []) is ∙ one_cube i

-- ---- how a weaving ends
pub kept_so : {D : Type 0} (made : D → List ℕ → List ℕ → Type 0) (F : Cnf) (cubes : List Cube) (split : Bool) (p q : Part D) (handed notes : List ℕ) (e : Ending)
    → Grew made p q handed → AreNotes notes → KeepsTold F handed cubes split notes e → EndsSo made F cubes split p q e
kept_so made F cubes split p q handed notes (Kept rest r) grew are tells = (handed, grew, notes, are, tells)
kept_so made F cubes split p q handed notes (Dropped r) grew are tells = absurd tells

pub weaves_so : {D E : Type 0} (made : D → List ℕ → List ℕ → Type 0) (kept : E → E → List ℕ → List ℕ → Type 0) (old new : E) (binary : Bool) (path : List ℕ) (F : Cnf) (cubes : List Cube) (split : Bool)
    (p q : Part D) (e : Ending) (r : Report) → IsPart made binary path [] p → EndsSo made F cubes split p q e → Settles made kept old new q e r
    → Weaves (Keeps kept old new binary path) (new ≡ old) F cubes split r
weaves_so made kept old new binary path F cubes split p q (Kept rest report) r start ends settles =
    let P : Report → Type 0 = λ x. TellsWoven F (ends.0 ++ rest.items) cubes split ends.2 x in
    weaves (ends.0 ++ rest.items) ends.2 ends.3 (subst P (sym settles.0) ends.4) (settles.1 binary path ends.0 (ends.1 binary path [] start))
weaves_so made kept old new binary path F cubes split p q (Dropped report) r start ends settles =
    let P : Report → Type 0 = λ x. Prints 1 ends.0 x in
    fails ends.0 ends.1 (subst P (sym settles.0) ends.2) settles.1

pub fails_so : {D : Type 0} (keeps : List ℕ → Type 0) (old : D) (F : Cnf) (cubes : List Cube) (split : Bool) (r : Report) → (notes : List ℕ) × AreNotes notes × Prints 1 notes r
    → Weaves keeps (old ≡ old) F cubes split r
fails_so keeps old F cubes split r (notes, are, prints) = fails notes are prints refl

-- ---- the formula that was read
pub of_input : (L : Limits) (P : Cnf → Type 0) (F : Cnf) (known : Option (List ℕ)) (r : Report) → HoldsOf known (λ text. GivesFormula (Ok F) (parse_within L text)) → P F
    → HoldsOf known (λ text. OfInput L text P r)
of_input L P F known r reads p =
    of_map (λ text. GivesFormula (Ok F) (parse_within L text)) (λ text. OfInput L text P r) known (λ text gives. inr (F, gives, p)) reads

fails_is : (L : Limits) (fault : DimacsFault) (text : List ℕ) → Fails no_memory fault (parse_within L text) → fault ≢ no_memory → parse_within L text ≡ Err fault
fails_is L fault text (inl e) other = absurd (other e)
fails_is L fault text (inr e) other = e

pub of_input_fault : (L : Limits) (P : Cnf → Type 0) (known : Option (List ℕ)) (fault : DimacsFault) (r : Report) → HoldsOf known (λ text. Fails no_memory fault (parse_within L text))
    → Prints 1 (input_fault_text fault) r → fault ≢ no_memory → HoldsOf known (λ text. OfInput L text P r)
of_input_fault L P known fault r h prints other =
    of_map (λ text. Fails no_memory fault (parse_within L text)) (λ text. OfInput L text P r) known (λ text fails. inl (fault, fails_is L fault text fails other, prints)) h
