-- What a lift comes to.
use Rattle.std.specs.Prelude.{IfOk, ◌≡◌, ◌≢◌, ◌⊎◌, ◌++◌, ℕ, Bool, true, false, List, [], Option, Some, None, Result, Ok, Err, refl, if◌then◌else◌}
use Rattle.std.specs.Global.{Vec}
use Rattle.std.proofs.Common.{sym, ◌∙◌, subst, inl, inr, arith}
use Rattle.commands.specs.Known.{HoldsOf}
use Rattle.commands.specs.Lift.{LiftsAt, LiftsBlock, LiftsEach, LiftsLeaf, fault_lines, lifts, lifts_all, refuses, refuses_all}
use Rattle.commands.specs.Written.{Keeps}
use Rattle.commands.specs.declared.lift.LeafLift.{LeafLift}
use Rattle.commands.specs.inner.Lift.{EndsEach, EndsLeaf, IsRefused, each_moves, leaf_moves}
use Rattle.commands.specs.inner.Filter.{IsFiltered, drops, keeps}
use Rattle.dimacs.specs.logic.Cnf.{Cnf}
use Rattle.text_or_binary.specs.FormLift.{BeginsFormCube, HasTakenFormProof}
use Rattle.text_or_binary.specs.declared.form_lift.FormLift.{FormLift}
use Rattle.icnf.specs.Leaves.{Cube}
use Rattle.leaves.specs.BlockLift.{BeginsBlockOf, HasTakenBlock, are_closed}
use Rattle.leaves.specs.Leaf.{Prints, leaf_at, leaf_of, no_leaf_text}
use Rattle.leaves.specs.LeafLift.{lifted_text}
use Rattle.leaves.specs.declared.block_lift.BlockLift.{BlockLift}
use Rattle.lrat_check.specs.ProofFaults.{no_memory}
use Rattle.lrat_check.specs.declared.line_checker.CheckFault.{CheckFault}
use Rattle.lrat_forms.specs.Forms.{is_binary, text_form_within}
use Rattle.lrat_text.specs.Log.{log_top}
use Rattle.lrat_forms.specs.Pieces.{is_cut}
use Rattle.proof_lift.specs.Leaves.{IsRefutation}
use Rattle.proof_lift.specs.Stream.{IsFaultOf}
use Rattle.reports.specs.declared.refusal.Refusal.{Refusal}
use Rattle.reports.specs.declared.report.Report.{Report}

err_is : {T : Type 0} (a b : CheckFault) (x y : Result T CheckFault) → x ≡ Err a → y ≡ Err b → x ≡ y → a ≡ b
err_is a b x y h k e = cc

pub uncut_of : {T : Type 0} (cut : Bool) (fault : CheckFault) (r : Result T CheckFault) → r ≡ Err fault → (cut ≡ true → r ≡ Err no_memory) → fault ≢ no_memory → cut ≡ false
uncut_of true fault r e wanting other = absurd (other (err_is fault no_memory r (Err no_memory) e refl (wanting refl)))
uncut_of false fault r e wanting other = refl

pub other_is : {A : Type 0} (fault : CheckFault) → (fault ≡ no_memory) ⊎ A → fault ≢ no_memory → A
other_is fault (inl e) other = absurd (other e)
other_is fault (inr h) other = h

pub refused_of : (l : FormLift) (fault : CheckFault) (b : Bool) (r : Report)
    → ((F : Cnf) (q : Cube) (bytes handed : List ℕ) → HasTakenFormProof F q bytes handed l → IsRefutation (leaf_of q F) (text_form_within (log_top F) bytes) → fault ≡ no_memory)
    → ((F : Cnf) (q : Cube) (bytes handed : List ℕ) → HasTakenFormProof F q bytes handed l → (fault ≡ no_memory) ⊎ IsFaultOf F q (text_form_within (log_top F) bytes) fault)
    → is_cut l.form.stage ≡ false
    → ((F : Cnf) (q : Cube) (bytes handed : List ℕ) → HasTakenFormProof F q bytes handed l → is_cut l.form.stage ≡ false → b ≡ is_binary bytes)
    → fault ≢ no_memory → Prints 1 (fault_lines b fault) r
    → (F : Cnf) (q : Cube) (bytes handed : List ℕ) → HasTakenFormProof F q bytes handed l → IsRefused F q bytes r
refused_of l fault b r complete exact uncut form other prints F q bytes handed h =
    let P : Bool → Type 0 = λ x. Prints 1 (fault_lines x fault) r in
    record {
      fault = fault;
      first = other_is fault (exact F q bytes handed h) other;
      wrong = λ refutes. other (complete F q bytes handed h refutes);
      prints = subst P (form F q bytes handed h uncut) prints;
    }

pub leaf_lifts : {D : Type 0} (kept : D → D → List ℕ → List ℕ → Type 0) (old new : D) (binary : Bool) (path : List ℕ)
    (F : Cnf) (q : Cube) (l : LeafLift) (proof : List ℕ) (r : Report)
    → HasTakenFormProof F q [] [] l.lift → IsFiltered leaf_moves EndsLeaf kept old new binary path l proof r
    → LiftsLeaf (Keeps kept old new binary path) (new ≡ old) F q l.leaf proof r
leaf_lifts kept old new binary path F q l proof r start (keeps s out rest moves ends stays) =
    let at = moves.1 F q [] [] start in
    let P : ℕ → Type 0 = λ n. Prints 0 (lifted_text n) r in
    lifts (out ++ rest.items) (ends.0 F q proof out at) stays (subst P moves.0 ends.1)
leaf_lifts kept old new binary path F q l proof r start (drops s out moves ends same) =
    let refusal = ends F q proof out (moves.1 F q [] [] start) in
    refuses refusal.fault refusal.first refusal.wrong same refusal.prints

pub each_lifts : {D : Type 0} (kept : D → D → List ℕ → List ℕ → Type 0) (old new : D) (binary : Bool) (path : List ℕ)
    (F : Cnf) (place : ℕ) (cubes : List Cube) (l : BlockLift) (text : List ℕ) (r : Report)
    → HasTakenBlock F place cubes [] [] l → IsFiltered each_moves EndsEach kept old new binary path l text r
    → LiftsEach (Keeps kept old new binary path) (new ≡ old) F place cubes text r
each_lifts kept old new binary path F place cubes l text r start (keeps s out rest moves ends stays) =
    let told = ends F place cubes text out (moves F place cubes [] [] start) in
    lifts_all (out ++ rest.items) _ told.0 told.1 stays
each_lifts kept old new binary path F place cubes l text r start (drops s out moves ends same) =
    let refusal = ends F place cubes text out (moves F place cubes [] [] start) in
    refuses_all refusal.fault refusal.first same refusal.prints

-- ---- status 1 is that of a run that keeps nothing
zero_status : (n : ℕ) → n ≡ 0 → n ≡ 1 → ⊥
zero_status n h e = omega arith

other_status : (b : Bool) (n : ℕ) → n ≡ (if b then 20 else 0) → n ≡ 1 → ⊥
other_status true n h e = let is : n ≡ 20 = h in omega arith
other_status false n h e = zero_status n h e

leaf_left : (stays : List ℕ → Type 0) (left : Type 0) (F : Cnf) (q : Cube) (leaf : ℕ) (proof : List ℕ) (r : Report) → LiftsLeaf stays left F q leaf proof r → r.status ≡ 1 → left
leaf_left stays left F q leaf proof r (lifts log closes stay prints) e = absurd (zero_status r.status prints.status_is e)
leaf_left stays left F q leaf proof r (refuses fault first wrong h prints) e = h

each_left : (stays : List ℕ → Type 0) (left : Type 0) (F : Cnf) (place : ℕ) (cubes : List Cube) (text : List ℕ) (r : Report) → LiftsEach stays left F place cubes text r → r.status ≡ 1 → left
each_left stays left F place cubes text r (lifts_all log s comes told stay) e = absurd (other_status (are_closed told.told) r.status told.prints.status_is e)
each_left stays left F place cubes text r (refuses_all fault first h prints) e = h

block_left : (stays : List ℕ → Type 0) (left : Type 0) (F : Cnf) (place : ℕ) (cubes : Option (List Cube)) (text : List ℕ) (r : Report) → LiftsBlock stays left F place cubes text r → r.status ≡ 1 → left
block_left stays left F place None text r h e = h.0
block_left stays left F place (Some cubes) text r h e = each_left stays left F place cubes text r h e

at_left : (stays : List ℕ → Type 0) (left : Type 0) (F : Cnf) (q : Option Cube) (leaf : ℕ) (proof : List ℕ) (r : Report) → LiftsAt stays left F q leaf proof r → r.status ≡ 1 → left
at_left stays left F None leaf proof r h e = h.0
at_left stays left F (Some q) leaf proof r h e = leaf_left stays left F q leaf proof r h e

pub of_leaf_left : (stays : List ℕ → Type 0) (left : Type 0) (F : Cnf) (cubes : List Cube) (leaf : ℕ) (known : Option (List ℕ)) (r : Report)
    → HoldsOf known (λ proof. LiftsAt stays left F (leaf_at cubes leaf) leaf proof r) → r.status ≡ 1 → left
of_leaf_left stays left F cubes leaf None r h e = at_left stays left F (leaf_at cubes leaf) leaf h.0 r h.1 e
of_leaf_left stays left F cubes leaf (Some proof) r h e = at_left stays left F (leaf_at cubes leaf) leaf proof r h e

pub of_each_left : (stays : List ℕ → Type 0) (left : Type 0) (F : Cnf) (place : ℕ) (cubes : List Cube) (known : Option (List ℕ)) (r : Report)
    → HoldsOf known (λ text. LiftsEach stays left F place cubes text r) → r.status ≡ 1 → left
of_each_left stays left F place cubes None r h e = each_left stays left F place cubes h.0 r h.1 e
of_each_left stays left F place cubes (Some text) r h e = each_left stays left F place cubes text r h e

pub of_block_left : (stays : List ℕ → Type 0) (left : Type 0) (F : Cnf) (place : ℕ) (cubes : Option (List Cube)) (known : Option (List ℕ)) (r : Report)
    → HoldsOf known (λ text. LiftsBlock stays left F place cubes text r) → r.status ≡ 1 → left
of_block_left stays left F place cubes None r h e = block_left stays left F place cubes h.0 r h.1 e
of_block_left stays left F place cubes (Some text) r h e = block_left stays left F place cubes text r h e

pub at_lifts : {D : Type 0} (kept : D → D → List ℕ → List ℕ → Type 0) (old new : D) (binary : Bool) (path : List ℕ)
    (F : Cnf) (q : Option Cube) (l : FormLift) (leaf : ℕ) (proof : List ℕ) (r : Report)
    → BeginsFormCube F q (Some l) → IsFiltered leaf_moves EndsLeaf kept old new binary path (record { lift = l; leaf = leaf }) proof r
    → LiftsAt (Keeps kept old new binary path) (new ≡ old) F q leaf proof r
at_lifts kept old new binary path F None l leaf proof r start poured = absurd (cc)
at_lifts kept old new binary path F (Some q) l leaf proof r start poured = leaf_lifts kept old new binary path F q (record { lift = l; leaf = leaf }) proof r start poured

pub none_lifts : (stays : List ℕ → Type 0) (left : Type 0) (F : Cnf) (q : Option Cube) (leaf : ℕ) (proof : List ℕ) (r : Report)
    → BeginsFormCube F q None → left → Prints 1 no_leaf_text r → LiftsAt stays left F q leaf proof r
none_lifts stays left F None leaf proof r start h prints = (h, prints)
none_lifts stays left F (Some q) leaf proof r start h prints = absurd start

-- a text for a block that was begun, or there are no such leaves
pub text_lifts : {D : Type 0} (holds : D → List ℕ → Option (List ℕ)) (old : D) (stays : List ℕ → Type 0) (left : Type 0) (name : List ℕ)
    (F : Cnf) (place : ℕ) (cubes : Option (List Cube)) (l : BlockLift) (result : Result Report Refusal)
    → BeginsBlockOf F place cubes (Some l)
    → ((G : Cnf) (p : ℕ) (qs : List Cube) → HasTakenBlock G p qs [] [] l → IfOk result (λ r. HoldsOf (holds old name) (λ text. LiftsEach stays left G p qs text r)))
    → IfOk result (λ r. HoldsOf (holds old name) (λ text. LiftsBlock stays left F place cubes text r))
text_lifts holds old stays left name F place None l result begins goes = absurd (cc)
text_lifts holds old stays left name F place (Some cubes) l result begins goes = goes F place cubes begins
