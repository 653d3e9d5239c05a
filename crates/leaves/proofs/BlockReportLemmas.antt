-- The report of a block lift: which leaves the log closes.
use Rattle.std.proofs.Common.{◌≡◌, ℕ, ◌+◌, ◌-◌, ◌<◌, ◌≤◌, Bool, true, false, List, [], ◌∷◌, ◌++◌, cond, refl, sym, ◌∙◌, ap, subst, length, drop, take, get_or, append_assoc, arith, length-append, IfOk, Result, Ok, Err, None}
use Rattle.std.specs.declared.alloc.AllocError.{AllocError}
use Rattle.std.specs.Prelude.{MatchBool}
use Rattle.std.specs.Bool.{OnTrue}
use Rattle.std.proofs.lemmas.List.{append-nil, drop-append-le, length-drop, length-take-le, take_all, take_more}
use Rattle.dimacs.specs.logic.Cnf.{Cnf}
use Rattle.icnf.specs.Leaves.{Cube}
use Rattle.leaves.specs.BlockLift.{AreTold, HasTakenBlock, PrintsBlock, TellsLeaf, are_closed, leaf_line, part_of, told_text}
use Rattle.leaves.specs.declared.block_lift.BlockLift.{BlockLift}
use Rattle.leaves.specs.inner.BlockReport.{HasReportedLeaves}
use Rattle.lidrup.specs.CubeLog.{ClosesCube, IsEnded, HasLogged}
use Rattle.lidrup.specs.Lidrup.{ClosesQuery}
use Rattle.lidrup.specs.declared.cube_log.CubeLog.{CubeLog}
use Rattle.reports.specs.declared.report.Report.{Report}

told_more : (F : Cnf) (t l : List ℕ) (i : ℕ) (qs : List Cube) (bs : List Bool) (q : Cube) (b : Bool) → AreTold F t l i qs bs → TellsLeaf F t l (i + length qs) q b → AreTold F t l i (qs ++ q ∷ []) (bs ++ b ∷ [])
told_more F t l i [] [] q b h last = let e : i + 0 ≡ i = omega arith in (subst (λ n. TellsLeaf F t l n q b) e last, tt)
told_more F t l i [] (c ∷ bs) q b h last = absurd h
told_more F t l i (p ∷ qs) [] q b h last = absurd h
told_more F t l i (p ∷ qs) (c ∷ bs) q b h last =
    let e : i + length (p ∷ qs) ≡ i + 1 + length qs = omega arith in
    (h.0, told_more F t l (i + 1) qs bs q b h.1 (subst (λ n. TellsLeaf F t l n q b) e last))

text_more : (i : ℕ) (bs : List Bool) (b : Bool) → told_text i (bs ++ b ∷ []) ≡ told_text i bs ++ leaf_line (i + length bs) b
text_more i [] b = let e : i + 0 ≡ i = omega arith in append-nil (leaf_line i b) ∙ ap (λ n. leaf_line n b) (sym e)
text_more i (c ∷ bs) b =
    let e : i + 1 + length bs ≡ i + length (c ∷ bs) = omega arith in
    ap (λ (x : List ℕ). leaf_line i c ++ x) (text_more (i + 1) bs b ∙ ap (λ n. told_text (i + 1) bs ++ leaf_line n b) e)
    ∙ sym (append_assoc (leaf_line i c) (told_text (i + 1) bs) (leaf_line (i + length (c ∷ bs)) b))

closed_more : (bs : List Bool) (b : Bool) → ◌≡◌ {A = ℕ} (cond b (cond (are_closed bs) 20 0) 0) (cond (are_closed (bs ++ b ∷ [])) 20 0)
closed_more [] true = refl
closed_more [] false = refl
closed_more (true ∷ bs) b = closed_more bs b
closed_more (false ∷ bs) true = refl
closed_more (false ∷ bs) false = refl

-- what `closes` says of a leaf is what is reported of it
pub tells_leaf : (x : CubeLog) (place : ℕ) (q : Cube) (b : Bool) → IsEnded x
    → ((F : Cnf) (bytes handed : List ℕ) → IsEnded x → HasLogged F bytes handed x → MatchBool b (ClosesQuery F bytes place q) (¬ (ClosesQuery F bytes place q)))
    → OnTrue b ((F : Cnf) (bytes handed : List ℕ) → HasLogged F bytes handed x → ClosesCube F q (handed ++ x.lines.out.items))
    → (F : Cnf) (bytes handed : List ℕ) → HasLogged F bytes handed x → TellsLeaf F bytes (handed ++ x.lines.out.items) place q b
tells_leaf x place q true ended which closes F bytes handed s = (which F bytes handed ended s, closes F bytes handed s)
tells_leaf x place q false ended which closes F bytes handed s = (which F bytes handed ended s, tt)

pub telling_none : (x : CubeLog) (place : ℕ) → HasReportedLeaves x place [] [] 20
telling_none x place = record { told = []; long = refl; are = λ F bytes handed s. tt; text_is = refl; status_is = refl }

-- the leaf of a place is reported after those from the first one to it
pub telling_more : (x : CubeLog) (leaves : List Cube) (first place query : ℕ) (q : Cube) (text : List ℕ) (status : ℕ) (b : Bool)
    → first ≤ place → place < length leaves → query ≡ place - first → q ≡ get_or leaves place []
    → ((F : Cnf) (bytes handed : List ℕ) → HasLogged F bytes handed x → TellsLeaf F bytes (handed ++ x.lines.out.items) query q b)
    → HasReportedLeaves x first (part_of leaves first place) text status → HasReportedLeaves x first (part_of leaves first (place + 1)) (text ++ leaf_line place b) (cond b status 0)
telling_more x leaves first place query q text status b low inside asked at tells t =
    let part : List Cube = part_of leaves first place in
    let all : length (take place leaves) ≡ place = length-take-le place leaves (omega arith) in
    let front : length part ≡ place - first = omega (arith, length-drop first (take place leaves), all) in
    let one : take (place + 1) leaves ≡ take place leaves ++ q ∷ [] = take_more leaves place [] inside ∙ ap (λ (p : Cube). take place leaves ++ p ∷ []) (sym at) in
    let more : part_of leaves first (place + 1) ≡ part ++ q ∷ [] =
    ap (drop first) one ∙ drop-append-le first (take place leaves) (q ∷ []) (omega (arith, all)) in
    let here : 0 + length part ≡ query = omega (arith, front) in
    let there : first + length t.told ≡ place = omega (arith, t.long, front) in
    subst (λ (qs : List Cube). HasReportedLeaves x first qs (text ++ leaf_line place b) (cond b status 0)) (sym more) (record {
      told = t.told ++ b ∷ [];
      long = omega (arith, t.long, length-append t.told (b ∷ []), length-append part (q ∷ []));
      are = λ F bytes handed s.
          told_more F bytes (handed ++ x.lines.out.items) 0 part t.told q b (t.are F bytes handed s)
          (subst (λ n. TellsLeaf F bytes (handed ++ x.lines.out.items) n q b) (sym here) (tells F bytes handed s));
      text_is = ap (λ (o : List ℕ). o ++ leaf_line place b) t.text_is ∙ ap (λ n. told_text first t.told ++ leaf_line n b) (sym there) ∙ sym (text_more first t.told b);
      status_is = ap (λ (s : ℕ). cond b s 0) t.status_is ∙ closed_more t.told b;
    })

-- the report of all leaves
pub reported : (l : BlockLift) (text : List ℕ) (status : ℕ) (r : Result Report AllocError) → HasReportedLeaves l.log l.block.first (part_of l.block.tree l.block.first l.block.end) text status
    → IfOk r (λ o. o.stdout.items ≡ text) → IfOk r (λ o. o.status ≡ status) → IfOk r (λ o. o.proof ≡ None)
    → IfOk r (λ o. (F : Cnf) (place : ℕ) (cubes : List Cube) (bytes handed : List ℕ) → HasTakenBlock F place cubes bytes handed l → PrintsBlock F place cubes bytes (handed ++ l.log.lines.out.items) o)
reported l text status (Ok o) t out code proof = λ F place cubes bytes handed h. record {
  told = t.told;
  are = subst (λ (qs : List Cube). AreTold F bytes (handed ++ l.log.lines.out.items) 0 qs t.told) h.holds (t.are F bytes handed h.stands);
  prints = record { status_is = code ∙ t.status_is; text_is = out ∙ t.text_is ∙ ap (λ n. told_text n t.told) h.from; no_proof = proof };
}
reported l text status (Err e) t out code proof = tt

-- ---- the beginning of a text
-- all leaves are those from the first place on
pub whole_part : (leaves : List Cube) → part_of leaves 0 (length leaves) ≡ leaves
whole_part leaves = take_all (length leaves) leaves (omega arith)
