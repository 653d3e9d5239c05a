-- The text joined of fragments that close all leaves is an accepted proof.
use Rattle.std.proofs.Common.{◌≡◌, ℕ, max, ◌*◌, ◌^◌, ◌<◌, ◌≤◌, List, [], ◌∷◌, ◌++◌, length, Result, Ok, sym, ◌∙◌, ap, subst, arith, append_assoc, length-append}
use Rattle.std.specs.List.{All}
use Rattle.std.proofs.lemmas.List.Elements.{All-nil, All-cons}
use Rattle.std.proofs.lemmas.List.{append-nil}
use Rattle.dimacs.specs.logic.Base.{pure_literals, base_of}
use Rattle.dimacs.specs.logic.ClauseMap.{ClauseMap, map_of, live_in}
use Rattle.dimacs.specs.logic.Cnf.{Cnf, IsFormula}
use Rattle.dimacs.specs.logic.Literal.{Clause, IsTautology, negation}
use Rattle.dimacs.specs.logic.Propagation.{Rup}
use Rattle.dimacs.specs.text.Words
use Rattle.dimacs.proofs.Members.{Contains-nil}
use Rattle.icnf.specs.Leaves.{Cube}
use Rattle.lrat_text.specs.Grammar.{LineSpellsWithin, IsStepWithin}
use Rattle.lrat_text.specs.Lines.{AllReadWithin}
use Rattle.lrat_text.specs.Log.{after_step, AreLogSteps, IsLog, Negates, EndsAt, Closes, log_top}
use Rattle.lrat_text.specs.Proof.{Refutation, Accepts, proof_top}
use Rattle.lrat_text.specs.declared.fault.TextFault.{TextFault}
use Rattle.lrat_text.specs.declared.step.Step.{Step}
use Rattle.lrat_text.specs.declared.step.Step.TheVariants.{Add, Delete}
use Rattle.lrat_text.proofs.LineLemmas.{spelled_read_within, spells_more}
use Rattle.lrat_text.specs.Runs.{top_of, text_of}
use Rattle.proof_join.specs.JoinedProof.{Closed, leaf, fork, fragments, cubes, AreFree, Part, part, joined_steps, AreSpelled, Joined, AllClose, IsPreamble, unit_steps}
use Rattle.proof_join.proofs.LogLemmas.{log_up, log_refutes}
use Rattle.proof_join.proofs.MapLemmas.{AreBetween, between_formula, between_without}
use Rattle.proof_join.proofs.PreambleLemmas.{rat_top, rat_refutes, rat_spells, units_lead}
use Rattle.proof_join.proofs.TextLemmas.{text_long, log_spells}
use Rattle.lrat_text.proofs.RunLemmas.{text_append, spells_append_within}
use Rattle.proof_join.proofs.TreeLemmas.{AreClosed, IsPart, part_is, tree_added}

-- ---- a text spells one list of steps
read_once : (most : ℕ) (pieces : List (List ℕ)) (xs ys : List Step) → AllReadWithin most pieces xs → AllReadWithin most pieces ys → xs ≡ ys
read_once most [] xs ys h g = absurd h
read_once most (last ∷ []) xs ys h g = h.1 ∙ sym g.1
read_once most (piece ∷ next ∷ pieces) [] ys h g = absurd h
read_once most (piece ∷ next ∷ pieces) (x ∷ xs) [] h g = absurd g
read_once most (piece ∷ next ∷ pieces) (x ∷ xs) (y ∷ ys) h g =
    let e : x ≡ y = same_step (sym h.0 ∙ g.0) in
    ap (λ (s : Step). s ∷ xs) e ∙ ap (λ (ss : List Step). y ∷ ss) (read_once most (next ∷ pieces) xs ys h.1 g.1)
  where
    same_step : ◌≡◌ {A = Result Step TextFault} (Ok x) (Ok y) → x ≡ y
    same_step e = cc

pub spelled_once : (most : ℕ) → most < 2 ^ 48 → (text : List ℕ) (xs ys : List Step) → LineSpellsWithin most text xs → LineSpellsWithin most text ys → xs ≡ ys
spelled_once most few text xs ys h g = read_once most (Words.lines text) xs ys (spelled_read_within most few text xs h) (spelled_read_within most few text ys g)

pub spelled_limits : (most : ℕ) (text : List ℕ) (steps : List Step) → LineSpellsWithin most text steps → All (IsStepWithin most) steps
spelled_limits most text [] h = All-nil (IsStepWithin most)
spelled_limits most text (step ∷ steps) (line, rest, e, one, first, more) =
    All-cons (IsStepWithin most) step steps first.limits (spelled_limits most rest steps more)

-- ---- the fragments of a tree close its leaves
-- the texts that are left after a subtree's, with the cubes and the steps that are left
record AreLeft (B : Cnf) (later : List Cube) (more : List (List Step)) : Type 0 where
  pub texts : List (List ℕ)
  pub close : AllClose B later texts
  pub spelled : AreSpelled texts more

closed_leaf : (B : Cnf) → B.vars ≤ 199999999 → (path : Cube) (steps : List Step) (text : List ℕ) → Closes B path text → LineSpellsWithin 199999999 text steps → AreClosed B path (leaf steps)
closed_leaf B low path steps text (own, spells, log, ends) h =
    let most : max 2000000 B.vars ≤ 199999999 = omega arith in
    let e : own ≡ steps = spelled_once 199999999 (omega arith) text own steps (spells_more (log_top B) 199999999 most text own spells) h in
    (subst (IsLog B) e log, subst (EndsAt path) e ends, subst (All (IsStepWithin (log_top B))) e (spelled_limits (log_top B) text own spells))

closed_below : (B : Cnf) → B.vars ≤ 199999999 → (path : Cube) (tree : Closed) (later : List Cube) (more : List (List Step)) (texts : List (List ℕ)) → AreFree path tree
    → AllClose B (cubes path tree ++ later) texts → AreSpelled texts (fragments tree ++ more) → AreClosed B path tree × AreLeft B later more
closed_below B low path (leaf steps) later more [] free close spelled = absurd close
closed_below B low path (leaf steps) later more (text ∷ texts) free close spelled =
    (closed_leaf B low path steps text close.0 spelled.0, record { texts = texts; close = close.1; spelled = spelled.1 })
closed_below B low path (fork x left right) later more texts free close spelled =
    let one = closed_below B low (path ++ x ∷ []) left (cubes (path ++ negation x ∷ []) right ++ later) (fragments right ++ more) texts free.1
    (subst (λ (cs : List Cube). AllClose B cs texts) (append_assoc (cubes (path ++ x ∷ []) left) (cubes (path ++ negation x ∷ []) right) later) close)
    (subst (λ (fs : List (List Step)). AreSpelled texts fs) (append_assoc (fragments left) (fragments right) more) spelled) in
    let two = closed_below B low (path ++ negation x ∷ []) right later more one.1.texts free.2 one.1.close one.1.spelled in
    ((free.0, one.0, two.0), two.1)

pub tree_closed : (B : Cnf) → B.vars ≤ 199999999 → (tree : Closed) (leaves : List Cube) (texts : List (List ℕ)) → AreFree [] tree → cubes [] tree ≡ leaves → AllClose B leaves texts → AreSpelled texts (fragments tree) → AreClosed B [] tree
tree_closed B low tree leaves texts free e close spelled =
    (closed_below B low [] tree [] [] texts free
    (subst (λ (cs : List Cube). AllClose B cs texts) (sym (append-nil (cubes [] tree) ∙ e)) close)
    (subst (λ (fs : List (List Step)). AreSpelled texts fs) (sym (append-nil (fragments tree))) spelled)).0

-- ---- a base over which something follows has a clause
from_hint : (M : ClauseMap) (top : ℕ) (lits : Clause) (hints : List ℕ) → Rup (live_in M) lits hints → AreBetween top M → 1 ≤ top
from_hint M top lits hints rup between =
    let s = rup.refutes in
    let r = between s.last s.clause s.lives in
    let a = r.0 in
    let b = r.1 in
    omega arith

some_before : (m : ℕ) (M : ClauseMap) (top : ℕ) (front : List Step) (last : Step) (q : Cube) → AreLogSteps m M top (front ++ last ∷ []) → Negates q last → AreBetween top M → 1 ≤ top
some_before m M top [] (Add id lits hints groups) q ((next, none, rup), rest) n between = from_hint M top lits hints rup between
some_before m M top [] (Delete ids) q h n between = absurd n
some_before m M top (Add id lits hints groups ∷ front) last q ((next, none, rup), rest) n between = from_hint M top lits hints rup between
some_before m M top (Delete ids ∷ front) last q (h, rest) n between = some_before m (after_step M (Delete ids)) top front last q rest n (between_without M top ids between)

pub some_clause : (B : Cnf) (path : Cube) (tree : Closed) → AreClosed B path tree → 1 ≤ length B.clauses
some_clause B path (leaf steps) (log, (front, last, e, n), limits) =
    some_before (length B.clauses) (map_of B) (length B.clauses) front last path (subst (AreLogSteps (length B.clauses) (map_of B) (length B.clauses)) e log) n (between_formula B)
some_clause B path (fork x left right) (free, a, c) = some_clause B (path ++ x ∷ []) left a

-- ---- all together
no_pair_none : ¬ (IsTautology [])
no_pair_none (l, here, there) = Contains-nil l here

pub joined_accepts : (F B : Cnf) (preamble : List Step) (leaves : List Cube) (texts : List (List ℕ)) (text : List ℕ) → F.vars ≤ 99999999 → length F.clauses ≤ 99999999 → IsPreamble F B preamble → AllClose B leaves texts
    → Joined F preamble leaves texts text → length text < 2 ^ 32 → Accepts F text
joined_accepts F B preamble leaves texts text vars limit lead close joined short =
    let b : ℕ = length B.clauses in
    let m : ℕ = length F.clauses in
    let tree : Closed = joined.tree in
    let p : Part = part b [] b tree in
    let up : B.vars ≤ max 2000000 (2 * F.vars) = lead.vars in
    let low : B.vars ≤ 199999999 = omega arith in
    let within : max 2000000 B.vars ≤ max 2000000 (2 * F.vars) = omega arith in
    let small : max 2000000 (2 * F.vars) < 2 ^ 48 = omega arith in
    let fits : max 2000000 B.vars < 2 ^ 48 = omega arith in
    let closed : AreClosed B [] tree = tree_closed B low tree leaves texts joined.free joined.leaves_are close joined.spelled in
    let whole : IsPart (log_top B) [] b (map_of B) p = part_is B [] b (map_of B) tree (omega arith) (λ n C e. e) no_pair_none closed in
    let lines : List Step = p.steps in
    let same_steps : joined_steps F preamble tree ≡ preamble ++ lines = ap (λ (n : ℕ). preamble ++ (part n [] n tree).steps) (sym lead.count) in
    let top : top_of m preamble ≡ b = rat_top (map_of F) m preamble lead.rat ∙ sym lead.count in
    let split_text : text ≡ text_of m preamble ++ text_of b lines = joined.is ∙ ap (text_of m) same_steps ∙ text_append m preamble lines ∙ ap (λ (n : ℕ). text_of m preamble ++ text_of n lines) top in
    let one = text_long m preamble in
    let two = text_long b lines in
    let three = length-append (text_of m preamble) (text_of b lines) in
    let four : length text ≡ length (text_of m preamble ++ text_of b lines) = ap length split_text in
    let five = lead.count in
    let six = (log_up b (map_of B) b lines whole.log).1 in
    let some = some_clause B [] tree closed in
    let few : top_of b lines < 2 ^ 48 = omega arith in
    let spelled : LineSpellsWithin (log_top B) (text_of b lines) lines = log_spells (log_top B) fits b (top_of b lines) (map_of B) b lines whole.log (between_formula B) some (omega arith) few whole.small in
    let found = tree_added B b (map_of B) p whole in
    let refuted : Refutation (map_of B) b lines = log_refutes b (map_of B) b lines whole.log found.0 found.1 found.2 in (
      preamble ++ lines,
      subst (λ (t : List ℕ). LineSpellsWithin (proof_top F) t (preamble ++ lines)) (sym split_text) (spells_append_within (proof_top F) (text_of m preamble) (text_of b lines) preamble lines
          (rat_spells (proof_top F) small (map_of F) m preamble lead.rat lead.limits) (spells_more (log_top B) (proof_top F) within (text_of b lines) lines spelled)),
      rat_refutes (map_of F) m preamble lines lead.rat
          (subst (λ (M : ClauseMap). Refutation M (top_of m preamble) lines) lead.base (subst (λ (n : ℕ). Refutation (map_of B) n lines) (sym top) refuted)),
    )

-- over the units of the pure literals
pub units_accept : (F : Cnf) (leaves : List Cube) (texts : List (List ℕ)) (text : List ℕ) → IsFormula F → AllClose (base_of F) leaves texts
    → Joined F (unit_steps (length F.clauses) (pure_literals F)) leaves texts text → length text < 2 ^ 32 → Accepts F text
units_accept F leaves texts text limits close joined short =
    joined_accepts F (base_of F) (unit_steps (length F.clauses) (pure_literals F)) leaves texts text limits.vars limits.clauses (units_lead F limits) close joined short
