-- Leaves that are appended one after the other make the part of their tree.
use Rattle.std.proofs.Common.{◌≡◌, ℕ, zero, suc, ◌+◌, ◌<◌, ◌≤◌, Bool, true, false, cond, List, [], ◌∷◌, ◌++◌, length, get_or, take, drop, refl, sym, ◌∙◌, ap, subst, arith, append_assoc, length-append}
use Rattle.std.specs.Prelude.{nat_eq}
use Rattle.std.proofs.Math.Seq.{take-append_seam, get_or-append_seam}
use Rattle.std.proofs.lemmas.Bool.{eqb-true, eq-eqb}
use Rattle.std.proofs.lemmas.List.{append-nil, map-append, take_more, take_all, take-append-drop, take-append-le, get_or_append_left, length-take-le}
use Rattle.dimacs.specs.logic.Cnf.{Cnf}
use Rattle.dimacs.specs.logic.Literal.{Literal, Pos, Clause, negation}
use Rattle.dimacs.proofs.LiteralLemmas.{negation-negation}
use Rattle.icnf.specs.Leaves.{Cube}
use Rattle.cube_split.specs.Definitions.{base_with}
use Rattle.cube_split.specs.declared.pair.Pair.{Pair}
use Rattle.lrat_text.specs.Runs.{text_of, top_of}
use Rattle.lrat_text.specs.declared.step.Step.{Step}
use Rattle.proof_join.specs.Definitions.{preamble_steps}
use Rattle.proof_join.specs.Fronts.{Branch, Standing, Front, waiting, settled, appended, appended_all, preamble_front, IsFrontOf}
use Rattle.proof_join.specs.JoinedProof.{Closed, Joined, leaf, fork, fragments, cubes, Part, part, leaf_part}
use Rattle.proof_join.specs.inner.Fronts.{HasLeft}
use Rattle.proof_join.specs.Steps.{own_part, steps_in, steps_each}
use Rattle.lrat_text.proofs.RunLemmas.{text_append}
use Rattle.proof_join.proofs.SubtreeLemmas.{leaf_count, fork_text, fork_ends}

-- ---- a subtree is finished
pub settled_none : (q : Cube) (d : ℕ) (text : List ℕ) (top i : ℕ) (C : Clause) (finished : List Branch) → ¬ (HasLeft d finished) → settled q d text top i C finished ≡ waiting d text top i C finished
settled_none q zero text top i C finished none = refl
settled_none q (suc d) text top i C [] none = refl
settled_none q (suc d) text top i C (left ∷ finished) none = at (nat_eq left.depth (suc d)) refl
  where
    at : (b : Bool) → nat_eq left.depth (suc d) ≡ b
        → cond b (let own : Part = own_part (take d q) (negation (get_or q d (Pos 0))) top left.id left.clause i C in settled q d (text ++ text_of top own.steps) own.top own.id own.clause finished)
        (waiting (suc d) text top i C (left ∷ finished)) ≡ waiting (suc d) text top i C (left ∷ finished)
    at false e = refl
    at true e = absurd (none (eqb-true left.depth (suc d) e, omega arith))

pub settled_left : (q : Cube) (d above : ℕ) (text : List ℕ) (top i : ℕ) (C : Clause) (left : Branch) (finished : List Branch) → d ≡ suc above → left.depth ≡ d
    → settled q d text top i C (left ∷ finished)
    ≡ (let own : Part = own_part (take above q) (negation (get_or q above (Pos 0))) top left.id left.clause i C in settled q above (text ++ text_of top own.steps) own.top own.id own.clause finished)
settled_left q d above text top i C left finished e same =
    let own : Part = own_part (take above q) (negation (get_or q above (Pos 0))) top left.id left.clause i C in
    let fork_above : Standing = settled q above (text ++ text_of top own.steps) own.top own.id own.clause finished in
    ap (λ (n : ℕ). settled q n text top i C (left ∷ finished)) e
    ∙ ap (λ (b : Bool). cond b fork_above (waiting (suc above) text top i C (left ∷ finished))) (eq-eqb left.depth (suc above) (same ∙ e))

-- its text goes on from this one
abbrev pub GoesOn : List ℕ → List ℕ → Type 0
GoesOn text new = (more : List ℕ) × (text ++ more ≡ new)

goes_either : (b : Bool) (x y : Standing) (text : List ℕ) → GoesOn text x.text → GoesOn text y.text → GoesOn text (cond b x y).text
goes_either true x y text h g = h
goes_either false x y text h g = g

goes_further : (text own new : List ℕ) → GoesOn (text ++ own) new → GoesOn text new
goes_further text own new (more, e) = (own ++ more, sym (append_assoc text own more) ∙ e)

pub settled_more : (q : Cube) (d : ℕ) (text : List ℕ) (top i : ℕ) (C : Clause) (finished : List Branch) → GoesOn text (settled q d text top i C finished).text
settled_more q zero text top i C finished = ([], append-nil text)
settled_more q (suc d) text top i C [] = ([], append-nil text)
settled_more q (suc d) text top i C (left ∷ finished) =
    let own : Part = own_part (take d q) (negation (get_or q d (Pos 0))) top left.id left.clause i C in
    let above : Standing = settled q d (text ++ text_of top own.steps) own.top own.id own.clause finished in
    goes_either (nat_eq left.depth (suc d)) above (waiting (suc d) text top i C (left ∷ finished)) text
    (goes_further text (text_of top own.steps) above.text (settled_more q d (text ++ text_of top own.steps) own.top own.id own.clause finished))
    ([], append-nil text)

-- what stands after the depth does not matter
settled_shorter : (p ys : Cube) (d : ℕ) (text : List ℕ) (top i : ℕ) (C : Clause) (finished : List Branch) → d ≤ length p → settled (p ++ ys) d text top i C finished ≡ settled p d text top i C finished
settled_shorter p ys zero text top i C finished h = refl
settled_shorter p ys (suc d) text top i C [] h = refl
settled_shorter p ys (suc d) text top i C (left ∷ finished) h =
    let own : Part = own_part (take d p) (negation (get_or p d (Pos 0))) top left.id left.clause i C in
    let same : own_part (take d (p ++ ys)) (negation (get_or (p ++ ys) d (Pos 0))) top left.id left.clause i C ≡ own =
    ap (λ (front : Cube). own_part front (negation (get_or (p ++ ys) d (Pos 0))) top left.id left.clause i C) (take-append-le d p ys (omega arith))
    ∙ ap (λ (x : Literal). own_part (take d p) (negation x) top left.id left.clause i C) (get_or_append_left p ys (Pos 0) d (omega arith)) in
    ap (λ (o : Part). cond (nat_eq left.depth (suc d)) (settled (p ++ ys) d (text ++ text_of top o.steps) o.top o.id o.clause finished) (waiting (suc d) text top i C (left ∷ finished))) same
    ∙ ap (λ (s : Standing). cond (nat_eq left.depth (suc d)) s (waiting (suc d) text top i C (left ∷ finished)))
    (settled_shorter p ys d (text ++ text_of top own.steps) own.top own.id own.clause finished (omega arith))

-- ---- leaves one after the other
pub all_append : (f : Front) (xs ys : List Cube) (one two : List (List Step)) → length xs ≡ length one → appended_all f (xs ++ ys) (one ++ two) ≡ appended_all (appended_all f xs one) ys two
all_append f [] ys [] two e = refl
all_append f [] ys (a ∷ one) two e = absurd (omega arith)
all_append f (x ∷ xs) ys [] two e = absurd (omega arith)
all_append f (x ∷ xs) ys (a ∷ one) two e = all_append (appended f x a) xs ys one two (omega arith)

pub appended_more : (f : Front) (q : Cube) (steps : List Step) → GoesOn (f.standing.text ++ text_of f.standing.top (leaf_part f.base f.standing.top steps).steps) (appended f q steps).standing.text
unfolding appended
appended_more f q steps =
    let p : Part = leaf_part f.base f.standing.top steps in
    settled_more q (length q) (f.standing.text ++ text_of f.standing.top p.steps) p.top p.id p.clause f.standing.finished

all_more : (f : Front) (leaves : List Cube) (all : List (List Step)) → GoesOn f.standing.text (appended_all f leaves all).standing.text
all_more f [] all = ([], append-nil f.standing.text)
all_more f (q ∷ leaves) [] = ([], append-nil f.standing.text)
all_more f (q ∷ leaves) (steps ∷ all) =
    let one = goes_further f.standing.text (text_of f.standing.top (leaf_part f.base f.standing.top steps).steps) (appended f q steps).standing.text (appended_more f q steps) in
    let rest = all_more (appended f q steps) leaves all in
    goes_further f.standing.text one.0 (appended_all (appended f q steps) leaves all).standing.text (rest.0, ap (λ (t : List ℕ). t ++ rest.0) one.1 ∙ rest.1)

-- ---- a tree
-- no fork takes the last finished subtree before one at this depth is put to it
abbrev IsShallow : ℕ → List Branch → Type 0
IsShallow n [] = Unit {0}
IsShallow n (b ∷ finished) = b.depth ≤ n

not_left : (n d : ℕ) (finished : List Branch) → IsShallow n finished → n < d → ¬ (HasLeft d finished)
not_left n d [] h up left = left
not_left n d (b ∷ finished) h up left = let e = left.0 in omega arith

deeper : (n d : ℕ) (finished : List Branch) → IsShallow n finished → n ≤ d → IsShallow d finished
deeper n d [] h up = tt
deeper n d (b ∷ finished) h up = omega arith

abbrev reached : Cube → Front → Closed → Front
reached p f tree =
    let x : Part = part f.base p f.standing.top tree in
    record {
      base = f.base;
      count = f.count + length (fragments tree);
      standing = settled p (length p) (f.standing.text ++ text_of f.standing.top x.steps) x.top x.id x.clause f.standing.finished;
    }

pub fork_settled : (b : ℕ) (p : Cube) (t : ℕ) (x : Literal) (l r : Closed) (text : List ℕ) (finished : List Branch) →
    let left : Part = part b (p ++ x ∷ []) t l in
    let right : Part = part b (p ++ negation x ∷ []) left.top r in
    let whole : Part = part b p t (fork x l r) in
    settled (p ++ negation x ∷ []) (length (p ++ negation x ∷ [])) ((text ++ text_of t left.steps) ++ text_of left.top right.steps) right.top right.id right.clause
    (record { depth = length (p ++ x ∷ []); id = left.id; clause = left.clause } ∷ finished)
    ≡ settled p (length p) (text ++ text_of t whole.steps) whole.top whole.id whole.clause finished
fork_settled b p t x l r text finished =
    let pl : Cube = p ++ x ∷ [] in
    let pr : Cube = p ++ negation x ∷ [] in
    let left : Part = part b pl t l in
    let right : Part = part b pr left.top r in
    let whole : Part = part b p t (fork x l r) in
    let out : List ℕ = (text ++ text_of t left.steps) ++ text_of left.top right.steps in
    let own : Part = own_part p x right.top left.id left.clause right.id right.clause in
    let same : own_part (take (length p) pr) (negation (get_or pr (length p) (Pos 0))) right.top left.id left.clause right.id right.clause ≡ own =
    ap (λ (front : Cube). own_part front (negation (get_or pr (length p) (Pos 0))) right.top left.id left.clause right.id right.clause) (take-append_seam p (negation x ∷ []))
    ∙ ap (λ (y : Literal). own_part p y right.top left.id left.clause right.id right.clause) (ap negation (get_or-append_seam p (negation x) [] (Pos 0)) ∙ negation-negation x) in
    let e = fork_ends b p t x l r in
    settled_left pr (length pr) (length p) out right.top right.id right.clause (record { depth = length pl; id = left.id; clause = left.clause }) finished
    (let a = length-append p (negation x ∷ []) in omega arith) (length-append p (x ∷ []) ∙ sym (length-append p (negation x ∷ [])))
    ∙ ap (λ (o : Part). settled pr (length p) (out ++ text_of right.top o.steps) o.top o.id o.clause finished) same
    ∙ settled_shorter p (negation x ∷ []) (length p) (out ++ text_of right.top own.steps) own.top own.id own.clause finished (omega arith)
    ∙ ap (λ (o : List ℕ). settled p (length p) o own.top own.id own.clause finished) (fork_text b p t x l r text)
    ∙ ap (λ (n : ℕ). settled p (length p) (text ++ text_of t whole.steps) n own.id own.clause finished) (sym e.top)
    ∙ ap (λ (n : ℕ). settled p (length p) (text ++ text_of t whole.steps) whole.top n own.clause finished) (sym e.id)
    ∙ ap (λ (C : Clause). settled p (length p) (text ++ text_of t whole.steps) whole.top whole.id C finished) (sym e.clause)

pub tree_appended : (p : Cube) (tree : Closed) (f : Front) → IsShallow (length p) f.standing.finished → appended_all f (cubes p tree) (fragments tree) ≡ reached p f tree
unfolding appended
tree_appended p (leaf steps) f h = refl
tree_appended p (fork x l r) f h =
    let pl : Cube = p ++ x ∷ [] in
    let pr : Cube = p ++ negation x ∷ [] in
    let longer : length p + 1 ≡ length pl = sym (length-append p (x ∷ [])) in
    let both : length pl ≡ length pr = length-append p (x ∷ []) ∙ sym (length-append p (negation x ∷ [])) in
    let s : Standing = f.standing in
    let left : Part = part f.base pl s.top l in
    let right : Part = part f.base pr left.top r in
    let text : List ℕ = s.text ++ text_of s.top left.steps in
    let middle : Front = record { base = f.base; count = f.count + length (fragments l); standing = waiting (length pl) text left.top left.id left.clause s.finished } in
    let first : reached pl f l ≡ middle =
    ap (λ (z : Standing). record { base = f.base; count = f.count + length (fragments l); standing = z })
    (settled_none pl (length pl) text left.top left.id left.clause s.finished (not_left (length p) (length pl) s.finished h (omega arith))) in
    all_append f (cubes pl l) (cubes pr r) (fragments l) (fragments r) (leaf_count pl l)
    ∙ ap (λ (g : Front). appended_all g (cubes pr r) (fragments r)) (tree_appended pl l f (deeper (length p) (length pl) s.finished h (omega arith)) ∙ first)
    ∙ tree_appended pr r middle (omega arith)
    ∙ ap (λ (z : Standing). record { base = f.base; count = f.count + length (fragments l) + length (fragments r); standing = z }) (fork_settled f.base p s.top x l r s.text s.finished)
    ∙ ap (λ (n : ℕ). record { base = f.base; count = n; standing = (reached p f (fork x l r)).standing })
    (let c = length-append (fragments l) (fragments r) in omega arith)

-- ---- what stands when the first leaves are appended
length-steps : (texts : List (List ℕ)) → length (steps_each texts) ≡ length texts
length-steps [] = refl
length-steps (text ∷ texts) = let e = length-steps texts in omega arith

pub front_more : (F : Cnf) (pairs : List Pair) (leaves : List Cube) (texts : List (List ℕ)) (f : Front) (q : Cube) (text : List ℕ) → IsFrontOf F pairs leaves texts f
    → IsFrontOf F pairs (leaves ++ q ∷ []) (texts ++ text ∷ []) (appended f q (steps_in text))
unfolding appended
front_more F pairs leaves texts f q text h =
    let same_length : length leaves ≡ length (steps_each texts) = sym (length-steps texts ∙ h.each) in
    record {
      base = h.base;
      count = (let a = h.count in let b = length-append leaves (q ∷ []) in omega arith);
      each = (let a = h.each in let b = length-append leaves (q ∷ []) in let d = length-append texts (text ∷ []) in omega arith);
      is = ap (λ (g : Front). appended g q (steps_in text)) h.is
          ∙ sym (all_append (preamble_front F pairs) leaves (q ∷ []) (steps_each texts) (steps_in text ∷ []) same_length)
          ∙ ap (appended_all (preamble_front F pairs) (leaves ++ q ∷ [])) (sym (map-append steps_in texts (text ∷ [])));
    }

pub front_none : (F : Cnf) (pairs : List Pair) → IsFrontOf F pairs [] [] (preamble_front F pairs)
front_none F pairs = record { base = refl; count = refl; each = refl; is = refl }

-- one leaf more of a tree
pub front_next : (F : Cnf) (pairs : List Pair) (leaves : List Cube) (texts : List (List ℕ)) (k : ℕ) (f new : Front) (q : Cube) (text : List ℕ) → IsFrontOf F pairs (take k leaves) (take k texts) f → k < length leaves → k < length texts
    → q ≡ get_or leaves k [] → text ≡ get_or texts k [] → new ≡ appended f q (steps_in text) → IsFrontOf F pairs (take (k + 1) leaves) (take (k + 1) texts) new
front_next F pairs leaves texts k f new q text h inside below q_is text_is e =
    subst (λ (ts : List (List ℕ)). IsFrontOf F pairs (take (k + 1) leaves) ts new) (ap (λ (t : List ℕ). take k texts ++ t ∷ []) text_is ∙ sym (take_more texts k [] below))
    (subst (λ (cs : List Cube). IsFrontOf F pairs cs (take k texts ++ text ∷ []) new) (ap (λ (c : Cube). take k leaves ++ c ∷ []) q_is ∙ sym (take_more leaves k [] inside))
    (subst (IsFrontOf F pairs (take k leaves ++ q ∷ []) (take k texts ++ text ∷ [])) (sym e) (front_more F pairs (take k leaves) (take k texts) f q text h)))

-- how many those are
pub front_count : (F : Cnf) (pairs : List Pair) (leaves : List Cube) (texts : List (List ℕ)) (k : ℕ) (f : Front) → IsFrontOf F pairs (take k leaves) (take k texts) f → k ≤ length leaves → f.count ≡ k
front_count F pairs leaves texts k f h inside = h.count ∙ length-take-le k leaves inside

-- the text of all leaves
abbrev pub text_of_all : Cnf → List Pair → List Cube → List (List ℕ) → List ℕ
text_of_all F pairs leaves texts = (appended_all (preamble_front F pairs) leaves (steps_each texts)).standing.text

pub all_text : (F : Cnf) (pairs : List Pair) (leaves : List Cube) (texts : List (List ℕ)) (tree : Closed) → cubes [] tree ≡ leaves → steps_each texts ≡ fragments tree
    → text_of_all F pairs leaves texts
    ≡ text_of (length F.clauses) (preamble_steps F pairs) ++ text_of (length (base_with F pairs).clauses) (part (length (base_with F pairs).clauses) [] (length (base_with F pairs).clauses) tree).steps
all_text F pairs leaves texts tree leaves_are steps_are =
    ap (λ (g : Front). g.standing.text) (ap (λ (cs : List Cube). appended_all (preamble_front F pairs) cs (steps_each texts)) (sym leaves_are)
    ∙ ap (appended_all (preamble_front F pairs) (cubes [] tree)) steps_are
    ∙ tree_appended [] tree (preamble_front F pairs) tt)

pub front_all : (F : Cnf) (pairs : List Pair) (leaves : List Cube) (texts : List (List ℕ)) (k : ℕ) (f : Front) → IsFrontOf F pairs (take k leaves) (take k texts) f → length leaves ≤ k → length texts ≤ k → f.standing.text ≡ text_of_all F pairs leaves texts
front_all F pairs leaves texts k f h a b =
    ap (λ (g : Front). g.standing.text) (h.is
    ∙ ap (λ (cs : List Cube). appended_all (preamble_front F pairs) cs (steps_each (take k texts))) (take_all k leaves a)
    ∙ ap (λ (ts : List (List ℕ)). appended_all (preamble_front F pairs) leaves (steps_each ts)) (take_all k texts b))

-- the text of some first leaves begins that of all
pub front_goes_on : (F : Cnf) (pairs : List Pair) (leaves : List Cube) (texts : List (List ℕ)) (k : ℕ) (f : Front) → IsFrontOf F pairs (take k leaves) (take k texts) f → GoesOn f.standing.text (text_of_all F pairs leaves texts)
front_goes_on F pairs leaves texts k f h =
    let same_length : length (take k leaves) ≡ length (steps_each (take k texts)) = sym (length-steps (take k texts) ∙ h.each) in
    let z = all_more f (drop k leaves) (steps_each (drop k texts)) in (
      z.0,
      z.1 ∙ ap (λ (x : Front). x.standing.text) (
          ap (λ (x : Front). appended_all x (drop k leaves) (steps_each (drop k texts))) h.is
          ∙ sym (all_append (preamble_front F pairs) (take k leaves) (drop k leaves) (steps_each (take k texts)) (steps_each (drop k texts)) same_length)
          ∙ ap (appended_all (preamble_front F pairs) (take k leaves ++ drop k leaves)) (sym (map-append steps_in (take k texts) (drop k texts)))
          ∙ ap (λ (ts : List (List ℕ)). appended_all (preamble_front F pairs) (take k leaves ++ drop k leaves) (steps_each ts)) (take-append-drop k texts)
          ∙ ap (λ (cs : List Cube). appended_all (preamble_front F pairs) cs (steps_each texts)) (take-append-drop k leaves)),
    )

-- ---- how long texts are
pub goes_long : (short text : List ℕ) (n : ℕ) → GoesOn short text → n ≤ length short → n ≤ length text
goes_long short text n (more, e) long = let a : length (short ++ more) ≡ length text = ap length e in let b = length-append short more in omega arith

-- the preamble's lines begin what is joined after them
pub preamble_begins : (F : Cnf) (lines : List Step) (leaves : List Cube) (texts : List (List ℕ)) (text : List ℕ) → Joined F lines leaves texts text → GoesOn (text_of (length F.clauses) lines) text
preamble_begins F lines leaves texts text j =
    let b : ℕ = length F.clauses + length lines in
    let more : List Step = (part b [] b j.tree).steps in
    (text_of (top_of (length F.clauses) lines) more, sym (j.is ∙ text_append (length F.clauses) lines more))

-- ---- as it is held
pub made_front : (F : Cnf) (pairs : List Pair) (b : ℕ) (text : List ℕ) (finished : List Branch) → b ≡ length (base_with F pairs).clauses → text ≡ text_of (length F.clauses) (preamble_steps F pairs) → finished ≡ []
    → ◌≡◌ {A = Front} (record { base = b; count = 0; standing = record { text = text; top = b; finished = finished } }) (preamble_front F pairs)
made_front F pairs b text finished base_is text_is none =
    ap (λ (n : ℕ). record { base = n; count = 0; standing = record { text = text; top = n; finished = finished } }) base_is
    ∙ ap (λ (t : List ℕ). record { base = length (base_with F pairs).clauses; count = 0; standing = record { text = t; top = length (base_with F pairs).clauses; finished = finished } }) text_is
    ∙ ap (λ (bs : List Branch). record { base = length (base_with F pairs).clauses; count = 0; standing = record { text = text_of (length F.clauses) (preamble_steps F pairs); top = length (base_with F pairs).clauses; finished = bs } }) none

-- what a leaf leaves, and what is made of it
pub leaf_step : (f : Front) (q : Cube) (steps : List Step) (out : List ℕ) (top id : ℕ) (C : Clause)
    → out ≡ f.standing.text ++ text_of f.standing.top (leaf_part f.base f.standing.top steps).steps → top ≡ (leaf_part f.base f.standing.top steps).top
    → id ≡ (leaf_part f.base f.standing.top steps).id → C ≡ (leaf_part f.base f.standing.top steps).clause
    → settled q (length q) out top id C f.standing.finished ≡ (appended f q steps).standing
unfolding appended
leaf_step f q steps out top id C out_is top_is id_is C_is =
    let p : Part = leaf_part f.base f.standing.top steps in
    let text : List ℕ = f.standing.text ++ text_of f.standing.top p.steps in
    ap (λ (o : List ℕ). settled q (length q) o top id C f.standing.finished) out_is
    ∙ ap (λ (n : ℕ). settled q (length q) text n id C f.standing.finished) top_is
    ∙ ap (λ (n : ℕ). settled q (length q) text p.top n C f.standing.finished) id_is
    ∙ ap (λ (D : Clause). settled q (length q) text p.top p.id D f.standing.finished) C_is

pub made_appended : (f : Front) (q : Cube) (steps : List Step) (out text : List ℕ) (top : ℕ) (finished : List Branch) → text ≡ out
    → ◌≡◌ {A = Standing} (record { text = out; top = top; finished = finished }) (appended f q steps).standing
    → ◌≡◌ {A = Front} (record { base = f.base; count = f.count + 1; standing = record { text = text; top = top; finished = finished } }) (appended f q steps)
unfolding appended
made_appended f q steps out text top finished same e =
    ap (λ (t : List ℕ). record { base = f.base; count = f.count + 1; standing = record { text = t; top = top; finished = finished } }) same
    ∙ ap (λ (s : Standing). record { base = f.base; count = f.count + 1; standing = s }) e

-- what a fork leaves
get_or_any : {X : Type 0} (xs : List X) (i : ℕ) (d e : X) → i < length xs → get_or xs i d ≡ get_or xs i e
get_or_any [] i d e h = absurd (omega arith)
get_or_any (x ∷ xs) zero d e h = refl
get_or_any (x ∷ xs) (suc i) d e h = get_or_any xs i d e (omega arith)

module _ (q : Cube) (d above : ℕ) (text : List ℕ) (top i : ℕ) (C : Clause) (left : Branch) (finished all : List Branch) (branch at : Literal)
    (all_are : all ≡ left ∷ finished) (same : left.depth ≡ d) (up : d ≡ suc above) (inside : above < length q) (at_is : at ≡ get_or q above at) (branch_is : branch ≡ negation at) where
  abbrev pub own_fork : Part
  own_fork = own_part (take above q) branch top left.id left.clause i C

  fork_there : settled q d text top i C all ≡ settled q above (text ++ text_of top own_fork.steps) own_fork.top own_fork.id own_fork.clause finished
  fork_there =
      ap (settled q d text top i C) all_are
      ∙ settled_left q d above text top i C left finished up same
      ∙ ap (λ (x : Literal). let own : Part = own_part (take above q) x top left.id left.clause i C in settled q above (text ++ text_of top own.steps) own.top own.id own.clause finished)
      (ap negation (get_or_any q above (Pos 0) at inside ∙ sym at_is) ∙ sym branch_is)

  pub fork_step : (new : List ℕ) (new_top id : ℕ) (E : Clause) → new ≡ text ++ text_of top own_fork.steps → new_top ≡ own_fork.top → id ≡ own_fork.id → E ≡ own_fork.clause
      → settled q d text top i C all ≡ settled q above new new_top id E finished
  fork_step new new_top id E new_is top_is id_is E_is =
      fork_there
      ∙ ap (λ (o : List ℕ). settled q above o own_fork.top own_fork.id own_fork.clause finished) (sym new_is)
      ∙ ap (λ (n : ℕ). settled q above new n own_fork.id own_fork.clause finished) (sym top_is)
      ∙ ap (λ (n : ℕ). settled q above new new_top n own_fork.clause finished) (sym id_is)
      ∙ ap (λ (D : Clause). settled q above new new_top id D finished) (sym E_is)

  pub fork_goes : GoesOn (text ++ text_of top own_fork.steps) (settled q d text top i C all).text
  fork_goes =
      let z = settled_more q above (text ++ text_of top own_fork.steps) own_fork.top own_fork.id own_fork.clause finished in
      (z.0, z.1 ∙ ap (λ (s : Standing). s.text) (sym fork_there))
