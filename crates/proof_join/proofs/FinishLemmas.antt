-- Leaves that are appended one after the other give the joined text.
use Rattle.std.proofs.Common.{◌≡◌, ℕ, ◌^◌, ◌<◌, ◌≤◌, List, [], length, take, refl, ◌∙◌, arith}
use Rattle.dimacs.specs.logic.Cnf.{Cnf, IsFormula}
use Rattle.icnf.specs.Leaves.{Cube, Leaves}
use Rattle.lrat_text.specs.Proof.{Accepts}
use Rattle.cube_split.specs.Definitions.{base_with}
use Rattle.cube_split.specs.declared.pair.Pair.{Pair}
use Rattle.proof_join.specs.Definitions.{JoinedOver, preamble_steps}
use Rattle.proof_join.specs.Fronts.{Front, IsFrontOf}
use Rattle.proof_join.specs.JoinedProof.{fragments, AllClose, IsPreamble}
use Rattle.proof_join.proofs.FrontLemmas.{all_text, front_all, front_goes_on, text_of_all}
use Rattle.proof_join.proofs.WholeLemmas.{close_length, each_spelled, whole, whole_is, whole_joined, whole_accepts, whole_long}

module _ (F : Cnf) (pairs : List Pair) (leaves : List Cube) (texts : List (List ℕ)) (tree : Leaves [] leaves) (close : AllClose (base_with F pairs) leaves texts) (low : (base_with F pairs).vars ≤ 199999999) (lead : IsPreamble F (base_with F pairs) (preamble_steps F pairs)) where
  all_is : text_of_all F pairs leaves texts ≡ (whole F (base_with F pairs) (preamble_steps F pairs) leaves texts tree close low).0
  all_is =
      let w = whole F (base_with F pairs) (preamble_steps F pairs) leaves texts tree close low in
      all_text F pairs leaves texts w.1.tree w.1.leaves_are (each_spelled texts (fragments w.1.tree) w.1.spelled)
      ∙ whole_is F (base_with F pairs) (preamble_steps F pairs) leaves texts tree close low lead (length (base_with F pairs).clauses) refl

  -- what is too long before the end is too long at the end
  pub front_long : (k : ℕ) (f : Front) → IsFrontOf F pairs (take k leaves) (take k texts) f → 2 ^ 32 ≤ length f.standing.text → (text : List ℕ) → JoinedOver F pairs leaves texts text → 2 ^ 32 ≤ length text
  front_long k f h long text j =
      let z = front_goes_on F pairs leaves texts k f h in
      whole_long F (base_with F pairs) (preamble_steps F pairs) leaves texts tree close low f.standing.text z.0 text (z.1 ∙ all_is) long j

  front_is : (k : ℕ) (f : Front) → IsFrontOf F pairs (take k leaves) (take k texts) f → length leaves ≤ k → (text : List ℕ) → text ≡ f.standing.text → text ≡ (whole F (base_with F pairs) (preamble_steps F pairs) leaves texts tree close low).0
  front_is k f h all text e = let same = close_length (base_with F pairs) leaves texts close in e ∙ front_all F pairs leaves texts k f h all (omega arith) ∙ all_is

  pub front_joined : (k : ℕ) (f : Front) → IsFrontOf F pairs (take k leaves) (take k texts) f → length leaves ≤ k → (text : List ℕ) → text ≡ f.standing.text → JoinedOver F pairs leaves texts text
  front_joined k f h all text e = whole_joined F (base_with F pairs) (preamble_steps F pairs) leaves texts tree close low text (front_is k f h all text e)

  pub front_accepts : (k : ℕ) (f : Front) → IsFrontOf F pairs (take k leaves) (take k texts) f → length leaves ≤ k → (text : List ℕ) → text ≡ f.standing.text → IsFormula F → length text < 2 ^ 32 → Accepts F text
  front_accepts k f h all text e limits short = whole_accepts F (base_with F pairs) (preamble_steps F pairs) leaves texts tree close low lead text limits (front_is k f h all text e) short
