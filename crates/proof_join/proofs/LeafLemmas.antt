-- Leaves that are closed one after the other.
use Rattle.std.proofs.Common.{◌≡◌, ℕ, ◌+◌, ◌<◌, List, [], ◌∷◌, ◌++◌, length, get_or, take, subst, sym}
use Rattle.std.proofs.lemmas.List.{take_more}
use Rattle.dimacs.specs.logic.Cnf.{Cnf}
use Rattle.icnf.specs.Leaves.{Cube}
use Rattle.lrat_text.specs.Log.{Closes}
use Rattle.proof_join.specs.JoinedProof.{AllClose}

close_more : (B : Cnf) (leaves : List Cube) (texts : List (List ℕ)) (q : Cube) (text : List ℕ) → AllClose B leaves texts → Closes B q text → AllClose B (leaves ++ q ∷ []) (texts ++ text ∷ [])
close_more B [] [] q text h c = (c, tt)
close_more B [] (t ∷ texts) q text h c = absurd h
close_more B (p ∷ leaves) [] q text h c = absurd h
close_more B (p ∷ leaves) (t ∷ texts) q text h c = (h.0, close_more B leaves texts q text h.1 c)

-- the text of one more leaf
pub closed_more : (B : Cnf) (leaves : List Cube) (i : ℕ) (q : Cube) (text : List ℕ) (old new : List (List ℕ)) → i < length leaves → q ≡ get_or leaves i [] → new ≡ old ++ text ∷ []
    → AllClose B (take i leaves) old → Closes B q text → AllClose B (take (i + 1) leaves) new
closed_more B leaves i q text old new l at e h c =
    subst (AllClose B (take (i + 1) leaves)) (sym e)
    (subst (λ (qs : List Cube). AllClose B qs (old ++ text ∷ [])) (sym (take_more leaves i [] l))
    (close_more B (take i leaves) old (get_or leaves i []) text h (subst (λ (p : Cube). Closes B p text) at c)))
