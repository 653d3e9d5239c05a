-- The join of the example.
use Rattle.std.proofs.Common.{◌≡◌, true, false, [], ◌∷◌, ◌++◌, map, refl}
use Rattle.std.specs.Prelude.{codes}
use Rattle.std.specs.Fmt.{digits}
use Rattle.lrat_text.specs.Runs.{text_of}
use Rattle.proof_join.specs.RenumberedSteps.{behind, renumbered}
use Rattle.log_join.specs.ClosedLeaves.{open_from}
use Rattle.log_join.specs.Examples.{two_leaves, right_log, right_lemmas, refused_log, refused_lemmas, left_log, left_lemmas, ended_tree}
use Rattle.log_join.specs.JoinedLogs.{deleted, deletions, ends, forks, left_by}

pub right : deleted true two_leaves right_lemmas ≡ 5 ∷ []
right = refl

pub open_left : open_from 0 (left_by true two_leaves right_lemmas) ≡ 0 ∷ []
open_left = refl

pub refused : deleted false (left_by true two_leaves right_lemmas) refused_lemmas ≡ 7 ∷ []
refused = refl

pub left_kept : deleted true (left_by true two_leaves right_lemmas) left_lemmas ≡ []
left_kept = refl

pub closed : left_by true (left_by true two_leaves right_lemmas) left_lemmas ≡ ends [] ended_tree
closed = refl

pub text : text_of 4 ((map (renumbered (behind 4 4)) right_log ++ deletions (5 ∷ [])) ++ (map (renumbered (behind 4 6)) refused_log ++ deletions (7 ∷ []))
    ++ (map (renumbered (behind 4 7)) left_log ++ deletions []) ++ (forks [] 8 ended_tree).steps)
    ≡ codes "5 2 0 1 2 0\n6 1 0 5 3 0\n6 d 5 0\n7 2 0 1 2 0\n7 d 7 0\n8 -1 0 2 4 0\n9 0 8 6 0\n"
unfolding digits
text = refl
