-- The leaves of a cell: their cubes, and what tells that they are closed.
use Rattle.std.proofs.Common.{◌≡◌, Bool, true, false, MatchBool, ℕ, ◌<◌, List, [], ◌∷◌, ◌++◌, map, flat_map, nat_eq, length, get_or, refl, sym, ap, ◌∙◌, subst}
use Rattle.std.specs.List.{Contains, IsDistinct}
use Rattle.std.proofs.lemmas.List.{append-nil, append_assoc}
use Rattle.std.proofs.lemmas.List.Elements.{All-append, All-cons, All-nil, Contains-append_left, Contains-append_right}
use Rattle.dimacs.proofs.Members.{Contains-head, Contains-nil}
use Rattle.dimacs.specs.logic.Cnf.{Cnf}
use Rattle.dimacs.specs.logic.Literal.{IsTautology, var_of}
use Rattle.icnf.specs.Leaves.{Cube, IsTree}
use Rattle.icnf.proofs.DistinctLemmas.{leaves_distinct}
use Rattle.cube_solve.proofs.SearchLemmas.{cube_sound}
use Rattle.shared_logs.specs.SharedLogs.{SharedStep, Lemma, Import}
use Rattle.cell_worker.specs.WorkerLog.{EndsClosing}
use Rattle.sharing.specs.Sharing.{EndsImporting, FitsLines, HaveClosed, TellsClosed, leaf_line}
use Rattle.sharing.specs.declared.run.Shared.{Shared}
use Rattle.sharing.specs.declared.run.Shared.TheVariants as end
use Rattle.sharing.specs.inner.Writing.{Closing, Extends, IsLast}

no_literal : IsDistinct nat_eq (map var_of [])
unfolding IsDistinct
no_literal = tt

-- the cube of a leaf has no literal beside its negation
pub no_pair_at : (tree : List Cube) (i : ℕ) → IsTree tree → i < length tree → ¬ (IsTautology (get_or tree i []))
no_pair_at tree i is below (l, j, k) = cube_sound (get_or tree i []) (leaves_distinct no_literal is.leaves i [] below) l j k

-- neither has the empty cube
pub no_pair_in_none : ¬ (IsTautology [])
no_pair_in_none (l, j, k) = Contains-nil l j

-- a search that has closed its query has a line that closes it
pub have_closed : (F : Cnf) (q : Cube) (lines : List SharedStep) (e : Shared) → Closing e → FitsLines F q lines e → HaveClosed q lines
have_closed F q lines (end.Satisfied values) closing fits = absurd closing
have_closed F q lines end.Closed closing (number, fits) = record {
  line = Lemma number fits.clause fits.hints;
  within = subst (λ (x : List SharedStep). Contains x (Lemma number fits.clause fits.hints)) (sym fits.ends)
      (Contains-append_right fits.front (Lemma number fits.clause fits.hints ∷ []) (Lemma number fits.clause fits.hints) (Contains-head (Lemma number fits.clause fits.hints) []));
  clause = fits.clause;
  adds = refl;
  negates = fits.negates;
}
have_closed F q lines end.ClosedByOthers closing fits =
    let line : SharedStep = Import fits.number fits.clause fits.name fits.there in
    record {
      line = line;
      within = subst (λ (x : List SharedStep). Contains x line) (sym fits.ends) (Contains-append_right fits.front (line ∷ []) line (Contains-head line []));
      clause = fits.clause;
      adds = refl;
      negates = fits.negates;
    }
have_closed F q lines end.Limit closing fits = absurd closing

-- an end under the last query is right for the whole formula
pub whole_fits : (F : Cnf) (q : Cube) (lines : List SharedStep) (e : Shared) → IsLast q e → FitsLines F q lines e → FitsLines F [] lines e
whole_fits F q lines (end.Satisfied values) last fits = record { whole = fits.whole; clauses = fits.clauses; query = λ l i. absurd (Contains-nil l i) }
whole_fits F q lines end.Closed last (number, fits) = (number, subst (λ (x : Cube). EndsClosing x number lines) last fits)
whole_fits F q lines end.ClosedByOthers last fits = subst (λ (x : Cube). EndsImporting x lines) last fits
whole_fits F q lines end.Limit last fits = tt

-- ---- what is told
longer_closed : (q : Cube) (lines longer : List SharedStep) → Extends lines longer → HaveClosed q lines → HaveClosed q longer
longer_closed q lines longer (more, is) h = record {
  line = h.line;
  within = subst (λ (x : List SharedStep). Contains x h.line) (sym is) (Contains-append_left lines more h.line h.within);
  clause = h.clause;
  adds = h.adds;
  negates = h.negates;
}

pub tells_nothing : (tree : List Cube) (lines : List SharedStep) → TellsClosed tree lines []
tells_nothing tree lines = record { places = []; is = refl; closed = All-nil (λ place. (place < length tree) × HaveClosed (get_or tree place []) lines) }

pub tells_longer : (tree : List Cube) (lines longer : List SharedStep) (text : List ℕ) → Extends lines longer → TellsClosed tree lines text → TellsClosed tree longer text
tells_longer tree lines longer text by h = record {
  places = h.places;
  is = h.is;
  closed = λ i y below. let x = h.closed i y below in (x.0, longer_closed (get_or tree (get_or h.places i y) []) lines longer by x.1);
}

lines_more : (places : List ℕ) (place : ℕ) → flat_map leaf_line (places ++ place ∷ []) ≡ flat_map leaf_line places ++ leaf_line place
lines_more [] place = append-nil (leaf_line place)
lines_more (p ∷ places) place = ap (λ x. leaf_line p ++ x) (lines_more places place) ∙ sym (append_assoc (leaf_line p) (flat_map leaf_line places) (leaf_line place))

pub tells_more : (tree : List Cube) (lines : List SharedStep) (text : List ℕ) (place : ℕ) → place < length tree → HaveClosed (get_or tree place []) lines
    → TellsClosed tree lines text → TellsClosed tree lines (text ++ leaf_line place)
tells_more tree lines text place below closed h =
    let P : ℕ → Type 0 = λ p. (p < length tree) × HaveClosed (get_or tree p []) lines in
    record {
      places = h.places ++ place ∷ [];
      is = ap (λ x. x ++ leaf_line place) h.is ∙ sym (lines_more h.places place);
      closed = All-append P h.places (place ∷ []) h.closed (All-cons P place [] (below, closed) (All-nil P));
    }

-- a leaf that was closed is told, or nothing is
pub told_on : {T : Type 0} (has_told : T → List ℕ → Type 0) (quiet : Bool) (old new : T) (tree : List Cube) (lines longer : List SharedStep) (text : List ℕ) (place : ℕ)
    → MatchBool quiet (new ≡ old) ((t : List ℕ) → has_told old t → has_told new (t ++ leaf_line place)) → Extends lines longer → place < length tree
    → HaveClosed (get_or tree place []) longer → has_told old text → TellsClosed tree lines text → (told : List ℕ) × has_told new told × TellsClosed tree longer told
told_on has_told true old new tree lines longer text place same by below closed h tells =
    (text, subst (λ t. has_told t text) (sym same) h, tells_longer tree lines longer text by tells)
told_on has_told false old new tree lines longer text place more by below closed h tells =
    (text ++ leaf_line place, more text h, tells_more tree longer text place below closed (tells_longer tree lines longer text by tells))
