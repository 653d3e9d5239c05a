-- What a token of a cube does to the cubes is what it does to all that was read.
use Rattle.std.proofs.Common.{◌≡◌, ℕ, Bool, true, false, cond, not, List, [], ◌∷◌, Result, Ok, Err, length, refl, leb}
use Rattle.dimacs.specs.inner.Rows.{Gives}
use Rattle.dimacs.specs.logic.Literal.{Literal, var_of}
use Rattle.dimacs.specs.text.Rows.{◌>>=◌}
use Rattle.dimacs.proofs.RowLemmas.{fails_by}
use Rattle.icnf.specs.declared.fault.IcnfFault.{IcnfFault}
use Rattle.icnf.specs.declared.fault.Kind.TheVariants.{AboveLimit, RepeatedVariable, NotATree, CubeTooLong}
use Rattle.icnf.specs.declared.place.Place.{Place}
use Rattle.icnf.specs.ReadState.{ReadState}
use Rattle.icnf.specs.Parser.{fault, no_memory, begin, end_cube, literal_in_cube}
use Rattle.icnf.specs.Walk.{WalkState, names, fits}
use Rattle.icnf.specs.inner.Cubes.{begin_cube, end_cube as cube_ends, end_behind, read_literal}

-- a test decides before and after a step
pub test_goes : {A B E : Type 0} (b : Bool) (x y : Result B E) (x' y' : Result A E) (f : A → Result B E) → x ≡ (x' >>= f) → y ≡ (y' >>= f) → cond b x y ≡ (cond b x' y' >>= f)
test_goes true x y x' y' f h k = h
test_goes false x y x' y' f h k = k

-- the cubes go on, and the clauses stay
abbrev pub walked : ReadState → WalkState → Result ReadState IcnfFault
walked s w = Ok (record s { walk = w })

pub begin_walks : (line : ℕ) (s : ReadState) → begin line s ≡ (begin_cube line s.walk >>= walked s)
unfolding begin_cube
begin_walks line s = test_goes (leb 65536 (length s.walk.cubes)) _ _ (fault AboveLimit line) _ (walked s) refl refl

ends_behind : (line : ℕ) (forced : List Place) (s : ReadState) → end_cube line forced s ≡ (end_behind line forced s.walk >>= walked s)
ends_behind line [] s = refl
ends_behind line (p ∷ forced) s = refl

pub end_walks : (line : ℕ) (s : ReadState) → end_cube line s.walk.forced s ≡ (cube_ends line s.walk >>= walked s)
unfolding cube_ends
end_walks line s = ends_behind line s.walk.forced s

pub literal_walks : (line : ℕ) (l : Literal) (s : ReadState) → literal_in_cube line l s ≡ (read_literal line l s.walk >>= walked s)
unfolding read_literal
literal_walks line l s =
    test_goes (names s.walk.path (var_of l)) _ _ (fault RepeatedVariable line) _ (walked s) refl
    (test_goes (not (fits l s.walk.forced)) _ _ (fault NotATree line) _ (walked s) refl
    (test_goes (leb 64 (length s.walk.path)) _ _ (fault CubeTooLong line) _ (walked s) refl refl))

-- what a call does to the cubes
pub gives_walked : (s : ReadState) (new : WalkState) (r : Result (Unit {0}) IcnfFault) (walk : Result WalkState IcnfFault) (all : Result ReadState IcnfFault)
    → all ≡ (walk >>= walked s) → Gives no_memory new r walk → Gives no_memory (record s { walk = new }) r all
gives_walked s new (Ok u) walk all e h = rw (e, h) refl
gives_walked s new (Err f) walk all e h = fails_by no_memory f walk all (λ is. rw (e, is) refl) h
