-- What a token of a cube does to the cubes read so far; the ℕ is the number of its line.
use Rattle.std.specs.Prelude.{ℕ, not, nat_le, List, [], ◌∷◌, length, Result, Ok, if◌then◌else◌}
use Rattle.dimacs.specs.logic.Literal.{Literal, var_of}
use Rattle.icnf.specs.declared.fault.IcnfFault.{IcnfFault}
use Rattle.icnf.specs.declared.fault.Kind.TheVariants.{AboveLimit, RepeatedVariable, NotATree, CubeTooLong}
use Rattle.icnf.specs.declared.place.Place.{Place}
use Rattle.icnf.specs.declared.walk.Stage.TheVariants.{Inside}
use Rattle.icnf.specs.Parser.{fault}
use Rattle.icnf.specs.Walk.{WalkState, names, fits, advanced, ended_cube}

-- the walk after the beginning of a cube, or the fault AboveLimit
unfoldable pub begin_cube : ℕ → WalkState → Result WalkState IcnfFault
begin_cube line w = if nat_le 65536 (length w.cubes) then fault AboveLimit line else Ok (record w { stage = Inside })

-- the walk after the 0 that ends a cube, from the decisions that must follow, or the fault that there are any
abbrev pub end_behind : ℕ → List Place → WalkState → Result WalkState IcnfFault
end_behind line [] w = Ok (ended_cube w)
end_behind line (p ∷ forced) w = fault NotATree line

-- the walk after the 0 that ends a cube, or its fault
unfoldable pub end_cube : ℕ → WalkState → Result WalkState IcnfFault
end_cube line w = end_behind line w.forced w

-- the walk after the literal l of a cube, or its fault
unfoldable pub read_literal : ℕ → Literal → WalkState → Result WalkState IcnfFault
read_literal line l w =
    if names w.path (var_of l) then fault RepeatedVariable line
    else (if not (fits l w.forced) then fault NotATree line
    else (if nat_le 64 (length w.path) then fault CubeTooLong line
    else Ok (advanced l w)))
