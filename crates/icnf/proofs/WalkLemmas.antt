-- Cubes from left to right: what a literal and an end leave.
use Rattle.std.proofs.Common.{◌≡◌, ◌≢◌, ℕ, ◌+◌, ◌<◌, ◌≤◌, Bool, true, false, ◌||◌, List, [], ◌∷◌, ◌++◌, length, refl, sym, ap, ◌∙◌, arith, subst, Option, Some, None, eqb, append_assoc, take, drop, length-append, length-drop}
use Rattle.std.proofs.lemmas.Bool.{eqb-false}
use Rattle.std.proofs.lemmas.List.{append-nil, take_all, drop_all, take_more, drop_more}
use Rattle.std.proofs.lemmas.List.Elements.{All-nil, All-cons}
use Rattle.dimacs.specs.logic.Literal.{Literal, Pos, negation, var_of}
use Rattle.dimacs.proofs.LiteralLemmas.{negation-negation, var_of-negation}
use Rattle.icnf.specs.declared.place.Place.{Place}
use Rattle.icnf.specs.declared.walk.Stage.{Stage}
use Rattle.icnf.specs.declared.walk.Stage.TheVariants.{Clauses, Outside, Inside, Complete}
use Rattle.icnf.specs.Leaves.{Cube, IsFree, Leaves, leaf, fork}
use Rattle.icnf.specs.Walk.{literals_of, free_place, other_place, front_behind, next_front, names, advanced, ended_cube}
use Rattle.icnf.specs.inner.Walk.{BeforePlace, Begun, IsWalked}

-- a last place whose other branch was read is passed over
pub front_closed : (path : List Place) (p : Place) → p.is_open ≡ false → next_front (path ++ p ∷ []) ≡ next_front path
front_closed [] p e = rw e refl
front_closed (q ∷ path) p e = ap (front_behind q) (front_closed path p e)

-- a last place whose other branch is missing turns to it
pub front_open : (path : List Place) (p : Place) → p.is_open ≡ true → next_front (path ++ p ∷ []) ≡ Some (path ++ other_place p ∷ [])
front_open [] p e = rw e refl
front_open (q ∷ path) p e = ap (front_behind q) (front_open path p e)

or_false : (a b : Bool) → (a || b) ≡ false → (a ≡ false) × (b ≡ false)
or_false true b h = absurd (cc)
or_false false b h = (refl, h)

-- a variable that no place names is free
pub names_free : (path : List Place) (v : ℕ) → names path v ≡ false → IsFree (literals_of path) v
names_free [] v h = All-nil (λ l. var_of l ≢ v)
names_free (p ∷ path) v h =
    let both = or_false (eqb (var_of p.literal) v) (names path v) h in
    All-cons (λ l. var_of l ≢ v) p.literal (literals_of path) (eqb-false _ _ both.0) (names_free path v both.1)

place_push : (b : Bool) (other : Cube) (cubes : List Cube) (P Q : List Cube → Type 0) → ((seen : List Cube) → P seen → Q seen) → BeforePlace b other cubes P → BeforePlace b other cubes Q
place_push true other cubes P Q f h = f cubes h
place_push false other cubes P Q f h = (h.0, h.1, h.2, h.3, f h.1 h.4)

-- a free literal at the end leaves no cube after
pub begun_push : (path : List Place) (front : Cube) (cubes : List Cube) (l : Literal) → Begun front path cubes → IsFree (front ++ literals_of path) (var_of l) → Begun front (path ++ free_place l ∷ []) cubes
begun_push [] front cubes l h free = (subst (λ (c : Cube). IsFree c (var_of l)) (append-nil front) free, h)
begun_push (p ∷ path) front cubes l h free =
    let free' : IsFree ((front ++ p.literal ∷ []) ++ literals_of path) (var_of l) = subst (λ (c : Cube). IsFree c (var_of l)) (sym (append_assoc front (p.literal ∷ []) (literals_of path))) free in
    (h.0, place_push p.is_open (front ++ negation p.literal ∷ []) cubes _ _ (λ seen b. begun_push path (front ++ p.literal ∷ []) seen l b free') h.1)

-- what a cube's end leaves: leaves if no branch is missing
abbrev pub Closed : Option (List Place) → Cube → List Cube → Type 0
Closed None front cubes = Leaves front cubes
Closed (Some path) front cubes = Begun front path cubes

module _ (front : Cube) (l : Literal) (free : IsFree front (var_of l)) where
  -- after a place whose other branch is missing
  open_closed : (o : Option (List Place)) (cubes : List Cube) → Closed o (front ++ l ∷ []) cubes → Closed (front_behind (free_place l) o) front cubes
  open_closed None cubes h =
      let apart : IsFree front (var_of (negation l)) = subst (λ v. IsFree front v) (sym (var_of-negation l)) free in
      let read : Leaves (front ++ negation (negation l) ∷ []) cubes = subst (λ (k : Literal). Leaves (front ++ k ∷ []) cubes) (sym (negation-negation l)) h in
      (apart, (cubes, [], sym (append-nil cubes), read, refl))
  open_closed (Some path) cubes h = (free, h)

  -- after a place whose other branch was read
  shut_closed : (o : Option (List Place)) (first rest : List Cube) → Leaves (front ++ negation l ∷ []) first → Closed o (front ++ l ∷ []) rest → Closed (front_behind (record { literal = l; is_open = false }) o) front (first ++ rest)
  shut_closed None first rest a h =
      let apart : IsFree front (var_of (negation l)) = subst (λ v. IsFree front v) (sym (var_of-negation l)) free in
      let last : Leaves (front ++ negation (negation l) ∷ []) rest = subst (λ (k : Literal). Leaves (front ++ k ∷ []) rest) (sym (negation-negation l)) h in
      fork (negation l) apart a last
  shut_closed (Some path) first rest a h = (free, (first, rest, refl, a, h))

module _ (p : Place) (path : List Place) (front : Cube) where
  cube_of : Cube
  cube_of = front ++ literals_of (p ∷ path)

  same_cube : (front ++ p.literal ∷ []) ++ literals_of path ≡ cube_of
  unfolding cube_of
  same_cube = append_assoc front (p.literal ∷ []) (literals_of path)

  place_closed : (b : Bool) (cubes : List Cube) → IsFree front (var_of p.literal)
      → ((seen : List Cube) → Begun (front ++ p.literal ∷ []) path seen → Closed (next_front path) (front ++ p.literal ∷ []) (seen ++ ((front ++ p.literal ∷ []) ++ literals_of path) ∷ []))
      → BeforePlace b (front ++ negation p.literal ∷ []) cubes (Begun (front ++ p.literal ∷ []) path)
      → Closed (front_behind (record { literal = p.literal; is_open = b }) (next_front path)) front (cubes ++ cube_of ∷ [])
  place_closed true cubes free later b =
      open_closed front p.literal free (next_front path) (cubes ++ cube_of ∷ [])
      (subst (λ (c : Cube). Closed (next_front path) (front ++ p.literal ∷ []) (cubes ++ c ∷ [])) same_cube (later cubes b))
  place_closed false cubes free later b =
      let read : Closed (next_front path) (front ++ p.literal ∷ []) (b.1 ++ cube_of ∷ []) =
      subst (λ (c : Cube). Closed (next_front path) (front ++ p.literal ∷ []) (b.1 ++ c ∷ [])) same_cube (later b.1 b.4) in
      rw (b.2, append_assoc b.0 b.1 (cube_of ∷ [])) (shut_closed front p.literal free (next_front path) b.0 (b.1 ++ cube_of ∷ []) b.3 read)

pub closed : (path : List Place) (front : Cube) (cubes : List Cube) → Begun front path cubes → Closed (next_front path) front (cubes ++ (front ++ literals_of path) ∷ [])
unfolding cube_of
closed [] front cubes h = rw (h, append-nil front) leaf
closed (p ∷ path) front cubes h = place_closed p path front p.is_open cubes h.0 (λ seen b. closed path (front ++ p.literal ∷ []) seen b) h.1

-- ---- the states

no_place : Place
no_place = record { literal = Pos 0; is_open = false }

pub advanced_on : (stage : Stage) (cubes : List Cube) (path : List Place) (at : ℕ) (l : Literal) → at < length path
    → record { stage = stage; cubes = cubes; path = take (at + 1) path; forced = drop (at + 1) path } ≡ advanced l (record { stage = stage; cubes = cubes; path = take at path; forced = drop at path })
advanced_on stage cubes path at l h = rw (drop_more path at no_place h, take_more path at no_place h) refl

pub advanced_end : (stage : Stage) (cubes : List Cube) (path more : List Place) (at : ℕ) (l : Literal) → length path ≤ at → at ≤ length path → more ≡ path ++ free_place l ∷ []
    → record { stage = stage; cubes = cubes; path = take (at + 1) more; forced = drop (at + 1) more } ≡ advanced l (record { stage = stage; cubes = cubes; path = take at path; forced = drop at path })
advanced_end stage cubes path more at l low high e =
    let size = length-append path (free_place l ∷ []) in
    let all : length (path ++ free_place l ∷ []) ≤ at + 1 = omega arith in
    rw (e, take_all (at + 1) (path ++ free_place l ∷ []) all, drop_all (at + 1) (path ++ free_place l ∷ []) all, drop_all at path low, take_all at path low) refl

pub walked_push : (stage : Stage) (cubes : List Cube) (path more : List Place) (at : ℕ) (l : Literal) → stage ≡ Inside → length path ≤ at → names (take at path) (var_of l) ≡ false → more ≡ path ++ free_place l ∷ []
    → IsWalked stage path cubes → IsWalked stage more cubes
walked_push Clauses cubes path more at l s low other e h = absurd (cc)
walked_push Outside cubes path more at l s low other e h = absurd (cc)
walked_push Inside cubes path more at l s low other e h =
    let other' : names path (var_of l) ≡ false = ap (λ (p : List Place). names p (var_of l)) (sym (take_all at path low)) ∙ other in
    rw e (begun_push path [] cubes l h.0 (names_free path (var_of l) other'), h.1)
walked_push Complete cubes path more at l s low other e h = absurd (cc)

at_end : (path : List Place) (at : ℕ) → drop at path ≡ [] → length path ≤ at
at_end path at e = omega (arith, ap length e, length-drop at path)

pub ended_outside : (stage : Stage) (cubes more : List Cube) (path front : List Place) (at : ℕ) → drop at path ≡ [] → next_front path ≡ Some front → more ≡ cubes ++ literals_of path ∷ []
    → record { stage = Outside; cubes = more; path = take 0 front; forced = drop 0 front } ≡ ended_cube (record { stage = stage; cubes = cubes; path = take at path; forced = drop at path })
ended_outside stage cubes more path front at over e m = rw (take_all at path (at_end path at over), e, m) refl

pub ended_complete : (stage : Stage) (cubes more : List Cube) (path front : List Place) (at : ℕ) → drop at path ≡ [] → next_front path ≡ None → front ≡ [] → more ≡ cubes ++ literals_of path ∷ []
    → record { stage = Complete; cubes = more; path = take 0 front; forced = drop 0 front } ≡ ended_cube (record { stage = stage; cubes = cubes; path = take at path; forced = drop at path })
ended_complete stage cubes more path front at over e f m = rw (take_all at path (at_end path at over), e, f, m) refl

walked_inside : (stage : Stage) (path : List Place) (cubes : List Cube) → stage ≡ Inside → IsWalked stage path cubes → Begun [] path cubes × (length cubes < 65536)
walked_inside Clauses path cubes e h = absurd (cc)
walked_inside Outside path cubes e h = absurd (cc)
walked_inside Inside path cubes e h = h
walked_inside Complete path cubes e h = absurd (cc)

pub walked_room : (stage : Stage) (path : List Place) (cubes : List Cube) → stage ≡ Inside → IsWalked stage path cubes → length cubes < 65536
walked_room stage path cubes e h = (walked_inside stage path cubes e h).1

pub walked_outside : (stage : Stage) (cubes more : List Cube) (path front : List Place) → stage ≡ Inside → IsWalked stage path cubes → next_front path ≡ Some front → more ≡ cubes ++ literals_of path ∷ [] → Begun [] front more
walked_outside stage cubes more path front s h e m =
    rw m (subst (λ (o : Option (List Place)). Closed o [] (cubes ++ literals_of path ∷ [])) e (closed path [] cubes (walked_inside stage path cubes s h).0))

pub walked_complete : (stage : Stage) (cubes more : List Cube) (path : List Place) → stage ≡ Inside → IsWalked stage path cubes → next_front path ≡ None → more ≡ cubes ++ literals_of path ∷ [] → Leaves [] more
walked_complete stage cubes more path s h e m =
    rw m (subst (λ (o : Option (List Place)). Closed o [] (cubes ++ literals_of path ∷ [])) e (closed path [] cubes (walked_inside stage path cubes s h).0))

-- ---- turning

pub turn_open : (path seen rest : List Place) (p : Place) → next_front seen ≡ next_front path → seen ≡ rest ++ p ∷ [] → p.is_open ≡ true → next_front path ≡ Some (rest ++ other_place p ∷ [])
turn_open path seen rest p e split o = sym e ∙ ap next_front split ∙ front_open rest p o

pub turn_closed : (path seen rest : List Place) (p : Place) → next_front seen ≡ next_front path → seen ≡ rest ++ p ∷ [] → p.is_open ≡ false → next_front rest ≡ next_front path
turn_closed path seen rest p e split o = sym (front_closed rest p o) ∙ sym (ap next_front split) ∙ e
