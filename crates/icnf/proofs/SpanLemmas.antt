-- Cubes that lie in one list of literals, and more of them.
use Rattle.std.proofs.Common.{◌≡◌, ℕ, zero, suc, ◌+◌, ◌-◌, ◌*◌, ◌<◌, ◌≤◌, List, [], ◌∷◌, ◌++◌, map, length, get_or, set, take, drop, refl, sym, ap, ◌∙◌, arith, subst, length-append, length-take, length-drop, add-one}
use Rattle.std.specs.List.{All, insert}
use Rattle.std.proofs.Math.Seq.{drop-append_seam}
use Rattle.std.proofs.lemmas.List.{take_all, take-append-le, drop-append-le, length-map, get_or-map, append_assoc, append-nil, map-append, map_more}
use Rattle.std.proofs.lemmas.List.Elements.{All-head, All-tail, All-nil, All-cons, All-weaker, All-map}
use Rattle.dimacs.specs.logic.Literal.{Literal, Pos, Neg}
use Rattle.icnf.specs.declared.place.Place.{Place}
use Rattle.icnf.specs.declared.span.Span.{Span}
use Rattle.icnf.specs.Walk.{literals_of}
use Rattle.icnf.specs.Leaves.{Cube, Leaves, leaf, branched, IsTree}
use Rattle.icnf.specs.Spans.{cube_in, cubes_in}
use Rattle.icnf.specs.inner.Spans.{IsSpan, AreSpans}

-- more literals at the end change no cube
pub cube_stays : (xs ys : List Literal) (s : Span) → IsSpan (length xs) s → cube_in (xs ++ ys) s ≡ cube_in xs s
cube_stays xs ys s h =
    let p : s.from ≤ length xs = omega (arith, h.rise, h.inside) in
    let q : s.to - s.from ≤ length (drop s.from xs) = omega (arith, length-drop s.from xs, h.inside) in
    rw (drop-append-le, take-append-le) refl

pub cubes_stay : (xs ys : List Literal) (spans : List Span) → All (IsSpan (length xs)) spans → cubes_in (xs ++ ys) spans ≡ cubes_in xs spans
cubes_stay xs ys [] h = refl
cubes_stay xs ys (s ∷ spans) h =
    rw (cube_stays xs ys s (All-head (IsSpan (length xs)) s spans h), cubes_stay xs ys spans (All-tail (IsSpan (length xs)) s spans h)) refl

span_longer : (m n : ℕ) (s : Span) → m ≤ n → IsSpan m s → IsSpan n s
span_longer m n s le h = record { rise = h.rise; inside = omega (arith, h.inside); short = h.short }

pub spans_longer : (m n : ℕ) (spans : List Span) → m ≤ n → All (IsSpan m) spans → All (IsSpan n) spans
spans_longer m n spans le h = All-weaker (IsSpan m) (IsSpan n) (λ s w. span_longer m n s le w) spans h

-- a cube that was put at the end
pub cube_at_end : (xs cube ys : List Literal) (s : Span) → s.from ≡ length xs → s.to ≡ length xs + length cube → cube_in (xs ++ cube ++ ys) s ≡ cube
cube_at_end xs cube ys s from to =
    let n : s.to - s.from ≡ length cube = omega arith in
    rw (n, from, append_assoc xs cube ys, drop-append_seam xs (cube ++ ys)) (take_front cube ys)
  where
    take_front : (xs ys : List Literal) → take (length xs) (xs ++ ys) ≡ xs
    take_front xs ys = let le : length xs ≤ length xs = omega arith in rw take-append-le (take_all (length xs) xs le)

-- the spans of two branches in the place of a span
branched_spans : (f : Span → Cube) (spans : List Span) (i v : ℕ) (s a b : Span) → i < length spans → f a ≡ f (get_or spans i s) ++ Pos v ∷ [] → f b ≡ f (get_or spans i s) ++ Neg v ∷ []
    → map f (insert (set spans i a) (suc i) b) ≡ branched i v (map f spans)
branched_spans f [] i v s a b h p q = absurd (omega arith)
branched_spans f (x ∷ spans) zero v s a b h p q = rw (p, q) refl
branched_spans f (x ∷ spans) (suc i) v s a b h p q = ap (λ (rest : List Cube). f x ∷ rest) (branched_spans f spans i v s a b (omega arith) p q)

module _ (xs ys : List Literal) (spans : List Span) (i v : ℕ) (s a b : Span) (lies : AreSpans xs spans) (below : i < length spans)
    (is : s ≡ get_or spans i s)
    (more : ys ≡ xs ++ (cube_in xs s ++ Pos v ∷ []) ++ (cube_in xs s ++ Neg v ∷ []))
    (short : s.to < s.from + 64) (first : a.from ≡ length xs) (middle : a.to ≡ length xs + (s.to - s.from + 1)) (same : b.from ≡ a.to) (last : b.to ≡ a.to + (s.to - s.from + 1)) where
  span_of : IsSpan (length xs) s
  span_of = subst (λ (x : Span). IsSpan (length xs) x) (sym is) (lies.inside i s below)

  cube_size : length (cube_in xs s) ≡ s.to - s.from
  cube_size = omega (arith, length-take (s.to - s.from) (drop s.from xs), length-drop s.from xs, span_of.inside, span_of.rise)

  left_size : length (cube_in xs s ++ Pos v ∷ []) ≡ s.to - s.from + 1
  left_size = omega (arith, length-append (cube_in xs s) (Pos v ∷ []), cube_size)

  right_size : length (cube_in xs s ++ Neg v ∷ []) ≡ s.to - s.from + 1
  right_size = omega (arith, length-append (cube_in xs s) (Neg v ∷ []), cube_size)

  all_size : length ys ≡ length xs + 2 * (s.to - s.from + 1)
  all_size =
      ap length more
      ∙ omega (arith, left_size, right_size, length-append (xs ++ (cube_in xs s ++ Pos v ∷ [])) (cube_in xs s ++ Neg v ∷ []), length-append xs (cube_in xs s ++ Pos v ∷ []))

  left : Cube
  left = cube_in xs s ++ Pos v ∷ []

  right : Cube
  right = cube_in xs s ++ Neg v ∷ []

  grown : ys ≡ xs ++ (left ++ right)
  unfolding left right
  grown = more ∙ append_assoc xs (cube_in xs s ++ Pos v ∷ []) (cube_in xs s ++ Neg v ∷ [])

  -- the old cubes stay
  stays : cubes_in ys spans ≡ cubes_in xs spans
  stays = ap (λ (zs : List Literal). cubes_in zs spans) grown ∙ cubes_stay xs (left ++ right) spans lies.inside

  leaf_stays : cube_in ys (get_or spans i s) ≡ cube_in xs s
  leaf_stays = ap (λ (x : Span). cube_in ys x) (sym is) ∙ ap (λ (zs : List Literal). cube_in zs s) grown ∙ cube_stays xs (left ++ right) s span_of

  left_is : cube_in ys a ≡ cube_in ys (get_or spans i s) ++ Pos v ∷ []
  unfolding left right
  left_is =
      ap (λ (zs : List Literal). cube_in zs a) more
      ∙ cube_at_end xs (cube_in xs s ++ Pos v ∷ []) (cube_in xs s ++ Neg v ∷ []) a first (omega (arith, left_size, middle))
      ∙ ap (λ (c : Cube). c ++ Pos v ∷ []) (sym leaf_stays)

  right_is : cube_in ys b ≡ cube_in ys (get_or spans i s) ++ Neg v ∷ []
  unfolding left right
  right_is =
      ap (λ (zs : List Literal). cube_in zs b) (more ∙ sym (append-nil (xs ++ (cube_in xs s ++ Pos v ∷ []) ++ (cube_in xs s ++ Neg v ∷ []))))
      ∙ cube_at_end (xs ++ (cube_in xs s ++ Pos v ∷ [])) (cube_in xs s ++ Neg v ∷ []) [] b (omega (arith, left_size, length-append xs (cube_in xs s ++ Pos v ∷ []))) (omega (arith, left_size, right_size, length-append xs (cube_in xs s ++ Pos v ∷ [])))
      ∙ ap (λ (c : Cube). c ++ Neg v ∷ []) (sym leaf_stays)

  pub branched_cubes : cubes_in ys (insert (set spans i a) (i + 1) b) ≡ branched i v (cubes_in xs spans)
  branched_cubes = rw add-one (branched_spans (cube_in ys) spans i v s a b below left_is right_is) ∙ ap (branched i v) stays

pub tree_leaf : (xs : List Literal) (spans : List Span) (s : Span) → xs ≡ [] → spans ≡ s ∷ [] → s.from ≡ 0 → s.to ≡ 0 → AreSpans xs spans × Leaves [] (cubes_in xs spans)
tree_leaf xs spans s e f from to =
    let span : IsSpan 0 s = record { rise = omega arith; inside = omega arith; short = omega arith } in
    let empty : cubes_in [] (s ∷ []) ≡ [] ∷ [] = rw (from, to) refl in
    rw (e, f) (record { inside = All-cons (IsSpan 0) s [] span (All-nil (IsSpan 0)); count = omega arith; room = omega arith }, rw empty leaf)

-- a cube has at most 64 literals
pub cube_short : (xs : List Literal) (spans : List Span) (i : ℕ) → AreSpans xs spans → i < length spans → length (get_or (cubes_in xs spans) i []) ≤ 64
cube_short xs [] i h below = absurd (omega arith)
cube_short xs (s ∷ spans) i h below = cube_size (s ∷ spans) i h.inside below where
  cube_size : (spans : List Span) (i : ℕ) → All (IsSpan (length xs)) spans → i < length spans → length (get_or (cubes_in xs spans) i []) ≤ 64
  cube_size [] i h below = absurd (omega arith)
  cube_size (s ∷ spans) zero h below = let p = All-head (IsSpan (length xs)) s spans h in omega (arith, length-take (s.to - s.from) (drop s.from xs), p.short)
  cube_size (s ∷ spans) (suc i) h below = cube_size spans i (All-tail (IsSpan (length xs)) s spans h) (omega arith)

-- the cubes are a tree's, within the limits
pub tree_is : (xs : List Literal) (spans : List Span) (cubes : List Cube) → cubes_in xs spans ≡ cubes → AreSpans xs spans → Leaves [] (cubes_in xs spans) → IsTree cubes
tree_is xs spans cubes e h l =
    rw (← e) (record {
      leaves = l;
      count = omega (arith, length-map spans (cube_in xs), h.count);
      short = All-map (λ (c : Cube). length c ≤ 64) (cube_in xs) spans (All-weaker (IsSpan (length xs)) (λ s. length (cube_in xs s) ≤ 64) (λ s w. omega (arith, length-take (s.to - s.from) (drop s.from xs), w.short)) spans h.inside);
    })

-- two branches, one after the other
pub branches_appended : (xs ys zs : List Literal) (spans : List Span) (i v : ℕ) (s : Span) (p n : Literal) → AreSpans xs spans → i < length spans → s ≡ get_or spans i s → p ≡ Pos v → n ≡ Neg v
    → ys ≡ xs ++ (cube_in xs s ++ p ∷ []) → zs ≡ ys ++ (cube_in ys s ++ n ∷ []) → zs ≡ xs ++ (cube_in xs s ++ Pos v ∷ []) ++ (cube_in xs s ++ Neg v ∷ [])
branches_appended xs ys zs spans i v s p n lies below is ep en ey ez =
    let span : IsSpan (length xs) s = subst (λ (x : Span). IsSpan (length xs) x) (sym is) (lies.inside i s below) in
    let stays : cube_in ys s ≡ cube_in xs s = ap (λ (ws : List Literal). cube_in ws s) ey ∙ cube_stays xs (cube_in xs s ++ p ∷ []) s span in
    let left : ys ≡ xs ++ (cube_in xs s ++ Pos v ∷ []) = ey ∙ ap (λ (l : Literal). xs ++ (cube_in xs s ++ l ∷ [])) ep in
    ez ∙ ap (λ (c : Cube). ys ++ (c ++ n ∷ [])) stays ∙ ap (λ (l : Literal). ys ++ (cube_in xs s ++ l ∷ [])) en ∙ ap (λ (ws : List Literal). ws ++ (cube_in xs s ++ Neg v ∷ [])) left

-- room for one more literal in a cube
pub leaf_short : (xs : List Literal) (spans : List Span) (i : ℕ) (s : Span) → AreSpans xs spans → i < length spans → s ≡ get_or spans i s → length (get_or (cubes_in xs spans) i []) < 64 → s.to < s.from + 64
leaf_short xs spans i s lies below is h =
    let span : IsSpan (length xs) s = subst (λ (x : Span). IsSpan (length xs) x) (sym is) (lies.inside i s below) in
    let cube : length (get_or (cubes_in xs spans) i []) ≡ length (cube_in xs s) = ap length (get_or-map (cube_in xs) spans i s [] below ∙ ap (λ (x : Span). cube_in xs x) (sym is)) in
    omega (arith, length-take (s.to - s.from) (drop s.from xs), length-drop s.from xs, span.rise, span.inside)

-- a cube after the others
pub cubes_push : (xs ys cube : List Literal) (spans : List Span) (s : Span) → AreSpans xs spans → ys ≡ xs ++ cube → s.from ≡ length xs → s.to ≡ length xs + length cube → cubes_in ys (spans ++ s ∷ []) ≡ cubes_in xs spans ++ cube ∷ []
cubes_push xs ys cube spans s lies e from to =
    let last : cube_in (xs ++ cube) s ≡ cube = ap (λ (zs : List Literal). cube_in zs s) (sym (append-nil (xs ++ cube))) ∙ cube_at_end xs cube [] s from to in
    rw e (map-append (cube_in (xs ++ cube)) spans (s ∷ []) ∙ ap (λ (cs : List Cube). cs ++ cube_in (xs ++ cube) s ∷ []) (cubes_stay xs cube spans lies.inside) ∙ ap (λ (c : Cube). cubes_in xs spans ++ c ∷ []) last)

-- one more literal of a path
pub literals_more : (old now next : List Literal) (path : List Place) (i : ℕ) (p : Place) → i < length path → p ≡ get_or path i p → now ≡ old ++ literals_of (take i path) → next ≡ now ++ p.literal ∷ [] → next ≡ old ++ literals_of (take (i + 1) path)
literals_more old now next path i p h is e f =
    f ∙ ap (λ (xs : List Literal). xs ++ p.literal ∷ []) e ∙ append_assoc old (literals_of (take i path)) (p.literal ∷ [])
    ∙ ap (λ (xs : List Literal). old ++ xs) (ap (λ (q : Place). literals_of (take i path) ++ q.literal ∷ []) is ∙ sym (map_more (λ (q : Place). q.literal) path i p h))
