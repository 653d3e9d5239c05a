-- Groups whose hints lie one after the other in one list.
use Rattle.std.proofs.Common.{◌≡◌, ℕ, zero, suc, ◌+◌, ◌-◌, ◌≤◌, ◌<◌, List, [], ◌∷◌, ◌++◌, length, get_or, Some, slice_get, refl, sym, ap, ◌∙◌, arith, take, drop, length-drop, length-append}
use Rattle.std.specs.List.{slice_range}
use Rattle.std.proofs.lemmas.List.{take-append-le, drop-append-le, take_all}
use Rattle.std.proofs.Math.Seq.{drop-append_seam}
use Rattle.std.proofs.Math.ListN.{set}
use Rattle.std.proofs.lemmas.Option.{slice_get_read}
use Rattle.lrat_text.specs.declared.groups.Head.{Head}
use Rattle.dimacs.specs.logic.Rat.{Group}
use Rattle.lrat_text.specs.Groups.{groups_from}
use Rattle.lrat_text.specs.inner.Groups.{AreHeads, start_at}
use Rattle.lrat_text.specs.GroupLists.{with_hint}
use Rattle.dimacs.specs.logic.Literal.{Literal}
use Rattle.lrat_text.specs.Parser.{groups_in}
use Rattle.lrat_text.specs.declared.token.Token.{Token}
use Rattle.lrat_text.specs.declared.token.Token.TheVariants.{Plus, Minus}

-- there are as many groups as heads
pub length_groups : (start : ℕ) (heads : List Head) (hints : List ℕ) → length (groups_from start heads hints) ≡ length heads
length_groups start [] hints = refl
length_groups start (h ∷ heads) hints = omega (arith, length_groups h.end heads hints)

-- the group of the head at a place
pub group_at : (start : ℕ) (heads : List Head) (hints : List ℕ) (i : ℕ) (h : Head) → slice_get heads i ≡ Some h
    → slice_get (groups_from start heads hints) i ≡ Some (h.candidate, slice_range hints (start_at start heads i) h.end)
group_at start [] hints i h e = cc
group_at start (x ∷ heads) hints zero h e =
    let same : x ≡ h = cc in
    ap (λ (k : Head). Some (k.candidate, slice_range hints start k.end)) same
group_at start (x ∷ heads) hints (suc i) h e = group_at x.end heads hints i h e

-- its hints begin no later than they end, and end within the list
pub group_ends : (start : ℕ) (heads : List Head) (len i : ℕ) (h : Head) → AreHeads start heads len → slice_get heads i ≡ Some h → start_at start heads i ≤ h.end
group_ends start [] len i h ok e = cc
group_ends start (x ∷ heads) len zero h ok e =
    let same : x ≡ h = cc in
    let ends : x.end ≡ h.end = ap (λ (k : Head). k.end) same in
    omega (arith, ok.0)
group_ends start (x ∷ heads) len (suc i) h ok e = group_ends x.end heads len i h ok.1 e

pub starts_within : (start : ℕ) (heads : List Head) (len : ℕ) → AreHeads start heads len → start ≤ len
starts_within start [] len ok = omega (arith, ok)
starts_within start (x ∷ heads) len ok = omega (arith, ok.0, starts_within x.end heads len ok.1)

pub group_within : (start : ℕ) (heads : List Head) (len i : ℕ) (h : Head) → AreHeads start heads len → slice_get heads i ≡ Some h → h.end ≤ len
group_within start [] len i h ok e = cc
group_within start (x ∷ heads) len zero h ok e =
    let same : x ≡ h = cc in
    let ends : x.end ≡ h.end = ap (λ (k : Head). k.end) same in
    omega (arith, starts_within x.end heads len ok.1)
group_within start (x ∷ heads) len (suc i) h ok e = group_within x.end heads len i h ok.1 e

-- the same of a head that was read
pub read_ends : (heads : List Head) (len i n s : ℕ) (h : Head) → AreHeads 0 heads len → n ≡ length heads → i < n → h ≡ get_or heads i h → s ≡ start_at 0 heads i → s ≤ h.end
read_ends heads len i n s h ok e lt is at = omega (arith, at, group_ends 0 heads len i h ok (slice_get_read heads n i h e lt is))

pub read_within : (heads : List Head) (len i n : ℕ) (h : Head) → AreHeads 0 heads len → n ≡ length heads → i < n → h ≡ get_or heads i h → h.end ≤ len
read_within heads len i n h ok e lt is = group_within 0 heads len i h ok (slice_get_read heads n i h e lt is)

pub read_group : (heads : List Head) (hints : List ℕ) (i n s : ℕ) (h : Head) → n ≡ length heads → i < n → h ≡ get_or heads i h → s ≡ start_at 0 heads i
    → slice_get (groups_from 0 heads hints) i ≡ Some (h.candidate, slice_range hints s h.end)
read_group heads hints i n s h e lt is at = rw at (group_at 0 heads hints i h (slice_get_read heads n i h e lt is))

-- the hints of the group after a place begin where the place's end
pub start_behind : (start : ℕ) (heads : List Head) (i j : ℕ) (d : Head) → i ≡ suc j → i < length heads → start_at start heads i ≡ (get_or heads j d).end
start_behind start heads i j d e lt = let within : suc j < length heads = omega arith in rw e (behind start heads j d within)
  where
    behind : (start : ℕ) (heads : List Head) (j : ℕ) (d : Head) → suc j < length heads → start_at start heads (suc j) ≡ (get_or heads j d).end
    behind start [] j d lt = absurd (omega arith)
    behind start (x ∷ heads) zero d lt = refl
    behind start (x ∷ heads) (suc j) d lt = behind x.end heads j d (omega arith)

-- one more head, whose hints stand at the end
pub more_heads : (start : ℕ) (heads : List Head) (len more : ℕ) (h : Head) → AreHeads start heads len → h.end ≡ len + more → AreHeads start (heads ++ h ∷ []) (len + more)
more_heads start [] len more h ok e = (omega (arith, ok), e)
more_heads start (x ∷ heads) len more h ok e = (ok.0, more_heads x.end heads len more h ok.1 e)

-- the parts of a list stay where it grows at its end
pub range_stays : (xs ys : List ℕ) (a b : ℕ) → a ≤ b → b ≤ length xs → slice_range (xs ++ ys) a b ≡ slice_range xs a b
range_stays xs ys a b le h =
    let inside : a ≤ length xs = omega arith in
    let room : b - a ≤ length (drop a xs) = omega (arith, length-drop a xs) in
    ap (take (b - a)) (drop-append-le a xs ys inside) ∙ take-append-le (b - a) (drop a xs) ys room

-- the part after the old end
pub range_added : (xs ys : List ℕ) (a b : ℕ) → a ≡ length xs → b ≡ length xs + length ys → slice_range (xs ++ ys) a b ≡ ys
range_added xs ys a b e f =
    let n : b - a ≡ length ys = omega arith in
    rw (n, e, drop-append_seam) (take_all (length ys) ys (omega arith))

-- one group more, whose hints stand at the end
pub more_groups : (start : ℕ) (heads : List Head) (hints more : List ℕ) (h : Head) → AreHeads start heads (length hints) → h.end ≡ length hints + length more
    → groups_from start (heads ++ h ∷ []) (hints ++ more) ≡ groups_from start heads hints ++ (h.candidate, more) ∷ []
more_groups start [] hints more h ok e =
    ap (λ (xs : List ℕ). (h.candidate, xs) ∷ []) (range_added hints more start h.end ok e)
more_groups start (x ∷ heads) hints more h ok e =
    ap (λ (xs : List ℕ). (x.candidate, xs) ∷ groups_from x.end (heads ++ h ∷ []) (hints ++ more)) (range_stays hints more start x.end ok.0 (starts_within x.end heads (length hints) ok.1))
    ∙ ap (λ (gs : List Group). (x.candidate, slice_range hints start x.end) ∷ gs) (more_groups x.end heads hints more h ok.1 e)

-- the last head with another end
pub last_more : (start : ℕ) (heads : List Head) (len i : ℕ) (h : Head) → AreHeads start heads len → i + 1 ≡ length heads → h.end ≡ len + 1 → AreHeads start (set heads i h) (len + 1)
last_more start [] len i h ok e end = absurd (omega arith)
last_more start (x ∷ []) len zero h ok e end = (omega (arith, ok.0, ok.1), end)
last_more start (x ∷ []) len (suc i) h ok e end = absurd (omega arith)
last_more start (x ∷ y ∷ heads) len zero h ok e end = absurd (omega arith)
last_more start (x ∷ y ∷ heads) len (suc i) h ok e end = (ok.0, last_more x.end (y ∷ heads) len i h ok.1 (omega arith) end)

range_more : (xs : List ℕ) (x a b c : ℕ) → a ≤ length xs → b ≡ length xs → c ≡ length xs + 1 → slice_range (xs ++ x ∷ []) a c ≡ slice_range xs a b ++ x ∷ []
range_more xs x a b c le e f =
    let old : slice_range xs a b ≡ drop a xs = take_all (b - a) (drop a xs) (omega (arith, length-drop a xs)) in
    let new : slice_range (xs ++ x ∷ []) a c ≡ drop a (xs ++ x ∷ []) = take_all (c - a) (drop a (xs ++ x ∷ [])) (omega (arith, length-drop a (xs ++ x ∷ []), length-append xs (x ∷ []))) in
    new ∙ drop-append-le a xs (x ∷ []) le ∙ ap (λ ys. ys ++ x ∷ []) (sym old)

-- one hint more in the last group
pub hint_more : (start : ℕ) (heads : List Head) (hints : List ℕ) (n i : ℕ) (h d : Head) → AreHeads start heads (length hints) → i + 1 ≡ length heads
    → h.candidate ≡ (get_or heads i d).candidate → h.end ≡ length hints + 1 → groups_from start (set heads i h) (hints ++ n ∷ []) ≡ with_hint n (groups_from start heads hints)
hint_more start [] hints n i h d ok e same end = absurd (omega arith)
hint_more start (x ∷ []) hints n zero h d ok e same end =
    ap (λ k. (k, slice_range (hints ++ n ∷ []) start h.end) ∷ []) same
    ∙ ap (λ (ys : List ℕ). (x.candidate, ys) ∷ []) (range_more hints n start x.end h.end (omega (arith, ok.0, ok.1)) ok.1 end)
hint_more start (x ∷ []) hints n (suc i) h d ok e same end = absurd (omega arith)
hint_more start (x ∷ y ∷ heads) hints n zero h d ok e same end = absurd (omega arith)
hint_more start (x ∷ y ∷ heads) hints n (suc i) h d ok e same end =
    ap (λ (ys : List ℕ). (x.candidate, ys) ∷ groups_from x.end (set (y ∷ heads) i h) (hints ++ n ∷ [])) (range_stays hints (n ∷ []) start x.end ok.0 (starts_within x.end (y ∷ heads) (length hints) ok.1))
    ∙ ap (λ (gs : List Group). (x.candidate, slice_range hints start x.end) ∷ gs) (hint_more x.end (y ∷ heads) hints n i h d ok.1 (omega arith) same end)

pub length_with_hint : (n : ℕ) (groups : List Group) → length (with_hint n groups) ≡ length groups
length_with_hint n [] = refl
length_with_hint n (g ∷ []) = refl
length_with_hint n (g ∷ h ∷ groups) = omega (arith, length_with_hint n (h ∷ groups))

-- a group more, and a hint more in the last one, as they are read
module _ (id n : ℕ) (lits : List Literal) (hints : List ℕ) (groups new : List Group) (t : Token) (tokens rest : List Token) (first : tokens ≡ t ∷ rest) where
  pub group_read : t ≡ Minus n → new ≡ groups ++ (n, []) ∷ [] → groups_in id lits hints new rest ≡ groups_in id lits hints groups tokens
  unfolding groups_in
  group_read e g = rw (first, e, g) refl

  pub hint_read : t ≡ Plus n → new ≡ with_hint n groups → groups_in id lits hints new rest ≡ groups_in id lits hints groups tokens
  unfolding groups_in
  hint_read e g = rw (first, e, g) refl
