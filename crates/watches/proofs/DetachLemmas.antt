-- Clauses that are marked as detached, and their removal.
use Rattle.std.proofs.Common.{◌≡◌, ℕ, zero, suc, ◌+◌, ◌<◌, ◌≤◌, Bool, true, false, List, [], ◌∷◌, ◌++◌, length, get_or, set, take, refl, ap, sym, ◌∙◌, subst, arith, inl, inr}
use Rattle.std.specs.List.{All, remove}
use Rattle.std.proofs.lemmas.Bool.{false≢true, cases_eq}
use Rattle.std.proofs.lemmas.List.{take_all, take_more, take_more_set, get_or_default, length-take-le, length-set, get_or-set_same, get_or-set_other, append-nil}
use Rattle.clause_arena.specs.declared.reference.Ref.{Ref}
use Rattle.watches.specs.inner.MovedRefs.{Follows, AreFollowed}
use Rattle.watches.specs.inner.WatchInvariants.{no_clause}
use Rattle.watches.specs.Watches.{attached_of}

-- one clause more, marked or not
pub attached_push : (cs : List Ref) (ls : List Bool) (at : Ref) (b : Bool) → length ls ≡ length cs → attached_of (cs ++ at ∷ []) (ls ++ b ∷ []) ≡ attached_of cs ls ++ attached_of (at ∷ []) (b ∷ [])
attached_push [] [] at b e = refl
attached_push [] (l ∷ ls) at b e = absurd (omega (arith, e))
attached_push (c ∷ cs) [] at b e = absurd (omega (arith, e))
attached_push (c ∷ cs) (true ∷ ls) at b e = ap (λ xs. c ∷ xs) (attached_push cs ls at b (omega (arith, e)))
attached_push (c ∷ cs) (false ∷ ls) at b e = attached_push cs ls at b (omega (arith, e))

pub attached_fewer : (cs : List Ref) (ls : List Bool) → length (attached_of cs ls) ≤ length cs
attached_fewer [] ls = omega arith
attached_fewer (c ∷ cs) [] = omega arith
attached_fewer (c ∷ cs) (true ∷ ls) = let h = attached_fewer cs ls in omega arith
attached_fewer (c ∷ cs) (false ∷ ls) = let h = attached_fewer cs ls in omega arith

-- if none is marked
pub all_attached : (cs : List Ref) (ls : List Bool) → length ls ≡ length cs → All (λ b. b ≡ true) ls → attached_of cs ls ≡ cs
all_attached [] ls e h = refl
all_attached (c ∷ cs) [] e h = absurd (omega (arith, e))
all_attached (c ∷ cs) (true ∷ ls) e h = ap (λ xs. c ∷ xs) (all_attached cs ls (omega (arith, e)) (λ i d l. h (suc i) d (omega (arith, l))))
all_attached (c ∷ cs) (false ∷ ls) e h = absurd (false≢true (h 0 false (omega arith)))

-- where an attached clause stands among all
pub record Stood (cs : List Ref) (ls : List Bool) (j : ℕ) : Type 0 where
  pub place : ℕ
  pub within : place < length cs
  pub live : get_or ls place false ≡ true
  pub same : (d : Ref) → get_or (attached_of cs ls) j d ≡ get_or cs place d

pub stood : (cs : List Ref) (ls : List Bool) (j : ℕ) → j < length (attached_of cs ls) → Stood cs ls j
stood [] ls j l = absurd (omega (arith, l))
stood (c ∷ cs) [] j l = absurd (omega (arith, l))
stood (c ∷ cs) (true ∷ ls) zero l = record { place = 0; within = omega arith; live = refl; same = λ d. refl }
stood (c ∷ cs) (true ∷ ls) (suc j) l = let s = stood cs ls j (omega (arith, l)) in record { place = suc s.place; within = omega (arith, s.within); live = s.live; same = s.same }
stood (c ∷ cs) (false ∷ ls) j l = let s = stood cs ls j l in record { place = suc s.place; within = omega (arith, s.within); live = s.live; same = s.same }

-- a clause is marked: it is no longer among the attached ones
pub record Marks (cs : List Ref) (ls : List Bool) (i : ℕ) : Type 0 where
  pub place : ℕ
  pub within : place < length (attached_of cs ls)
  pub same : (d : Ref) → get_or (attached_of cs ls) place d ≡ get_or cs i d
  pub without : attached_of cs (set ls i false) ≡ remove (attached_of cs ls) place

pub marks : (cs : List Ref) (ls : List Bool) (i : ℕ) → length ls ≡ length cs → i < length cs → get_or ls i false ≡ true → Marks cs ls i
marks [] ls i e l t = absurd (omega (arith, l))
marks (c ∷ cs) [] i e l t = absurd (omega (arith, e))
marks (c ∷ cs) (true ∷ ls) zero e l t = record { place = 0; within = omega arith; same = λ d. refl; without = refl }
marks (c ∷ cs) (false ∷ ls) zero e l t = absurd (false≢true t)
marks (c ∷ cs) (true ∷ ls) (suc i) e l t = let m = marks cs ls i (omega (arith, e)) (omega (arith, l)) t in record { place = suc m.place; within = omega (arith, m.within); same = m.same; without = ap (λ xs. c ∷ xs) m.without }
marks (c ∷ cs) (false ∷ ls) (suc i) e l t = let m = marks cs ls i (omega (arith, e)) (omega (arith, l)) t in record { place = m.place; within = m.within; same = m.same; without = m.without }

-- clauses moved
rest_followed : (moves : List (Ref × Ref)) (c d : Ref) (cs ds : List Ref) → AreFollowed moves (c ∷ cs) (d ∷ ds) → AreFollowed moves cs ds
rest_followed moves c d cs ds f = record { long = omega (arith, f.long); each = λ k e l. f.each (suc k) e (omega (arith, l)) }

both_followed : (moves : List (Ref × Ref)) (c d : Ref) (cs ds : List Ref) → AreFollowed moves (c ∷ cs) (d ∷ ds) → (xs ys : List Ref) → AreFollowed moves xs ys → AreFollowed moves (c ∷ xs) (d ∷ ys)
both_followed moves c d cs ds f xs ys g = record { long = omega (arith, g.long); each = each } where
  each : (k : ℕ) (e : Ref) → k < length (c ∷ xs) → Follows moves (get_or (c ∷ xs) k e) (get_or (d ∷ ys) k e)
  each zero e l = f.each 0 e (omega arith)
  each (suc k) e l = g.each k e (omega (arith, l))

pub attached_followed : (moves : List (Ref × Ref)) (cs ds : List Ref) (ls : List Bool) → AreFollowed moves cs ds → AreFollowed moves (attached_of cs ls) (attached_of ds ls)
attached_followed moves [] [] ls f = record { long = refl; each = λ k e l. absurd (omega (arith, l)) }
attached_followed moves [] (d ∷ ds) ls f = absurd (omega (arith, f.long))
attached_followed moves (c ∷ cs) [] ls f = absurd (omega (arith, f.long))
attached_followed moves (c ∷ cs) (d ∷ ds) [] f = record { long = refl; each = λ k e l. absurd (omega (arith, l)) }
attached_followed moves (c ∷ cs) (d ∷ ds) (true ∷ ls) f = both_followed moves c d cs ds f (attached_of cs ls) (attached_of ds ls) (attached_followed moves cs ds ls (rest_followed moves c d cs ds f))
attached_followed moves (c ∷ cs) (d ∷ ds) (false ∷ ls) f = attached_followed moves cs ds ls (rest_followed moves c d cs ds f)

-- ---- a sweep
-- of the first i clauses those that are not marked stand in front, and those after are as they were
pub record Sweeps (cs : List Ref) (ls : List Bool) (xs : List Ref) (bs : List Bool) (count i : ℕ) : Type 0 where
  pub short : count ≤ i
  pub clauses_long : length xs ≡ length cs
  pub live_long : length bs ≡ length ls
  pub clauses : take count xs ≡ attached_of (take i cs) (take i ls)
  pub live : (k : ℕ) → k < count → get_or bs k true ≡ true
  pub clauses_left : (k : ℕ) (d : Ref) → i ≤ k → get_or xs k d ≡ get_or cs k d
  pub live_left : (k : ℕ) (d : Bool) → i ≤ k → get_or bs k d ≡ get_or ls k d

module _ (cs : List Ref) (ls : List Bool) (xs : List Ref) (bs : List Bool) (count i : ℕ) (s : Sweeps cs ls xs bs count i) (e : length ls ≡ length cs) (l : i < length cs) where
  one_more : attached_of (take (i + 1) cs) (take (i + 1) ls) ≡ attached_of (take i cs) (take i ls) ++ attached_of (get_or cs i no_clause ∷ []) (get_or ls i false ∷ [])
  one_more =
      let c : length (take i cs) ≡ i = length-take-le i cs (omega arith) in
      let b : length (take i ls) ≡ i = length-take-le i ls (omega (arith, e)) in
      subst (λ (ds : List Ref). attached_of ds (take (i + 1) ls) ≡ attached_of (take i cs) (take i ls) ++ attached_of (get_or cs i no_clause ∷ []) (get_or ls i false ∷ [])) (sym (take_more cs i no_clause l))
      (subst (λ (ms : List Bool). attached_of (take i cs ++ get_or cs i no_clause ∷ []) ms ≡ attached_of (take i cs) (take i ls) ++ attached_of (get_or cs i no_clause ∷ []) (get_or ls i false ∷ [])) (sym (take_more ls i false (omega (arith, e))))
      (attached_push (take i cs) (take i ls) (get_or cs i no_clause) (get_or ls i false) (omega (arith, c, b))))

  -- what a read at i gives
  mark_is : (r b : Bool) → r ≡ get_or bs i r → r ≡ b → get_or ls i false ≡ b
  mark_is r b h q = sym (s.live_left i false (omega arith)) ∙ get_or_default bs i false r (omega (arith, s.live_long, e)) ∙ sym h ∙ q

  pub sweeps_over : (r : Bool) → r ≡ get_or bs i r → r ≡ false → Sweeps cs ls xs bs count (i + 1)
  sweeps_over r h q = record {
    short = omega (arith, s.short);
    clauses_long = s.clauses_long;
    live_long = s.live_long;
    clauses = s.clauses ∙ sym (append-nil _) ∙ sym (one_more ∙ ap (λ b. attached_of (take i cs) (take i ls) ++ attached_of (get_or cs i no_clause ∷ []) (b ∷ [])) (mark_is r false h q));
    live = s.live;
    clauses_left = λ k d b. s.clauses_left k d (omega arith);
    live_left = λ k d b. s.live_left k d (omega arith);
  }

  pub sweeps_up : (r : Bool) → r ≡ get_or bs i r → r ≡ true → (at : Ref) → at ≡ get_or xs i at → Sweeps cs ls (set xs count at) (set bs count true) (count + 1) (i + 1)
  sweeps_up r h q at g = record {
    short = omega (arith, s.short);
    clauses_long = length-set xs count at ∙ s.clauses_long;
    live_long = length-set bs count true ∙ s.live_long;
    clauses = take_more_set xs count at (omega (arith, s.short, s.clauses_long)) ∙ ap (λ (ds : List Ref). ds ++ at ∷ []) s.clauses ∙ ap (λ (c : Ref). attached_of (take i cs) (take i ls) ++ c ∷ []) at_is
        ∙ sym (one_more ∙ ap (λ b. attached_of (take i cs) (take i ls) ++ attached_of (get_or cs i no_clause ∷ []) (b ∷ [])) (mark_is r true h q));
    live = λ k b. elim (cases_eq k count) [
      | inl q ↦ ap (λ j. get_or (set bs count true) j true) q ∙ get_or-set_same bs count true true (omega (arith, s.short, s.live_long, e))
      | inr n ↦ get_or-set_other bs count k true true n ∙ s.live k (omega arith)
    ];
    clauses_left = λ k d b. get_or-set_other xs count k at d (λ q. omega (arith, s.short)) ∙ s.clauses_left k d (omega arith);
    live_left = λ k d b. get_or-set_other bs count k true d (λ q. omega (arith, s.short)) ∙ s.live_left k d (omega arith);
  } where
    at_is : at ≡ get_or cs i no_clause
    at_is = g ∙ get_or_default xs i at no_clause (omega (arith, s.clauses_long)) ∙ s.clauses_left i no_clause (omega arith)

-- a sweep to the end
pub swept : (cs : List Ref) (ls : List Bool) (xs : List Ref) (bs : List Bool) (count : ℕ) → Sweeps cs ls xs bs count (length cs) → length ls ≡ length cs → take count xs ≡ attached_of cs ls
swept cs ls xs bs count s e =
    subst (λ (ds : List Ref). take count xs ≡ attached_of ds ls) (take_all (length cs) cs (omega arith))
    (subst (λ (ms : List Bool). take count xs ≡ attached_of (take (length cs) cs) ms) (take_all (length cs) ls (omega (arith, e))) s.clauses)
