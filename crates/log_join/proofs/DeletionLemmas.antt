-- Deletions in lines of at most 1,000 numbers.
use Rattle.std.proofs.Common.{◌≡◌, ℕ, zero, suc, ◌<◌, ◌≤◌, inl, inr, Bool, true, false, not, ◌||◌, cond, List, [], ◌∷◌, ◌++◌, length, take, drop, min, None, refl, sym, ◌∙◌, ap, subst, arith, append_assoc, length-drop}
use Rattle.std.specs.Prelude.{IsSome, nat_eq}
use Rattle.std.specs.List.{All, list_any, IsDistinct, AllByRecursion}
use Rattle.std.specs.FinMap.{get}
use Rattle.std.proofs.lemmas.Bool.{true≢false, ne_eqb, cases_lt}
use Rattle.std.proofs.lemmas.List.{take_all, drop_all}
use Rattle.std.proofs.lemmas.List.Elements.{All-nil, All-cons, All-head, All-tail}
use Rattle.std.proofs.lemmas.Map.Keys.{IsDistinct-cons}
use Rattle.dimacs.specs.logic.ClauseMap.{ClauseMap}
use Rattle.lrat_text.specs.Log.{AreLogSteps}
use Rattle.lrat_text.specs.Proof.{without}
use Rattle.lrat_text.specs.Runs.{after_steps, top_of, text_of}
use Rattle.lrat_text.specs.WrittenLine.{line_of}
use Rattle.lrat_text.specs.declared.step.Step.{Step}
use Rattle.lrat_text.specs.declared.step.Step.TheVariants.{Delete}
use Rattle.proof_join.proofs.MapLemmas.{get_without}
use Rattle.log_join.specs.JoinedLogs.{deletions_in, deletions}
use Rattle.log_join.proofs.SettleLemmas.{AreRisingNumbers}

-- ---- a front, and what is after it
record SplitAt (M : ClauseMap) (t : ℕ) (front back : List ℕ) : Type 0 where
  pub last : ℕ
  pub up : t ≤ last
  pub first : AreRisingNumbers M t front
  pub low : All (λ n. n ≤ last) front
  pub later : AreRisingNumbers M last back

split_at : (M : ClauseMap) (t k : ℕ) (ids : List ℕ) → AreRisingNumbers M t ids → SplitAt M t (take k ids) (drop k ids)
split_at M t zero [] h = record { last = t; up = omega arith; first = tt; low = All-nil (λ n. n ≤ t); later = h }
split_at M t zero (id ∷ ids) h = record { last = t; up = omega arith; first = tt; low = All-nil (λ n. n ≤ t); later = h }
split_at M t (suc k) [] h = record { last = t; up = omega arith; first = tt; low = All-nil (λ n. n ≤ t); later = tt }
split_at M t (suc k) (id ∷ ids) h =
    let r = split_at M id k ids h.2 in
    let a = h.0 in
    let b = r.up in
    record { last = r.last; up = omega arith; first = (h.0, h.1, r.first); low = All-cons (λ n. n ≤ r.last) id (take k ids) b r.low; later = r.later }

all_above : (M : ClauseMap) (m t : ℕ) (ids : List ℕ) → m ≤ t → AreRisingNumbers M t ids → All (λ n. m < n) ids
all_above M m t [] low h = All-nil (λ n. m < n)
all_above M m t (id ∷ ids) low h = let a = h.0 in All-cons (λ n. m < n) id ids (omega arith) (all_above M m id ids (omega arith) h.2)

all_live : (M : ClauseMap) (t : ℕ) (ids : List ℕ) → AreRisingNumbers M t ids → All (λ n. IsSome (get M n)) ids
all_live M t [] h = All-nil (λ n. IsSome (get M n))
all_live M t (id ∷ ids) h = All-cons (λ n. IsSome (get M n)) id ids h.1 (all_live M id ids h.2)

apart : (M : ClauseMap) (n t : ℕ) (ids : List ℕ) → n ≤ t → AreRisingNumbers M t ids → AllByRecursion (λ y. nat_eq n y ≡ false) ids
apart M n t [] low h = tt
apart M n t (id ∷ ids) low h = let a = h.0 in (ne_eqb n id (λ e. omega arith), apart M n id ids (omega arith) h.2)

all_distinct : (M : ClauseMap) (t : ℕ) (ids : List ℕ) → AreRisingNumbers M t ids → IsDistinct nat_eq ids
unfolding IsDistinct
all_distinct M t [] h = tt
all_distinct M t (id ∷ ids) h = IsDistinct-cons nat_eq id ids (apart M id id ids (omega arith) h.2) (all_distinct M id ids h.2)

-- ---- those that are not deleted stay
any_low : (n u : ℕ) (ids : List ℕ) → u < n → All (λ k. k ≤ u) ids → list_any (nat_eq n) ids ≡ false
any_low n u [] above h = refl
any_low n u (id ∷ ids) above h =
    ap (λ b. b || list_any (nat_eq n) ids) (let a : id ≤ u = All-head (λ k. k ≤ u) id ids h in ne_eqb n id (λ e. omega arith)) ∙ any_low n u ids above (All-tail (λ k. k ≤ u) id ids h)

get_kept : (M : ClauseMap) (ids : List ℕ) (n : ℕ) → list_any (nat_eq n) ids ≡ false → get (without M ids) n ≡ get M n
get_kept M ids n e = get_without M ids n ∙ ap (λ b. cond (not b) (get M n) None) e

rising_kept : (M : ClauseMap) (front : List ℕ) (u t : ℕ) (ids : List ℕ) → u ≤ t → All (λ k. k ≤ u) front → AreRisingNumbers M t ids → AreRisingNumbers (without M front) t ids
rising_kept M front u t [] low f h = tt
rising_kept M front u t (id ∷ ids) low f h =
    let a = h.0 in
    (h.0, subst IsSome (sym (get_kept M front id (any_low id u front (omega arith) f))) h.1, rising_kept M front u id ids (omega arith) f h.2)

any_take : (n k : ℕ) (ids : List ℕ) → list_any (nat_eq n) ids ≡ false → list_any (nat_eq n) (take k ids) ≡ false
any_take n zero [] e = refl
any_take n zero (id ∷ ids) e = refl
any_take n (suc k) [] e = refl
any_take n (suc k) (id ∷ ids) e = let z = neither (nat_eq n id) (list_any (nat_eq n) ids) e in ap (λ b. b || list_any (nat_eq n) (take k ids)) z.0 ∙ any_take n k ids z.1
  where
    neither : (a b : Bool) → (a || b) ≡ false → (a ≡ false) × (b ≡ false)
    neither true b f = absurd (true≢false f)
    neither false b f = (refl, f)

any_drop : (n k : ℕ) (ids : List ℕ) → list_any (nat_eq n) ids ≡ false → list_any (nat_eq n) (drop k ids) ≡ false
any_drop n zero [] e = refl
any_drop n zero (id ∷ ids) e = e
any_drop n (suc k) [] e = refl
any_drop n (suc k) (id ∷ ids) e = any_drop n k ids (second (nat_eq n id) (list_any (nat_eq n) ids) e)
  where
    second : (a b : Bool) → (a || b) ≡ false → b ≡ false
    second true b f = absurd (true≢false f)
    second false b f = f

-- ---- the lines
lines_log : (m : ℕ) (M : ClauseMap) (top lines : ℕ) (ids : List ℕ) (t : ℕ) → m ≤ t → AreRisingNumbers M t ids → AreLogSteps m M top (deletions_in lines ids)
lines_log m M top zero ids t low h = tt
lines_log m M top (suc lines) [] t low h = tt
lines_log m M top (suc lines) (id ∷ ids) t low h =
    let front : List ℕ = take 1000 (id ∷ ids) in
    let back : List ℕ = drop 1000 (id ∷ ids) in
    let s : SplitAt M t front back = split_at M t 1000 (id ∷ ids) h in
    let a = s.up in (
      (all_above M m t front low s.first, all_live M t front s.first, all_distinct M t front s.first),
      lines_log m (without M front) top lines back s.last (omega arith) (rising_kept M front s.last s.last back (omega arith) s.low s.later),
    )

lines_keep : (M : ClauseMap) (lines : ℕ) (ids : List ℕ) (n : ℕ) → list_any (nat_eq n) ids ≡ false → get (after_steps M (deletions_in lines ids)) n ≡ get M n
lines_keep M zero ids n e = refl
lines_keep M (suc lines) [] n e = refl
lines_keep M (suc lines) (id ∷ ids) n e =
    let front : List ℕ = take 1000 (id ∷ ids) in
    let back : List ℕ = drop 1000 (id ∷ ids) in
    lines_keep (without M front) lines back n (any_drop n 1000 (id ∷ ids) e) ∙ get_kept M front n (any_take n 1000 (id ∷ ids) e)

lines_top : (top lines : ℕ) (ids : List ℕ) → top_of top (deletions_in lines ids) ≡ top
lines_top top zero ids = refl
lines_top top (suc lines) [] = refl
lines_top top (suc lines) (id ∷ ids) = lines_top top lines (drop 1000 (id ∷ ids))

pub deletions_log : (m : ℕ) (M : ClauseMap) (top t : ℕ) (ids : List ℕ) → m ≤ t → AreRisingNumbers M t ids → AreLogSteps m M top (deletions ids)
deletions_log m M top t ids low h = lines_log m M top (length ids) ids t low h

pub deletions_keep : (M : ClauseMap) (ids : List ℕ) (n : ℕ) → list_any (nat_eq n) ids ≡ false → get (after_steps M (deletions ids)) n ≡ get M n
deletions_keep M ids n e = lines_keep M (length ids) ids n e

pub deletions_top : (top : ℕ) (ids : List ℕ) → top_of top (deletions ids) ≡ top
deletions_top top ids = lines_top top (length ids) ids

-- ---- line by line
lines_enough : (a b : ℕ) (ids : List ℕ) → length ids ≤ a → length ids ≤ b → deletions_in a ids ≡ deletions_in b ids
lines_enough zero zero [] l m = refl
lines_enough zero (suc b) [] l m = refl
lines_enough (suc a) zero [] l m = refl
lines_enough (suc a) (suc b) [] l m = refl
lines_enough zero b (id ∷ ids) l m = absurd (omega arith)
lines_enough (suc a) zero (id ∷ ids) l m = absurd (omega arith)
lines_enough (suc a) (suc b) (id ∷ ids) l m =
    let back : List ℕ = drop 1000 (id ∷ ids) in
    let d = length-drop 1000 (id ∷ ids) in
    ap (λ (ss : List Step). Delete (take 1000 (id ∷ ids)) ∷ ss) (lines_enough a b back (omega arith) (omega arith))

take_min : (k : ℕ) (ids : List ℕ) → take (min (length ids) k) ids ≡ take k ids
take_min k ids = elim (cases_lt (length ids) k) [
  | inl below ↦ ap (λ (n : ℕ). take n ids) (let e : min (length ids) k ≡ length ids = omega arith in e) ∙ take_all (length ids) ids (omega arith) ∙ sym (take_all k ids (omega arith))
  | inr high ↦ ap (λ (n : ℕ). take n ids) (let e : min (length ids) k ≡ k = omega arith in e)
]

drop_min : (k : ℕ) (ids : List ℕ) → drop (min (length ids) k) ids ≡ drop k ids
drop_min k ids = elim (cases_lt (length ids) k) [
  | inl below ↦ ap (λ (n : ℕ). drop n ids) (let e : min (length ids) k ≡ length ids = omega arith in e) ∙ drop_all (length ids) ids (omega arith) ∙ sym (drop_all k ids (omega arith))
  | inr high ↦ ap (λ (n : ℕ). drop n ids) (let e : min (length ids) k ≡ k = omega arith in e)
]

one_line : (top : ℕ) (ids : List ℕ) → (length ids ≡ 0 → ⊥) → text_of top (deletions ids) ≡ line_of top (Delete (take 1000 ids)) ++ text_of top (deletions (drop 1000 ids))
one_line top [] some = absurd (some refl)
one_line top (id ∷ ids) some =
    let back : List ℕ = drop 1000 (id ∷ ids) in
    let d = length-drop 1000 (id ∷ ids) in
    ap (λ (ss : List Step). line_of top (Delete (take 1000 (id ∷ ids))) ++ text_of top ss) (lines_enough (length ids) (length back) back (omega arith) (omega arith))

pub line_more : (top k : ℕ) (ids rest front back : List ℕ) (old new : List ℕ) → (length rest ≡ 0 → ⊥) → k ≡ min (length rest) 1000 → front ≡ take k rest → back ≡ drop k rest
    → old ++ text_of top (deletions rest) ≡ text_of top (deletions ids) → new ≡ old ++ line_of top (Delete front) → new ++ text_of top (deletions back) ≡ text_of top (deletions ids)
line_more top k ids rest front back old new some ek ef eb whole e =
    let f : front ≡ take 1000 rest = ef ∙ ap (λ (n : ℕ). take n rest) ek ∙ take_min 1000 rest in
    let b : back ≡ drop 1000 rest = eb ∙ ap (λ (n : ℕ). drop n rest) ek ∙ drop_min 1000 rest in
    ap (λ (t : List ℕ). t ++ text_of top (deletions back)) e
    ∙ append_assoc old (line_of top (Delete front)) (text_of top (deletions back))
    ∙ ap (λ (ns : List ℕ). old ++ (line_of top (Delete ns) ++ text_of top (deletions back))) f
    ∙ ap (λ (ns : List ℕ). old ++ (line_of top (Delete (take 1000 rest)) ++ text_of top (deletions ns))) b
    ∙ ap (λ (t : List ℕ). old ++ t) (sym (one_line top rest some))
    ∙ whole
