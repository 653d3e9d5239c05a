-- Tables of slots in blocks.
use Rattle.std.proofs.Common.{◌≡◌, ◌≢◌, ℕ, zero, suc, ◌+◌, ◌-◌, ◌*◌, ◌/◌, ◌%◌, ◌^◌, ◌<◌, ◌≤◌, Bool, true, false, List, [], ◌∷◌, ◌++◌, Option, Some, None, refl, sym, ◌∙◌, ap, subst, length, take, arith, get_or, set, replicate, get_or-set_same, get_or-set_other, length-set, length-append, nat_eq}
use Rattle.std.specs.Option.{option_map, option_or, is_some}
use Rattle.std.specs.FinMap.{same_map, nat_cmp-IsAntisymmetric}
use Rattle.std.specs.Cmp.{nat_cmp_total}
use Rattle.std.specs.List.{All}
use Rattle.std.proofs.lemmas.List.{length-replicate, get_or_past, set-append_left, set-append_right, get_or_append_left, get_or-append_right, get_or-append-add, take_more, append_assoc, append-nil}
use Rattle.std.proofs.lemmas.List.Elements.{All-head, All-tail, All-get_or, All-set, All-push}
use Rattle.dimacs.specs.logic.Literal.{Literal}
use Rattle.lrat_check.specs.declared.slot.Slot.{Slot}
use Rattle.std.proofs.Math.Dec.{eqb, ltb}
use Rattle.std.proofs.lemmas.Bool.{ltb-true, ltb-false, eqb-true, eqb-false}
use Rattle.std.specs.Bool.{OnTrue}
use Rattle.lrat_check.specs.inner.Store.{clause_at, Tables, live_of, IsPlaced, ArePlaced, IsStore, IsFilledTo, AreCopied, Keeps, SameClauses}
use Rattle.lrat_check.specs.inner.Blocks.{free_block, places_of, one_slot, standing, joined, IsBlock, AreBlocks}
use Rattle.lrat_check.proofs.Slots.{with_near, kept_clauses, ArePlaced-kept, no_slot, live_of-push, store-push, get-live_of, far_at, get_or-push_below, get_or-push_at}

-- ---- a block
pub length-free_block : length free_block ≡ 1024
unfolding free_block
length-free_block = length-replicate {A = Option Slot} 1024 None

none_at : (n k : ℕ) → get_or {A = Option Slot} (replicate n None) k None ≡ None
none_at zero k = get_or_past [] k None (omega arith)
none_at (suc n) zero = refl
none_at (suc n) (suc k) = none_at n k

pub free_at : (k : ℕ) → get_or free_block k None ≡ None
unfolding free_block
free_at k = none_at 1024 k

none_standing : (n : ℕ) → standing (replicate n None) ≡ 0
none_standing zero = refl
none_standing (suc n) = omega (arith, none_standing n)

pub is_free_block : IsBlock 0 free_block
unfolding free_block
is_free_block = record { full = length-free_block; counted = sym (none_standing 1024) }

-- if no slot is counted, none stands
nothing : (slots : List (Option Slot)) → standing slots ≡ 0 → slots ≡ replicate (length slots) None
nothing [] e = refl
nothing (None ∷ slots) e = ap (λ (xs : List (Option Slot)). None ∷ xs) (nothing slots (omega (arith, e)))
nothing (Some s ∷ slots) e = absurd (omega (arith, e))

pub none_counted : (live : ℕ) (slots : List (Option Slot)) → IsBlock live slots → live ≡ 0 → slots ≡ free_block
unfolding free_block
none_counted live slots is e = nothing slots (omega (arith, is.counted, e)) ∙ ap (λ n. replicate n None) is.full

-- cells that are there are the places
pub there : (cells : List (Option Slot)) → 0 < length cells → places_of cells ≡ cells
there [] lt = absurd (omega arith)
there (o ∷ cells) lt = refl

pub bare : (cells : List (Option Slot)) → length cells ≡ 0 → places_of cells ≡ free_block
bare [] e = refl
bare (o ∷ cells) e = absurd (omega arith)

-- a cell of a block is that of its place
pub at_place : (cells : List (Option Slot)) (k : ℕ) → get_or cells k None ≡ get_or (places_of cells) k None
at_place [] k = get_or_past [] k None (omega arith) ∙ sym (free_at k)
at_place (o ∷ cells) k = refl

set_none : (slots : List (Option Slot)) (k : ℕ) → get_or slots k None ≡ None → slots ≡ set slots k None
set_none [] k e = refl
set_none (o ∷ slots) zero e = ap (λ x. x ∷ slots) e
set_none (o ∷ slots) (suc k) e = ap (λ (xs : List (Option Slot)). o ∷ xs) (set_none slots k e)

-- to free a place that has no cell changes nothing
pub free_past : (cells : List (Option Slot)) (k : ℕ) → length cells ≤ k → places_of cells ≡ set (places_of cells) k None
free_past cells k past = set_none (places_of cells) k (sym (at_place cells k) ∙ get_or_past cells k None past)

standing-set : (slots : List (Option Slot)) (k : ℕ) (o : Option Slot) → k < length slots → standing (set slots k o) + one_slot (get_or slots k None) ≡ standing slots + one_slot o
standing-set [] k o lt = absurd (omega arith)
standing-set (p ∷ slots) zero o lt = omega arith
standing-set (p ∷ slots) (suc k) o lt = omega (arith, standing-set slots k o (omega arith))

-- another option at a place
pub changed_block : (live live' : ℕ) (slots : List (Option Slot)) (k : ℕ) (o : Option Slot) → IsBlock live slots → k < length slots
    → live' + one_slot (get_or slots k None) ≡ live + one_slot o → IsBlock live' (set slots k o)
changed_block live live' slots k o is lt e = record {
  full = length-set slots k o ∙ is.full;
  counted = omega (arith, e, is.counted, standing-set slots k o lt);
}

pub counted_at : (live : ℕ) (slots : List (Option Slot)) (k : ℕ) → IsBlock live slots → k < length slots → one_slot (get_or slots k None) ≤ live
counted_at live slots k is lt = omega (arith, is.counted, standing-set slots k None lt)

pub few_counted : (slots : List (Option Slot)) → standing slots ≤ length slots
few_counted [] = omega arith
few_counted (None ∷ slots) = omega (arith, few_counted slots)
few_counted (Some s ∷ slots) = omega (arith, few_counted slots)

pub one_some : (o : Option Slot) → is_some o ≡ true → one_slot o ≡ 1
one_some None e = absurd cc
one_some (Some s) e = refl

pub not_some : (o : Option Slot) → is_some o ≡ false → one_slot o ≡ 0
not_some None e = refl
not_some (Some s) e = absurd cc

-- ---- blocks one after the other, each of n places
module _ (n : ℕ) where
  length-joined : (bs : List (List (Option Slot))) → All (λ b. length b ≡ n) bs → length (joined bs) ≡ n * length bs
  length-joined [] full = omega arith
  length-joined (b ∷ bs) full =
      omega (arith, length-append b (joined bs), All-head (λ xs. length xs ≡ n) b bs full, length-joined bs (All-tail (λ xs. length xs ≡ n) b bs full))

  get_at : (bs : List (List (Option Slot))) (i j : ℕ) → All (λ b. length b ≡ n) bs → j < n → get_or (joined bs) (n * i + j) None ≡ get_or (get_or bs i []) j None
  get_at [] i j full lt =
      get_or_past [] (n * i + j) None (omega arith) ∙ sym (ap (λ (xs : List (Option Slot)). get_or xs j None) (get_or_past [] i [] (omega arith)) ∙ get_or_past [] j None (omega arith))
  get_at (b ∷ bs) zero j full lt =
      ap (λ k. get_or (b ++ joined bs) k None) (omega arith)
      ∙ get_or_append_left b (joined bs) None j (omega (arith, All-head (λ xs. length xs ≡ n) b bs full))
  get_at (b ∷ bs) (suc i) j full lt =
      get_or-append_right b (joined bs) n (n * suc i + j) None (All-head (λ xs. length xs ≡ n) b bs full) (omega arith)
      ∙ ap (λ k. get_or (joined bs) k None) (omega arith)
      ∙ get_at bs i j (All-tail (λ xs. length xs ≡ n) b bs full) lt

  set_at : (bs : List (List (Option Slot))) (i j : ℕ) (o : Option Slot) → All (λ b. length b ≡ n) bs → i < length bs → j < n
      → joined (set bs i (set (get_or bs i []) j o)) ≡ set (joined bs) (n * i + j) o
  set_at [] i j o full within lt = absurd (omega arith)
  set_at (b ∷ bs) zero j o full within lt =
      sym (set-append_left b (joined bs) j o (omega (arith, All-head (λ xs. length xs ≡ n) b bs full)))
      ∙ ap (λ k. set (b ++ joined bs) k o) (omega arith)
  set_at (b ∷ bs) (suc i) j o full within lt =
      ap (λ xs. b ++ xs) (set_at bs i j o (All-tail (λ xs. length xs ≡ n) b bs full) (omega arith) lt)
      ∙ ap (λ k. b ++ set (joined bs) k o) (omega arith)
      ∙ sym (set-append_right b (joined bs) n (n * suc i + j) o (All-head (λ xs. length xs ≡ n) b bs full) (omega arith))

-- ---- the places of blocks
module _ (bs : List (List (Option Slot))) (are : AreBlocks bs) where
  pub length-blocks : length (joined bs) ≡ 1024 * length bs
  length-blocks = length-joined 1024 bs are.full

  pub get_block : (q : ℕ) → get_or (get_or bs (q / 1024) []) (q % 1024) None ≡ get_or (joined bs) q None
  get_block q = sym (get_at 1024 bs (q / 1024) (q % 1024) are.full (omega arith)) ∙ ap (λ k. get_or (joined bs) k None) (omega arith)

  module _ (q : ℕ) (slots : List (Option Slot)) (view : joined bs ≡ slots) (within : q < length slots) where
    pub has_block : q / 1024 < length bs
    has_block = omega (arith, within, ap length view, length-blocks)

    pub set_block : (new : List (Option Slot)) (o : Option Slot) → new ≡ set (get_or bs (q / 1024) []) (q % 1024) o → joined (set bs (q / 1024) new) ≡ set slots q o
    set_block new o e =
        ap (λ b. joined (set bs (q / 1024) b)) e
        ∙ set_at 1024 bs (q / 1024) (q % 1024) o are.full has_block (omega arith)
        ∙ ap (λ k. set (joined bs) k o) (omega arith)
        ∙ ap (λ (xs : List (Option Slot)). set xs q o) view

    pub set_blocks : (new : List (Option Slot)) → length new ≡ 1024 → AreBlocks (set bs (q / 1024) new)
    set_blocks new len = record {
      few = omega (arith, are.few, length-set bs (q / 1024) new);
      full = All-set (λ b. length b ≡ 1024) bs (q / 1024) new len are.full;
    }

    pub length-block : length (get_or bs (q / 1024) []) ≡ 1024
    length-block = All-get_or (λ b. length b ≡ 1024) bs (q / 1024) [] has_block are.full

  pub more_blocks : length bs < 2 ^ 48 → AreBlocks (bs ++ free_block ∷ [])
  more_blocks few = record {
    few = omega (arith, few, length-append bs (free_block ∷ []));
    full = All-push (λ b. length b ≡ 1024) bs free_block are.full length-free_block;
  }

joined-append : (bs cs : List (List (Option Slot))) → joined (bs ++ cs) ≡ joined bs ++ joined cs
joined-append [] cs = refl
joined-append (b ∷ bs) cs = ap (λ (xs : List (Option Slot)). b ++ xs) (joined-append bs cs) ∙ sym (append_assoc b (joined bs) (joined cs))

pub joined-push : (bs : List (List (Option Slot))) (b : List (Option Slot)) → joined (bs ++ b ∷ []) ≡ joined bs ++ b
joined-push bs b = joined-append bs (b ∷ []) ∙ ap (λ (xs : List (Option Slot)). joined bs ++ xs) (append-nil b)

-- ---- copies
module _ (literals literals' : List Literal) where
  pub copied-nil : AreCopied literals [] literals' []
  copied-nil = record {
    len = refl;
    clauses = λ p. refl;
    placed = λ p s e. absurd (no_slot s (sym (get_or_past [] p None (omega arith)) ∙ e));
  }

  module _ (xs ys xs' ys' : List (Option Slot)) (front : AreCopied literals xs literals' xs') (back : AreCopied literals ys literals' ys') where
    below : (p : ℕ) → p < length xs → get_or (xs' ++ ys') p None ≡ get_or xs' p None
    below p lt = get_or_append_left xs' ys' None p (omega (arith, lt, front.len))

    behind : (p : ℕ) → length xs ≤ p → get_or (xs' ++ ys') p None ≡ get_or ys' (p - length xs) None
    behind p le = get_or-append_right xs' ys' (length xs) p None front.len le

    clauses_at : (p : ℕ) (b : Bool) → ltb p (length xs) ≡ b → option_map (clause_at literals') (get_or (xs' ++ ys') p None) ≡ option_map (clause_at literals) (get_or (xs ++ ys) p None)
    clauses_at p true e =
        let lt = ltb-true p (length xs) e in
        ap (option_map (clause_at literals')) (below p lt) ∙ front.clauses p ∙ ap (option_map (clause_at literals)) (sym (get_or_append_left xs ys None p lt))
    clauses_at p false e =
        let le = ltb-false p (length xs) e in
        ap (option_map (clause_at literals')) (behind p le) ∙ back.clauses (p - length xs)
        ∙ ap (option_map (clause_at literals)) (sym (get_or-append_right xs ys (length xs) p None refl le))

    placed_at : (p : ℕ) (s : Slot) (b : Bool) → ltb p (length xs) ≡ b → get_or (xs' ++ ys') p None ≡ Some s → IsPlaced literals' s
    placed_at p s true e is = front.placed p s (sym (below p (ltb-true p (length xs) e)) ∙ is)
    placed_at p s false e is = back.placed (p - length xs) s (sym (behind p (ltb-false p (length xs) e)) ∙ is)

    pub copied-append : AreCopied literals (xs ++ ys) literals' (xs' ++ ys')
    copied-append = record {
      len = omega (arith, length-append xs ys, length-append xs' ys', front.len, back.len);
      clauses = λ p. clauses_at p (ltb p (length xs)) refl;
      placed = λ p s is. placed_at p s (ltb p (length xs)) refl is;
    }

-- what is copied stays where literals are appended
pub copied-kept : (literals literals' literals'' : List Literal) (slots slots' : List (Option Slot)) → Keeps literals' literals'' → AreCopied literals slots literals' slots' → AreCopied literals slots literals'' slots'
copied-kept literals literals' literals'' slots slots' keeps copied = record {
  len = copied.len;
  clauses = λ p. kept_clauses literals' literals'' (get_or slots' p None) keeps (copied.placed p) ∙ copied.clauses p;
  placed = ArePlaced-kept literals' literals'' slots' keeps copied.placed;
}

-- slots of a front, of a part and after it lie within the literals
pub placed-front : (literals : List Literal) (xs ys : List (Option Slot)) → ArePlaced literals (xs ++ ys) → ArePlaced literals xs
placed-front literals xs ys placed p s e = at (ltb p (length xs)) refl
  where
    at : (b : Bool) → ltb p (length xs) ≡ b → IsPlaced literals s
    at true h = placed p s (get_or_append_left xs ys None p (ltb-true p (length xs) h) ∙ e)
    at false h = absurd (no_slot s (sym (get_or_past xs p None (ltb-false p (length xs) h)) ∙ e))

pub placed-back : (literals : List Literal) (xs ys : List (Option Slot)) → ArePlaced literals (xs ++ ys) → ArePlaced literals ys
placed-back literals xs ys placed p s e = placed (length xs + p) s (get_or-append-add xs ys p None ∙ e)

pub placed-block : (literals : List Literal) (bs : List (List (Option Slot))) (i : ℕ) → ArePlaced literals (joined bs) → ArePlaced literals (get_or bs i [])
placed-block literals [] i placed = subst (ArePlaced literals) (sym (get_or_past [] i [] (omega arith))) placed
placed-block literals (b ∷ bs) zero placed = placed-front literals b (joined bs) placed
placed-block literals (b ∷ bs) (suc i) placed = placed-block literals bs i (placed-back literals b (joined bs) placed)

pub placed_cells : (literals : List Literal) (cells : List (Option Slot)) → ArePlaced literals (places_of cells) → ArePlaced literals cells
placed_cells literals cells placed p s e = placed p s (sym (at_place cells p) ∙ e)

-- copies of cells that may be absent
same_one : (literals literals' : List Literal) (o p : Option Slot) → option_map (clause_at literals') o ≡ option_map (clause_at literals) p → one_slot o ≡ one_slot p
same_one literals literals' None None e = refl
same_one literals literals' None (Some s) e = absurd cc
same_one literals literals' (Some s) None e = absurd cc
same_one literals literals' (Some s) (Some t) e = refl

same_count : (literals literals' : List Literal) (slots slots' : List (Option Slot)) → length slots' ≡ length slots → SameClauses literals slots literals' slots' → standing slots' ≡ standing slots
same_count literals literals' [] [] len same = refl
same_count literals literals' [] (o ∷ slots') len same = absurd (omega arith)
same_count literals literals' (o ∷ slots) [] len same = absurd (omega arith)
same_count literals literals' (o ∷ slots) (o' ∷ slots') len same =
    omega (arith, same_one literals literals' o' o (same 0), same_count literals literals' slots slots' (omega arith) (λ p. same (suc p)))

pub copied_block : (literals literals' : List Literal) (live : ℕ) (slots slots' : List (Option Slot)) → AreCopied literals slots literals' slots' → IsBlock live slots → IsBlock live slots'
copied_block literals literals' live slots slots' copied is = record {
  full = copied.len ∙ is.full;
  counted = is.counted ∙ sym (same_count literals literals' slots slots' copied.len copied.clauses);
}

copied_free : (literals literals' : List Literal) → AreCopied literals free_block literals' free_block
copied_free literals literals' = record {
  len = refl;
  clauses = λ p. ap (option_map (clause_at literals')) (free_at p) ∙ ap (option_map (clause_at literals)) (sym (free_at p));
  placed = λ p s e. absurd (no_slot s (sym (free_at p) ∙ e));
}

pub copied_cells : (literals literals' : List Literal) (cells cells' : List (Option Slot)) → AreCopied literals cells literals' cells' → AreCopied literals (places_of cells) literals' (places_of cells')
copied_cells literals literals' [] [] copied = copied_free literals literals'
copied_cells literals literals' [] (o ∷ cells') copied = absurd (omega (arith, copied.len))
copied_cells literals literals' (o ∷ cells) [] copied = absurd (omega (arith, copied.len))
copied_cells literals literals' (o ∷ cells) (o' ∷ cells') copied = copied

-- one block more
pub copied-block : (literals literals' literals'' : List Literal) (bs copies : List (List (Option Slot))) (i : ℕ) (b copy : List (Option Slot)) → i < length bs → get_or bs i [] ≡ b
    → Keeps literals' literals'' → AreCopied literals (joined (take i bs)) literals' (joined copies) → AreCopied literals b literals'' copy
    → AreCopied literals (joined (take (i + 1) bs)) literals'' (joined (copies ++ copy ∷ []))
copied-block literals literals' literals'' bs copies i b copy lt is keeps before here =
    subst (λ xs. AreCopied literals xs literals'' (joined (copies ++ copy ∷ []))) (sym (ap joined (take_more bs i [] lt ∙ ap (λ x. take i bs ++ x ∷ []) is) ∙ joined-push (take i bs) b))
    (subst (λ ys. AreCopied literals (joined (take i bs) ++ b) literals'' ys) (sym (joined-push copies copy))
    (copied-append literals literals'' (joined (take i bs)) b (joined copies) copy (copied-kept literals literals' literals'' (joined (take i bs)) (joined copies) keeps before) here))

-- ---- cells that may be absent
pub free_if : (live : ℕ) (slots now : List (Option Slot)) → IsBlock live slots → slots ≡ now → OnTrue (nat_eq live 0) (now ≡ free_block)
free_if live slots now is same = at (nat_eq live 0) refl
  where
    at : (b : Bool) → nat_eq live 0 ≡ b → OnTrue b (now ≡ free_block)
    at true e = sym same ∙ none_counted live slots is (eqb-true live 0 e)
    at false e = tt

length-set_places : (cells : List (Option Slot)) (k : ℕ) (x : Option Slot) → k < length cells → places_of (set cells k x) ≡ set (places_of cells) k x
length-set_places cells k x lt =
    there (set cells k x) (omega (arith, lt, length-set cells k x)) ∙ ap (λ (xs : List (Option Slot)). set xs k x) (sym (there cells (omega arith)))

module _ (live : ℕ) (cells : List (Option Slot)) (k : ℕ) (is : IsBlock live (places_of cells)) (lt : k < length cells) where
  within_places : k < length (places_of cells)
  within_places = omega (arith, lt, ap length (there cells (omega arith)))

  pub set_cells : (live' : ℕ) (x o : Option Slot) → x ≡ o → live' + one_slot (get_or cells k None) ≡ live + one_slot o → IsBlock live' (places_of (set cells k x))
  set_cells live' x o e sum =
      subst (λ xs. IsBlock live' xs) (sym (length-set_places cells k x lt ∙ ap (λ v. set (places_of cells) k v) e))
      (changed_block live live' (places_of cells) k o is within_places (omega (arith, sum, ap one_slot (at_place cells k))))

  pub counted_cell : one_slot (get_or cells k None) ≤ live
  counted_cell = omega (arith, counted_at live (places_of cells) k is within_places, ap one_slot (at_place cells k))

  pub set_places : (x o : Option Slot) (now : List (Option Slot)) → x ≡ o → places_of cells ≡ now → places_of (set cells k x) ≡ set now k o
  set_places x o now e view = length-set_places cells k x lt ∙ ap (λ v. set (places_of cells) k v) e ∙ ap (λ (xs : List (Option Slot)). set xs k o) view

pub few_live : (live : ℕ) (slots : List (Option Slot)) → IsBlock live slots → live ≤ 1024
few_live live slots is = omega (arith, is.counted, is.full, few_counted slots)

-- made cells are the places
pub made_places : (cells made : List (Option Slot)) (live : ℕ) → IsBlock live (places_of cells) → made ≡ places_of cells → IsBlock live (places_of made) × (length made ≡ 1024) × (places_of made ≡ places_of cells)
made_places cells made live is e =
    let len : length made ≡ 1024 = ap length e ∙ is.full in
    let same : places_of made ≡ places_of cells = there made (omega arith) ∙ e in
    (subst (λ xs. IsBlock live xs) (sym same) is, len, same)

pub made_cells : (cells : List (Option Slot)) (n : ℕ) (x : Option Slot) → length cells ≡ 0 → n ≡ 0 → x ≡ None → take 1024 cells ++ replicate (1024 - n) x ≡ places_of cells
unfolding free_block
made_cells [] n x none e is = ap (λ k. replicate {A = Option Slot} (1024 - k) x) e ∙ ap (λ v. replicate 1024 v) is
made_cells (o ∷ cells) n x none e is = absurd (omega arith)

-- ---- free places more
live_of-none : (t : Tables) (n : ℕ) → live_of (with_near t (t.near ++ replicate n None)) ≡ live_of t
live_of-none t zero = ap (λ xs. live_of (with_near t xs)) (append-nil t.near)
live_of-none t (suc n) =
    ap (λ xs. live_of (with_near t xs)) (sym (append_assoc t.near (None ∷ []) (replicate n None)))
    ∙ live_of-none (with_near t (t.near ++ None ∷ [])) n ∙ live_of-push t

store-none : (t : Tables) (n : ℕ) → t.far.slots.items ≡ [] → IsStore t → IsStore (with_near t (t.near ++ replicate n None))
store-none t zero none store = subst (λ xs. IsStore (with_near t xs)) (sym (append-nil t.near)) store
store-none t (suc n) none store =
    subst (λ xs. IsStore (with_near t xs)) (append_assoc t.near (None ∷ []) (replicate n None))
    (store-none (with_near t (t.near ++ None ∷ [])) n none (store-push t none store))

pub live_of-free : (t : Tables) → live_of (with_near t (t.near ++ free_block)) ≡ live_of t
unfolding free_block
live_of-free t = live_of-none t 1024

pub store-free : (t : Tables) → t.far.slots.items ≡ [] → IsStore t → IsStore (with_near t (t.near ++ free_block))
unfolding free_block
store-free t none store = store-none t 1024 none store

-- free places after the others change none
pub free_behind : (slots : List (Option Slot)) (q : ℕ) → get_or (slots ++ free_block) q None ≡ get_or slots q None
free_behind [] q = free_at q ∙ sym (get_or_past [] q None (omega arith))
free_behind (o ∷ slots) zero = refl
free_behind (o ∷ slots) (suc q) = free_behind slots q

-- the same slots at each place
module _ (t : Tables) (cells : List (Option Slot)) (same : (q : ℕ) → get_or t.near q None ≡ get_or cells q None) where
  pub same_placed : ArePlaced t.literals cells → ArePlaced t.literals t.near
  same_placed placed p s e = placed p s (sym (same p) ∙ e)

  pub same_live : IsStore t → IsStore (with_near t cells) → live_of t ≡ live_of (with_near t cells)
  same_live store store' = same_map nat_cmp_total nat_cmp-IsAntisymmetric (live_of t) (live_of (with_near t cells))
      (λ q. get-live_of t q store
      ∙ ap (λ o. option_or (option_map (clause_at t.literals) o) (far_at t.literals t.far q)) (same q)
      ∙ sym (get-live_of (with_near t cells) q store'))

-- a cell at the next place
pub put_at : (slots new : List (Option Slot)) (k : ℕ) (cell o : Option Slot) → k < length slots → cell ≡ o → new ≡ set slots k o
    → (k + 1 ≤ length new) × (get_or new k None ≡ cell) × ((q : ℕ) → q ≢ k → get_or new q None ≡ get_or slots q None)
put_at slots new k cell o lt is e = (
  omega (arith, lt, ap length e, length-set slots k o),
  ap (λ (xs : List (Option Slot)). get_or xs k None) e ∙ get_or-set_same slots k o None lt ∙ sym is,
  λ q ne. ap (λ (xs : List (Option Slot)). get_or xs q None) e ∙ get_or-set_other slots k q o None ne,
)

-- a slot more at the next place
pub pushed_same : (slots old new : List (Option Slot)) (k : ℕ) (o : Option Slot) → length slots ≡ k → ((q : ℕ) → get_or old q None ≡ get_or slots q None)
    → get_or new k None ≡ o → ((q : ℕ) → q ≢ k → get_or new q None ≡ get_or old q None) → (q : ℕ) → get_or new q None ≡ get_or (slots ++ o ∷ []) q None
pushed_same slots old new k o many same here others q = at (eqb q k) refl
  where
    past : q ≢ k → (b : Bool) → ltb q k ≡ b → get_or new q None ≡ get_or (slots ++ o ∷ []) q None
    past ne true e = others q ne ∙ same q ∙ sym (get_or-push_below slots o None q (omega (arith, many, ltb-true q k e)))
    past ne false e =
        let le = ltb-false q k e in
        others q ne ∙ same q ∙ get_or_past slots q None (omega (arith, many, le))
        ∙ sym (get_or_past (slots ++ o ∷ []) q None (omega (arith, many, le, ne, length-append slots (o ∷ []))))

    at : (b : Bool) → eqb q k ≡ b → get_or new q None ≡ get_or (slots ++ o ∷ []) q None
    at true e =
        let is : q ≡ k = eqb-true q k e in
        let end : q ≡ length slots = omega (arith, is, many) in
        ap (λ j. get_or new j None) is ∙ here ∙ sym (ap (λ j. get_or (slots ++ o ∷ []) j None) end ∙ get_or-push_at slots o None)
    at false e = past (eqb-false q k e) (ltb q k) refl

-- no slot yet
pub none_filled : (literals : List Literal) (places : List ℕ) (near : List (Option Slot)) → near ≡ [] → IsFilledTo literals places 0 near
none_filled literals places near e = record {
  slots = None ∷ [];
  many = refl;
  entries = refl;
  placed = λ p s is. absurd (no_slot s (sym (alone p) ∙ is));
  same = λ q. ap (λ (xs : List (Option Slot)). get_or xs q None) e ∙ get_or_past [] q None (omega arith) ∙ sym (alone q);
}
  where
    alone : (q : ℕ) → get_or {A = Option Slot} (None ∷ []) q None ≡ None
    alone zero = refl
    alone (suc q) = get_or_past [] q None (omega arith)
