-- Searches under one leaf after the other, which write one log.
use Rattle.std.proofs.Common.{◌≡◌, ℕ, zero, suc, ◌+◌, ◌<◌, ◌≤◌, Bool, true, false, ◌&&◌, List, [], ◌∷◌, ◌++◌, length, get_or, Option, Some, None, refl, sym, ◌∙◌, ap, subst, arith, append_assoc, length-append}
use Rattle.std.proofs.lemmas.List.{append-nil}
use Rattle.std.proofs.lemmas.List.Elements.{Contains-append_left, Contains-append_right}
use Rattle.std.proofs.lemmas.List.Folds.{list_all-append}
use Rattle.std.proofs.lemmas.Option.{slice_get-get_or}
use Rattle.std.specs.Prelude.{if◌then◌else◌}
use Rattle.std.specs.List.{list_all}
use Rattle.dimacs.specs.logic.Cnf.{Cnf}
use Rattle.dimacs.specs.logic.Literal.{Clause}
use Rattle.dimacs.specs.text.Answer.{satisfied_lines}
use Rattle.icnf.specs.Leaves.{Cube}
use Rattle.lrat_text.specs.declared.step.Step.{Step}
use Rattle.reports.specs.declared.report.Report.{Report}
use Rattle.leaves.specs.Leaf.{leaf_at}
use Rattle.leaves.specs.LeafSearch.{Hands, closed_line, limit_line, shown}
use Rattle.leaves.specs.BlockSearch.{AreSearched, ClosesAll, ClosesTold, SearchEnd, Closed, Limit, FindsModel, IsLogOf, IsModelAt, IsSearched, SearchesAll, all_parts, search_lines, is_closed, own_part, search_line}
use Rattle.leaves.specs.inner.BlockSearch.{AreClosedBy, HasSearchedUpTo, IsClosedBy, NotesFound, HasFound, HasSearched, SearchesLeaf, HasSearchedLeaf}
use Rattle.leaves.specs.declared.leaf_search.SearchOptions as settings
use Rattle.leaves.specs.declared.search_session.Found.{Found}
use Rattle.leaves.specs.declared.search_session.Found.TheVariants as found
use Rattle.leaves.specs.declared.search_session.SearchSession.{SearchSession}
use Rattle.leaves.specs.declared.block_search.BlockSearch.{BlockSearch}
use Rattle.leaves.proofs.FileLemmas.{closes_as}

pub some_is : {A : Type 0} (x y : A) → ◌≡◌ {A = Option A} (Some x) (Some y) → x ≡ y
some_is x y e = cc

-- ---- lists of endings
parts_more : (es : List SearchEnd) (e : SearchEnd) → all_parts (es ++ e ∷ []) ≡ all_parts es ++ own_part e
parts_more [] e = append-nil (own_part e)
parts_more (x ∷ es) e = ap (λ (ss : List Step). own_part x ++ ss) (parts_more es e) ∙ sym (append_assoc (own_part x) (all_parts es) (own_part e))

searched_more : (leaves : List Cube) (limit n : ℕ) (es : List SearchEnd) (e : SearchEnd) → AreSearched leaves limit n es → IsSearched limit (leaf_at leaves (n + length es)) e → AreSearched leaves limit n (es ++ e ∷ [])
searched_more leaves limit n [] e h last = (subst (λ (k : ℕ). IsSearched limit (leaf_at leaves k) e) (let i : n + 0 ≡ n = omega arith in i) last, tt)
searched_more leaves limit n (x ∷ es) e h last =
    (h.0, searched_more leaves limit (n + 1) es e h.1 (subst (λ (k : ℕ). IsSearched limit (leaf_at leaves k) e) (let i : n + suc (length es) ≡ (n + 1) + length es = omega arith in i) last))

told_more : (quiet : Bool) (n : ℕ) (es : List SearchEnd) (e : SearchEnd) → search_lines quiet n (es ++ e ∷ []) ≡ search_lines quiet n es ++ search_line quiet (n + length es) e
told_more quiet n [] e = append-nil (search_line quiet n e) ∙ ap (λ (k : ℕ). search_line quiet k e) (let i : n ≡ n + 0 = omega arith in i)
told_more quiet n (x ∷ es) e =
    ap (λ (t : List ℕ). search_line quiet n x ++ t) (told_more quiet (n + 1) es e ∙ ap (λ (k : ℕ). search_lines quiet (n + 1) es ++ search_line quiet k e) (let i : (n + 1) + length es ≡ n + suc (length es) = omega arith in i))
    ∙ sym (append_assoc (search_line quiet n x) (search_lines quiet (n + 1) es) (search_line quiet (n + suc (length es)) e))

closed_more : (leaves : List Cube) (closing : List Clause) (n : ℕ) (es : List SearchEnd) (e : SearchEnd) → AreClosedBy leaves closing n es → IsClosedBy (leaf_at leaves (n + length es)) closing e → AreClosedBy leaves closing n (es ++ e ∷ [])
closed_more leaves closing n [] e h last = (subst (λ (k : ℕ). IsClosedBy (leaf_at leaves k) closing e) (let i : n + 0 ≡ n = omega arith in i) last, tt)
closed_more leaves closing n (x ∷ es) e h last =
    (h.0, closed_more leaves closing (n + 1) es e h.1 (subst (λ (k : ℕ). IsClosedBy (leaf_at leaves k) closing e) (let i : n + suc (length es) ≡ (n + 1) + length es = omega arith in i) last))

-- with more clauses no fewer leaves are closed
on_left : (q : Option Cube) (closing more : List Clause) (e : SearchEnd) → IsClosedBy q closing e → IsClosedBy q (closing ++ more) e
on_left q closing more (Limit own) c = tt
on_left None closing more (Closed own) c = absurd c
on_left (Some q) closing more (Closed own) c = (c.0, Contains-append_left closing more c.0 c.1, c.2)

on_right : (q : Option Cube) (closing more : List Clause) (e : SearchEnd) → IsClosedBy q more e → IsClosedBy q (closing ++ more) e
on_right q closing more (Limit own) c = tt
on_right None closing more (Closed own) c = absurd c
on_right (Some q) closing more (Closed own) c = (c.0, Contains-append_right closing more c.0 c.1, c.2)

closed_stays : (leaves : List Cube) (closing more : List Clause) (n : ℕ) (es : List SearchEnd) → AreClosedBy leaves closing n es → AreClosedBy leaves (closing ++ more) n es
closed_stays leaves closing more n [] h = tt
closed_stays leaves closing more n (e ∷ es) h = (on_left (leaf_at leaves n) closing more e h.0, closed_stays leaves closing more (n + 1) es h.1)

-- ---- the log closes the leaves that the searches have closed
module _ {P : Type 0} (F : Cnf) (leaves : List Cube) (closing : List Clause) (steps : List Step) (t : SearchSession P) (h : HasSearched F closing steps t) where
  closes_one : (q : Option Cube) (e : SearchEnd) → IsClosedBy q closing e → ClosesTold F q e t.log
  closes_one q (Limit own) c = tt
  closes_one None (Closed own) c = absurd c
  closes_one (Some q) (Closed own) c =
      let x = h.lives c.0 c.1 in
      closes_as F q t.log steps h.spells h.is_log (record { id = x.0; clause = c.0; own = x.2; lives = x.3; ends = c.2 })

  closes_all : (n : ℕ) (es : List SearchEnd) → AreClosedBy leaves closing n es → ClosesAll F leaves n es t.log
  closes_all n [] c = tt
  closes_all n (e ∷ es) c = (closes_one (leaf_at leaves n) e c.0, closes_all (n + 1) es c.1)

-- ---- one leaf
module _ {P : Type 0} where
  pub searched_leaf : (F : Cnf) (closing : List Clause) (steps : List Step) (q : Cube) (n : ℕ) (s : settings.SearchOptions) (old mid new : BlockSearch P) (f : Found) (told_of : Option (List Bool)) → mid.notes.items ≡ old.notes.items → mid.closed ≡ old.closed
      → HasFound F closing steps q s.limit f new.searches → NotesFound n s.quiet f mid new told_of → HasSearchedLeaf F closing steps q n s old new told_of
  searched_leaf F closing steps q n s old mid new (found.Model values) told_of notes closed h e = subst (λ (o : Option (List Bool)). HasSearchedLeaf F closing steps q n s old new o) (sym e) h
  searched_leaf F closing steps q n s old mid new found.Closed told_of notes closed h e = subst (λ (o : Option (List Bool)). HasSearchedLeaf F closing steps q n s old new o) (sym e.0)
      (record { ending = Closed h.0; ended = h.1; notes = e.1 ∙ ap (λ (t : List ℕ). t ++ shown s.quiet (closed_line n)) notes; closed = e.2 ∙ closed ∙ and_true old.closed })
    where
      and_true : (b : Bool) → b ≡ (b && true)
      and_true true = refl
      and_true false = refl
  searched_leaf F closing steps q n s old mid new found.Limit told_of notes closed h e = subst (λ (o : Option (List Bool)). HasSearchedLeaf F closing steps q n s old new o) (sym e.0)
      (record { ending = Limit h.0; ended = h.1; notes = e.1 ∙ ap (λ (t : List ℕ). t ++ shown s.quiet (limit_line n)) notes; closed = e.2 ∙ and_false old.closed })
    where
      and_false : (b : Bool) → false ≡ (b && false)
      and_false true = refl
      and_false false = refl

  pub none_done : (F : Cnf) (leaves : List Cube) (first : ℕ) (s : settings.SearchOptions) (t : BlockSearch P) → HasSearched F [] [] t.searches → t.notes.items ≡ [] → t.closed ≡ true → HasSearchedUpTo F leaves first first s t
  none_done F leaves first s t stands notes closed = record {
    endings = [];
    closing = [];
    stands = stands;
    searched = tt;
    count = omega arith;
    told_so = notes;
    closed = closed;
    closes = tt;
  }

pub leaf_there : (leaves : List Cube) (n : ℕ) → 0 < n → n ≤ length leaves → (q : Cube) × (leaf_at leaves n ≡ Some q)
leaf_there leaves zero low up = absurd (omega arith)
leaf_there leaves (suc i) low up = (get_or leaves i [], slice_get-get_or leaves i [] (omega arith))

module _ {P : Type 0} (F : Cnf) (leaves : List Cube) (first n : ℕ) (s : settings.SearchOptions) (old : BlockSearch P) (done : HasSearchedUpTo F leaves first n s old) where
  pub logged : IsLogOf F leaves s.limit first done.endings old.searches.log
  logged = record {
    spells = done.stands.spells;
    is_log = done.stands.is_log;
    searched = done.searched;
    closes = closes_all F leaves done.closing (all_parts done.endings) old.searches done.stands first done.endings done.closes;
  }

  -- every leaf was searched
  pub all_done : (last : ℕ) (r : Report) → n ≡ last + 1 → Hands (if old.closed then 20 else 0) old.notes.items (Some old.searches.log) r → SearchesAll F leaves first last s r
  all_done last r end h = record {
    endings = done.endings;
    log = old.searches.log;
    logged = logged;
    count = done.count ∙ end;
    reports = record {
      status_is = h.status_is ∙ ap (λ b. (if b then 20 else 0)) done.closed;
      text_is = h.text_is ∙ done.told_so;
      log_is = h.log_is;
    };
  }

  module _ (new : BlockSearch P) (low : 0 < n) (up : n ≤ length leaves) where
    abbrev q : Cube
    q = (leaf_there leaves n low up).0

    there : leaf_at leaves n ≡ Some q
    there = (leaf_there leaves n low up).1

    at_last : leaf_at leaves (first + length done.endings) ≡ Some q
    at_last = ap (leaf_at leaves) done.count ∙ there

    -- an assignment was found
    pub finds_model : (values : List Bool) (last : ℕ) → n ≤ last → SearchesLeaf F leaves n s old new (Some values) → (r : Report) → Hands 10 (satisfied_lines values s.witness) None r → FindsModel F leaves first last s r
    finds_model values last within search_leaf r reports = record {
      endings = done.endings;
      log = old.searches.log;
      before = logged;
      values = values;
      model = subst (λ (o : Option Cube). IsModelAt F o values) (sym at_last) (search_leaf q there done.closing (all_parts done.endings) done.stands);
      within = (let c = done.count in omega arith);
      reports = reports;
    }

    -- one more leaf
    pub one_done : SearchesLeaf F leaves n s old new None → HasSearchedUpTo F leaves first (n + 1) s new
    one_done search_leaf =
        let t = search_leaf q there done.closing (all_parts done.endings) done.stands in
        let e = t.ending in
        let h = t.ended in
        record {
          endings = done.endings ++ e ∷ [];
          closing = done.closing ++ h.more;
          stands = subst (λ (ss : List Step). HasSearched F (done.closing ++ h.more) ss new.searches) (sym (parts_more done.endings e)) h.stands;
          searched = searched_more leaves s.limit first done.endings e done.searched (subst (λ (o : Option Cube). IsSearched s.limit o e) (sym at_last) h.ended);
          count = (let c = done.count in let l = length-append done.endings (e ∷ []) in omega arith);
          told_so = t.notes ∙ ap (λ (w : List ℕ). w ++ search_line s.quiet n e) done.told_so ∙ ap (λ (k : ℕ). search_lines s.quiet first done.endings ++ search_line s.quiet k e) (sym done.count) ∙ sym (told_more s.quiet first done.endings e);
          closed = t.closed ∙ ap (λ b. b && is_closed e) done.closed ∙ all_more done.endings e;
          closes = closed_more leaves (done.closing ++ h.more) first done.endings e (closed_stays leaves done.closing h.more first done.endings done.closes)
              (subst (λ (o : Option Cube). IsClosedBy o (done.closing ++ h.more) e) (sym at_last) (on_right (Some q) done.closing h.more e h.closed));
        }
      where
        and_true : (b : Bool) → b ≡ (b && true)
        and_true true = refl
        and_true false = refl

        all_more : (es : List SearchEnd) (e : SearchEnd) → (list_all is_closed es && is_closed e) ≡ list_all is_closed (es ++ e ∷ [])
        all_more es e = sym (list_all-append is_closed es (e ∷ []) ∙ ap (λ b. list_all is_closed es && b) (sym (and_true (is_closed e))))
