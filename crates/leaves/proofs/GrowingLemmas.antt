-- Searches under one leaf after the other, whose log grows in its file.
use Rattle.std.proofs.Common.{◌≡◌, ℕ, ◌+◌, ◌<◌, ◌≤◌, Bool, true, Result, Ok, Err, OnErr, List, [], ◌∷◌, ◌++◌, length, Option, Some, None, inl, inr, refl, sym, ◌∙◌, ap, subst, arith, length-append}
use Rattle.std.proofs.lemmas.List.Elements.{All-nil, All-push}
use Rattle.std.specs.Prelude.{if◌then◌else◌}
use Rattle.dimacs.specs.logic.Cnf.{Cnf}
use Rattle.dimacs.specs.text.Answer.{satisfied_lines}
use Rattle.dimacs.specs.text.Grammar.{Begins}
use Rattle.icnf.specs.Leaves.{Cube}
use Rattle.reports.specs.declared.report.Report.{Report}
use Rattle.leaves.specs.Leaf.{leaf_at}
use Rattle.leaves.specs.LeafSearch.{Hands}
use Rattle.leaves.specs.BlockSearch.{IsLogOf, IsModelAt, all_parts, search_line}
use Rattle.leaves.specs.GrowingLog.{GoesOn, GrowsToEnd, GrowsToModel, HasGrown, IsLeftGrown, IsStanding, Standing, last_behind, standing}
use Rattle.leaves.specs.inner.BlockSearch.{HasSearched, HasSearchedUpTo, SearchesLeaf}
use Rattle.leaves.specs.inner.GrowingSearch.{IsGrowing}
use Rattle.leaves.specs.declared.leaf_search.SearchOptions as settings
use Rattle.leaves.specs.declared.block_search.BlockSearch.{BlockSearch}
use Rattle.leaves.proofs.BlockSearchLemmas.{leaf_there, logged, none_done, one_done}

-- what holds anyway holds if there is an error
pub always_err : {T E P : Type 0} (r : Result T E) → P → OnErr r P
always_err (Ok v) h = tt
always_err (Err e) h = h

last_of_push : (x : Standing) (xs : List Standing) (y : Standing) → last_behind x (xs ++ y ∷ []) ≡ y
last_of_push x [] y = refl
last_of_push x (z ∷ xs) y = last_of_push z xs y

-- no leaf was searched
pub left_none : (F : Cnf) (leaves : List Cube) (first : ℕ) (s : settings.SearchOptions) (stood : List Standing → Type 0) (cut : List Standing → List ℕ → Type 0)
    → stood [] → IsLeftGrown stood cut F leaves first s
left_none F leaves first s stood cut empty = inl (record { standings = []; stands = empty; each = All-nil (IsStanding F leaves first s) })

module _ {P : Type 0} (F : Cnf) (leaves : List Cube) (first : ℕ) (s : settings.SearchOptions) where
  -- ---- one leaf
  is_standing : (n : ℕ) (t : BlockSearch P) → HasSearchedUpTo F leaves first n s t → IsStanding F leaves first s (standing t.searches.log t.notes.items)
  is_standing n t done = record {
    endings = done.endings;
    logged = logged F leaves first n s t done;
    told_so = done.told_so;
  }

  module _ (stood : List Standing → Type 0) where
    pub none_grows : (t : BlockSearch P) → stood [] → HasSearched F [] [] t.searches → t.notes.items ≡ [] → t.closed ≡ true → IsGrowing stood F leaves first first s t
    none_grows t empty stands notes closed =
        let done : HasSearchedUpTo F leaves first first s t = none_done F leaves first s t stands notes closed in
        record {
          done = done;
          standings = [];
          stands = empty;
          each = All-nil (IsStanding F leaves first s);
          many = (let c = done.count in omega arith);
          log = sym stands.spells;
          told = sym notes;
        }

    module _ (n : ℕ) (old new : BlockSearch P) (low : 0 < n) (up : n ≤ length leaves) (g : IsGrowing stood F leaves first n s old) where
      -- the search has found an assignment
      pub model_at : (values : List Bool) → SearchesLeaf F leaves n s old new (Some values) → IsModelAt F (leaf_at leaves n) values
      model_at values found =
          let there = leaf_there leaves n low up in
          subst (λ (o : Option Cube). IsModelAt F o values) (sym there.1) (found there.0 there.1 g.done.closing (all_parts g.done.endings) g.done.stands)

      -- it has found none, and the log and the text are longer
      module _ (found : SearchesLeaf F leaves n s old new None) (longer : Begins old.searches.log new.searches.log) where
        notes_longer : Begins old.notes.items new.notes.items
        notes_longer =
            let there = leaf_there leaves n low up in
            let e = found there.0 there.1 g.done.closing (all_parts g.done.endings) g.done.stands in
            (search_line s.quiet n e.ending, e.notes)

        goes_on : GoesOn g.standings new.searches.log new.notes.items
        goes_on = (
          subst (λ (b : List ℕ). Begins b new.searches.log) (sym g.log) longer,
          subst (λ (b : List ℕ). Begins b new.notes.items) (sym g.told) notes_longer,
        )

        done_now : HasSearchedUpTo F leaves first (n + 1) s new
        done_now = one_done F leaves first n s old g.done new low up found

        abbrev now : Standing
        now = standing new.searches.log new.notes.items

        pub one_grows : (stood' : List Standing → Type 0)
            → ((before : List Standing) → stood before → GoesOn before new.searches.log new.notes.items → stood' (before ++ standing new.searches.log new.notes.items ∷ []))
            → IsGrowing stood' F leaves first (n + 1) s new
        one_grows stood' keeps = record {
          done = done_now;
          standings = g.standings ++ now ∷ [];
          stands = keeps g.standings g.stands goes_on;
          each = All-push (IsStanding F leaves first s) g.standings now g.each (is_standing (n + 1) new done_now);
          many = (let a = g.done.count in let b = done_now.count in let m = g.many in let l = length-append g.standings (now ∷ []) in omega arith);
          log = ap (λ (x : Standing). x.log) (last_of_push (standing [] []) g.standings now);
          told = ap (λ (x : Standing). x.told) (last_of_push (standing [] []) g.standings now);
        }

        pub left_cut : (stood' : List Standing → Type 0) (cut : List Standing → List ℕ → Type 0)
            → ((before : List Standing) → stood before → GoesOn before new.searches.log new.notes.items → (front : List ℕ) × Begins front new.searches.log × cut before front)
            → IsLeftGrown stood' cut F leaves first s
        left_cut stood' cut keeps =
            let k = keeps g.standings g.stands goes_on in
            inr (record {
              standings = g.standings;
              next = now;
              each = All-push (IsStanding F leaves first s) g.standings now g.each (is_standing (n + 1) new done_now);
              front = k.0;
              begins = k.1;
              cuts = k.2;
            })

    -- ---- the end
    module _ (n : ℕ) (t : BlockSearch P) (g : IsGrowing stood F leaves first n s t) where
      pub left_standing : (cut : List Standing → List ℕ → Type 0) → IsLeftGrown stood cut F leaves first s
      left_standing cut = inl (record { standings = g.standings; stands = g.stands; each = g.each })

      has_grown : HasGrown stood F leaves first s g.done.endings
      has_grown = record {
        standings = g.standings;
        stands = g.stands;
        each = g.each;
        many = g.many;
        logged = subst (λ (log : List ℕ). IsLogOf F leaves s.limit first g.done.endings log) (sym g.log) (logged F leaves first n s t g.done);
      }

      pub ends_all : (last : ℕ) (r : Report) → n ≡ last + 1 → Hands (if t.closed then 20 else 0) [] None r → GrowsToEnd stood F leaves first last s r
      ends_all last r end h = record {
        endings = g.done.endings;
        grown = has_grown;
        count = g.done.count ∙ end;
        reports = record {
          status_is = h.status_is ∙ ap (λ b. (if b then 20 else 0)) g.done.closed;
          text_is = h.text_is;
          log_is = h.log_is;
        };
      }

      pub ends_model : (values : List Bool) (last : ℕ) (r : Report) → IsModelAt F (leaf_at leaves n) values → n ≤ last → Hands 10 (satisfied_lines values s.witness) None r → GrowsToModel stood F leaves first last s r
      ends_model values last r model within h = record {
        endings = g.done.endings;
        grown = has_grown;
        values = values;
        model = subst (λ (k : ℕ). IsModelAt F (leaf_at leaves k) values) (sym g.done.count) model;
        within = (let c = g.done.count in omega arith);
        reports = h;
      }
