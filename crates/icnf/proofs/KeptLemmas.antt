-- What is kept where clauses are compared goes on as what was read does: token by token, and line by line.
use Rattle.std.proofs.Common.{◌≡◌, ℕ, ◌+◌, ◌<◌, Bool, cond, List, [], ◌∷◌, ◌++◌, ℤ, nat_abs, Option, Some, None, Result, Ok, Err, length, refl, sym, ap, ◌∙◌, subst, inl, inr, eqb, ltb, leb}
use Rattle.std.proofs.Math.Dec.{eqb-suc-zero}
use Rattle.dimacs.specs.logic.Cnf.{Cnf, greatest_in}
use Rattle.dimacs.specs.logic.Limits.{Limits}
use Rattle.dimacs.specs.logic.Literal.{Clause, literal_of_number}
use Rattle.dimacs.specs.text.Rows.{Fails, read_lines, read_text, read_words, ◌>>=◌}
use Rattle.dimacs.specs.text.Words.{words, words_of}
use Rattle.dimacs.proofs.RowLemmas.{bind_ok, lines_more, lines_fails, text_blank, text_header, text_fails}
use Rattle.icnf.specs.declared.fault.IcnfFault.{IcnfFault}
use Rattle.icnf.specs.declared.fault.Kind.TheVariants.{AboveLimit, BadToken}
use Rattle.icnf.specs.declared.tree_body.TreeBody.{TreeBody}
use Rattle.icnf.specs.declared.walk.Stage.{Stage}
use Rattle.icnf.specs.declared.walk.Stage.TheVariants.{Clauses, Outside, Inside, Complete}
use Rattle.icnf.specs.Pieces.{kept}
use Rattle.icnf.specs.ReadState.{ReadState}
use Rattle.icnf.specs.Parser.{Token, Mark, Number, token, fault, format, no_memory, start, begin, begin_behind, read_mark, in_clause, end_cube, literal_in_cube, in_cube, read_number, read_found, read_token, read_header}
use Rattle.icnf.specs.Walk.{WalkState}
use Rattle.icnf.specs.inner.Cubes.{begin_cube, end_cube as cube_ends, read_literal}
use Rattle.icnf.specs.inner.Lines.{IsKept, TakesRow, RefusesRow}
use Rattle.icnf.specs.inner.TreeBody.{walks, take_mark, take_in_clause, take_in_cube, take_number, take_found, take_token, none_read, format as tree_format}
use Rattle.icnf.proofs.ComparisonLemmas.{literal_kept, end_kept}
use Rattle.icnf.proofs.CubeLemmas.{test_goes, walked, begin_walks, end_walks, literal_walks}

-- ---- results

bind_err : {A B E : Type 0} (r : Result A E) (f : A → B) (e : E) → (r >>= λ x. Ok (f x)) ≡ Err e → r ≡ Err e
bind_err (Ok x) f e h = absurd (cc)
bind_err (Err d) f e h = let same : d ≡ e = cc in ap Err same

bind_on : {A B E : Type 0} (r : Result A E) (f : A → B) (F : B → Result B E) (G : A → Result A E) → ((x : A) → F (f x) ≡ (G x >>= λ y. Ok (f y))) → ((r >>= λ x. Ok (f x)) >>= F) ≡ ((r >>= G) >>= λ y. Ok (f y))
bind_on (Ok x) f F G h = h x
bind_on (Err e) f F G h = refl

-- ---- a token

module _ (clauses : List Clause) where
  abbrev keep : ReadState → Result TreeBody IcnfFault
  keep s = Ok (kept clauses s)

  walks_kept : (r : Result WalkState IcnfFault) (s : ReadState) → walks r (kept clauses s) ≡ ((r >>= walked s) >>= keep)
  walks_kept (Ok w) s = refl
  walks_kept (Err f) s = refl

  goes_kept : (r : Result WalkState IcnfFault) (s : ReadState) (all : Result ReadState IcnfFault) → all ≡ (r >>= walked s) → walks r (kept clauses s) ≡ (all >>= keep)
  goes_kept r s all e = walks_kept r s ∙ ap (λ (t : Result ReadState IcnfFault). t >>= keep) (sym e)

  begin_kept : (line : ℕ) (s : ReadState) → walks (begin_cube line s.walk) (kept clauses s) ≡ (begin line s >>= keep)
  begin_kept line s = goes_kept (begin_cube line s.walk) s (begin line s) (begin_walks line s)

  behind_kept : (line : ℕ) (o : Clause) (s : ReadState) → cond (eqb (length o) 0) (walks (begin_cube line s.walk) (kept clauses s)) (fault BadToken line) ≡ (begin_behind line o s >>= keep)
  behind_kept line [] s = begin_kept line s
  behind_kept line (l ∷ o) s = ap (λ (b : Bool). cond b (walks (begin_cube line s.walk) (kept clauses s)) (fault BadToken line)) (eqb-suc-zero (length o))

  mark_kept : (line : ℕ) (stage : Stage) (s : ReadState) → take_mark line stage (kept clauses s) ≡ (read_mark line stage s >>= keep)
  mark_kept line Clauses s = behind_kept line s.clauses.open_clause s
  mark_kept line Outside s = begin_kept line s
  mark_kept line Inside s = refl
  mark_kept line Complete s = refl

  clause_kept : (line : ℕ) (z : ℤ) (s : ReadState) → take_in_clause clauses line z (kept clauses s) ≡ (in_clause line z s >>= keep)
  unfolding take_in_clause
  clause_kept line z s =
      test_goes (leb s.limits.clauses (length s.clauses.done)) _ _ (fault AboveLimit line) _ keep refl
      (test_goes (eqb (nat_abs z) 0) _ _ (Ok (record s { clauses = record s.clauses { done = s.clauses.done ++ s.clauses.open_clause ∷ []; open_clause = [] } })) _ keep
      (ap (λ c. Ok (record (kept clauses s) { clauses = c })) (end_kept clauses s.clauses))
      (test_goes (ltb s.limits.vars (nat_abs z)) _ _ (fault AboveLimit line) _ keep refl
      (test_goes (leb s.limits.literals s.clauses.total) _ _ (fault AboveLimit line) _ keep refl
      (ap (λ c. Ok (record (kept clauses s) { clauses = c })) (literal_kept clauses s.clauses (literal_of_number z))))))

  cube_kept : (line : ℕ) (z : ℤ) (s : ReadState) → take_in_cube line z (kept clauses s) ≡ (in_cube line z s >>= keep)
  unfolding take_in_cube
  cube_kept line z s =
      test_goes (eqb (nat_abs z) 0) _ _ (end_cube line s.walk.forced s) _ keep (goes_kept (cube_ends line s.walk) s (end_cube line s.walk.forced s) (end_walks line s))
      (test_goes (ltb (greatest_in s.clauses.done) (nat_abs z)) _ _ _ (literal_in_cube line (literal_of_number z) s) keep refl
      (goes_kept (read_literal line (literal_of_number z) s.walk) s (literal_in_cube line (literal_of_number z) s) (literal_walks line (literal_of_number z) s)))

  number_kept : (line : ℕ) (z : ℤ) (stage : Stage) (s : ReadState) → take_number clauses line z stage (kept clauses s) ≡ (read_number line z stage s >>= keep)
  number_kept line z Clauses s = clause_kept line z s
  number_kept line z Outside s = refl
  number_kept line z Inside s = cube_kept line z s
  number_kept line z Complete s = refl

  found_kept : (line : ℕ) (t : Option Token) (s : ReadState) → take_found clauses line t (kept clauses s) ≡ (read_found line t s >>= keep)
  found_kept line None s = refl
  found_kept line (Some Mark) s = mark_kept line s.walk.stage s
  found_kept line (Some (Number z)) s = number_kept line z s.walk.stage s

  token_kept : (line : ℕ) (word : List ℕ) (s : ReadState) → take_token clauses line word (kept clauses s) ≡ (read_token line word s >>= keep)
  unfolding take_token read_token
  token_kept line word s = found_kept line (token word) s

  words_kept : (line : ℕ) (ws : List (List ℕ)) (s : ReadState) → read_words (tree_format clauses) line ws (kept clauses s) ≡ (read_words format line ws s >>= keep)
  unfolding read_words
  words_kept line [] s = refl
  words_kept line (w ∷ ws) s =
      ap (λ (r : Result TreeBody IcnfFault). r >>= read_words (tree_format clauses) line ws) (token_kept line w s)
      ∙ bind_on (read_token line w s) (kept clauses) (read_words (tree_format clauses) line ws) (read_words format line ws) (λ t. words_kept line ws t)

-- ---- a line

module _ (L : Limits) (F : Cnf) (n number : ℕ) (line : List ℕ) (e : number ≡ n + 1) where
  -- after the header
  pub row_taken : (rows t : TreeBody) (s : Option ReadState) → IsKept F s (Some rows) → read_words (tree_format F.clauses) number (words_of line) rows ≡ Ok t → TakesRow L F n line number (Some t) s
  row_taken rows t None is h = absurd (cc)
  row_taken rows t (Some s) is h =
      let same : rows ≡ kept F.clauses s = cc in
      let read = bind_ok (read_words format number (words_of line) s) (λ x. Ok (kept F.clauses x)) t (sym (words_kept F.clauses number (words_of line) s) ∙ ap (read_words (tree_format F.clauses) number (words_of line)) (sym same) ∙ h) in
      let goes = subst (λ k. read_words format k (words_of line) s ≡ Ok read.0) e read.1 in
      record {
        read = Some read.0;
        keeps = cc;
        goes = λ more. lines_more format n (line ∷ more) more line s read.0 refl goes ∙ ap (λ k. read_lines format k more read.0) (sym e);
      }

  pub row_refused : (rows : TreeBody) (s : Option ReadState) (f : IcnfFault) → IsKept F s (Some rows) → Fails no_memory f (read_words (tree_format F.clauses) number (words_of line) rows) → RefusesRow L n line f s
  row_refused rows s f is (inl none) = λ more. inl none
  row_refused rows None f is (inr h) = absurd (cc)
  row_refused rows (Some s) f is (inr h) = λ more.
      let same : rows ≡ kept F.clauses s = cc in
      let failed = bind_err (read_words format number (words_of line) s) (kept F.clauses) f (sym (words_kept F.clauses number (words_of line) s) ∙ ap (read_words (tree_format F.clauses) number (words_of line)) (sym same) ∙ h) in
      lines_fails format no_memory n (line ∷ more) more line s f (read_lines format n (line ∷ more) s) refl refl (inr (subst (λ k. read_words format k (words_of line) s ≡ Err f) e failed))

  -- without a token
  pub blank_taken : (s : Option ReadState) → IsKept F s None → words_of line ≡ [] → TakesRow L F n line number None s
  blank_taken (Some s) is h = absurd (cc)
  blank_taken None is h = record { read = None; keeps = refl; goes = λ more. text_blank format L n (line ∷ more) more line refl h ∙ ap (λ k. read_text format L k more) (sym e) }

  -- the header
  pub header_taken : (s : Option ReadState) (u : Unit {0}) (new : TreeBody) → IsKept F s None → (0 < length (words_of line)) × (words_of line ≡ words line) → Ok u ≡ read_header number (words line) → new ≡ none_read L → TakesRow L F n line number (Some new) s
  header_taken (Some s) u new is some h begun = absurd (cc)
  header_taken None u new is some h begun =
      let read = ap (λ (r : Result (Unit {0}) IcnfFault). r >>= λ x. Ok (start L)) (sym h) in
      record {
        read = Some (start L);
        keeps = ap Some begun;
        goes = λ more. text_header format L n (line ∷ more) more line (start L) refl some (subst (λ k. format.header L k (words line) ≡ Ok (start L)) e read) ∙ ap (λ k. read_lines format k more (start L)) (sym e);
      }

  pub header_refused : (s : Option ReadState) (f : IcnfFault) → IsKept F s None → (0 < length (words_of line)) × (words_of line ≡ words line) → Err f ≡ read_header number (words line) → RefusesRow L n line f s
  header_refused (Some s) f is some h = absurd (cc)
  header_refused None f is some h = λ more.
      let read = ap (λ (r : Result (Unit {0}) IcnfFault). r >>= λ x. Ok (start L)) (sym h) in
      text_fails format L no_memory n (line ∷ more) more line f (read_text format L n (line ∷ more)) refl some refl (inr (subst (λ k. format.header L k (words line) ≡ Err f) e read))
