-- A text in pieces, whose clauses are compared with a formula's.
use Rattle.std.proofs.Common.{◌≡◌, ℕ, ◌&&◌, ◌==◌, Bool, true, false, cond, List, [], ◌∷◌, ◌++◌, Option, Some, None, Result, Ok, Err, IfOk, length, refl, sym, ap, ◌∙◌, subst, inl, inr, arith, append_assoc, eqb, ◌≤◌, Decides}
use Rattle.std.specs.Prelude.{is_some}
use Rattle.std.specs.List.{All}
use Rattle.std.proofs.Math.Dec.{eqb-suc-zero}
use Rattle.std.proofs.lemmas.Bool.{false≢true}
use Rattle.std.proofs.lemmas.List.{append-nil}
use Rattle.std.proofs.lemmas.List.Elements.{All-head, All-tail, All-weaker}
use Rattle.std.proofs.lemmas.List.Splits.{slice_split_at, slice_split_none}
use Rattle.dimacs.specs.logic.Cnf.{Cnf, IsFormula, AreWithin, greatest_in}
use Rattle.dimacs.specs.logic.Limits.{AreNoMore, Limits, large}
use Rattle.dimacs.specs.logic.Literal.{Clause, IsWithin}
use Rattle.dimacs.specs.text.Rows.{Answers, Fails, read_lines}
use Rattle.dimacs.specs.text.Words.{lines}
use Rattle.dimacs.proofs.RowLemmas.{lines_end, text_end}
use Rattle.lrat_text.specs.Lines.{IsCut, IsOpen}
use Rattle.lrat_text.specs.LineSink.{TakesAll, HandsOn, PieceStops, ended_lines}
use Rattle.lrat_text.specs.declared.line_splitter.PieceFault.{PieceFault}
use Rattle.lrat_text.specs.declared.line_splitter.PieceFault.TheVariants.{NoMemory as NoPlace, Line}
use Rattle.icnf.specs.declared.cubes_fault.CubesFault.{CubesFault}
use Rattle.icnf.specs.declared.cubes_fault.CubesFault.TheVariants.{Faulty, OtherFormula}
use Rattle.icnf.specs.declared.fault.IcnfFault.{IcnfFault}
use Rattle.icnf.specs.declared.fault.Kind.TheVariants.{NotATree, ClauseNotEnded}
use Rattle.icnf.specs.declared.tree_body.TreeBody.{TreeBody}
use Rattle.icnf.specs.declared.tree_lines.TreeLines.{TreeLines}
use Rattle.icnf.specs.declared.walk.Stage.{Stage}
use Rattle.icnf.specs.declared.walk.Stage.TheVariants.{Clauses, Outside, Inside, Complete}
use Rattle.icnf.specs.Comparison.{agree}
use Rattle.icnf.specs.Leaves.{Cube}
use Rattle.icnf.specs.Pieces.{SpellsTreeWithin, Tells, TellsTree, kept, read_behind, Within, Failed, HasReadWithin}
use Rattle.icnf.specs.ReadState.{ReadState}
use Rattle.icnf.specs.Parser.{fault, format, no_memory, parse_within, end_behind, finish_at, finish}
use Rattle.icnf.specs.Grammar.{SpellsWithin}
use Rattle.icnf.specs.inner.Lines.{IsKept, RefusesRow, TakesLine, RefusesLine, LeadsTo, RefusesText}
use Rattle.icnf.specs.inner.TreeBody.{end_at, finish as tree_finish, told_of}
use Rattle.icnf.proofs.ComparisonLemmas.{whole_decides}
use Rattle.icnf.proofs.RunLemmas.{ok_same}
use Rattle.icnf.proofs.SpellingLemmas.{parse_spells_within}
use Rattle.icnf.proofs.StateLemmas.{clauses_greatest}

-- ---- the end of a text

tells_by : (F G : Cnf) (leaves : List Cube) (same : Bool) → Decides same (G.clauses ≡ F.clauses) → Tells F (Ok (G, leaves)) (cond same (Ok leaves) (Err OtherFormula))
tells_by F G leaves true h = (G, refl, h.0 refl)
tells_by F G leaves false h = (G, leaves, refl, λ e. false≢true (h.1 e))

tells_open : (F : Cnf) (n : ℕ) (o : Clause) → Tells F (end_behind n o) (told_of (cond (eqb (length o) 0) (fault NotATree n) (fault ClauseNotEnded n)))
tells_open F n [] = refl
tells_open F n (l ∷ o) = subst (λ (b : Bool). Tells F (end_behind n (l ∷ o)) (told_of (cond b (fault NotATree n) (fault ClauseNotEnded n)))) (sym (eqb-suc-zero (length o))) refl

tells_at : (F : Cnf) (n : ℕ) (stage : Stage) (s : ReadState) → Tells F (finish_at n stage s) (told_of (end_at F.clauses n stage (kept F.clauses s)))
tells_at F n Clauses s = tells_open F n s.clauses.open_clause
tells_at F n Outside s = refl
tells_at F n Inside s = refl
tells_at F n Complete s = tells_by F (record { vars = greatest_in s.clauses.done; clauses = s.clauses.done }) s.walk.cubes (agree F.clauses s.clauses.done && eqb (length s.clauses.done) (length F.clauses)) (whole_decides F.clauses s.clauses.done)

pub body_tells : (L : Limits) (F : Cnf) (n : ℕ) (s : Option ReadState) (body : TreeBody) (result : Result (List Cube) CubesFault) → IsKept F s (Some body) → result ≡ told_of (tree_finish F.clauses n body) → TellsTree F (read_behind L n s []) result
unfolding tree_finish finish
body_tells L F n None body result is e = absurd (cc)
body_tells L F n (Some s) body result is e =
    let same : body ≡ kept F.clauses s = cc in
    let told = subst (λ p. Tells F p (told_of (end_at F.clauses n s.walk.stage (kept F.clauses s)))) (sym (lines_end format n [] s refl)) (tells_at F n s.walk.stage s) in
    inr (subst (Tells F (read_lines format n [] s)) (sym (e ∙ ap (λ (b : TreeBody). told_of (tree_finish F.clauses n b)) same)) told)

pub front_tells : (L : Limits) (F : Cnf) (n : ℕ) (s : Option ReadState) → IsKept F s None → TellsTree F (read_behind L n s []) (Err (Faulty (format.no_header n)))
front_tells L F n (Some s) is = absurd (cc)
front_tells L F n None is = inr (text_end format L n [] refl)

-- a last line
pub last_tells : (old new : TreeLines) (line : List ℕ) (s : Option ReadState) (result : Result (List Cube) CubesFault) → IsKept old.formula s old.body → TakesLine old line new
    → ((t : Option ReadState) → IsKept new.formula t new.body → TellsTree new.formula (read_behind new.limits new.count t []) result) → TellsTree old.formula (read_behind old.limits old.count s (line ∷ [])) result
last_tells old new line s result is takes ends =
    let row = takes.body s is in
    let now : IsKept new.formula row.read new.body = subst (λ (F : Cnf). IsKept F row.read new.body) (sym takes.formula) row.keeps in
    subst (λ p. TellsTree old.formula p result) (sym (row.goes []))
    (subst (λ (M : Limits). TellsTree old.formula (read_behind M new.count row.read []) result) takes.limits
    (subst (λ (F : Cnf). TellsTree F (read_behind new.limits new.count row.read []) result) takes.formula (ends row.read now)))

pub last_refused : (old : TreeLines) (line : List ℕ) (s : Option ReadState) (f : IcnfFault) → RefusesRow old.limits old.count line f s → TellsTree old.formula (read_behind old.limits old.count s (line ∷ [])) (Err (Faulty f))
last_refused old line s f refuses = told (refuses []) where
  told : Fails no_memory f (read_behind old.limits old.count s (line ∷ [])) → TellsTree old.formula (read_behind old.limits old.count s (line ∷ [])) (Err (Faulty f))
  told (inl none) = inl (ap (λ g. Err (Faulty g)) none)
  told (inr is) = inr is

-- ---- the lines of bytes

lines_open : (line : List ℕ) → IsOpen line → lines line ≡ line ∷ []
lines_open line h = slice_split_none (λ b. b == 10) line h

lines_cut : (line rest : List ℕ) → IsOpen line → lines (line ++ 10 ∷ rest) ≡ line ∷ lines rest
lines_cut line rest h = slice_split_at (λ b. b == 10) line 10 rest h refl

-- ---- lines, one after the other

leads_nothing : (a : TreeLines) (rest : List ℕ) → LeadsTo a rest a rest
leads_nothing a rest = record { limits = refl; formula = refl; body = λ s is. (s, is, λ more. refl) }

leads_line : (a b c : TreeLines) (line text rest : List ℕ) → IsOpen line → TakesLine a line b → LeadsTo b text c rest → LeadsTo a (line ++ 10 ∷ text) c rest
leads_line a b c line text rest no_lf takes later = record {
  limits = later.limits ∙ takes.limits;
  formula = later.formula ∙ takes.formula;
  body = λ s is.
      let row = takes.body s is in
      let next = later.body row.read (subst (λ (F : Cnf). IsKept F row.read b.body) (sym takes.formula) row.keeps) in (
        next.0,
        subst (λ (F : Cnf). IsKept F next.0 c.body) takes.formula next.1,
        λ more.
            ap (read_behind a.limits a.count s) (ap lines (append_assoc line (10 ∷ text) more) ∙ lines_cut line (text ++ more) no_lf) ∙ row.goes (lines (text ++ more))
            ∙ subst (λ (M : Limits). read_behind M b.count row.read (lines (text ++ more)) ≡ read_behind M c.count next.0 (lines (rest ++ more))) takes.limits (next.2 more),
      );
}

leads_all : (ls : List (List ℕ)) (a b : TreeLines) (rest : List ℕ) → All IsOpen ls → TakesAll TakesLine a ls b → LeadsTo a (ended_lines ls ++ rest) b rest
leads_all [] a b rest each e = subst (λ (c : TreeLines). LeadsTo a rest c rest) e (leads_nothing a rest)
leads_all (line ∷ ls) a b rest each (m, takes, later) =
    subst (λ (text : List ℕ). LeadsTo a text b rest) (sym (append_assoc line (10 ∷ ended_lines ls) rest))
    (leads_line a m b line (ended_lines ls ++ rest) rest (All-head IsOpen line ls each) takes (leads_all ls m b rest (All-tail IsOpen line ls each) later))

pub hands_lead : (a b : TreeLines) (text rest : List ℕ) → HandsOn TakesLine a text b rest → LeadsTo a text b rest
hands_lead a b text rest h = subst (λ (x : List ℕ). LeadsTo a x b rest) (sym h.whole) (leads_all h.lines a b rest h.one_by_one h.taken)

refuses_on : (a b : TreeLines) (text rest line later : List ℕ) (f : IcnfFault) → LeadsTo a text b rest → IsCut rest line later → RefusesLine b line b f → RefusesText a text f
refuses_on a b text rest line later f leads cut refuses = λ s is more.
    let next = leads.body s is in
    let now = subst (λ (F : Cnf). IsKept F next.0 b.body) (sym leads.formula) next.1 in
    let split = ap lines (ap (λ (x : List ℕ). x ++ more) cut.0 ∙ append_assoc line (10 ∷ later) more) ∙ lines_cut line (later ++ more) cut.1 in
    subst (Fails no_memory f) (sym (next.2 more ∙ ap (read_behind a.limits b.count next.0) split))
    (subst (λ (M : Limits). Fails no_memory f (read_behind M b.count next.0 (line ∷ lines (later ++ more)))) leads.limits (refuses next.0 now (lines (later ++ more))))

-- why a piece was not taken to its end
abbrev pub fault_of : PieceFault IcnfFault → IcnfFault
fault_of NoPlace = no_memory
fault_of (Line f) = f

pub stops_refuse : (a b : TreeLines) (text : List ℕ) (f : PieceFault IcnfFault) → PieceStops TakesLine RefusesLine a text b f → RefusesText a text (fault_of f)
stops_refuse a b text NoPlace stops = λ s is more. inl refl
stops_refuse a b text (Line f) (m, rest, line, later, h, cut, refuses) = refuses_on a m text rest line later f (hands_lead a m text rest h) cut refuses

-- ---- pieces

pub no_fault : (o : Option IcnfFault) → is_some o ≡ false → o ≡ None
no_fault None h = refl
no_fault (Some f) h = absurd (cc)

module _ (L : Limits) (F : Cnf) (bytes : List ℕ) where
  pub nothing_read : HasReadWithin L F (Within L F 0 None []) []
  nothing_read = (refl, refl, (None, refl, λ more. refl))

  pub reads_piece : (a b : TreeLines) (begun piece rest : List ℕ) → LeadsTo a (begun ++ piece) b rest → HasReadWithin L F (Within a.limits a.formula a.count a.body begun) bytes → HasReadWithin L F (Within b.limits b.formula b.count b.body rest) (bytes ++ piece)
  reads_piece a b begun piece rest leads (limits, same, (s, is, has)) =
      let next = leads.body s (subst (λ (G : Cnf). IsKept G s a.body) (sym same) is) in (
        leads.limits ∙ limits,
        leads.formula ∙ same,
        (
          next.0,
          subst (λ (G : Cnf). IsKept G next.0 b.body) same next.1,
          λ more.
              ap (parse_within L) (append_assoc bytes piece more) ∙ has (piece ++ more) ∙ ap (λ (x : List ℕ). read_behind L a.count s (lines x)) (sym (append_assoc begun piece more))
              ∙ subst (λ (M : Limits). read_behind M a.count s (lines ((begun ++ piece) ++ more)) ≡ read_behind M b.count next.0 (lines (rest ++ more))) limits (next.2 more),
        ),
      )

  pub refuses_piece : (a : TreeLines) (begun piece : List ℕ) (f : IcnfFault) → RefusesText a (begun ++ piece) f → HasReadWithin L F (Within a.limits a.formula a.count a.body begun) bytes → HasReadWithin L F (Failed f) (bytes ++ piece)
  refuses_piece a begun piece f refuses (limits, same, (s, is, has)) = λ more.
      let whole = ap (parse_within L) (append_assoc bytes piece more) ∙ has (piece ++ more) ∙ ap (λ (x : List ℕ). read_behind L a.count s (lines x)) (sym (append_assoc begun piece more)) in
      subst (Fails no_memory f) (sym whole)
      (subst (λ (M : Limits). Fails no_memory f (read_behind M a.count s (lines ((begun ++ piece) ++ more)))) limits (refuses s (subst (λ (G : Cnf). IsKept G s a.body) (sym same) is) more))

  pub stays_refused : (piece : List ℕ) (f : IcnfFault) → HasReadWithin L F (Failed f) bytes → HasReadWithin L F (Failed f) (bytes ++ piece)
  stays_refused piece f has = λ more. subst (λ x. Fails no_memory f (parse_within L x)) (sym (append_assoc bytes piece more)) (has (piece ++ more))

  pub ends_within : (a : TreeLines) (begun : List ℕ) (result : Result (List Cube) CubesFault) → IsOpen begun → HasReadWithin L F (Within a.limits a.formula a.count a.body begun) bytes
      → ((s : Option ReadState) → IsKept a.formula s a.body → TellsTree a.formula (read_behind a.limits a.count s (begun ∷ [])) result) → TellsTree F (parse_within L bytes) result
  ends_within a begun result no_lf (limits, same, (s, is, has)) tells =
      let whole = ap (parse_within L) (sym (append-nil bytes)) ∙ has [] ∙ ap (λ (x : List ℕ). read_behind L a.count s (lines x)) (append-nil begun) ∙ ap (read_behind L a.count s) (lines_open begun no_lf) in
      let told = subst (λ (M : Limits). TellsTree a.formula (read_behind M a.count s (begun ∷ [])) result) limits (tells s (subst (λ (G : Cnf). IsKept G s a.body) (sym same) is)) in
      subst (λ p. TellsTree F p result) (sym whole) (subst (λ (G : Cnf). TellsTree G (read_behind L a.count s (begun ∷ [])) result) same told)

  pub ends_failed : (f : IcnfFault) → HasReadWithin L F (Failed f) bytes → TellsTree F (parse_within L bytes) (Err (Faulty f))
  ends_failed f has = told (subst (λ x. Fails no_memory f (parse_within L x)) (append-nil bytes) (has [])) where
    told : Fails no_memory f (parse_within L bytes) → TellsTree F (parse_within L bytes) (Err (Faulty f))
    told (inl none) = inl (ap (λ g. Err (Faulty g)) none)
    told (inr is) = inr is

-- ---- what is told

pub told_spells : (L : Limits) (F : Cnf) (text : List ℕ) (result : Result (List Cube) CubesFault) → AreNoMore L large → TellsTree F (parse_within L text) result → IfOk result (λ tree. SpellsTreeWithin L F text tree)
told_spells L F text (Ok leaves) no_more (inl none) = absurd (cc)
told_spells L F text (Ok leaves) no_more (inr (G, is, same)) = (G, parse_spells_within L text G leaves no_more is, same)
told_spells L F text (Err f) no_more h = tt

within_more : (m n : ℕ) (leaves : List Cube) → m ≤ n → AreWithin m leaves → AreWithin n leaves
within_more m n leaves h w = All-weaker (All (IsWithin m)) (All (IsWithin n)) (λ q. All-weaker (IsWithin m) (IsWithin n) (λ l at. (at.0, omega (arith, at.1))) q) leaves w

-- no variable of the tree is above those of the formula
pub text_within : (L : Limits) (F G : Cnf) (text : List ℕ) (leaves : List Cube) → IsFormula F → SpellsWithin L text G leaves → G.clauses ≡ F.clauses → AreWithin F.vars leaves
text_within L F G text leaves is spells e =
    let over = subst (λ (cs : List Clause). AreWithin (greatest_in cs) leaves) e (subst (λ (v : ℕ). AreWithin v leaves) spells.0.vars spells.0.within) in
    within_more (greatest_in F.clauses) F.vars leaves (clauses_greatest F.vars F.clauses is.within) over

pub told_within : (L : Limits) (F : Cnf) (text : List ℕ) (result : Result (List Cube) CubesFault) → AreNoMore L large → IsFormula F → TellsTree F (parse_within L text) result → IfOk result (λ tree. AreWithin F.vars tree)
told_within L F text (Ok leaves) no_more is (inl none) = absurd (cc)
told_within L F text (Ok leaves) no_more is (inr (G, read, same)) = text_within L F G text leaves is (parse_spells_within L text G leaves no_more read) same
told_within L F text (Err f) no_more is h = tt

err_same : (g h : IcnfFault) → (let a : Result (Cnf × List Cube) IcnfFault = Err g in a ≡ Err h) → g ≡ h
err_same g h e = cc

-- a text reads as one formula and one tree
one_read : (G H : Cnf) (x y : List Cube) (p : Result (Cnf × List Cube) IcnfFault) → p ≡ Ok (G, x) → p ≡ Ok (H, y) → (G ≡ H) × (x ≡ y)
one_read G H x y p e f =
    let a : Cnf × List Cube = (G, x) in
    let b : Cnf × List Cube = (H, y) in
    let same : a ≡ b = ok_same a b (sym e ∙ f) in
    (ap (λ (q : Cnf × List Cube). q.0) same, ap (λ (q : Cnf × List Cube). q.1) same)

module _ (F : Cnf) (p : Result (Cnf × List Cube) IcnfFault) where
  -- one answer is told
  tells_one : (a b : Result (List Cube) CubesFault) → Tells F p a → Tells F p b → a ≡ b
  tells_one (Ok x) (Ok y) (G, e, s) (H, f, t) = ap Ok (one_read G H x y p e f).1
  tells_one (Ok x) (Err (Faulty g)) (G, e, s) f = absurd (cc)
  tells_one (Ok x) (Err OtherFormula) (G, e, s) (H, y, f, t) = absurd (t (sym (ap (λ (K : Cnf). K.clauses) (one_read G H x y p e f).0) ∙ s))
  tells_one (Err (Faulty g)) (Ok y) e (H, f, t) = absurd (cc)
  tells_one (Err (Faulty g)) (Err (Faulty h)) e f = let same : g ≡ h = err_same g h (sym e ∙ f) in cc
  tells_one (Err (Faulty g)) (Err OtherFormula) e (H, y, f, t) = absurd (cc)
  tells_one (Err OtherFormula) (Ok y) (G, x, e, s) (H, f, t) = absurd (s (ap (λ (K : Cnf). K.clauses) (one_read G H x y p e f).0 ∙ t))
  tells_one (Err OtherFormula) (Err (Faulty h)) (G, x, e, s) f = absurd (cc)
  tells_one (Err OtherFormula) (Err OtherFormula) e f = refl

  answers_so : (r expected : Result (List Cube) CubesFault) → r ≡ expected → Answers (Faulty no_memory) r expected
  answers_so (Ok x) expected e = sym e
  answers_so (Err f) expected e = inr (sym e)

  answers_none : (r expected : Result (List Cube) CubesFault) → r ≡ Err (Faulty no_memory) → Answers (Faulty no_memory) r expected
  answers_none (Ok x) expected e = absurd (cc)
  answers_none (Err f) expected e = let same : f ≡ Faulty no_memory = cc in inl same

  pub told_only : (r expected : Result (List Cube) CubesFault) → TellsTree F p r → Tells F p expected → Answers (Faulty no_memory) r expected
  told_only r expected (inl none) tells = answers_none r expected none
  told_only r expected (inr told) tells = answers_so r expected (tells_one r expected told tells)
