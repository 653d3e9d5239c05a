-- Receipts that are gone through.
use Rattle.std.specs.Prelude.{◌↔◌}
use Rattle.std.specs.Global.{Vec}
use Rattle.std.proofs.Common.{◌≡◌, ◌∙◌, ◌++◌, ◌≤◌, ◌<◌, inl, inr, ℕ, Bool, true, false, List, [], ◌∷◌, Option, codes, refl, sym, ap, subst, length, map, take, get_or, ◌+◌, arith}
use Rattle.std.proofs.lemmas.List.{length-map, map-append, take_more}
use Rattle.commands.specs.FormulaTree.{Begins, IsHushed, OfQuietTree}
use Rattle.commands.specs.declared.formula_tree.Begun.{Begun}
use Rattle.commands.specs.declared.formula_tree.Begun.TheVariants as begun
use Rattle.commands.specs.Cover.{EndsCover, ReadsText, TakesText, covers, leaves_out, misses, most_bytes, takes, with_text, without_text}
use Rattle.commands.specs.Names.{AreTaken, Gone}
use Rattle.commands.specs.Known.{HoldsOf}
use Rattle.commands.specs.declared.small_file.SmallText.{SmallText}
use Rattle.commands.specs.declared.small_file.SmallText.TheVariants.{Whole, TooLong, Unread}
use Rattle.commands.specs.inner.Cover.{IsGone, IsText, IsTextOf}
use Rattle.commands.specs.declared.cover_receipts.Run.{Run}
use Rattle.commands.proofs.OfLemmas.{of_map}
use Rattle.dimacs.specs.logic.Cnf.{Cnf}
use Rattle.dimacs.specs.logic.Limits.{Limits}
use Rattle.log_join.specs.ClosedLeaves.{Leaf, open_from}
use Rattle.icnf.specs.Leaves.{Cube}
use Rattle.leaves.specs.Leaf.{Prints}
use Rattle.leaves.specs.declared.split.Split.{Split}
use Rattle.leaves.specs.Notes.{missing_text}
use Rattle.leaves.specs.declared.notes.Note.TheVariants as noted
use Rattle.receipts.specs.ClosedLeaves.{AreCovered, LeavesClosedByTexts, ClassifiesText}
use Rattle.receipts.specs.declared.cover.TextKind.{TextKind}
use Rattle.reports.specs.declared.report.Report.{Report}

-- one name more
pub seen_more : (Takes : List ℕ → Gone → Gone → Type 0) (names : List (List ℕ)) (name : List ℕ) (a b c : Gone) → AreTaken Takes names a b → Takes name b c
    → AreTaken Takes (names ++ name ∷ []) a c
seen_more Takes [] name a b c e h = (c, subst (λ (x : Gone). Takes name x c) e h, refl)
seen_more Takes (n ∷ names) name a b c e h = (e.0, e.1, seen_more Takes names name e.0 b c e.2 h)

-- ---- what is told of a file
pub takes_whole : (F : Cnf) (cubes : List Cube) (quiet : Bool) (known : Option (List ℕ)) (name : List ℕ) (text : Vec ℕ) (taken : TextKind) (s : Gone)
    → IsText known (Whole text) → ClassifiesText F cubes s.files text.items taken → TakesText F cubes quiet known name s (with_text quiet name text.items taken s)
takes_whole F cubes quiet known name text taken s (inl h) tells =
    let new = with_text quiet name text.items taken s in
    inl (of_map (λ bytes. IsTextOf bytes (Whole text)) (λ bytes. ReadsText F cubes quiet name bytes s new) known
    (λ bytes is. subst (λ (xs : List ℕ). ReadsText F cubes quiet name xs s new) is.0
    (takes taken (subst (λ (xs : List ℕ). length xs ≤ most_bytes) (sym is.0) is.1) tells refl)) h)
takes_whole F cubes quiet known name text taken s (inr e) tells = absurd (cc)

pub takes_long : (F : Cnf) (cubes : List Cube) (quiet : Bool) (known : Option (List ℕ)) (name : List ℕ) (s : Gone)
    → IsText known TooLong → TakesText F cubes quiet known name s (without_text noted.TooLong name s)
takes_long F cubes quiet known name s (inl h) =
    let new = without_text noted.TooLong name s in
    inl (of_map (λ bytes. IsTextOf bytes TooLong) (λ bytes. ReadsText F cubes quiet name bytes s new) known (λ bytes is. leaves_out is refl) h)
takes_long F cubes quiet known name s (inr e) = absurd (cc)

-- ---- a file more
pub took_whole : (F : Cnf) (cubes : List Cube) (quiet : Bool) (known : Option (List ℕ)) (name read : List ℕ) (text : Vec ℕ) (s : Gone) (run : Run)
    → read ≡ text.items → IsText known (Whole text) → (taken : TextKind) × ClassifiesText F cubes s.files read taken × IsGone F cubes (with_text quiet name read taken s) run
    → (t : Gone) × TakesText F cubes quiet known name s t × IsGone F cubes t run
took_whole F cubes quiet known name read text s run e is h = (
  with_text quiet name text.items h.0 s,
  takes_whole F cubes quiet known name text h.0 s is (subst (λ (xs : List ℕ). ClassifiesText F cubes s.files xs h.0) e h.1),
  subst (λ (xs : List ℕ). IsGone F cubes (with_text quiet name xs h.0 s) run) e h.2,
)

-- one name more of a list
pub names_more : (names : List (Vec ℕ)) (i : ℕ) (name : Vec ℕ) → i < length names → name ≡ get_or names i name
    → map (λ (n : Vec ℕ). n.items) (take i names) ++ name.items ∷ [] ≡ map (λ (n : Vec ℕ). n.items) (take (i + 1) names)
names_more names i name low is =
    sym (map-append (λ (n : Vec ℕ). n.items) (take i names) (name ∷ []))
    ∙ ap (map (λ (n : Vec ℕ). n.items)) (ap (λ (n : Vec ℕ). take i names ++ n ∷ []) is ∙ sym (take_more names i name low))

-- ---- the end
pub covers_all : (F : Cnf) (cubes : List Cube) (s : Gone) (notes : List ℕ) (b : Bool) (r : Report) → (b ≡ true) ↔ AreCovered F cubes s.files → b ≡ true
    → notes ≡ s.notes → Prints 0 (notes ++ codes "s COVERED\n") r → EndsCover F cubes s r
covers_all F cubes s notes b r tells is e prints =
    covers (tells.0 is) (subst (λ (xs : List ℕ). Prints 0 (xs ++ codes "s COVERED\n") r) e prints)

not_true : (b : Bool) → b ≡ false → b ≡ true → ⊥
not_true b f t = cc

pub misses_some : (F : Cnf) (cubes : List Cube) (s : Gone) (notes places : List ℕ) (b : Bool) (leaves : List Leaf) (r : Report) → (b ≡ true) ↔ AreCovered F cubes s.files → b ≡ false
    → notes ≡ s.notes → LeavesClosedByTexts F cubes s.files leaves → places ≡ open_from 0 leaves → Prints 1 (notes ++ missing_text places ++ codes "s NOT COVERED\n") r
    → EndsCover F cubes s r
misses_some F cubes s notes places b leaves r tells is e are open_are prints =
    misses leaves (λ all. not_true b is (tells.1 all)) are
    (subst (λ (ps : List ℕ). Prints 1 (s.notes ++ missing_text ps ++ codes "s NOT COVERED\n") r) open_are
    (subst (λ (xs : List ℕ). Prints 1 (xs ++ missing_text places ++ codes "s NOT COVERED\n") r) e prints))

pub few_leaves : (F : Cnf) (cubes : List Cube) (texts : List (List ℕ)) (leaves : List Leaf) → LeavesClosedByTexts F cubes texts leaves → length cubes ≤ 65536 → length leaves ≤ 65536
few_leaves F cubes texts leaves are few =
    let same : length leaves ≡ length cubes = sym (length-map leaves (λ (k : Leaf). k.cube)) ∙ ap length are.cubes_are in
    omega (arith, same, few)

-- ---- what comes of a tree that was read, or of what is refused
of_both : (P Q : List ℕ → List ℕ → Type 0) (a b : Option (List ℕ)) → ((text lines : List ℕ) → P text lines → Q text lines)
    → HoldsOf a (λ text. HoldsOf b (λ lines. P text lines)) → HoldsOf a (λ text. HoldsOf b (λ lines. Q text lines))
of_both P Q a b f h = of_map (λ text. HoldsOf b (P text)) (λ text. HoldsOf b (Q text)) a (λ text k. of_map (P text) (Q text) b (f text) k) h

pub of_quiet_tree : (L : Limits) (quiet : Bool) (P : Cnf → List Cube → Type 0) (r : Report) (a b : Option (List ℕ)) (found : Begun) (s : Split) → found ≡ begun.With s → P s.formula s.tree
    → HoldsOf a (λ text. HoldsOf b (λ lines. Begins L text lines found)) → HoldsOf a (λ text. HoldsOf b (λ lines. OfQuietTree L quiet text lines P r))
of_quiet_tree L quiet P r a b found s e p h = of_both (λ text lines. Begins L text lines found) (λ text lines. OfQuietTree L quiet text lines P r) a b (λ text lines k.
    let Starts : Begun → Type 0 = Begins L text lines in
    let j = subst Starts e k in
    let Told : Cnf → Type 0 = λ F. P F s.tree in
    inr (j.0, j.1, (s.tree, j.2.tree, subst Told j.2.formula p))) h

pub of_quiet_refused : (L : Limits) (quiet : Bool) (P : Cnf → List Cube → Type 0) (told r : Report) (a b : Option (List ℕ)) (found : Begun) → found ≡ begun.Refused told → IsHushed quiet told r
    → HoldsOf a (λ text. HoldsOf b (λ lines. Begins L text lines found)) → HoldsOf a (λ text. HoldsOf b (λ lines. OfQuietTree L quiet text lines P r))
of_quiet_refused L quiet P told r a b found e hushed h = of_both (λ text lines. Begins L text lines found) (λ text lines. OfQuietTree L quiet text lines P r) a b (λ text lines k.
    let Starts : Begun → Type 0 = Begins L text lines in
    inl (told, hushed, subst Starts e k)) h
