-- What the words of a command line name.
use Rattle.std.proofs.Common.{◌≡◌, ◌∙◌, ℕ, zero, suc, nat_eq, ◌≤◌, arith, length, map, List, Bool, true, false, not, Option, Some, None, refl, sym, ap, subst, codes, option_map, IfSome, IfNone}
use Rattle.std.proofs.lemmas.Bool.{eqb-true}
use Rattle.std.proofs.lemmas.List.{length-map}
use Rattle.std.specs.Borrow.{Bor}
use Rattle.clap.specs.Words.{Row, Text, all_of, first_of, one_of}
use Rattle.command_line.specs.CommandLine.{IsNumber, NamesFiles, NamesFlag, NamesNumberOr}

pub one_is_read : (o : Option Text) (s t : Text) → o ≡ Some s → o ≡ Some t → s ≡ t
one_is_read o s t first second = cc

pub none_is_read : (o : Option Text) (r : Option (Bor Text)) (t : Text) → o ≡ option_map (λ x. x.now) r → r ≡ None → o ≡ Some t → ⊥
none_is_read o r t read none some = let e = ap (option_map (λ (x : Bor Text). x.now)) none in cc

-- what `flag` read
pub read_flag : (rows : List Row) (name : Text) (r : Bool) → (one_of name rows ≡ None → r ≡ false) → (one_of name rows ≡ Some (codes "true") → r ≡ true)
    → (one_of name rows ≡ Some (codes "false") → r ≡ false) → NamesFlag rows name r
read_flag rows name r none given other = record { yes = given; no = other; none = none }

-- a word that is left out names nothing
pub unnamed : (o : Option Text) (t : Text) → o ≡ None → o ≡ Some t → ⊥
unnamed o t none some = cc

pub some_is : {X : Type 0} (r : Option X) (P : X → Type 0) (x : X) → r ≡ Some x → IfSome r P → P x
some_is r P x e h = subst (λ o. IfSome o P) e h

pub none_is : {X : Type 0} (r : Option X) (P : Type 0) → r ≡ None → IfNone r P → P
none_is r P e h = subst (λ o. IfNone o P) e h

pub unread : (r : Option ℕ) (P Q : Type 0) → (P → Q) → IfNone r P → IfNone r Q
unread None P Q f h = f h
unread (Some n) P Q f h = tt

-- the option is given
pub given_is : (rows : List Row) (name : Text) (low high usual n : ℕ) (text : Text) → first_of name rows ≡ Some text → IsNumber low high text n
    → NamesNumberOr rows name low high usual n
given_is rows name low high usual n text given read = record {
  given = λ written e. subst (λ (t : Text). IsNumber low high t n) (one_is_read (first_of name rows) text written given e) read;
  left_out = λ e. absurd (no_text (first_of name rows) text given e);
} where
  no_text : (o : Option Text) (t : Text) → o ≡ Some t → o ≡ None → ⊥
  no_text o t some none = cc

-- the option is left out
pub left_out_is : (rows : List Row) (name : Text) (low high usual : ℕ) → first_of name rows ≡ None → NamesNumberOr rows name low high usual usual
left_out_is rows name low high usual none = record {
  given = λ written e. absurd (no_text (first_of name rows) written none e);
  left_out = λ e. refl;
} where
  no_text : (o : Option Text) (t : Text) → o ≡ None → o ≡ Some t → ⊥
  no_text o t none some = cc

-- the words give an option one number
pub same_number : (rows : List Row) (name : Text) (low high usual m n : ℕ) → NamesNumberOr rows name low high usual m → NamesNumberOr rows name low high usual n → m ≡ n
same_number rows name low high usual m n first second = by_what (first_of name rows) refl where
  by_what : (o : Option Text) → first_of name rows ≡ o → m ≡ n
  by_what (Some t) e = (first.given t e).value ∙ sym (second.given t e).value
  by_what None e = first.left_out e ∙ sym (second.left_out e)

pub if_none : {X : Type 0} (r : Option X) (P : Type 0) → P → IfNone r P
if_none None P h = h
if_none (Some x) P h = tt

not_twice : (b : Bool) → b ≡ not (not b)
not_twice true = refl
not_twice false = refl

-- what `flag` read of a flag that leaves something out
pub read_no_flag : (rows : List Row) (name : Text) (r : Bool) → (one_of name rows ≡ None → r ≡ false) → (one_of name rows ≡ Some (codes "true") → r ≡ true)
    → (one_of name rows ≡ Some (codes "false") → r ≡ false) → NamesFlag rows name (not (not r))
read_no_flag rows name r none given other = subst (NamesFlag rows name) (not_twice r) (read_flag rows name r none given other)

-- what `texts` read
abbrev read_all : Option (Bor (List (Bor Text))) → Option (List Text)
read_all = option_map (λ s. map (λ v. v.now) s.now)

some_same : {X : Type 0} (a b : X) → Some a ≡ Some b → a ≡ b
some_same a b e = cc

-- the files are as many as the texts that were read
as_many : (rows : List Row) (name : Text) (read : Bor (List (Bor Text))) (files : List (Bor Text)) → all_of name rows ≡ read_all (Some read)
    → all_of name rows ≡ Some (map (λ t. t.now) files) → length files ≡ length read.now
as_many rows name read files all given =
    sym (length-map files (λ (t : Bor Text). t.now)) ∙ ap length (some_same _ _ (sym given ∙ all)) ∙ length-map read.now (λ (t : Bor Text). t.now)

-- what the test for an empty slice says
pub none_there : (n : ℕ) (b : Bool) → b ≡ nat_eq n 0 → b ≡ true → n ≡ 0
none_there n b is there = eqb-true n 0 (sym is ∙ there)

pub some_there : (n : ℕ) (b : Bool) → b ≡ nat_eq n 0 → b ≡ false → 1 ≤ n
some_there zero b is there = absurd cc
some_there (suc n) b is there = omega arith

pub names_none : (rows : List Row) (name : Text) (r : Option (Bor (List (Bor Text)))) → all_of name rows ≡ read_all r → r ≡ None
    → (files : List (Bor Text)) → NamesFiles rows name files → ⊥
names_none rows name r all none files names = let e = ap read_all none in let given = names.given in cc

pub names_empty : (rows : List Row) (name : Text) (r : Option (Bor (List (Bor Text)))) (read : Bor (List (Bor Text))) → all_of name rows ≡ read_all r
    → r ≡ Some read → length read.now ≡ 0 → (files : List (Bor Text)) → NamesFiles rows name files → ⊥
names_empty rows name r read all is empty files names =
    let many = as_many rows name read files (all ∙ ap read_all is) names.given in
    let some = names.some in
    omega (arith, many, empty, some)

pub names_files : (rows : List Row) (name : Text) (r : Option (Bor (List (Bor Text)))) (read : Bor (List (Bor Text))) (files : List (Bor Text))
    → all_of name rows ≡ read_all r → r ≡ Some read → files ≡ read.now → 1 ≤ length read.now → NamesFiles rows name files
names_files rows name r read files all is same some =
    subst (NamesFiles rows name) (sym same) (record { given = all ∙ ap read_all is; some = some })
