-- The tokens that are read as a step are those that spell it.
use Rattle.std.proofs.Common.{◌≡◌, ℕ, ◌≤◌, Bool, true, false, nat_le, cond, List, [], ◌∷◌, ◌++◌, map, Result, Ok, Err, refl, sym, ap, ◌∙◌, arith, append_assoc, codes, decimal}
use Rattle.std.specs.List.{AllByRecursion, flat_map}
use Rattle.std.proofs.lemmas.Bool.Decides.{nat_tests}
use Rattle.std.proofs.lemmas.List.{append-nil}
use Rattle.std.proofs.lemmas.List.Elements.{All-from_recursion}
use Rattle.dimacs.specs.logic.Literal.{Literal, Pos, Neg, IsWithin}
use Rattle.dimacs.specs.logic.Rat.{Group}
use Rattle.lrat_text.specs.declared.fault.TextFault.{TextFault}
use Rattle.lrat_text.specs.declared.fault.TextFault.TheVariants.{NumberTooLarge}
use Rattle.lrat_text.specs.declared.step.Step.{Step}
use Rattle.lrat_text.specs.declared.step.Step.TheVariants.{Add, Delete}
use Rattle.lrat_text.specs.declared.token.Token.{Token}
use Rattle.lrat_text.specs.declared.token.Token.TheVariants.{Letter, Zero, Plus, Minus, LargePlus, LargeMinus, Other}
use Rattle.lrat_text.specs.Grammar.{IsClauseNumber, IsGroup, IsStepWithin, literal_token, group_tokens, step_tokens}
use Rattle.lrat_text.specs.GroupLists.{with_hint}
use Rattle.lrat_text.specs.Parser.{token_of, ended, ids_in, groups_in, hints_in, literals_in, body_in, first_within}
use Rattle.lrat_text.proofs.NumberLemmas.{word_plus, word_minus, word_zero, word_letter, negative_token}

pub chosen_ok : (b : Bool) (r : Result Step TextFault) (f : TextFault) (step : Step) → cond b r (Err f) ≡ Ok step → (b ≡ true) × (r ≡ Ok step)
chosen_ok true r f step h = (refl, h)
chosen_ok false r f step h = absurd (cc)

same_cons : {w v : List ℕ} {ws vs : List (List ℕ)} → w ≡ v → ws ≡ vs → w ∷ ws ≡ v ∷ vs
same_cons {w = w} {v = v} {ws = ws} {vs = vs} e f = ap (λ (x : List ℕ). x ∷ ws) e ∙ ap (λ (xs : List (List ℕ)). v ∷ xs) f

end_ok : (s : Step) (ws : List (List ℕ)) (step : Step) → ended s (map token_of ws) ≡ Ok step → (ws ≡ []) × (s ≡ step)
end_ok s [] step h = (refl, cc)
end_ok s (w ∷ ws) step h = absurd (cc)

-- ---- deletions

record IdsRead (ids : List ℕ) (ws : List (List ℕ)) (step : Step) : Type 0 where
  more : List ℕ
  valid : AllByRecursion IsClauseNumber more
  is : step ≡ Delete (ids ++ more)
  words : ws ≡ map decimal more ++ codes "0" ∷ []

ids_by : (ids : List ℕ) (w : List ℕ) (ws : List (List ℕ)) (step : Step) (t : Token) → token_of w ≡ t
    → ((ids : List ℕ) → ids_in ids (map token_of ws) ≡ Ok step → IdsRead ids ws step) → ids_in ids (t ∷ map token_of ws) ≡ Ok step → IdsRead ids (w ∷ ws) step
unfolding ids_in
ids_by ids w ws step Zero e later h =
    let z = end_ok (Delete ids) ws step h in
    record { more = []; valid = tt; is = sym z.1 ∙ ap Delete (sym (append-nil ids)); words = same_cons (word_zero w e) z.0 }
ids_by ids w ws step (Plus n) e later h =
    let p = word_plus w n e in
    let r = later (ids ++ n ∷ []) h in
    record { more = n ∷ r.more; valid = (p.1, r.valid); is = r.is ∙ ap Delete (append_assoc ids (n ∷ []) r.more); words = same_cons p.0 r.words }
ids_by ids w ws step Letter e later h = absurd (cc)
ids_by ids w ws step (Minus n) e later h = absurd (cc)
ids_by ids w ws step LargePlus e later h = absurd (cc)
ids_by ids w ws step LargeMinus e later h = absurd (cc)
ids_by ids w ws step Other e later h = absurd (cc)

ids_none : (ids : List ℕ) (step : Step) → ids_in ids [] ≡ Ok step → IdsRead ids [] step
unfolding ids_in
ids_none ids step h = absurd (cc)

ids_read : (ws : List (List ℕ)) (step : Step) (ids : List ℕ) → ids_in ids (map token_of ws) ≡ Ok step → IdsRead ids ws step
ids_read [] step ids h = ids_none ids step h
ids_read (w ∷ ws) step ids h = ids_by ids w ws step (token_of w) refl (ids_read ws step) h

-- ---- groups

abbrev GroupR : Group → Type 0
GroupR g = IsGroup g

pub with_hint_last : (n : ℕ) (front : List Group) (c : ℕ) (hs : List ℕ) → with_hint n (front ++ (c, hs) ∷ []) ≡ front ++ (c, hs ++ n ∷ []) ∷ []
with_hint_last n [] c hs = refl
with_hint_last n (g ∷ []) c hs = refl
with_hint_last n (g ∷ h ∷ front) c hs = ap (λ (gs : List Group). g ∷ gs) (with_hint_last n (h ∷ front) c hs)

record GroupsRead (id : ℕ) (lits : List Literal) (hints : List ℕ) (front : List Group) (c : ℕ) (hs : List ℕ) (ws : List (List ℕ)) (step : Step) : Type 0 where
  more_hints : List ℕ
  more : List Group
  valid_hints : AllByRecursion IsClauseNumber more_hints
  valid : AllByRecursion IsGroup more
  is : step ≡ Add id lits hints (front ++ (c, hs ++ more_hints) ∷ more)
  words : ws ≡ map decimal more_hints ++ flat_map group_tokens more ++ codes "0" ∷ []

abbrev GroupsLater : ℕ → List Literal → List ℕ → List (List ℕ) → Step → Type 0
GroupsLater id lits hints ws step = (front : List Group) (c : ℕ) (hs : List ℕ) → groups_in id lits hints (front ++ (c, hs) ∷ []) (map token_of ws) ≡ Ok step → GroupsRead id lits hints front c hs ws step

groups_by : (id : ℕ) (lits : List Literal) (hints : List ℕ) (front : List Group) (c : ℕ) (hs : List ℕ) (w : List ℕ) (ws : List (List ℕ)) (step : Step) (t : Token) → token_of w ≡ t
    → GroupsLater id lits hints ws step → groups_in id lits hints (front ++ (c, hs) ∷ []) (t ∷ map token_of ws) ≡ Ok step → GroupsRead id lits hints front c hs (w ∷ ws) step
unfolding groups_in
groups_by id lits hints front c hs w ws step Zero e later h =
    let z = end_ok (Add id lits hints (front ++ (c, hs) ∷ [])) ws step h in
    record {
      more_hints = [];
      more = [];
      valid_hints = tt;
      valid = tt;
      is = sym z.1 ∙ ap (λ (xs : List ℕ). Add id lits hints (front ++ (c, xs) ∷ [])) (sym (append-nil hs));
      words = same_cons (word_zero w e) z.0;
    }
groups_by id lits hints front c hs w ws step (Plus n) e later h =
    let p = word_plus w n e in
    let same = with_hint_last n front c hs in
    let r = later front c (hs ++ n ∷ []) (ap (λ (gs : List Group). groups_in id lits hints gs (map token_of ws)) (sym same) ∙ h) in
    record {
      more_hints = n ∷ r.more_hints;
      more = r.more;
      valid_hints = (p.1, r.valid_hints);
      valid = r.valid;
      is = r.is ∙ ap (λ (xs : List ℕ). Add id lits hints (front ++ (c, xs) ∷ r.more)) (append_assoc hs (n ∷ []) r.more_hints);
      words = same_cons p.0 r.words;
    }
groups_by id lits hints front c hs w ws step (Minus n) e later h =
    let p = word_minus w n e in
    let r = later (front ++ (c, hs) ∷ []) n [] h in
    record {
      more_hints = [];
      more = (n, r.more_hints) ∷ r.more;
      valid_hints = tt;
      valid = ((p.1, All-from_recursion IsClauseNumber r.more_hints r.valid_hints), r.valid);
      is = r.is ∙ ap (λ (gs : List Group). Add id lits hints gs) (append_assoc front ((c, hs) ∷ []) ((n, r.more_hints) ∷ r.more))
          ∙ ap (λ (xs : List ℕ). Add id lits hints (front ++ (c, xs) ∷ (n, r.more_hints) ∷ r.more)) (sym (append-nil hs));
      words = same_cons p.0 r.words;
    }
groups_by id lits hints front c hs w ws step Letter e later h = absurd (cc)
groups_by id lits hints front c hs w ws step LargePlus e later h = absurd (cc)
groups_by id lits hints front c hs w ws step LargeMinus e later h = absurd (cc)
groups_by id lits hints front c hs w ws step Other e later h = absurd (cc)

groups_none : (id : ℕ) (lits : List Literal) (hints : List ℕ) (groups : List Group) (step : Step) → groups_in id lits hints groups [] ≡ Ok step → ⊥
unfolding groups_in
groups_none id lits hints groups step h = cc

groups_read : (id : ℕ) (lits : List Literal) (hints : List ℕ) (ws : List (List ℕ)) (step : Step) → GroupsLater id lits hints ws step
groups_read id lits hints [] step front c hs h = absurd (groups_none id lits hints (front ++ (c, hs) ∷ []) step h)
groups_read id lits hints (w ∷ ws) step front c hs h = groups_by id lits hints front c hs w ws step (token_of w) refl (groups_read id lits hints ws step) h

-- ---- hints

record HintsRead (id : ℕ) (lits : List Literal) (hints : List ℕ) (ws : List (List ℕ)) (step : Step) : Type 0 where
  more : List ℕ
  groups : List Group
  valid : AllByRecursion IsClauseNumber more
  valid_groups : AllByRecursion IsGroup groups
  is : step ≡ Add id lits (hints ++ more) groups
  words : ws ≡ map decimal more ++ flat_map group_tokens groups ++ codes "0" ∷ []

hints_by : (id : ℕ) (lits : List Literal) (hints : List ℕ) (w : List ℕ) (ws : List (List ℕ)) (step : Step) (t : Token) → token_of w ≡ t
    → ((hints : List ℕ) → hints_in id lits hints (map token_of ws) ≡ Ok step → HintsRead id lits hints ws step) → hints_in id lits hints (t ∷ map token_of ws) ≡ Ok step → HintsRead id lits hints (w ∷ ws) step
unfolding hints_in
hints_by id lits hints w ws step Zero e later h =
    let z = end_ok (Add id lits hints []) ws step h in
    record {
      more = [];
      groups = [];
      valid = tt;
      valid_groups = tt;
      is = sym z.1 ∙ ap (λ (xs : List ℕ). Add id lits xs []) (sym (append-nil hints));
      words = same_cons (word_zero w e) z.0;
    }
hints_by id lits hints w ws step (Plus n) e later h =
    let p = word_plus w n e in
    let r = later (hints ++ n ∷ []) h in
    record {
      more = n ∷ r.more;
      groups = r.groups;
      valid = (p.1, r.valid);
      valid_groups = r.valid_groups;
      is = r.is ∙ ap (λ (xs : List ℕ). Add id lits xs r.groups) (append_assoc hints (n ∷ []) r.more);
      words = same_cons p.0 r.words;
    }
hints_by id lits hints w ws step (Minus n) e later h =
    let p = word_minus w n e in
    let r = groups_read id lits hints ws step [] n [] h in
    record {
      more = [];
      groups = (n, r.more_hints) ∷ r.more;
      valid = tt;
      valid_groups = ((p.1, All-from_recursion IsClauseNumber r.more_hints r.valid_hints), r.valid);
      is = r.is ∙ ap (λ (xs : List ℕ). Add id lits xs ((n, r.more_hints) ∷ r.more)) (sym (append-nil hints));
      words = same_cons p.0 r.words;
    }
hints_by id lits hints w ws step Letter e later h = absurd (cc)
hints_by id lits hints w ws step LargePlus e later h = absurd (cc)
hints_by id lits hints w ws step LargeMinus e later h = absurd (cc)
hints_by id lits hints w ws step Other e later h = absurd (cc)

hints_none : (id : ℕ) (lits : List Literal) (hints : List ℕ) (step : Step) → hints_in id lits hints [] ≡ Ok step → ⊥
unfolding hints_in
hints_none id lits hints step h = cc

hints_read : (id : ℕ) (lits : List Literal) (ws : List (List ℕ)) (step : Step) (hints : List ℕ) → hints_in id lits hints (map token_of ws) ≡ Ok step → HintsRead id lits hints ws step
hints_read id lits [] step hints h = absurd (hints_none id lits hints step h)
hints_read id lits (w ∷ ws) step hints h = hints_by id lits hints w ws step (token_of w) refl (hints_read id lits ws step) h

module _ (most : ℕ) where
  -- ---- literals

  record LiteralsRead (id : ℕ) (lits : List Literal) (ws : List (List ℕ)) (step : Step) : Type 0 where
    more : List Literal
    hints : List ℕ
    groups : List Group
    valid : AllByRecursion (IsWithin most) more
    valid_hints : AllByRecursion IsClauseNumber hints
    valid_groups : AllByRecursion IsGroup groups
    is : step ≡ Add id (lits ++ more) hints groups
    words : ws ≡ map literal_token more ++ codes "0" ∷ (map decimal hints ++ flat_map group_tokens groups ++ codes "0" ∷ [])

  within : (n : ℕ) → nat_le n most ≡ true → n ≤ most
  within n h = grind (arith, nat_tests)

  literals_push : (id : ℕ) (lits : List Literal) (l : Literal) (w : List ℕ) (ws : List (List ℕ)) (step : Step) → w ≡ literal_token l → IsWithin most l → LiteralsRead id (lits ++ l ∷ []) ws step → LiteralsRead id lits (w ∷ ws) step
  literals_push id lits l w ws step e v r = record {
    more = l ∷ r.more;
    hints = r.hints;
    groups = r.groups;
    valid = (v, r.valid);
    valid_hints = r.valid_hints;
    valid_groups = r.valid_groups;
    is = r.is ∙ ap (λ (xs : List Literal). Add id xs r.hints r.groups) (append_assoc lits (l ∷ []) r.more);
    words = same_cons e r.words;
  }

  literals_by : (id : ℕ) (lits : List Literal) (w : List ℕ) (ws : List (List ℕ)) (step : Step) (t : Token) → token_of w ≡ t
      → ((lits : List Literal) → literals_in most id lits (map token_of ws) ≡ Ok step → LiteralsRead id lits ws step) → literals_in most id lits (t ∷ map token_of ws) ≡ Ok step → LiteralsRead id lits (w ∷ ws) step
  unfolding literals_in
  literals_by id lits w ws step Zero e later h =
      let r = hints_read id lits ws step [] h in
      record {
        more = [];
        hints = r.more;
        groups = r.groups;
        valid = tt;
        valid_hints = r.valid;
        valid_groups = r.valid_groups;
        is = r.is ∙ ap (λ (xs : List Literal). Add id xs r.more r.groups) (sym (append-nil lits));
        words = same_cons (word_zero w e) r.words;
      }
  literals_by id lits w ws step (Plus n) e later h =
      let p = word_plus w n e in
      let q = chosen_ok (nat_le n most) (literals_in most id (lits ++ Pos n ∷ []) (map token_of ws)) NumberTooLarge step h in
      literals_push id lits (Pos n) w ws step p.0 (omega (arith, p.1.0), within n q.0) (later (lits ++ Pos n ∷ []) q.1)
  literals_by id lits w ws step (Minus n) e later h =
      let p = word_minus w n e in
      let q = chosen_ok (nat_le n most) (literals_in most id (lits ++ Neg n ∷ []) (map token_of ws)) NumberTooLarge step h in
      literals_push id lits (Neg n) w ws step (p.0 ∙ sym (negative_token n p.1.0)) (omega (arith, p.1.0), within n q.0) (later (lits ++ Neg n ∷ []) q.1)
  literals_by id lits w ws step Letter e later h = absurd (cc)
  literals_by id lits w ws step LargePlus e later h = absurd (cc)
  literals_by id lits w ws step LargeMinus e later h = absurd (cc)
  literals_by id lits w ws step Other e later h = absurd (cc)

  literals_none : (id : ℕ) (lits : List Literal) (step : Step) → literals_in most id lits [] ≡ Ok step → ⊥
  unfolding literals_in
  literals_none id lits step h = cc

  literals_read : (id : ℕ) (ws : List (List ℕ)) (step : Step) (lits : List Literal) → literals_in most id lits (map token_of ws) ≡ Ok step → LiteralsRead id lits ws step
  literals_read id [] step lits h = absurd (literals_none id lits step h)
  literals_read id (w ∷ ws) step lits h = literals_by id lits w ws step (token_of w) refl (literals_read id ws step) h

  -- ---- lines

  record BodyRead (id : ℕ) (ws : List (List ℕ)) (step : Step) : Type 0 where
    valid : IsStepWithin most step
    words : decimal id ∷ ws ≡ step_tokens id step

  addition_valid : (id : ℕ) (lits : List Literal) (hints : List ℕ) (groups : List Group) → IsClauseNumber id → AllByRecursion (IsWithin most) lits → AllByRecursion IsClauseNumber hints → AllByRecursion IsGroup groups
      → IsStepWithin most (Add id lits hints groups)
  addition_valid id lits hints groups n l h g = (n, All-from_recursion (IsWithin most) lits l, All-from_recursion IsClauseNumber hints h, All-from_recursion IsGroup groups g)

  body_addition : (id : ℕ) (ws : List (List ℕ)) (step : Step) → IsClauseNumber id → LiteralsRead id [] ws step → BodyRead id ws step
  body_addition id ws step n r = record {
    valid = rw r.is (addition_valid id r.more r.hints r.groups n r.valid r.valid_hints r.valid_groups);
    words = rw (r.is, r.words) refl;
  }

  body_deletion : (id : ℕ) (w : List ℕ) (ws : List (List ℕ)) (step : Step) → w ≡ codes "d" → IdsRead [] ws step → BodyRead id (w ∷ ws) step
  body_deletion id w ws step e r = record {
    valid = rw r.is (All-from_recursion IsClauseNumber r.more r.valid);
    words = rw (r.is, e, r.words) refl;
  }

  body_by : (id : ℕ) (w : List ℕ) (ws : List (List ℕ)) (step : Step) (t : Token) → token_of w ≡ t → IsClauseNumber id → body_in most id (t ∷ map token_of ws) ≡ Ok step → BodyRead id (w ∷ ws) step
  unfolding body_in
  body_by id w ws step Letter e n h = body_deletion id w ws step (word_letter w e) (ids_read ws step [] h)
  body_by id w ws step Zero e n h = body_addition id (w ∷ ws) step n (literals_by id [] w ws step Zero e (literals_read id ws step) h)
  body_by id w ws step (Plus m) e n h = body_addition id (w ∷ ws) step n (literals_by id [] w ws step (Plus m) e (literals_read id ws step) h)
  body_by id w ws step (Minus m) e n h = body_addition id (w ∷ ws) step n (literals_by id [] w ws step (Minus m) e (literals_read id ws step) h)
  body_by id w ws step LargePlus e n h = body_addition id (w ∷ ws) step n (literals_by id [] w ws step LargePlus e (literals_read id ws step) h)
  body_by id w ws step LargeMinus e n h = body_addition id (w ∷ ws) step n (literals_by id [] w ws step LargeMinus e (literals_read id ws step) h)
  body_by id w ws step Other e n h = body_addition id (w ∷ ws) step n (literals_by id [] w ws step Other e (literals_read id ws step) h)

  body_none : (id : ℕ) (step : Step) → body_in most id [] ≡ Ok step → ⊥
  unfolding body_in
  body_none id step h = literals_none id [] step h

  body_read : (id : ℕ) (ws : List (List ℕ)) (step : Step) → IsClauseNumber id → body_in most id (map token_of ws) ≡ Ok step → BodyRead id ws step
  body_read id [] step n h = absurd (body_none id step h)
  body_read id (w ∷ ws) step n h = body_by id w ws step (token_of w) refl n h

  pub record LineRead (ws : List (List ℕ)) (step : Step) : Type 0 where
    pub top : ℕ
    pub valid : IsStepWithin most step
    pub numbered : IsClauseNumber top
    pub words : ws ≡ step_tokens top step

  first_by : (w : List ℕ) (ws : List (List ℕ)) (step : Step) (t : Token) → token_of w ≡ t → first_within most (t ∷ map token_of ws) ≡ Ok step → LineRead (w ∷ ws) step
  unfolding first_within
  first_by w ws step (Plus n) e h =
      let p = word_plus w n e in
      let r = body_read n ws step p.1 h in
      record { top = n; valid = r.valid; numbered = p.1; words = ap (λ (x : List ℕ). x ∷ ws) p.0 ∙ r.words }
  first_by w ws step Letter e h = absurd (cc)
  first_by w ws step Zero e h = absurd (cc)
  first_by w ws step (Minus m) e h = absurd (cc)
  first_by w ws step LargePlus e h = absurd (cc)
  first_by w ws step LargeMinus e h = absurd (cc)
  first_by w ws step Other e h = absurd (cc)

  first_none : (step : Step) → first_within most [] ≡ Ok step → ⊥
  unfolding first_within
  first_none step h = cc

  pub first_read : (ws : List (List ℕ)) (step : Step) → first_within most (map token_of ws) ≡ Ok step → LineRead ws step
  first_read [] step h = absurd (first_none step h)
  first_read (w ∷ ws) step h = first_by w ws step (token_of w) refl h
