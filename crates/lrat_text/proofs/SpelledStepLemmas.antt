-- The tokens that spell a step are read as it.
use Rattle.std.proofs.Common.{◌≡◌, ℕ, ◌<◌, ◌≤◌, ◌^◌, true, nat_le, List, [], ◌∷◌, ◌++◌, map, Ok, refl, sym, ap, ◌∙◌, arith, append_assoc, codes, decimal}
use Rattle.std.specs.List.{AllByRecursion, flat_map}
use Rattle.std.proofs.lemmas.Bool.Decides.{nat_tests}
use Rattle.std.proofs.lemmas.List.{append-nil, map-append}
use Rattle.std.proofs.lemmas.List.Elements.{recursion_from_All}
use Rattle.dimacs.specs.logic.Literal.{Literal, Pos, Neg, IsWithin}
use Rattle.dimacs.specs.logic.Rat.{Group}
use Rattle.lrat_text.specs.declared.step.Step.{Step}
use Rattle.lrat_text.specs.declared.step.Step.TheVariants.{Add, Delete}
use Rattle.lrat_text.specs.declared.token.Token.{Token}
use Rattle.lrat_text.specs.declared.token.Token.TheVariants.{Letter, Zero, Plus, Minus}
use Rattle.lrat_text.specs.Grammar.{IsClauseNumber, IsGroup, IsStepWithin, literal_token, group_tokens, step_tokens}
use Rattle.lrat_text.specs.Parser.{token_of, ids_in, groups_in, hints_in, literals_in, body_in, first_within}
use Rattle.lrat_text.proofs.TokenLemmas.{token_letter}
use Rattle.lrat_text.proofs.NumberLemmas.{token_decimal, token_negated, token_zero, negative_token}
use Rattle.lrat_text.proofs.ReadStepLemmas.{with_hint_last}

ids_tail : (ids front : List ℕ) (ts : List Token) → AllByRecursion IsClauseNumber ids → ids_in front (map token_of (map decimal ids) ++ ts) ≡ ids_in (front ++ ids) ts
unfolding ids_in
ids_tail [] front ts h = ap (λ (xs : List ℕ). ids_in xs ts) (sym (append-nil front))
ids_tail (n ∷ ids) front ts h =
    ap (λ (t : Token). ids_in front (t ∷ (map token_of (map decimal ids) ++ ts))) (token_decimal n h.0)
    ∙ ids_tail ids (front ++ n ∷ []) ts h.1 ∙ ap (λ (xs : List ℕ). ids_in xs ts) (append_assoc front (n ∷ []) ids)

ids_back : (ids : List ℕ) → AllByRecursion IsClauseNumber ids → ids_in [] (map token_of (map decimal ids ++ codes "0" ∷ [])) ≡ Ok (Delete ids)
unfolding ids_in
ids_back ids h =
    ap (ids_in []) (map-append token_of (map decimal ids) (codes "0" ∷ [])) ∙ ids_tail ids [] (token_of (codes "0") ∷ []) h
    ∙ ap (λ (t : Token). ids_in ids (t ∷ [])) token_zero

module _ (id : ℕ) (lits : List Literal) (hints : List ℕ) where
  group_tail : (mh : List ℕ) (front : List Group) (c : ℕ) (hs : List ℕ) (ts : List Token) → AllByRecursion IsClauseNumber mh
      → groups_in id lits hints (front ++ (c, hs) ∷ []) (map token_of (map decimal mh) ++ ts) ≡ groups_in id lits hints (front ++ (c, hs ++ mh) ∷ []) ts
  unfolding groups_in
  group_tail [] front c hs ts h = ap (λ (xs : List ℕ). groups_in id lits hints (front ++ (c, xs) ∷ []) ts) (sym (append-nil hs))
  group_tail (n ∷ mh) front c hs ts h =
      ap (λ (t : Token). groups_in id lits hints (front ++ (c, hs) ∷ []) (t ∷ (map token_of (map decimal mh) ++ ts))) (token_decimal n h.0)
      ∙ ap (λ (gs : List Group). groups_in id lits hints gs (map token_of (map decimal mh) ++ ts)) (with_hint_last n front c hs)
      ∙ group_tail mh front c (hs ++ n ∷ []) ts h.1
      ∙ ap (λ (xs : List ℕ). groups_in id lits hints (front ++ (c, xs) ∷ []) ts) (append_assoc hs (n ∷ []) mh)

  regroup : (mh : List ℕ) (more : List Group) → map token_of (map decimal mh ++ flat_map group_tokens more ++ codes "0" ∷ []) ≡ map token_of (map decimal mh) ++ map token_of (flat_map group_tokens more ++ codes "0" ∷ [])
  regroup mh more = ap (map token_of) (append_assoc (map decimal mh) (flat_map group_tokens more) (codes "0" ∷ [])) ∙ map-append token_of (map decimal mh) (flat_map group_tokens more ++ codes "0" ∷ [])

  groups_back : (more front : List Group) (c : ℕ) (hs : List ℕ) → AllByRecursion IsGroup more
      → groups_in id lits hints (front ++ (c, hs) ∷ []) (map token_of (flat_map group_tokens more ++ codes "0" ∷ [])) ≡ Ok (Add id lits hints (front ++ (c, hs) ∷ more))
  unfolding groups_in
  groups_back [] front c hs h = ap (λ (t : Token). groups_in id lits hints (front ++ (c, hs) ∷ []) (t ∷ [])) token_zero
  groups_back (g ∷ more) front c hs h =
      ap (λ (t : Token). groups_in id lits hints (front ++ (c, hs) ∷ []) (t ∷ map token_of (map decimal g.1 ++ flat_map group_tokens more ++ codes "0" ∷ []))) (token_negated g.0 h.0.0)
      ∙ ap (groups_in id lits hints ((front ++ (c, hs) ∷ []) ++ (g.0, []) ∷ [])) (regroup g.1 more)
      ∙ group_tail g.1 (front ++ (c, hs) ∷ []) g.0 [] (map token_of (flat_map group_tokens more ++ codes "0" ∷ [])) (recursion_from_All IsClauseNumber g.1 h.0.1)
      ∙ groups_back more (front ++ (c, hs) ∷ []) g.0 g.1 h.1
      ∙ ap (λ (gs : List Group). Ok (Add id lits hints gs)) (append_assoc front ((c, hs) ∷ []) (g ∷ more))

  hints_back : (groups : List Group) → AllByRecursion IsGroup groups → hints_in id lits hints (map token_of (flat_map group_tokens groups ++ codes "0" ∷ [])) ≡ Ok (Add id lits hints groups)
  unfolding hints_in
  hints_back [] h = ap (λ (t : Token). hints_in id lits hints (t ∷ [])) token_zero
  hints_back (g ∷ more) h =
      ap (λ (t : Token). hints_in id lits hints (t ∷ map token_of (map decimal g.1 ++ flat_map group_tokens more ++ codes "0" ∷ []))) (token_negated g.0 h.0.0)
      ∙ ap (groups_in id lits hints ((g.0, []) ∷ [])) (regroup g.1 more)
      ∙ group_tail g.1 [] g.0 [] (map token_of (flat_map group_tokens more ++ codes "0" ∷ [])) (recursion_from_All IsClauseNumber g.1 h.0.1)
      ∙ groups_back more [] g.0 g.1 h.1

hints_tail : (id : ℕ) (lits : List Literal) (mh front : List ℕ) (ts : List Token) → AllByRecursion IsClauseNumber mh → hints_in id lits front (map token_of (map decimal mh) ++ ts) ≡ hints_in id lits (front ++ mh) ts
unfolding hints_in
hints_tail id lits [] front ts h = ap (λ (xs : List ℕ). hints_in id lits xs ts) (sym (append-nil front))
hints_tail id lits (n ∷ mh) front ts h =
    ap (λ (t : Token). hints_in id lits front (t ∷ (map token_of (map decimal mh) ++ ts))) (token_decimal n h.0)
    ∙ hints_tail id lits mh (front ++ n ∷ []) ts h.1 ∙ ap (λ (xs : List ℕ). hints_in id lits xs ts) (append_assoc front (n ∷ []) mh)

sign_token : Literal → Token
sign_token (Pos v) = Plus v
sign_token (Neg v) = Minus v

-- a lemma's tokens after its number
abbrev pub rest_tokens : List ℕ → List Group → List (List ℕ)
rest_tokens hints groups = map decimal hints ++ flat_map group_tokens groups ++ codes "0" ∷ []

pub reasons_back : (id : ℕ) (lits : List Literal) (hints : List ℕ) (groups : List Group) → AllByRecursion IsClauseNumber hints → AllByRecursion IsGroup groups
    → hints_in id lits [] (map token_of (rest_tokens hints groups)) ≡ Ok (Add id lits hints groups)
reasons_back id lits hints groups h g =
    ap (hints_in id lits []) (regroup id lits hints hints groups)
    ∙ hints_tail id lits hints [] (map token_of (flat_map group_tokens groups ++ codes "0" ∷ [])) h
    ∙ hints_back id lits hints groups g

module _ (most : ℕ) (few : most < 2 ^ 48) where
  token_literal : (l : Literal) → IsWithin most l → token_of (literal_token l) ≡ sign_token l
  unfolding sign_token
  token_literal (Pos v) h = token_decimal v (omega (arith, h.0), omega (arith, h.1))
  token_literal (Neg v) h = ap token_of (negative_token v (omega (arith, h.0))) ∙ token_negated v (omega (arith, h.0), omega (arith, h.1))

  within_back : (n : ℕ) → n ≤ most → nat_le n most ≡ true
  within_back n h = grind (arith, nat_tests)

  literal_one : (id : ℕ) (l : Literal) (front : List Literal) (ts : List Token) → IsWithin most l → literals_in most id front (sign_token l ∷ ts) ≡ literals_in most id (front ++ l ∷ []) ts
  unfolding literals_in sign_token
  literal_one id (Pos v) front ts h = rw (within_back v h.1) refl
  literal_one id (Neg v) front ts h = rw (within_back v h.1) refl

  literals_tail : (id : ℕ) (ls front : List Literal) (ts : List Token) → AllByRecursion (IsWithin most) ls → literals_in most id front (map token_of (map literal_token ls) ++ ts) ≡ literals_in most id (front ++ ls) ts
  literals_tail id [] front ts h = ap (λ (xs : List Literal). literals_in most id xs ts) (sym (append-nil front))
  literals_tail id (l ∷ ls) front ts h =
      ap (λ (t : Token). literals_in most id front (t ∷ (map token_of (map literal_token ls) ++ ts))) (token_literal l h.0)
      ∙ literal_one id l front (map token_of (map literal_token ls) ++ ts) h.0
      ∙ literals_tail id ls (front ++ l ∷ []) ts h.1 ∙ ap (λ (xs : List Literal). literals_in most id xs ts) (append_assoc front (l ∷ []) ls)

  literals_zero : (id : ℕ) (lits : List Literal) (ts : List Token) → literals_in most id lits (Zero ∷ ts) ≡ hints_in id lits [] ts
  unfolding literals_in
  literals_zero id lits ts = refl

  literals_back : (id : ℕ) (lits : List Literal) (hints : List ℕ) (groups : List Group) → AllByRecursion (IsWithin most) lits → AllByRecursion IsClauseNumber hints → AllByRecursion IsGroup groups
      → literals_in most id [] (map token_of (map literal_token lits ++ codes "0" ∷ rest_tokens hints groups)) ≡ Ok (Add id lits hints groups)
  literals_back id lits hints groups l h g =
      ap (literals_in most id []) (map-append token_of (map literal_token lits) (codes "0" ∷ rest_tokens hints groups))
      ∙ literals_tail id lits [] (token_of (codes "0") ∷ map token_of (rest_tokens hints groups)) l
      ∙ ap (λ (t : Token). literals_in most id lits (t ∷ map token_of (rest_tokens hints groups))) token_zero
      ∙ literals_zero id lits (map token_of (rest_tokens hints groups))
      ∙ reasons_back id lits hints groups h g

  body_zero : (id : ℕ) (ts : List Token) → body_in most id (Zero ∷ ts) ≡ literals_in most id [] (Zero ∷ ts)
  unfolding body_in
  body_zero id ts = refl

  body_sign : (id : ℕ) (l : Literal) (ts : List Token) → body_in most id (sign_token l ∷ ts) ≡ literals_in most id [] (sign_token l ∷ ts)
  unfolding body_in sign_token
  body_sign id (Pos v) ts = refl
  body_sign id (Neg v) ts = refl

  body_letter : (id : ℕ) (ts : List Token) → body_in most id (Letter ∷ ts) ≡ ids_in [] ts
  unfolding body_in
  body_letter id ts = refl

  -- the first token of a lemma's literals is no letter
  body_literals : (id : ℕ) (lits : List Literal) (ws : List (List ℕ)) → AllByRecursion (IsWithin most) lits
      → body_in most id (map token_of (map literal_token lits ++ codes "0" ∷ ws)) ≡ literals_in most id [] (map token_of (map literal_token lits ++ codes "0" ∷ ws))
  body_literals id [] ws h =
      ap (λ (t : Token). body_in most id (t ∷ map token_of ws)) token_zero ∙ body_zero id (map token_of ws) ∙ ap (λ (t : Token). literals_in most id [] (t ∷ map token_of ws)) (sym token_zero)
  body_literals id (l ∷ lits) ws h =
      let ts = map token_of (map literal_token lits ++ codes "0" ∷ ws) in
      ap (λ (t : Token). body_in most id (t ∷ ts)) (token_literal l h.0) ∙ body_sign id l ts ∙ ap (λ (t : Token). literals_in most id [] (t ∷ ts)) (sym (token_literal l h.0))

  first_number : (n : ℕ) (ts : List Token) → first_within most (Plus n ∷ ts) ≡ body_in most n ts
  unfolding first_within
  first_number n ts = refl

  pub step_back : (top : ℕ) (step : Step) → IsClauseNumber top → IsStepWithin most step → first_within most (map token_of (step_tokens top step)) ≡ Ok step
  step_back top (Add id lits hints groups) n h =
      let ws = map literal_token lits ++ codes "0" ∷ rest_tokens hints groups in
      let l = recursion_from_All (IsWithin most) lits h.1 in
      ap (λ (t : Token). first_within most (t ∷ map token_of ws)) (token_decimal id h.0)
      ∙ first_number id (map token_of ws)
      ∙ body_literals id lits (rest_tokens hints groups) l
      ∙ literals_back id lits hints groups l (recursion_from_All IsClauseNumber hints h.2) (recursion_from_All IsGroup groups h.3)
  step_back top (Delete ids) n h =
      let ws = map decimal ids ++ codes "0" ∷ [] in
      ap (λ (t : Token). first_within most (t ∷ token_of (codes "d") ∷ map token_of ws)) (token_decimal top n)
      ∙ first_number top (token_of (codes "d") ∷ map token_of ws)
      ∙ ap (λ (t : Token). body_in most top (t ∷ map token_of ws)) token_letter
      ∙ body_letter top (map token_of ws)
      ∙ ids_back ids (recursion_from_All IsClauseNumber ids h)
