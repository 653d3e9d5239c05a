-- The lines of a text are read as one run over what its tokens are, on whatever lines they stand.
use Rattle.std.proofs.Common.{◌≡◌, ℕ, ◌+◌, List, [], ◌∷◌, ◌++◌, map, Option, Some, Result, Ok, Err, refl, sym, ap, ◌∙◌}
use Rattle.std.specs.List.{flat_map}
use Rattle.std.proofs.lemmas.List.{map-append}
use Rattle.dimacs.specs.text.Rows.{Format, read_lines, read_words, ◌>>=◌}
use Rattle.dimacs.specs.text.Words.{words_of}
use Rattle.dimacs.proofs.RowLemmas.{bind_ok}

cons_same : {X : Type 0} (x y : X) (xs ys : List X) → x ≡ y → xs ≡ ys → x ∷ xs ≡ y ∷ ys
cons_same x y xs ys e f = cc

bind_same : {A B E : Type 0} (r : Result A E) (f g : A → Result B E) → ((x : A) → f x ≡ g x) → (r >>= f) ≡ (r >>= g)
bind_same (Ok x) f g h = h x
bind_same (Err e) f g h = refl

bind_twice : {A B C E : Type 0} (r : Result A E) (f : A → Result B E) (g : B → Result C E) → (r >>= λ x. f x >>= g) ≡ ((r >>= f) >>= g)
bind_twice (Ok x) f g = refl
bind_twice (Err e) f g = refl

-- what tokens are, one after the other
unfoldable pub run : {T S E : Type 0} → (T → S → Result S E) → List T → S → Result S E
run step [] s = Ok s
run step (t ∷ ts) s = step t s >>= run step ts

pub run_append : {T S E : Type 0} (step : T → S → Result S E) (xs ys : List T) (s : S) → run step (xs ++ ys) s ≡ (run step xs s >>= run step ys)
unfolding run
run_append step [] ys s = refl
run_append step (x ∷ xs) ys s = bind_same (step x s) (run step (xs ++ ys)) (λ c. run step xs c >>= run step ys) (λ c. run_append step xs ys c) ∙ bind_twice (step x s) (run step xs) (run step ys)

-- a format whose tokens are these, where they are read, and whose end does not ask for the line
pub record IsRun {T S V E : Type 0} (format : Format S V E) (token_of : List ℕ → Option T) (step : T → S → Result S E) : Type 0 where
  pub forth : (line : ℕ) (w : List ℕ) (s c : S) → format.token line w s ≡ Ok c → (t : T) × (token_of w ≡ Some t) × (step t s ≡ Ok c)
  pub back : (line : ℕ) (w : List ℕ) (t : T) (s c : S) → token_of w ≡ Some t → step t s ≡ Ok c → format.token line w s ≡ Ok c
  pub ends : (m n : ℕ) (s : S) (v : V) → format.finish m s ≡ Ok v → format.finish n s ≡ Ok v

-- a text after its header: what its tokens are, and what was read at its end
pub record Body {T S V E : Type 0} (format : Format S V E) (token_of : List ℕ → Option T) (step : T → S → Result S E) (tokens : List (List ℕ)) (s : S) (v : V) : Type 0 where
  pub read : List T
  pub end : S
  pub are : map token_of tokens ≡ map Some read
  pub ran : run step read s ≡ Ok end
  pub finished : format.finish 0 end ≡ Ok v

module _ {T S V E : Type 0} (format : Format S V E) (token_of : List ℕ → Option T) (step : T → S → Result S E) (is : IsRun format token_of step) where
  words_run : (line : ℕ) (ws : List (List ℕ)) (s c : S) → read_words format line ws s ≡ Ok c → (ts : List T) × (map token_of ws ≡ map Some ts) × (run step ts s ≡ Ok c)
  unfolding read_words run
  words_run line [] s c h = ([], refl, h)
  words_run line (w ∷ ws) s c h =
      let first = bind_ok (format.token line w s) (read_words format line ws) c h in
      let t = is.forth line w s first.0 first.1 in
      let rest = words_run line ws first.0 c first.2 in
      (t.0 ∷ rest.0, cons_same (token_of w) (Some t.0) (map token_of ws) (map Some rest.0) t.1 rest.1, ap (λ (r : Result S E). r >>= run step rest.0) t.2 ∙ rest.2)

  run_words : (line : ℕ) (ws : List (List ℕ)) (ts : List T) (s c : S) → map token_of ws ≡ map Some ts → run step ts s ≡ Ok c → read_words format line ws s ≡ Ok c
  unfolding read_words run
  run_words line [] [] s c e h = h
  run_words line [] (t ∷ ts) s c e h = absurd (cc)
  run_words line (w ∷ ws) [] s c e h = absurd (cc)
  run_words line (w ∷ ws) (t ∷ ts) s c e h =
      let first : token_of w ≡ Some t = cc in
      let rest : map token_of ws ≡ map Some ts = cc in
      let next = bind_ok (step t s) (run step ts) c h in
      rw (is.back line w t s next.0 first next.1) (run_words line ws ts next.0 c rest next.2)

  pub lines_body : (n : ℕ) (ls : List (List ℕ)) (s : S) (v : V) → read_lines format n ls s ≡ Ok v → Body format token_of step (flat_map words_of ls) s v
  unfolding read_lines run
  lines_body n [] s v h = record { read = []; end = s; are = refl; ran = refl; finished = is.ends n 0 s v h }
  lines_body n (l ∷ ls) s v h =
      let first = bind_ok (read_words format (n + 1) (words_of l) s) (read_lines format (n + 1) ls) v h in
      let here = words_run (n + 1) (words_of l) s first.0 first.1 in
      let rest = lines_body (n + 1) ls first.0 v first.2 in
      record {
        read = here.0 ++ rest.read;
        end = rest.end;
        are = map-append token_of (words_of l) (flat_map words_of ls) ∙ ap (λ x. x ++ map token_of (flat_map words_of ls)) here.1 ∙ ap (λ x. map Some here.0 ++ x) rest.are ∙ sym (map-append Some here.0 rest.read);
        ran = run_append step here.0 rest.read s ∙ ap (λ (r : Result S E). r >>= run step rest.read) here.2 ∙ rest.ran;
        finished = rest.finished;
      }

  split_tokens : (ws vs : List (List ℕ)) (ts : List T) → map token_of (ws ++ vs) ≡ map Some ts → (xs : List T) × (ys : List T) × (ts ≡ xs ++ ys) × (map token_of ws ≡ map Some xs) × (map token_of vs ≡ map Some ys)
  split_tokens [] vs ts h = ([], ts, refl, refl, h)
  split_tokens (w ∷ ws) vs [] h = absurd (cc)
  split_tokens (w ∷ ws) vs (t ∷ ts) h =
      let first : token_of w ≡ Some t = cc in
      let rest : map token_of (ws ++ vs) ≡ map Some ts = cc in
      let s = split_tokens ws vs ts rest in
      (t ∷ s.0, s.1, ap (λ x. t ∷ x) s.2, cons_same (token_of w) (Some t) (map token_of ws) (map Some s.0) first s.3, s.4)

  pub body_lines : (n : ℕ) (ls : List (List ℕ)) (ts : List T) (s c : S) (v : V) → map token_of (flat_map words_of ls) ≡ map Some ts → run step ts s ≡ Ok c → format.finish 0 c ≡ Ok v → read_lines format n ls s ≡ Ok v
  unfolding read_lines run
  body_lines n [] [] s c v e h g = let same : s ≡ c = cc in is.ends 0 n s v (ap (format.finish 0) same ∙ g)
  body_lines n [] (t ∷ ts) s c v e h g = absurd (cc)
  body_lines n (l ∷ ls) ts s c v e h g =
      let p = split_tokens (words_of l) (flat_map words_of ls) ts e in
      let ran = sym (run_append step p.0 p.1 s) ∙ ap (λ x. run step x s) (sym p.2) ∙ h in
      let next = bind_ok (run step p.0 s) (run step p.1) c ran in
      let here = run_words (n + 1) (words_of l) p.0 s next.0 p.3 next.1 in
      rw here (body_lines (n + 1) ls p.1 next.0 c v p.4 next.2 g)
