-- Lines that are handed on, one after the other.
use Rattle.std.proofs.Common.{◌≡◌, ℕ, List, [], ◌∷◌, ◌++◌, refl, sym, ap, subst, ◌∙◌, append_assoc}
use Rattle.std.proofs.lemmas.List.Elements.{All-nil, All-cons, All-append}
use Rattle.lrat_text.specs.Lines.{IsOpen, IsCut}
use Rattle.lrat_text.specs.LineSink.{TakesAll, HandsOn, LineRefused, PieceStops, ended_lines}
use Rattle.lrat_text.specs.declared.line_splitter.PieceFault.{PieceFault}
use Rattle.lrat_text.specs.declared.line_splitter.PieceFault.TheVariants.{NoMemory, Line}

pub ended_lines-append : (a b : List (List ℕ)) → ended_lines (a ++ b) ≡ ended_lines a ++ ended_lines b
ended_lines-append [] b = refl
ended_lines-append (line ∷ a) b = ap (λ (x : List ℕ). line ++ 10 ∷ x) (ended_lines-append a b) ∙ sym (append_assoc line (10 ∷ ended_lines a) (ended_lines b))

takes_on : {S : Type 0} (takes : S → List ℕ → S → Type 0) (s : S) (a : List (List ℕ)) (t : S) (b : List (List ℕ)) (u : S) → TakesAll takes s a t → TakesAll takes t b u → TakesAll takes s (a ++ b) u
takes_on takes s [] t b u e more = subst (λ x. TakesAll takes x b u) (sym e) more
takes_on takes s (line ∷ a) t b u (m, first, later) more = (m, first, takes_on takes m a t b u later more)

pub hands_none : {S : Type 0} (takes : S → List ℕ → S → Type 0) (s : S) (text : List ℕ) → HandsOn takes s text s text
hands_none takes s text = record { lines = []; whole = refl; one_by_one = All-nil IsOpen; taken = refl }

pub hands_line : {S : Type 0} (takes : S → List ℕ → S → Type 0) (s : S) (text line later : List ℕ) (t : S) → IsCut text line later → takes s line t → HandsOn takes s text t later
hands_line takes s text line later t cut took = record {
  lines = line ∷ [];
  whole = cut.0 ∙ sym (append_assoc line (10 ∷ []) later);
  one_by_one = All-cons IsOpen line [] cut.1 (All-nil IsOpen);
  taken = (t, took, refl);
}

-- the rest of one is the next
pub hands_on : {S : Type 0} (takes : S → List ℕ → S → Type 0) (s : S) (a : List ℕ) (t : S) (b : List ℕ) (u : S) (c : List ℕ) → HandsOn takes s a t b → HandsOn takes t b u c → HandsOn takes s a u c
hands_on takes s a t b u c p q = record {
  lines = p.lines ++ q.lines;
  whole = p.whole ∙ ap (λ (x : List ℕ). ended_lines p.lines ++ x) q.whole ∙ sym (append_assoc (ended_lines p.lines) (ended_lines q.lines) c) ∙ ap (λ (x : List ℕ). x ++ c) (sym (ended_lines-append p.lines q.lines));
  one_by_one = All-append IsOpen p.lines q.lines p.one_by_one q.one_by_one;
  taken = takes_on takes s p.lines t q.lines u p.taken q.taken;
}

pub refuses_line : {S F : Type 0} (takes : S → List ℕ → S → Type 0) (refuses : S → List ℕ → S → F → Type 0) (s : S) (text line later : List ℕ) (t : S) (fault : F) → IsCut text line later → refuses s line t fault
    → LineRefused takes refuses s text t fault
refuses_line takes refuses s text line later t fault cut refused = (s, text, line, later, hands_none takes s text, cut, refused)

pub refuses_on : {S F : Type 0} (takes : S → List ℕ → S → Type 0) (refuses : S → List ℕ → S → F → Type 0) (s : S) (a : List ℕ) (m : S) (b : List ℕ) (t : S) (fault : F) → HandsOn takes s a m b
    → LineRefused takes refuses m b t fault → LineRefused takes refuses s a t fault
refuses_on takes refuses s a m b t fault p (n, rest, line, later, q, cut, refused) = (n, rest, line, later, hands_on takes s a m b n rest p q, cut, refused)

pub stops_on : {S F : Type 0} (takes : S → List ℕ → S → Type 0) (refuses : S → List ℕ → S → F → Type 0) (s : S) (a : List ℕ) (m : S) (b : List ℕ) (t : S) (fault : PieceFault F) → HandsOn takes s a m b
    → PieceStops takes refuses m b t fault → PieceStops takes refuses s a t fault
stops_on takes refuses s a m b t NoMemory p (lines, taken) = (p.lines ++ lines, takes_on takes s p.lines m lines t p.taken taken)
stops_on takes refuses s a m b t (Line fault) p stops = refuses_on takes refuses s a m b t fault p stops
