-- Steps that are handed on, one after the other.
use Rattle.std.proofs.Common.{◌≡◌, ◌≢◌, ℕ, List, [], ◌∷◌, ◌++◌, refl, sym, ap, subst, ◌∙◌, append_assoc}
use Rattle.lrat_text.specs.declared.fault.TextFault.{TextFault}
use Rattle.lrat_text.specs.declared.fault.TextFault.TheVariants.{NoMemory}
use Rattle.lrat_text.specs.declared.step.Step.{Step}
use Rattle.lrat_binary.specs.declared.step_sink.FeedFault.{FeedFault}
use Rattle.lrat_binary.specs.declared.step_sink.FeedFault.TheVariants.{Bytes, Step as OfStep}
use Rattle.lrat_binary.specs.Parser.{ReaderState, BetweenStepsWithin, Outcome, Goes, Ends, Fails, ReadResult, after_byte, from_outcome, with_steps, read}
use Rattle.lrat_binary.specs.inner.ShortNumber.{SkipsTo}
use Rattle.lrat_binary.specs.StepSink.{TakesAll, HandsOn, Breaks, StepRefused, FeedStops}

-- ---- what is read

pub read-byte : (begun : ReaderState) (b : ℕ) (bytes : List ℕ) → read begun (b ∷ bytes) ≡ from_outcome (after_byte begun b) (λ next. read next bytes)
unfolding read
read-byte begun b bytes = refl

-- after a byte with this outcome
pub read-after : (begun : ReaderState) (b : ℕ) (outcome : Outcome) (bytes : List ℕ) → after_byte begun b ≡ outcome → read begun (b ∷ bytes) ≡ from_outcome outcome (λ next. read next bytes)
read-after begun b outcome bytes e = read-byte begun b bytes ∙ ap (λ o. from_outcome o (λ next. read next bytes)) e

pub with_steps-append : (ss ts : List Step) (r : ReadResult) → with_steps ss (with_steps ts r) ≡ with_steps (ss ++ ts) r
with_steps-append ss ts r = ap (λ (xs : List Step). (xs, r.1)) (sym (append_assoc ss ts r.0))

-- ---- what is taken

pub takes_on : {S : Type 0} (takes : S → Step → S → Type 0) (s : S) (a : List Step) (t : S) (b : List Step) (u : S) → TakesAll takes s a t → TakesAll takes t b u → TakesAll takes s (a ++ b) u
takes_on takes s [] t b u e more = subst (λ x. TakesAll takes x b u) (sym e) more
takes_on takes s (step ∷ a) t b u (m, first, later) more = (m, first, takes_on takes m a t b u later more)

module _ {S : Type 0} (takes : S → Step → S → Type 0) where
  pub hands_none : (s : S) (begun : ReaderState) (bytes : List ℕ) → HandsOn takes s begun bytes s begun bytes
  hands_none s begun bytes = record { steps = []; reads = λ more. refl; taken = refl }

  -- a byte, and nothing after it
  pub hands_byte : (s : S) (begun : ReaderState) (b : ℕ) (next : ReaderState) → after_byte begun b ≡ Goes next → HandsOn takes s begun (b ∷ []) s next []
  hands_byte s begun b next e = record { steps = []; reads = λ more. read-after begun b (Goes next) more e; taken = refl }

  pub hands_step : (s : S) (begun : ReaderState) (b : ℕ) (step : Step) (t : S) (next : ReaderState) (most : ℕ) → after_byte begun b ≡ Ends most step → takes s step t → next ≡ BetweenStepsWithin most → HandsOn takes s begun (b ∷ []) t next []
  hands_step s begun b step t next most e took between = record {
    steps = step ∷ [];
    reads = λ more. read-after begun b (Ends most step) more e ∙ ap (λ (x : ReaderState). with_steps (step ∷ []) (read x more)) (sym between);
    taken = (t, took, refl);
  }

  -- with bytes after it
  pub hands_more : (s : S) (begun : ReaderState) (b : ℕ) (later : List ℕ) (t : S) (next : ReaderState) → HandsOn takes s begun (b ∷ []) t next [] → HandsOn takes s begun (b ∷ later) t next later
  hands_more s begun b later t next h = record { steps = h.steps; reads = λ more. h.reads (later ++ more); taken = h.taken }

  -- the rest of one is the next
  pub hands_on : (s : S) (a : ReaderState) (x : List ℕ) (t : S) (b : ReaderState) (y : List ℕ) (u : S) (c : ReaderState) (z : List ℕ) → HandsOn takes s a x t b y → HandsOn takes t b y u c z → HandsOn takes s a x u c z
  hands_on s a x t b y u c z p q = record {
    steps = p.steps ++ q.steps;
    reads = λ more. p.reads more ∙ ap (with_steps p.steps) (q.reads more) ∙ with_steps-append p.steps q.steps (read c (z ++ more));
    taken = takes_on takes s p.steps t q.steps u p.taken q.taken;
  }

  -- with more that is begun
  pub hands_skip : (s : S) (a : ReaderState) (x : List ℕ) (t : S) (b : ReaderState) (y : List ℕ) (c : ReaderState) (z : List ℕ) → HandsOn takes s a x t b y → SkipsTo b y c z → HandsOn takes s a x t c z
  hands_skip s a x t b y c z p skips = record { steps = p.steps; reads = λ more. p.reads more ∙ ap (with_steps p.steps) (skips more); taken = p.taken }

  -- after some steps memory ran out
  pub breaks_memory : (s : S) (a : ReaderState) (x : List ℕ) (t : S) (b : ReaderState) (y : List ℕ) → HandsOn takes s a x t b y → Breaks takes s a x t NoMemory
  breaks_memory s a x t b y p = record { steps = p.steps; taken = p.taken; reads = λ other. absurd (other refl) }

  pub breaks_byte : (s : S) (begun : ReaderState) (b : ℕ) (fault : TextFault) → (fault ≢ NoMemory → after_byte begun b ≡ Fails fault) → Breaks takes s begun (b ∷ []) s fault
  breaks_byte s begun b fault e = record { steps = []; taken = refl; reads = λ other more. read-after begun b (Fails fault) more (e other) }

  breaks_on : (s : S) (a : ReaderState) (x : List ℕ) (t : S) (b : ReaderState) (y : List ℕ) (u : S) (fault : TextFault) → HandsOn takes s a x t b y → Breaks takes t b y u fault → Breaks takes s a x u fault
  breaks_on s a x t b y u fault p q = record {
    steps = p.steps ++ q.steps;
    taken = takes_on takes s p.steps t q.steps u p.taken q.taken;
    reads = λ other more. p.reads more ∙ ap (with_steps p.steps) (q.reads other more);
  }

  module _ {F : Type 0} (refuses : S → Step → S → F → Type 0) where
    pub refuses_byte : (s : S) (begun : ReaderState) (b : ℕ) (step : Step) (t : S) (fault : F) (most : ℕ) → after_byte begun b ≡ Ends most step → refuses s step t fault → StepRefused takes refuses s begun (b ∷ []) t fault
    refuses_byte s begun b step t fault most e refused = record {
      before = s;
      step = step;
      steps = [];
      taken = refl;
      refused = refused;
      reads = λ more. (read (BetweenStepsWithin most) more, read-after begun b (Ends most step) more e);
    }

    refuses_on : (s : S) (a : ReaderState) (x : List ℕ) (t : S) (b : ReaderState) (y : List ℕ) (u : S) (fault : F) → HandsOn takes s a x t b y → StepRefused takes refuses t b y u fault → StepRefused takes refuses s a x u fault
    refuses_on s a x t b y u fault p q = record {
      before = q.before;
      step = q.step;
      steps = p.steps ++ q.steps;
      taken = takes_on takes s p.steps t q.steps q.before p.taken q.taken;
      refused = q.refused;
      reads = λ more.
          let r = q.reads more in
          (r.0, p.reads more ∙ ap (with_steps p.steps) r.1 ∙ with_steps-append p.steps (q.steps ++ q.step ∷ []) r.0 ∙ ap (λ (ss : List Step). with_steps ss r.0) (sym (append_assoc p.steps q.steps (q.step ∷ []))));
    }

    pub stops_on : (s : S) (a : ReaderState) (x : List ℕ) (t : S) (b : ReaderState) (y : List ℕ) (u : S) (fault : FeedFault F) → HandsOn takes s a x t b y → FeedStops takes refuses t b y u fault → FeedStops takes refuses s a x u fault
    stops_on s a x t b y u (Bytes fault) p q = breaks_on s a x t b y u fault p q
    stops_on s a x t b y u (OfStep fault) p q = refuses_on s a x t b y u fault p q

    -- with bytes after it
    pub stops_more : (s : S) (begun : ReaderState) (b : ℕ) (later : List ℕ) (t : S) (fault : FeedFault F) → FeedStops takes refuses s begun (b ∷ []) t fault → FeedStops takes refuses s begun (b ∷ later) t fault
    stops_more s begun b later t (Bytes fault) h = record { steps = h.steps; taken = h.taken; reads = λ other more. h.reads other (later ++ more) }
    stops_more s begun b later t (OfStep fault) h = record { before = h.before; step = h.step; steps = h.steps; taken = h.taken; refused = h.refused; reads = λ more. h.reads (later ++ more) }
