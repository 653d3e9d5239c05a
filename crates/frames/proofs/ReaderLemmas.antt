-- A reader takes a piece.
use Rattle.std.proofs.Common.{◌≡◌, ◌≢◌, ℕ, ◌+◌, ◌<◌, List, [], ◌∷◌, ◌++◌, length, take, drop, get_or, refl, sym, ap, subst, ◌∙◌, append_assoc, arith, Result, Ok, Err}
use Rattle.std.specs.Global.{Vec}
use Rattle.std.proofs.lemmas.List.{append-nil, take_more, take-append-drop}
use Rattle.std.proofs.lemmas.List.Concat.{flat_map-cons}
use Rattle.std.proofs.lemmas.Grind.{flat_map-append}
use Rattle.frames.specs.declared.fault.FrameFault.TheVariants.{BadMark, BadKind, BadLength, BadField, NoMemory}
use Rattle.frames.specs.declared.fault.FrameFault.{FrameFault}
use Rattle.frames.specs.declared.frame.Frame.{Frame}
use Rattle.frames.specs.Stream.{Open, Fault, Ends, Splits, StopsBefore, Stream, Progress, Within, Failed, HasTaken, TakesPiece, answer_in, joined}
use Rattle.frames.proofs.Streams.{splits_none, splits_then, stream_then, stream_more}

pub takes_nothing : (fault : FrameFault) (piece : List ℕ) (frames : List Frame) → TakesPiece (Failed fault) piece frames frames (Err fault) (Failed fault)
takes_nothing fault piece frames = record { appended = []; frames = sym (append-nil frames); answers = refl; history = λ bytes given taken. stream_more bytes given fault piece taken }

pub takes_within : (rest piece rest' : List ℕ) (before after new : List Frame) → after ≡ before ++ new → Splits (rest ++ piece) new rest' → Ends rest' Open → TakesPiece (Within rest) piece before after (Ok tt) (Within rest')
takes_within rest piece rest' before after new frames splits still = record { appended = new; frames = frames; answers = refl; history = λ bytes given taken. (splits_then bytes given rest piece new rest' taken.0 splits, still) }

pub takes_fault : (rest piece : List ℕ) (fault : FrameFault) (before after new : List Frame) → after ≡ before ++ new → Stream (rest ++ piece) new (Fault fault) → TakesPiece (Within rest) piece before after (Err fault) (Failed fault)
takes_fault rest piece fault before after new frames stream = record { appended = new; frames = frames; answers = refl; history = λ bytes given taken. stream_then bytes given rest piece new (Fault fault) taken.0 stream }

-- ---- a stream in pieces

-- one piece more
pub joined_more : (ps : List (Vec ℕ)) (i : ℕ) (p : Vec ℕ) → i < length ps → p ≡ get_or ps i p → joined (take (i + 1) ps) ≡ joined (take i ps) ++ p.items
joined_more ps i p lt e =
    let items : Vec ℕ → List ℕ = λ q. q.items in
    ap joined (take_more ps i p lt ∙ ap (λ q. take i ps ++ q ∷ []) (sym e)) ∙ flat_map-append items (take i ps) (p ∷ []) ∙ ap (λ (bytes : List ℕ). joined (take i ps) ++ bytes) (flat_map-cons items p [] ∙ append-nil p.items)

-- the pieces up to one, and those after it
pub joined_split : (ps : List (Vec ℕ)) (i : ℕ) (p : Vec ℕ) → i < length ps → p ≡ get_or ps i p → joined ps ≡ (joined (take i ps) ++ p.items) ++ joined (drop (i + 1) ps)
joined_split ps i p lt e =
    ap joined (sym (take-append-drop (i + 1) ps)) ∙ flat_map-append (λ q. q.items) (take (i + 1) ps) (drop (i + 1) ps) ∙ ap (λ (bytes : List ℕ). bytes ++ joined (drop (i + 1) ps)) (joined_more ps i p lt e)

abbrev pub failing : FrameFault → Result (Unit {0}) FrameFault
failing fault = Err fault

-- a result without a fault is not `NoMemory`
pub well_answered : (u : Unit {0}) → (let well : Result (Unit {0}) FrameFault = Ok u in well) ≢ failing NoMemory
well_answered u = λ e. cc

-- if a fault stops the reading, it is the stream's
pub record Stops (fault : FrameFault) (all : List ℕ) (before after : List Frame) : Type 0 where
  pub new : List Frame
  pub frames : after ≡ before ++ new
  pub stream : fault ≢ NoMemory → Stream all new (Fault fault)

failed_stream : (fault : FrameFault) (new : Progress) (bytes : List ℕ) (frames : List Frame) → failing fault ≡ answer_in new → HasTaken new bytes frames → Stream bytes frames (Fault fault)
failed_stream fault (Within rest) bytes frames e taken = absurd cc
failed_stream fault (Failed g) bytes frames e taken = let same : g ≡ fault = cc in subst (λ f. Stream bytes frames (Fault f)) same taken

pub stops : (fault : FrameFault) (old new : Progress) (done piece rest all : List ℕ) (before mid after given : List Frame) → mid ≡ before ++ given → HasTaken old done given → all ≡ (done ++ piece) ++ rest
    → (failing fault ≢ failing NoMemory → TakesPiece old piece mid after (Err fault) new) → (failing fault ≡ failing NoMemory → (new ≡ old) × (after ≡ mid)) → Stops fault all before after
stops fault old new done piece rest all before mid after given frames taken whole takes refused = by_fault fault refl
  where
    other_fault : fault ≢ NoMemory → Stops fault all before after
    other_fault other =
        let t = takes (λ e. other cc) in
        let stream = stream_more (done ++ piece) (given ++ t.appended) fault rest (failed_stream fault new (done ++ piece) (given ++ t.appended) t.answers (t.history done given taken)) in
        record {
          new = given ++ t.appended;
          frames = t.frames ∙ ap (λ x. x ++ t.appended) frames ∙ append_assoc before given t.appended;
          stream = λ _. subst (λ b. Stream b (given ++ t.appended) (Fault fault)) (sym whole) (subst (λ fs. Stream ((done ++ piece) ++ rest) fs (Fault fault)) (append-nil (given ++ t.appended)) stream);
        }

    by_fault : (f : FrameFault) → fault ≡ f → Stops fault all before after
    by_fault NoMemory e = record { new = given; frames = (refused (ap failing e)).1 ∙ frames; stream = λ other. absurd (other e) }
    by_fault BadMark e = other_fault (λ n. let q : BadMark ≡ NoMemory = sym e ∙ n in cc)
    by_fault BadKind e = other_fault (λ n. let q : BadKind ≡ NoMemory = sym e ∙ n in cc)
    by_fault BadLength e = other_fault (λ n. let q : BadLength ≡ NoMemory = sym e ∙ n in cc)
    by_fault BadField e = other_fault (λ n. let q : BadField ≡ NoMemory = sym e ∙ n in cc)

-- ---- `NoMemory`

pub open_stream : (old : Progress) (bytes : List ℕ) (frames : List Frame) → answer_in old ≡ Ok tt → HasTaken old bytes frames → Stream bytes frames Open
open_stream (Within rest) bytes frames well taken = (rest, taken.0, taken.1)
open_stream (Failed g) bytes frames well taken = absurd cc

pub stops_before : (ps : List (Vec ℕ)) (i : ℕ) (old : Progress) (before mid after given : List Frame) → i < length ps → mid ≡ before ++ given → after ≡ mid → answer_in old ≡ Ok tt → HasTaken old (joined (take i ps)) given → StopsBefore ps before after
stops_before ps i old before mid after given l frames same well taken = record {
  count = i;
  few = omega arith;
  appended = given;
  frames = same ∙ frames;
  stream = open_stream old (joined (take i ps)) given well taken;
}

pub stops_at_once : (ps : List (Vec ℕ)) (before : List Frame) → StopsBefore ps before before
stops_at_once ps before = record {
  count = 0;
  few = omega arith;
  appended = [];
  frames = sym (append-nil before);
  stream = ([], splits_none [], refl);
}
