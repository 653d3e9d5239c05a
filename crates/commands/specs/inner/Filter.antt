-- A filter takes bytes, and the bytes that it hands out are appended to an unfinished file.
use Rattle.std.specs.Prelude.{◌≡◌, ◌++◌, ℕ, Bool, List, []}
use Rattle.std.specs.Global.{Vec}
use Rattle.std.proofs.Common.{sym, subst, append_assoc, append-nil}
use Rattle.commands.specs.declared.part_file.Part.{Part}
use Rattle.commands.specs.declared.filter.Ending.{Ending}
use Rattle.commands.specs.declared.filter.Ending.TheVariants.{Kept, Dropped}
use Rattle.commands.specs.Written.{Keeps}
use Rattle.reports.specs.declared.report.Report.{Report}
use Rattle.commands.specs.inner.Parts.{IsPart}

-- the bytes `more` were appended to the unfinished file, from its state `old` to `new`
abbrev pub Grew : {F : Type 0} → (F → List ℕ → List ℕ → Type 0) → Part F → Part F → List ℕ → Type 0
Grew made old new more = (binary : Bool) (path before : List ℕ) → IsPart made binary path before old → IsPart made binary path (before ++ more) new

-- the filter took these bytes, from its state `from` to `to`, and what it handed out meanwhile was written to the file, from its state
-- `old` to `new`
pub record HasFiltered {F T : Type 0} (made : F → List ℕ → List ℕ → Type 0) (moved : T → T → List ℕ → List ℕ → Type 0)
    (old new : Part F) (from to : T) (bytes : List ℕ) : Type 0 where
  pub out : List ℕ
  pub moves : moved from to bytes out
  pub grew : Grew made old new out

-- to a file that stays no bytes were written
pub grew_nothing : {F : Type 0} (made : F → List ℕ → List ℕ → Type 0) (p : Part F) → Grew made p p []
grew_nothing made p binary path before h =
    let P : List ℕ → Type 0 = λ text. IsPart made binary path text p in
    subst P (sym (append-nil before)) h

-- what is written in two turns is written as one concatenation
pub grew_more : {F : Type 0} (made : F → List ℕ → List ℕ → Type 0) (p q r : Part F) (us vs : List ℕ)
    → Grew made p q us → Grew made q r vs → Grew made p r (us ++ vs)
grew_more made p q r us vs h k binary path before start =
    let P : List ℕ → Type 0 = λ text. IsPart made binary path text r in
    subst P (append_assoc before us vs) (k binary path (before ++ us) (h binary path before start))

-- a filter that took and handed out nothing, over a file that stays, has filtered no bytes
pub filtered_nothing : {F T : Type 0} (made : F → List ℕ → List ℕ → Type 0) (moved : T → T → List ℕ → List ℕ → Type 0) (p : Part F) (s : T)
    → moved s s [] [] → HasFiltered made moved p p s s []
filtered_nothing made moved p s h = record { out = []; moves = h; grew = grew_nothing made p }

-- what is filtered in two turns is filtered as one concatenation
pub filtered_more : {F T : Type 0} (made : F → List ℕ → List ℕ → Type 0) (moved : T → T → List ℕ → List ℕ → Type 0)
    (more : (a b c : T) (xs ys us vs : List ℕ) → moved a b xs us → moved b c ys vs → moved a c (xs ++ ys) (us ++ vs))
    (p q r : Part F) (a b c : T) (xs ys : List ℕ)
    → HasFiltered made moved p q a b xs → HasFiltered made moved q r b c ys → HasFiltered made moved p r a c (xs ++ ys)
filtered_more made moved more p q r a b c xs ys h k = record {
  out = h.out ++ k.out;
  moves = more a b c xs ys h.out k.out h.moves k.moves;
  grew = grew_more made p q r h.out k.out h.grew k.grew;
}

-- the filter took a piece, and the bytes that waited then were written and handed out: it has filtered the piece
pub poured_piece : {F T : Type 0} (made : F → List ℕ → List ℕ → Type 0) (moved : T → T → List ℕ → List ℕ → Type 0)
    (more : (a b c : T) (xs ys us vs : List ℕ) → moved a b xs us → moved b c ys vs → moved a c (xs ++ ys) (us ++ vs))
    (p q : Part F) (a b c : T) (piece out : List ℕ)
    → moved a b piece [] → Grew made p q out → moved b c [] out → HasFiltered made moved p q a c piece
poured_piece made moved more p q a b c piece out h g k =
    let P : List ℕ → Type 0 = λ xs. moved a c xs out in
    record { out = out; moves = subst P (append-nil piece) (more a b c piece [] [] out h k); grew = g }

-- `Settles made kept old new part ending r`: from the disk `old` to `new` the written file (`part`)
-- is kept at its path with the last bytes, or the disk is as it was, as the filter ended. `made`
-- tells for which path an unfinished file is, and its bytes; `kept` what is kept between two disks;
-- r is the report.
abbrev pub Settles : {D F : Type 0} → (F → List ℕ → List ℕ → Type 0) → (D → D → List ℕ → List ℕ → Type 0) → D → D → Part F → Ending → Report → Type 0
Settles made kept old new part (Kept rest report) r = (r ≡ report) × ((binary : Bool) (path text : List ℕ) → IsPart made binary path text part → Keeps kept old new binary path (text ++ rest.items))
Settles made kept old new part (Dropped report) r = (r ≡ report) × (new ≡ old)

-- A filter took all of these bytes, and ended with the report. What it handed out, with its last bytes, is kept at the path, in binary form
-- if `binary`; or the disk is as it was.
pub data IsFiltered {D T : Type 0} (moved : T → T → List ℕ → List ℕ → Type 0) (ended : T → Ending → Type 0) (kept : D → D → List ℕ → List ℕ → Type 0)
    (old new : D) (binary : Bool) (path : List ℕ) (taker : T) (bytes : List ℕ) (r : Report) : Type 0 where
  keeps : (s : T) (out : List ℕ) (rest : Vec ℕ) → moved taker s bytes out → ended s (Kept rest r) → Keeps kept old new binary path (out ++ rest.items)
      → IsFiltered moved ended kept old new binary path taker bytes r
  drops : (s : T) (out : List ℕ) → moved taker s bytes out → ended s (Dropped r) → new ≡ old → IsFiltered moved ended kept old new binary path taker bytes r

-- if a filter took all bytes over an empty file, ended, and the file was settled so, it has filtered them to this end
pub poured_to : {D F T : Type 0} (made : F → List ℕ → List ℕ → Type 0) (moved : T → T → List ℕ → List ℕ → Type 0) (ended : T → Ending → Type 0)
    (kept : D → D → List ℕ → List ℕ → Type 0) (old new : D) (binary : Bool) (path : List ℕ) (p q : Part F) (a b : T) (bytes : List ℕ) (e : Ending) (r : Report)
    → IsPart made binary path [] p → HasFiltered made moved p q a b bytes → ended b e → Settles made kept old new q e r
    → IsFiltered moved ended kept old new binary path a bytes r
poured_to made moved ended kept old new binary path p q a b bytes (Kept rest report) r start poured end settles =
    let P : Report → Type 0 = λ x. ended b (Kept rest x) in
    keeps b poured.out rest poured.moves (subst P (sym settles.0) end) (settles.1 binary path poured.out (poured.grew binary path [] start))
poured_to made moved ended kept old new binary path p q a b bytes (Dropped report) r start poured end settles =
    let P : Report → Type 0 = λ x. ended b (Dropped x) in
    drops b poured.out poured.moves (subst P (sym settles.0) end) settles.1
