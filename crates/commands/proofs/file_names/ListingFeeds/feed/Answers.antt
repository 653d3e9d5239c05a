use Rattle.std.proofs.Common.{◌++◌, ◌∷◌, ◌∙◌, [], ℕ, List, ap, sym, subst, append_assoc, append-nil, get_or, take}
use Rattle.std.proofs.lemmas.List.{take_all, take_more}
use Rattle.commands.specs.inner.Join.{IsListing}
use Rattle.commands.proofs.file_names.ListingFeeds.feed.Goals as goal

pub loop-i-init : goal.loop-i-init
loop-i-init g c = λ disk options F cubes list h.
    let old = c.args.self.now in
    let P : List ℕ → Type 0 = λ bytes. IsListing g.D.Drafts.made g.D.Disk.holds g.D.Drafts.apart disk options F cubes bytes old.run.joined.disk.now old.run.joined.join old.run.joined.part old.run.sheet old.begun.items old.found in
    subst P (sym (append-nil list)) h

pub loop-i-preserved : goal.loop-i-preserved
loop-i-preserved g c = λ disk options F cubes list h.
    let new = c.take_byte.new.listing in
    let piece = c.args.piece.now in
    let i = c.loop-i.i in
    let P : List ℕ → Type 0 = λ bytes. IsListing g.D.Drafts.made g.D.Disk.holds g.D.Drafts.apart disk options F cubes bytes new.run.joined.disk.now new.run.joined.join new.run.joined.part new.run.sheet new.begun.items new.found in
    subst P (sym (ap (λ (xs : List ℕ). list ++ xs) (take_more piece i 0 c.loop-i-test.true) ∙ sym (append_assoc list (take i piece) (get_or piece i 0 ∷ []))))
    (c.in_ok-take_byte.ensures.listed disk options F cubes (list ++ take i piece) (c.loop-i.invariant disk options F cubes list h))

pub returns-clause-taken : goal.returns-clause-taken
returns-clause-taken g c = λ disk options F cubes list h.
    let new = c.loop-i.self in
    let P : List ℕ → Type 0 = λ bytes. IsListing g.D.Drafts.made g.D.Disk.holds g.D.Drafts.apart disk options F cubes bytes new.run.joined.disk.now new.run.joined.join new.run.joined.part new.run.sheet new.begun.items new.found in
    subst P (ap (λ (xs : List ℕ). list ++ xs) (take_all c.loop-i.i c.args.piece.now c.loop-i-test.false)) (c.loop-i.invariant disk options F cubes list h)
