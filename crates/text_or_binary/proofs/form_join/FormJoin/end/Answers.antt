use Rattle.std.proofs.Common.{◌≡◌, ◌∙◌, ◌∷◌, ◌++◌, ℕ, List, [], false, map, sym, subst}
use Rattle.leaves.specs.Join as joins
use Rattle.lrat_forms.specs.Forms.{text_form_within}
use Rattle.lrat_forms.specs.Pieces.{HasGivenWithin, is_cut}
use Rattle.lrat_text.specs.Log.{log_top}
use Rattle.text_or_binary.specs.declared.form_join.FormJoin.{FormJoin}
use Rattle.text_or_binary.proofs.FormLemmas.{join_ended, join_whole}
use Rattle.text_or_binary.proofs.form_join.FormJoin.end.Goals as goal

pub returns-clause-holds : goal.returns-clause-holds
returns-clause-holds c =
    let f = c.args.self.now in
    let uncut : is_cut f.form.stage ≡ false = sym c.is_cut.ensures ∙ c.if-is_cut.false in
    let g : FormJoin = record { alloc = f.alloc; form = c.within.result; join = c.end.new.self } in
    λ F cubes files bytes written h.
    let form : List ℕ → List ℕ = text_form_within (log_top F) in
    let ended : joins.HasReadFiles F cubes (map form files ++ form bytes ∷ []) [] written c.end.new.self =
    c.in_ok-end.ensures.holds F cubes (map form files) (form bytes) written (join_whole f c.rest.result.now c.feed.new.self c.rest.ensures uncut c.in_ok-feed.ensures.holds F cubes files bytes written h) in
    join_ended g F cubes files bytes written
    (subst (λ (n : ℕ). HasGivenWithin n c.within.result [] []) (c.most.ensures.value F cubes (map form files ++ form bytes ∷ []) [] written ended) c.within.ensures) ended

pub returns-clause-tells : goal.returns-clause-tells
returns-clause-tells c =
    let f = c.args.self.now in
    let uncut : is_cut f.form.stage ≡ false = sym c.is_cut.ensures ∙ c.if-is_cut.false in
    λ F cubes files bytes written h.
    c.in_ok-end.ensures.tells F cubes (map (text_form_within (log_top F)) files) (text_form_within (log_top F) bytes) written (join_whole f c.rest.result.now c.feed.new.self c.rest.ensures uncut c.in_ok-feed.ensures.holds F cubes files bytes written h)
