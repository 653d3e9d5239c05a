use Rattle.std.proofs.Common.{◌∙◌, List, ℕ, ap, arith}
use Rattle.std.proofs.lemmas.Result.{err_from_is_err_and}
use Rattle.shared_lines.specs.Lines.{Name}
use Rattle.shared_lines.proofs.KindLemmas.{only_clock, only_import, only_name}
use Rattle.shared_lines.proofs.line_buffer.SharedLineBuffer.read.Goals as goal

pub returns-in-Some-clause-only : goal.returns-in-Some-clause-only
returns-in-Some-clause-only c = λ x s. ap (λ (a : List ℕ). Name c.in-Some.number a) c.in_ok-replace.ensures ∙ only_name c.args.most c.args.line.now c.in-Some.number c.in-Some.name.now c.in-Some.ensures x s

pub returns-in-Some-read_clock-clause-only : goal.returns-in-Some-read_clock-clause-only
returns-in-Some-read_clock-clause-only c = λ x s. only_clock c.args.most c.args.line.now c.in-Some-read_clock.time c.in-Some-read_clock.ensures x s

pub returns-in_err-log-in-Some-cut_import-clause-only : goal.returns-in_err-log-in-Some-cut_import-clause-only
returns-in_err-log-in-Some-cut_import-clause-only c = λ x s.
    let i = only_import c.args.most c.args.line.now c.in-Some-cut_import.front.now c.in-Some-cut_import.rest.now c.self.inside.name.items c.read_import.new.step c.read_import.result
    (omega (arith, c.requires)) c.in-Some-cut_import.ensures.0 c.in-Some-cut_import.ensures.1 c.in_default.ensures c.in_default-read_clock.ensures c.read_import.ensures.only x s in
    let p = err_from_is_err_and c.from_residual-in_err-log-in-Some-cut_import.result c.from_residual-in_err-log-in-Some-cut_import.ensures.1 in
    rw (p.1, p.2) (i.wanting c.in_err-log-in-Some-cut_import.field-0.0 c.in_err-log-in-Some-cut_import.was)

pub returns-in_ok-log-in-Some-cut_import-clause-only : goal.returns-in_ok-log-in-Some-cut_import-clause-only
returns-in_ok-log-in-Some-cut_import-clause-only c = λ x s.
    let i = only_import c.args.most c.args.line.now c.in-Some-cut_import.front.now c.in-Some-cut_import.rest.now c.self.inside.name.items c.read_import.new.step c.read_import.result
    (omega (arith, c.requires)) c.in-Some-cut_import.ensures.0 c.in-Some-cut_import.ensures.1 c.in_default.ensures c.in_default-read_clock.ensures c.read_import.ensures.only x s in
    i.well (c.in_ok-log-in-Some-cut_import.log, c.in_ok-log-in-Some-cut_import.there) c.in_ok-log-in-Some-cut_import.was
