use Rattle.std.proofs.Common.{◌∙◌, ℕ, ◌++◌, ap, codes}
use Rattle.sessions.specs.Reports.{count_text, total}
use Rattle.sessions.proofs.ReportLemmas.{four_more}
use Rattle.sessions.proofs.report.put_tally.Goals as goal

pub returns : goal.returns
returns c =
    let t = c.args.t in
    let o = c.args.out.now.items in
    four_more c.put_count-4.result o (count_text (total t) (codes " queries: ")) (count_text t.satisfied (codes " satisfiable, ")) (count_text t.failed (codes " unsatisfiable, ")) (count_text t.unknown (codes " unknown\n"))
    c.put_count.new.out.items c.put_count-2.new.out.items c.put_count-3.new.out.items c.put_count-4.new.out.items
    (c.in_ok-put_count.ensures ∙ ap (λ (n : ℕ). o ++ count_text n (codes " queries: ")) c.in_ok-total.ensures) c.in_ok-put_count-2.ensures c.in_ok-put_count-3.ensures c.put_count-4.ensures
