use Rattle.std.proofs.Common.{◌+◌, ◌<◌, ◌≤◌, ◌^◌, refl, arith}
use Rattle.lrat_text.specs.Grammar.{IsClauseNumber}
use Rattle.shared_logs.specs.SharedLogs.{Clock}
use Rattle.cell_worker.specs.WorkerLog.{log_state}
use Rattle.cell_worker.specs.inner.SharedLines.{clock_text}
use Rattle.cell_worker.proofs.SpellingLemmas.{clock_open, clock_spelled}
use Rattle.cell_worker.proofs.WrittenLemmas.{written_line}
use Rattle.cell_worker.proofs.worker.CellWorker.advance.Goals as goal

pub returns-clause-stands : goal.returns-clause-stands
returns-clause-stands g c = λ F names steps text h.
    let s = c.args.self.now in
    let time = c.max-time.result + 1 in
    let u = record s { log = c.put_clock.new.out; clock = time } in
    let small : time ≤ 2 ^ 40 = (let l = c.if-time-ge-LAST_TIME.false in omega arith) in
    let number : IsClauseNumber time = (omega arith, omega arith) in
    let later : (log_state F steps).clock < time = (let e = h.clock in let m = c.max-time.ensures in omega arith) in
    written_line F names steps text s u (clock_text time) (Clock time) c.in_ok-put_clock.ensures (clock_open time number) (clock_spelled time small) later refl refl refl h.last refl refl (λ given M p k. (M, p, k)) h
