-- What a service reports, why the run of its coordinator ended, and how it hands out the verdict.
use Rattle.std.specs.Prelude.{◌≡◌, ℕ, Bool, List, Option, Some, None, ⊤}
use Rattle.lrat_check.specs.declared.verdict.Verdict.{Verdict}
use Rattle.lrat_check.specs.declared.verdict.Verdict.TheVariants.{Nothing, Model, Proof}
use Rattle.event_loop.specs.Accounts.{nobody, open_of}
use Rattle.event_loop.specs.Ending.{HandsOut, HasEnded}
use Rattle.event_loop.specs.Run.{verdict_of}
use Rattle.event_loop.specs.declared.run.Run.{Run}
use Rattle.reports.specs.declared.report.Report.{Report}
use Rattle.node_main.specs.declared.commands.service.Service.{Service}

-- the proof that a verdict has; none of an assignment or of `Nothing`
abbrev pub proof_in : Verdict → Option (List ℕ)
proof_in Nothing = None
proof_in (Model values) = None
proof_in (Proof text) = Some text

-- `report_with report run`: the report with the proof that the coordinator of the run holds; without a run, the report
abbrev pub report_with : Report → Option Run → Report
report_with report None = report
report_with report (Some run) = record report { proof = proof_in (verdict_of run) }

-- the report of a service: its text and status, with the proof that its coordinator holds
abbrev pub report_of : Service → Report
report_of service = report_with service.report service.run

-- `links_in run place`: 1 if the run has an open connection at this place, else 0; 0 without a run
abbrev pub links_in : Option Run → ℕ → ℕ
links_in None = nobody
links_in (Some run) = open_of run

-- `links_of service place`: 1 if the coordinator of the service has an open connection at this place, else 0
abbrev pub links_of : Service → ℕ → ℕ
links_of service = links_in service.run

-- why a run, if there is one, has ended between these counts of events; `is_at_end` tells that no event can come any more
abbrev pub HasEndedIn : (before after : ℕ) → (is_at_end : Bool) → Option Run → Type 0
HasEndedIn before after is_at_end None = ⊤
HasEndedIn before after is_at_end (Some run) = HasEnded before after is_at_end run

-- why the run of a service, if it has one, has ended between these counts of events; `is_at_end` tells that no event can come any more
abbrev pub HasEndedBy : (before after : ℕ) → (is_at_end : Bool) → Service → Type 0
HasEndedBy before after is_at_end service = HasEndedIn before after is_at_end service.run

-- `HandsOutIn old calls_before calls_after before after is_at_end new`: how a run, if there is one, that is `old` before and `new` after
-- hands out its verdict, between these counts of calls and of events
abbrev pub HandsOutIn : Option Run → (calls_before calls_after before after : ℕ) → (is_at_end : Bool) → Option Run → Type 0
HandsOutIn None calls_before calls_after before after is_at_end new = calls_after ≡ calls_before
HandsOutIn (Some old) calls_before calls_after before after is_at_end None = ⊥
HandsOutIn (Some old) calls_before calls_after before after is_at_end (Some new) = HandsOut old calls_before calls_after before after is_at_end new

-- how a service that is `old` before and `new` after hands out its verdict, between these counts of calls and of events
abbrev pub HandsOutBy : (old : Service) → (calls_before calls_after before after : ℕ) → (is_at_end : Bool) → (new : Service) → Type 0
HandsOutBy old calls_before calls_after before after is_at_end new = HandsOutIn old.run calls_before calls_after before after is_at_end new.run
