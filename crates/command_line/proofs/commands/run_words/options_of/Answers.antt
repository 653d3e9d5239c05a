use Rattle.std.proofs.Common.{ℕ, ◌∙◌, ap, codes, subst, sym}
use Rattle.command_line.specs.CommandLine.{NamesNumberOr, usual_depth}
use Rattle.command_line.proofs.WordLemmas.{if_none, read_flag, same_number}
use Rattle.command_line.proofs.commands.run_words.options_of.Goals as goal

pub returns-in_err-depth-clause-none : goal.returns-in_err-depth-clause-none
returns-in_err-depth-clause-none c =
    if_none c.from_residual-in_err-depth.result _ (λ options names.
    let same = same_number c.args.given.now.rows (codes "workers") 1 64 2 _ _ names.workers_is c.in_ok-workers.ensures.found in
    let usual = ap (usual_depth c.args.place) same ∙ sym c.usual_depth.ensures.depth in
    c.in_err-depth.ensures.none options.depth (subst (λ (u : ℕ). NamesNumberOr c.args.given.now.rows (codes "depth") 0 16 u options.depth) usual names.depth_is))

pub returns-in_err-incarnation-clause-none : goal.returns-in_err-incarnation-clause-none
returns-in_err-incarnation-clause-none c =
    if_none c.from_residual-in_err-incarnation.result _ (λ options names. c.in_err-incarnation.ensures.none options.incarnation names.incarnation_is)

pub returns-in_err-defs-clause-none : goal.returns-in_err-defs-clause-none
returns-in_err-defs-clause-none c =
    if_none c.from_residual-in_err-defs.result _ (λ options names. c.in_err-defs.ensures.none options.defs names.defs_is)

pub returns-in_err-patience-clause-none : goal.returns-in_err-patience-clause-none
returns-in_err-patience-clause-none c =
    if_none c.from_residual-in_err-patience.result _ (λ options names. c.in_err-patience.ensures.none options.patience names.patience_is)

pub returns-clause-found : goal.returns-clause-found
returns-clause-found c =
    let ahead = c.flag.ensures in
    let progress = c.flag-2.ensures in
    let rounds = c.flag-3.ensures in
    let binary = c.flag-4.ensures in
    let printing = c.printing_of-printing.ensures in
    record {
      workers_is = c.in_ok-workers.ensures.found;
      depth_is = subst (λ (u : ℕ). NamesNumberOr c.args.given.now.rows (codes "depth") 0 16 u c.in_ok-depth.depth) c.usual_depth.ensures.depth c.in_ok-depth.ensures.found;
      limit_is = c.in_ok-limit.ensures.found;
      session_is = c.in_ok-session.ensures.found;
      number_is = c.in_ok-number.ensures.found;
      incarnation_is = c.in_ok-incarnation.ensures.found;
      defs_is = c.in_ok-defs.ensures.found;
      ahead_is = read_flag c.args.given.now.rows (codes "ahead") c.flag.result ahead.none ahead.yes ahead.no;
      patience_is = c.in_ok-patience.ensures.found;
      progress_is = read_flag c.args.given.now.rows (codes "progress") c.flag-2.result progress.none progress.yes progress.no;
      rounds_is = read_flag c.args.given.now.rows (codes "rounds") c.flag-3.result rounds.none rounds.yes rounds.no;
      binary_is = read_flag c.args.given.now.rows (codes "binary") c.flag-4.result binary.none binary.yes binary.no;
      quiet_is = printing.quiet_is;
      witness_is = printing.witness_is;
    }

pub returns-in_err-workers-clause-none : goal.returns-in_err-workers-clause-none
returns-in_err-workers-clause-none c =
    if_none c.from_residual.result _ (λ options names. c.in_err-workers.ensures.none options.workers names.workers_is)

pub returns-in_err-limit-clause-none : goal.returns-in_err-limit-clause-none
returns-in_err-limit-clause-none c =
    if_none c.from_residual-in_err-limit.result _ (λ options names. c.in_err-limit.ensures.none options.limit names.limit_is)

pub returns-in_err-session-clause-none : goal.returns-in_err-session-clause-none
returns-in_err-session-clause-none c =
    if_none c.from_residual-in_err-session.result _ (λ options names. c.in_err-session.ensures.none options.session names.session_is)

pub returns-in_err-number-clause-none : goal.returns-in_err-number-clause-none
returns-in_err-number-clause-none c =
    if_none c.from_residual-in_err-number.result _ (λ options names. c.in_err-number.ensures.none options.number names.number_is)

pub returns-clause-range : goal.returns-clause-range
returns-clause-range c =
    let workers = c.in_ok-workers.ensures.range in
    let limit = c.in_ok-limit.ensures.range in
    let number = c.in_ok-number.ensures.range in
    record {
      some_worker = workers.0;
      few_workers = workers.1;
      depth = c.in_ok-depth.ensures.range.1;
      least = limit.0;
      most = limit.1;
      first_number = number.0;
      last_number = number.1;
      few_definitions = c.in_ok-defs.ensures.range.1;
    }
