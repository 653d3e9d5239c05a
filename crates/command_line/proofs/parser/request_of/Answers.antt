use Rattle.command_line.proofs.NameLemmas.{makes_none}
use Rattle.command_line.proofs.parser.request_of.Goals as goal

pub returns-in_default-clause-none : goal.returns-in_default-clause-none
returns-in_default-clause-none c =
    let other = c.in_default in
    makes_none c.name.result.now c.args.given.now.name c.args.given.now.rows c.name.ensures (record {
      no_decide = other.not-decide;
      no_solve = other.not-solve;
      no_check = other.not-check;
      no_cubes = other.not-cubes;
      no_serve = other.not-serve;
      no_work = other.not-work;
      no_drill = other.not-drill;
      no_leaf = other.not-leaf;
      no_refute = other.not-refute;
      no_join = other.not-join;
      no_lift = other.not-lift;
      no_model = other.not-model;
      no_trim = other.not-trim;
      no_elaborate = other.not-elaborate;
      no_receipt = other.not-receipt;
      no_cover = other.not-cover;
      no_session = other.not-session;
      no_share = other.not-share;
      no_weave = other.not-weave;
    })
