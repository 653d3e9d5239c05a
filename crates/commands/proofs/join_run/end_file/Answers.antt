use Rattle.std.proofs.Common.{◌++◌, ◌∷◌, []}
use Rattle.commands.proofs.KnownLemmas.{if_ok_before, on_ok_before}
use Rattle.commands.proofs.join_run.end_file.Goals as goal

pub returns-clause-ends : goal.returns-clause-ends
returns-clause-ends g c = λ target F cubes files bytes h.
    let tells = if_ok_before c.end.result c.map_err.result c.in_ok-end.end _ _ c.map_err.ensures.cases c.in_ok-end.was c.end.ensures.tells in
    let holds = on_ok_before c.end.result c.map_err.result c.in_ok-end.end _ _ c.map_err.ensures.cases c.in_ok-end.was c.end.ensures.holds in
    let whole = on_ok_before c.end.result c.map_err.result c.in_ok-end.end _ _ c.map_err.ensures.cases c.in_ok-end.was c.end.ensures.whole in
    record {
      tells = tells F cubes files bytes h.written h.holds;
      form = c.is_binary-is_binary.ensures F cubes files bytes h.written h.holds whole;
      stands = record {
        written = h.written ++ c.end.new.self.join.lines.out.items;
        holds = c.in_ok-write.ensures.holds F cubes (files ++ bytes ∷ []) [] h.written (holds F cubes files bytes h.written h.holds);
        part_is = c.in_ok-write.ensures.part target h.written h.part_is;
      };
    }
