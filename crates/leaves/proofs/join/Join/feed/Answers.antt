use Rattle.std.proofs.Common.{refl, sym}
use Rattle.leaves.specs.declared.join.FileState.TheVariants.{Begun, Refused}
use Rattle.leaves.proofs.JoinLemmas.{holds_read, kind_as, no_length, no_piece, not_nothing, opened_as, read_as, refused_more_bytes, some_length}
use Rattle.leaves.proofs.join.Join.feed.Goals as goal

pub returns-in-Refused : goal.returns-in-Refused
returns-in-Refused c = record {
  holds = λ F cubes files bytes written h.
      let now = c.open.new.self in
      let s = c.open.ensures.stands F cubes files bytes written h.stands in
      record {
        stands = record {
          formula = s.formula;
          few = s.few;
          logs = s.logs;
          closing = s.closing;
          read = read_as (Refused c.in-Refused.field-0) now.reading F cubes s.logs _ now.begun written now.lines (sym c.in-Refused.is)
              (refused_more_bytes F cubes s.logs c.in-Refused.field-0 bytes c.args.piece.now written now.lines (read_as now.reading (Refused c.in-Refused.field-0) F cubes s.logs bytes now.begun written now.lines c.in-Refused.is s.read));
        };
        read_as = opened_as c.args.piece.now bytes _ c.args.self.now.reading now.reading (some_length c.args.piece.now c.if-is_empty.ensures) refl c.open.ensures.kind h.read_as;
      };
}

pub returns-then-is_empty : goal.returns-then-is_empty
returns-then-is_empty c = record { holds = no_piece c.args.piece.now c.args.self.now (no_length c.args.piece.now c.if-is_empty.ensures) }

pub returns-in-Begun : goal.returns-in-Begun
returns-in-Begun c = record {
  holds = λ F cubes files bytes written h.
      let some = some_length c.args.piece.now c.if-is_empty.ensures in
      let opened = opened_as c.args.piece.now bytes _ c.args.self.now.reading c.open.new.self.reading some refl c.open.ensures.kind h.read_as in
      absurd (not_nothing bytes c.args.piece.now some (kind_as c.open.new.self.reading Begun _ c.in-Begun.is opened));
}

pub returns : goal.returns
returns c = record {
  holds = holds_read c.read.result c.args.piece.now _ c.args.self.now c.open.new.self c.read.new.self (some_length c.args.piece.now c.if-is_empty.ensures) refl
      c.open.ensures.stands c.open.ensures.kind c.read.ensures.stands c.read.ensures.kind;
}
