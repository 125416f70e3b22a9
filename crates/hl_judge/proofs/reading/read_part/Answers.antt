use Rattle.std.proofs.Common.{[], sym, ◌∙◌, append-nil, eqb-true}
use Rattle.hl_judge.proofs.ReadLaws.{read_nothing, read_kept, end_shown}
use Rattle.hl_judge.proofs.reading.read_part.Goals as goal

pub returns-then-is_empty-clause-ok : goal.returns-then-is_empty-clause-ok
returns-then-is_empty-clause-ok g c =
    let rested = c.fill_buf.follows.lender-at-none in
    let kept = rw c.in-Ok.is at c.fill_buf.follows.holds-at-none in (
      [],
      sym (append-nil c.args.bytes.now.items),
      (
        read_kept (g.R.Read.remaining c.args.reader.now) (g.R.Read.remaining c.args.reader.now) (g.R.Read.remaining rested) [] (read_nothing (g.R.Read.remaining c.args.reader.now)) kept.0,
        end_shown (g.R.Read.remaining c.args.reader.now) (g.R.Read.remaining rested) c.in-Ok.shown.now kept.0 c.in-Ok.ensures.end (eqb-true _ _ (sym c.is_empty.ensures ∙ c.if-is_empty.true)),
      ),
    )
