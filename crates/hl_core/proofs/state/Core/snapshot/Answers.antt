use Rattle.std.proofs.Common.{sym, ap, ◌∙◌, length}
use Rattle.std.proofs.lemmas.List.{length-map}
use Rattle.hl_core.proofs.SnapshotStands.{snapshot_told}
use Rattle.hl_core.proofs.state.Core.snapshot.Goals as goal

pub returns : goal.returns
returns g c = λ A st.
    rw (sym c.self.view_is)
    (snapshot_told g.J.Tagged.tag _ A c.current.result c.safe.result c.protected.result c.pending_count.result _ c.six.result c.frame_counts.result (rw (sym c.self.view_is) at st)
    c.current.ensures.value c.safe.ensures.value c.protected.ensures (c.pending_count.ensures.count ∙ sym (length-map _ _)) (ap length c.taken_row.ensures.list)
    (rw (sym c.self.view_is) at (c.six.ensures.value A st)) (rw (sym c.self.view_is) at (c.frame_counts.ensures A st)))
