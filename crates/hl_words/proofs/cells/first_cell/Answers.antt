use Rattle.hl_words.proofs.PageCells.{page_few}
use Rattle.hl_words.proofs.cells.first_cell.Goals as goal

pub returns-clause-few : goal.returns-clause-few
returns-clause-few c =
    let s = c.args.sizes in
    rw (c.frames.ensures.value, c.page_size.ensures.value) (page_few s.page_size s.frames c.args.page c.frames.ensures.valid.frames_least c.frames.ensures.valid.frames_most c.frames.ensures.valid.page_size_most)
