use Rattle.std.proofs.Common.{◌∙◌}
use Rattle.hl_keeper.specs.Parts.{pass_of}
use Rattle.hl_keeper.proofs.NewsLaws.{news_is, current_rider}
use Rattle.hl_keeper.proofs.news.keeps_up.Goals as goal

pub returns-clause-current : goal.returns-clause-current
returns-clause-current g c =
    let p = pass_of c.pass.inside.own c.pass.inside.touches c.pass.inside.rider in
    c.is_current.ensures ∙ current_rider p c.args.pass.now _ _ _ c.load_offset-read_only.new.rider c.load_offset-head.new.rider c.load_offset-ended.new.rider c.pass.view_is c.load_offset-read_only.ensures.view c.load_offset-head.ensures.view c.load_offset-ended.ensures.view

pub returns-clause-pass : goal.returns-clause-pass
returns-clause-pass g c =
    let p = pass_of c.pass.inside.own c.pass.inside.touches c.pass.inside.rider in
    news_is p c.args.pass.now _ _ _ c.load_offset-read_only.new.rider c.load_offset-head.new.rider c.load_offset-ended.new.rider c.pass.view_is c.load_offset-read_only.ensures.view c.load_offset-head.ensures.view c.load_offset-ended.ensures.view
