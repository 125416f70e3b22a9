use Rattle.std.proofs.Common.{rules, ◌≡◌, [], ◌∷◌, ◌++◌}
use Rattle.hl.proofs.WordsLeft.{more_left}
use Rattle.hl.proofs.left.words_left.Goals as goal

pub loop-address-preserved : goal.loop-address-preserved
loop-address-preserved g c =
    let is : c.push.new.self.items ≡ c.loop-address.words.items ++ c.in-Some.word ∷ [] = search rules in
    more_left c.args.sizes c.args.device.now c.args.ending.now c.loop-address.words.items _ c.in-Some.word c.loop-address.address c.loop-address.invariant is c.in-Some.ensures.left
