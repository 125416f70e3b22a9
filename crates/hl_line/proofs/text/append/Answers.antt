use Rattle.std.proofs.Common.{◌++◌, length, ap, arith, rules, take, length-append}
use Rattle.std.specs.List.{flat_map}
use Rattle.std.proofs.lemmas.List.Folds.{length-flat_map-take}
use Rattle.hl_line.specs.Lines.{spaced, worded}
use Rattle.hl_line.proofs.text.append.Goals as goal

pub append_number-requires : goal.append_number-requires
unfolding worded
append_number-requires g c =
    let i = c.loop-number.number-index in
    let xs = c.args.numbers.now in
    let word = c.args.word.now in
    let here = length-flat_map-take spaced xs i 0 (omega arith) in
    let so_far = ap length c.loop-number.invariant in
    (search rules, omega (arith, length-append c.args.text.now.bytes (word ++ flat_map spaced (take i xs)), length-append word (flat_map spaced xs), length-append word (flat_map spaced (take i xs))))
