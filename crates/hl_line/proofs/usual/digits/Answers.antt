use Rattle.std.proofs.Common.{rules, arith, ◌+◌, ◌*◌, ◌<◌, ◌^◌}
use Rattle.hl_line.proofs.Digits.{first_digit, next_in}
use Rattle.hl_line.proofs.usual.digits.Goals as goal

pub loop-count-init : goal.loop-count-init
loop-count-init c = record {
  some = c.requires.first.0;
  fits = omega (arith, c.requires.first.1);
  within = omega (arith, c.requires.some);
  value = first_digit c.args.bytes.now c.args.first c.requires.some c.requires.first.1 c.requires.here;
}

pub loop-count-preserved : goal.loop-count-preserved
loop-count-preserved c =
    let here = c.in-Some.ensures.some in
    let n = c.loop-count.number in
    let fits : n * 10 + c.in-Some.low < 2 ^ 64 = omega (arith, here.0) in
    record {
      some = omega (arith, c.loop-count.invariant.some);
      fits = fits;
      within = search rules;
      value = next_in c.args.bytes.now c.loop-count.count n c.in-Some.low (search rules) c.loop-count.invariant.some here.0 fits here.1 c.loop-count.invariant.value;
    }
