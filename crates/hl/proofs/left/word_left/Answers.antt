use Rattle.std.proofs.Common.{rules, arith, ◌<◌, refl, sym, subst}
use Rattle.hl.specs.Left.{IsLeft}
use Rattle.hl.proofs.LeftLaws.{closed_left, none_left}
use Rattle.hl.proofs.left.word_left.Goals as goal

pub returns-in-Some-clause-left : goal.returns-in-Some-clause-left
returns-in-Some-clause-left g c =
    let closed : c.args.address < c.args.ending.now.snapshot.six.closed = search rules in
    let some : 0 < c.args.sizes.page_size = omega (arith, c.page_size.ensures.valid.page_size_least) in
    let same = rw c.page_size.ensures.value at c.in-Some.ensures.same in
    let read = rw c.page_size-2.ensures.value at c.word_of.ensures in
    subst (IsLeft c.args.sizes c.args.device.now c.args.ending.now c.args.address) (sym read) (closed_left c.args.sizes c.args.device.now c.args.ending.now c.args.address some closed c.in-Some.image.now same)

pub returns-in-None-clause-left : goal.returns-in-None-clause-left
returns-in-None-clause-left g c =
    let closed : c.args.address < c.args.ending.now.snapshot.six.closed = search rules in
    let some : 0 < c.args.sizes.page_size = omega (arith, c.page_size.ensures.valid.page_size_least) in
    none_left c.args.sizes c.args.device.now c.args.ending.now c.args.address some closed (rw c.page_size.ensures.value at c.in-None.ensures.none refl)
