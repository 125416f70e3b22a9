use Rattle.std.proofs.Common.{◌≡◌, ◌+◌, ◌*◌, length, refl, sym, ap, ◌∙◌, subst, arith}
use Rattle.std.proofs.lemmas.List.{nil_from_length, take_at}
use Rattle.std.proofs.lemmas.Bool.Decides.{nat_tests}
use Rattle.example_layout.specs.declared.bad.BadPage.TheVariants.{Length}
use Rattle.example_layout.specs.declared.bad.Unreadable.TheVariants.{Page}
use Rattle.example_layout.specs.Device.{IsPage, IsRefusedPage}
use Rattle.example_layout.proofs.Files.{only_memory, read_all, read_more, room_for, unreadable, AreRead}
use Rattle.example_layout.proofs.device.read_pages.Goals as goal

pub returns-then-rest-size-clause-inverts : goal.returns-then-rest-size-clause-inverts
returns-then-rest-size-clause-inverts c =
    let l = c.loop-rest in let size = c.args.page_size in let bytes = c.args.bytes.now in
    only_memory size bytes (Page l.page Length) (omega arith) (unreadable size l.page bytes l.rest.now l.found.items (Page l.page Length) l.invariant.1 (grind (arith, nat_tests, c.loop-rest-test.ensures)) (refl, c.if-rest-size.true))

pub read_page-requires-clause-fits : goal.read_page-requires-clause-fits
read_page-requires-clause-fits c =
    let l = c.loop-rest in let size = c.args.page_size in
    let room = room_for size l.page c.args.bytes.now l.rest.now l.found.items l.invariant.1 in
    let long : length c.deref_mut.result.now ≡ size = omega arith in
    omega (arith, room, long, ap (λ n. l.page * n) long)

pub returns-in-Err-clause-inverts : goal.returns-in-Err-clause-inverts
returns-in-Err-clause-inverts c =
    let l = c.loop-rest in let size = c.args.page_size in let bytes = c.args.bytes.now in
    let long : length c.deref_mut.result.now ≡ size = omega arith in
    let refused = subst (λ n. IsRefusedPage n l.page l.rest.now c.in-Err.unreadable) long c.in-Err.ensures.bad in
    only_memory size bytes c.in-Err.unreadable (omega arith) (unreadable size l.page bytes l.rest.now l.found.items c.in-Err.unreadable l.invariant.1 (grind (arith, nat_tests, c.loop-rest-test.ensures)) refused)

pub overflow_add-page : goal.overflow_add-page
overflow_add-page c =
    let l = c.loop-rest in let size = c.args.page_size in
    let room = room_for size l.page c.args.bytes.now l.rest.now l.found.items l.invariant.1 in
    omega (arith, room)

pub loop-rest-preserved : goal.loop-rest-preserved
loop-rest-preserved c =
    let l = c.loop-rest in let size = c.args.page_size in
    let long : length c.deref_mut.result.now ≡ size = omega arith in
    let same : length c.read_page.new.words ≡ l.words.len = omega (arith, long, c.read_page.auto.words) in
    let page = subst (λ n. IsPage n l.page l.rest.now l.found.items c.read_page.new.found.items) long c.in_default-read_page.ensures.page in
    let more = read_more size l.page c.args.bytes.now l.rest.now l.found.items c.read_page.new.found.items l.invariant.1 page in
    (ap length (take_at c.read_page.new.words _ l.words.len same) ∙ same ∙ sym same ∙ c.read_page.auto.words ∙ long, subst (λ rest. AreRead size c.args.bytes.now rest (l.page + 1) c.read_page.new.found.items) (sym c.split_at.ensures.back) more)

pub returns-clause-inverts : goal.returns-clause-inverts
returns-clause-inverts c =
    let l = c.loop-rest in
    read_all c.args.page_size l.page c.args.bytes.now l.rest.now l.found.items l.invariant.1 (nil_from_length l.rest.now (grind (arith, nat_tests, c.loop-rest-test.ensures)))
