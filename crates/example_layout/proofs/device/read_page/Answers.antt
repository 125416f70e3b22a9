use Rattle.std.proofs.Common.{◌≡◌, ◌+◌, length, refl, sym, ap, ◌∙◌, arith}
use Rattle.byteorder.specs.Endian.{big_number}
use Rattle.example_layout.specs.Layout.{AreBytes}
use Rattle.example_layout.proofs.Files.{page_fits, page_read, page_words}
use Rattle.example_layout.proofs.device.read_page.Goals as goal

pub returns-in-Ok-clause-page : goal.returns-in-Ok-clause-page
returns-in-Ok-clause-page c =
    let size = length c.args.words.now in let rest = c.args.rest.now in let words = c.read_u64_into.new.dst in
    let all : length words ≡ size = omega arith in
    let are : AreBytes rest = λ i. omega (arith, c.type_inv.rest i) in
    let number : big_number 8 rest ≡ c.args.page = sym c.read_u64-number.ensures ∙ c.if-number-page.false in
    let gathered = rw (c.new-records.ensures.words, c.new-records.ensures.base, c.new-records.ensures.at) at c.in-Ok.ensures.gathered in
    page_read size c.args.page rest words c.gather.new.self.at c.args.found.now.items c.gather.new.found.items c.requires.size are number
    (page_words size rest words _ (omega arith) c.requires.size are all c.read_u64_into.ensures) all gathered (c.in-Ok.ensures.end ∙ ap length c.new-records.ensures.words)

pub returns-in-Err-Broken-clause-bad : goal.returns-in-Err-Broken-clause-bad
returns-in-Err-Broken-clause-bad c =
    let size = length c.args.words.now in let rest = c.args.rest.now in let words = c.read_u64_into.new.dst in
    let all : length words ≡ size = omega arith in
    let are : AreBytes rest = λ i. omega (arith, c.type_inv.rest i) in
    let stopped = rw (c.in-Err-Broken.field-0-is, c.new-records.ensures.words, c.new-records.ensures.base, c.new-records.ensures.at) at c.in-Err-Broken.ensures.stopped in (
      refl,
      (
        words,
        c.gather.new.self.at,
        stopped.0.0,
        all,
        page_fits size rest words _ are all c.read_u64_into.ensures,
        page_words size rest words _ (omega arith) c.requires.size are all c.read_u64_into.ensures,
        stopped.0.1,
        c.place.ensures ∙ ap (λ n. n + c.gather.new.self.at) (c.in-Err-Broken.ensures.words.1 ∙ c.new-records.ensures.base),
        stopped.2,
      ),
    )
