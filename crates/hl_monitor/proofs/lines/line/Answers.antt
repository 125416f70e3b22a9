use Rattle.std.proofs.Common.{◌≡◌, ℕ, List, ◌++◌, [], ◌∷◌, decimal, refl, ap, ◌∙◌}
use Rattle.std.specs.Fmt.{styled_text, styled_decimal}
use Rattle.std.proofs.lemmas.Fmt.{contents_after_writes}
use Rattle.hl_monitor.specs.Reports.{left_in, right_in, line_of}
use Rattle.hl_monitor.proofs.Padding.{left_in_16, right_in_20}
use Rattle.hl_monitor.proofs.lines.line.Goals as goal

-- the parts of a line as the library writes them
written : (label : List ℕ) (number : ℕ) (empty left right : List ℕ) → empty ≡ [] → left ≡ left_in 16 label
    → right ≡ right_in 20 (decimal number) → empty ++ (left ++ (right ++ 10 ∷ [])) ≡ line_of (label, number)
unfolding line_of
written label number empty left right none l r = rw (none, l, r) refl

pub returns : goal.returns
returns c =
    contents_after_writes _ (λ text. text.bytes) (λ before bytes after wrote. wrote) _ _ _ c.in_ok-writeln.ensures.writes
    ∙ written c.args.label.now c.args.number _ _ _
    c.new-line.ensures
    (ap (λ spec. styled_text spec c.args.label.now) c.laid_out.ensures ∙ left_in_16 c.args.label.now c.requires)
    (ap (λ spec. styled_decimal spec c.args.number) c.laid_out-2.ensures ∙ right_in_20 c.args.number)
