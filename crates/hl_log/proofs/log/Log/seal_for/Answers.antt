use Rattle.std.proofs.Common.{◌≡◌, ℕ, ◌+◌, nat_lt, List, ◌++◌, Err, ap, ◌∙◌, sym, subst, refl}
use Rattle.std.proofs.lemmas.Result.{err_from_is_err_and}
use Rattle.hl_model.specs.declared.step.Step.{Step}
use Rattle.hl_model.specs.declared.step.Step.TheVariants.{Allocate, Raise, Settle}
use Rattle.hl_model.specs.declared.view.Six.{Six}
use Rattle.hl_model.specs.Snapshots.{six}
use Rattle.hl_model.specs.Sizes.{Sizes}
use Rattle.hl_lag.specs.Lag.{step_if}
use Rattle.hl_core.specs.Standing.{Stands}
use Rattle.hl_log.specs.Logs.{StandsAt}
use Rattle.hl_log.specs.Seals.{words_left}
use Rattle.hl_log.specs.States.{LogState}
use Rattle.hl_log.proofs.SealLaws.{goes_on, goes_no_further, seals_refused, seals_made, ticket_at}
use Rattle.hl_log.proofs.log.Log.seal_for.Goals as goal

-- the offsets are the list's, as are the words that are left
six_at : (old view : LogState) (A : List Step) (offsets : Six) → view ≡ old → ((B : List Step) → Stands (λ t. t.0) view.core B → offsets ≡ six view.core.sizes B) → StandsAt old A → offsets ≡ six old.core.sizes A
six_at old view A offsets is told at =
    told A (subst (λ (l : LogState). Stands (λ t. t.0) l.core A) (sym is) at.standing) ∙ ap (λ (l : LogState). six l.core.sizes A) is

left_at : (old view : LogState) (sizes : Sizes) (tail left : ℕ) → view ≡ old → sizes ≡ view.core.sizes → left ≡ words_left sizes.page_size tail → left ≡ words_left old.core.sizes.page_size tail
left_at old view sizes tail left is same told = told ∙ ap (λ (z : Sizes). words_left z.page_size tail) same ∙ ap (λ (l : LogState). words_left l.core.sizes.page_size tail) is

pub returns-in_err-make_if-clause-made : goal.returns-in_err-make_if-clause-made
returns-in_err-make_if-clause-made c =
    let q = err_from_is_err_and c.from_residual.result c.from_residual.ensures.1 in
    let is : c.from_residual.result ≡ Err c.in_err-make_if.field-0.0 = q.1 ∙ ap (λ f. Err f) q.2 in
    let old : LogState = c.args.self.now in
    let left : ℕ = c.words_left-left.result in
    let address : ℕ = c.six-six.result.tail + left in
    let fill : List Step = step_if (nat_lt 0 left) (Allocate c.args.t left) in
    let raise : List Step = step_if (nat_lt c.six-six.result.read_only address) (Raise address) in
    let settle : List Step = step_if (nat_lt c.six-six.result.safe_read_only address) Settle in
    λ A at. seals_refused c.args.t old c.make_if.new.self A c.six-six.result left c.in_err-make_if.field-0.0 _ c.from_residual.result
    (six_at old _ A c.six-six.result c.self.view_is c.six-six.ensures.value at) (left_at old _ c.params.result c.six-six.result.tail left c.self.view_is c.params.ensures c.words_left-left.ensures)
    (goes_no_further old c.make_if.new.self A (fill ++ raise) settle _ c.in_err-make_if.field-0.0 (goes_no_further old c.make_if.new.self A fill raise _ c.in_err-make_if.field-0.0 (c.in_err-make_if.ensures.made A at) refl) refl) refl is

pub returns-in_err-make_if-2-clause-made : goal.returns-in_err-make_if-2-clause-made
returns-in_err-make_if-2-clause-made c =
    let q = err_from_is_err_and c.from_residual-in_err-make_if-2.result c.from_residual-in_err-make_if-2.ensures.1 in
    let is : c.from_residual-in_err-make_if-2.result ≡ Err c.in_err-make_if-2.field-0.0 = q.1 ∙ ap (λ f. Err f) q.2 in
    let old : LogState = c.args.self.now in
    let left : ℕ = c.words_left-left.result in
    let address : ℕ = c.six-six.result.tail + left in
    let fill : List Step = step_if (nat_lt 0 left) (Allocate c.args.t left) in
    let raise : List Step = step_if (nat_lt c.six-six.result.read_only address) (Raise address) in
    let settle : List Step = step_if (nat_lt c.six-six.result.safe_read_only address) Settle in
    λ A at. seals_refused c.args.t old c.make_if-2.new.self A c.six-six.result left c.in_err-make_if-2.field-0.0 _ c.from_residual-in_err-make_if-2.result
    (six_at old _ A c.six-six.result c.self.view_is c.six-six.ensures.value at) (left_at old _ c.params.result c.six-six.result.tail left c.self.view_is c.params.ensures c.words_left-left.ensures)
    (goes_no_further old c.make_if-2.new.self A (fill ++ raise) settle _ c.in_err-make_if-2.field-0.0
    (goes_on old c.make_if.new.self c.make_if-2.new.self A fill raise _ _ (c.in_ok-make_if.ensures.made A at) refl c.in_err-make_if-2.ensures.made) refl) refl is

pub returns-in_err-settled-clause-made : goal.returns-in_err-settled-clause-made
returns-in_err-settled-clause-made c =
    let q = err_from_is_err_and c.from_residual-in_err-settled.result c.from_residual-in_err-settled.ensures.1 in
    let is : c.from_residual-in_err-settled.result ≡ Err c.in_err-settled.field-0.0 = q.1 ∙ ap (λ f. Err f) q.2 in
    let old : LogState = c.args.self.now in
    let left : ℕ = c.words_left-left.result in
    let address : ℕ = c.six-six.result.tail + left in
    let fill : List Step = step_if (nat_lt 0 left) (Allocate c.args.t left) in
    let raise : List Step = step_if (nat_lt c.six-six.result.read_only address) (Raise address) in
    let settle : List Step = step_if (nat_lt c.six-six.result.safe_read_only address) Settle in
    λ A at. seals_refused c.args.t old c.make_if-3.new.self A c.six-six.result left c.in_err-settled.field-0.0 _ c.from_residual-in_err-settled.result
    (six_at old _ A c.six-six.result c.self.view_is c.six-six.ensures.value at) (left_at old _ c.params.result c.six-six.result.tail left c.self.view_is c.params.ensures c.words_left-left.ensures)
    (goes_on old c.make_if-2.new.self c.make_if-3.new.self A (fill ++ raise) settle _ _
    (goes_on old c.make_if.new.self c.make_if-2.new.self A fill raise _ _ (c.in_ok-make_if.ensures.made A at) refl c.in_ok-make_if-2.ensures.made) refl c.in_err-settled.ensures.made) refl is

pub returns-clause-made : goal.returns-clause-made
returns-clause-made c =
    let old : LogState = c.args.self.now in
    let left : ℕ = c.words_left-left.result in
    let address : ℕ = c.six-six.result.tail + left in
    let fill : List Step = step_if (nat_lt 0 left) (Allocate c.args.t left) in
    let raise : List Step = step_if (nat_lt c.six-six.result.read_only address) (Raise address) in
    let settle : List Step = step_if (nat_lt c.six-six.result.safe_read_only address) Settle in
    λ A at.
    let raised = goes_on old c.make_if.new.self c.make_if-2.new.self A fill raise _ _ (c.in_ok-make_if.ensures.made A at) refl c.in_ok-make_if-2.ensures.made in
    seals_made c.args.t old c.make_if-3.new.self A c.six-six.result left c.ticket_of.result c.in_ok-settled.settled
    (six_at old _ A c.six-six.result c.self.view_is c.six-six.ensures.value at) (left_at old _ c.params.result c.six-six.result.tail left c.self.view_is c.params.ensures c.words_left-left.ensures)
    (goes_on old c.make_if-2.new.self c.make_if-3.new.self A (fill ++ raise) settle _ _ raised refl c.in_ok-settled.ensures.made)
    (ticket_at old c.make_if-2.new.self c.make_if-3.new.self A (fill ++ raise) (nat_lt c.six-six.result.safe_read_only address) _ c.in_ok-settled.settled c.ticket_of.result raised refl c.in_ok-settled.ensures.made c.in_ok-settled.ensures.told c.ticket_of.ensures)
