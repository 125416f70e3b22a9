-- When the slow form stands at the accepted steps of a script whose tags with jobs are those below a number.
use Rattle.std.specs.Prelude.{◌≡◌, ℕ, ◌+◌, ◌^◌, ◌<◌, ◌≤◌, nat_lt, Bool, true, List, []}
use Rattle.std.specs.List.{list_all}
use Rattle.hl_model.specs.declared.action.Kind.{Kind}
use Rattle.hl_model.specs.declared.action.Kind.TheVariants.{User}
use Rattle.hl_model.specs.declared.action.Waiting.{Waiting}
use Rattle.hl_model.specs.declared.step.Reply.{Reply}
use Rattle.hl_model.specs.declared.step.Reply.TheVariants.{Ran}
use Rattle.hl_model.specs.declared.step.Step.{Step}
use Rattle.hl_model.specs.declared.step.Step.TheVariants.{Done}
use Rattle.hl_model.specs.Sizes.{Sizes, AreNarrow}
use Rattle.hl_model.specs.Actions.{actions}
use Rattle.hl_plain.specs.Histories.{History, Follows}
use Rattle.hl_script.specs.Text.{below}

-- the tag of a job is below a number
abbrev pub kind_is_below : ℕ → Kind → Bool
kind_is_below tags (User tag) = nat_lt tag tags
kind_is_below tags _ = true

-- the tag of an action that is a job
abbrev pub tag_is_below : ℕ → Waiting → Bool
tag_is_below tags w = kind_is_below tags w.kind

-- it was opened with narrow sizes and has the steps, and the tags stored are below the number, which leaves
-- room for a ticket
pub record IsSlow (tags : ℕ) (history : History) (has : ℕ → Bool) (sizes : Sizes) (A : List Step)
    : Type 0 where
  pub has_is : has ≡ below tags
  pub opened : Follows history []
  pub has_words : history.has_words ≡ true
  pub sizes_is : history.base.sizes ≡ sizes
  pub narrow : AreNarrow sizes
  pub steps_is : history.steps ≡ A
  pub most : tags ≤ 2 ^ 62
  pub tags_below : list_all (tag_is_below tags) (actions A) ≡ true

-- the tag and the ticket of a done can be added
abbrev pub SumFits : Step → Reply → Type 0
SumFits (Done ticket) (Ran tag) = tag + ticket < 2 ^ 64
SumFits _ _ = Unit {0}
