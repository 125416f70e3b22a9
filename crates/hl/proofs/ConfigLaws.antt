-- Numbers of a configuration that are in their ranges.
use Rattle.std.proofs.Common.{◌≡◌, ◌+◌, ◌<◌, ◌≤◌, Option, Some, None, IfSome, true, false, refl, sym, ◌∙◌, subst, rules}
use Rattle.std.specs.Prelude.{is_some}
use Rattle.std.proofs.lemmas.Bool.Decides.{nat_tests}
use Rattle.hl_model.specs.Sizes.{Sizes, AreInRange}
use Rattle.hl_crew.specs.declared.duty.Duty.{Duty}
use Rattle.hl.specs.declared.config.Config.{Config}
use Rattle.hl.specs.declared.config.Number.{Number}
use Rattle.hl.specs.declared.config.Number.TheVariants.{Threads, PageSize, Frames, Actions, Mutable, Resident, Journal, Stamp}
use Rattle.hl.specs.Configs.{all_fit, behind, fits, opening_of, sizes_of_config}
use Rattle.hl.specs.Crews.{can_run}
use Rattle.hl.specs.Openings.{can_open, IsInRange}
use Rattle.hl.specs.declared.opening.Opening.{Opening}

-- where all are, this one is
pub one_fits : (c : Config) (number : Number) → all_fit c ≡ true → fits c number ≡ true
unfolding all_fit
one_fits c Threads fit = search rules
one_fits c PageSize fit = search rules
one_fits c Frames fit = search rules
one_fits c Actions fit = search rules
one_fits c Mutable fit = search rules
one_fits c Resident fit = search rules
one_fits c Journal fit = search rules
one_fits c Stamp fit = search rules

-- no number was found that is out of its range
pub none_unfit : (c : Config) (found : Option Number) → all_fit c ≡ true → IfSome found (λ number. fits c number ≡ false) → is_some found ≡ false
none_unfit c None fit out = refl
none_unfit c (Some number) fit out = absurd (let contrary : false ≡ true = sym out ∙ one_fits c number fit in cc)

sizes_of_four : (c : Config) → fits c Threads ≡ true → fits c PageSize ≡ true → fits c Frames ≡ true → fits c Actions ≡ true → AreInRange (sizes_of_config c)
unfolding fits
sizes_of_four c threads page_size frames actions = search rules

pub sizes_in_range : (c : Config) → all_fit c ≡ true → AreInRange (sizes_of_config c)
sizes_in_range c fit = sizes_of_four c (one_fits c Threads fit) (one_fits c PageSize fit) (one_fits c Frames fit) (one_fits c Actions fit)

duty_of_two : (c : Config) → fits c Mutable ≡ true → fits c Resident ≡ true → (1 ≤ c.mutable) × (c.mutable ≤ c.resident) × (c.resident < c.frames)
unfolding fits
duty_of_two c mutable resident = (search rules, search rules, search rules)

pub duty_in_range : (c : Config) → all_fit c ≡ true → (1 ≤ c.mutable) × (c.mutable ≤ c.resident) × (c.resident < c.frames)
duty_in_range c fit = duty_of_two c (one_fits c Mutable fit) (one_fits c Resident fit)

-- the log can be opened with riders for its crew
own_runs : (c : Config) (duty : Duty) → all_fit c ≡ true → duty.frames ≡ c.frames → can_run (opening_of c) duty ≡ true
unfolding all_fit fits can_run can_open
own_runs c duty fit frames = search (rules, nat_tests)

pub runs : (c : Config) (sizes : Sizes) (duty : Duty) → all_fit c ≡ true → sizes ≡ sizes_of_config c → duty.frames ≡ c.frames → can_run (record { params = sizes; riders = c.threads + 4 + behind c.flush_at_end; journal = c.journal; stamp = c.stamp }) duty ≡ true
runs c sizes duty fit same frames = subst (λ (s : Sizes). can_run (record { params = s; riders = c.threads + 4 + behind c.flush_at_end; journal = c.journal; stamp = c.stamp }) duty ≡ true) (sym same) (own_runs c duty fit frames)

-- what a log has that can be run
opens_of_run : (o : Opening Sizes) (duty : Duty) → can_run o duty ≡ true → can_open o ≡ true
unfolding can_run
opens_of_run o duty run = search rules

pub serves_of_run : (o : Opening Sizes) (duty : Duty) → can_run o duty ≡ true → duty.frames ≡ o.params.frames
unfolding can_run
serves_of_run o duty run = search rules

in_range_of_open : (o : Opening Sizes) → can_open o ≡ true → IsInRange o
unfolding can_open
in_range_of_open o opens = record { some_riders = search rules; few_riders = search rules; journal_enough = search rules; journal_within = search rules; stamp_within = search rules }

pub in_range_of_run : (o : Opening Sizes) (duty : Duty) → can_run o duty ≡ true → IsInRange o
in_range_of_run o duty run = in_range_of_open o (opens_of_run o duty run)
