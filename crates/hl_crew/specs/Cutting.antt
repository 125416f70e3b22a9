-- How a rider cuts the journal.
use Rattle.std.specs.Prelude.{◌≡◌, ◌⊎◌, ℕ, ◌+◌, Bool, true, false, Result, Ok, Err, [], length, nat_lt}
use Rattle.hl_words.specs.States.{RiderState}
use Rattle.hl_domain.specs.Domains.{DomainState, LeavesUnderLock, no_step}
use Rattle.hl_domain.specs.Riders.{Cuts as Drops}
use Rattle.hl_crew.specs.declared.messages.Over.{Over}
use Rattle.hl_crew.specs.declared.messages.Over.TheVariants.{Full}
use Rattle.hl_crew.specs.declared.limits.Cuts.{Cuts}
use Rattle.hl_crew.specs.declared.limits.Cuts.TheVariants.{Never, EachTurn, Above}
use Rattle.hl_crew.specs.Overs.{makes_room}

module _ (F : Type 0) (domain : DomainState) where
  -- the journal was cut by a rider
  abbrev pub CutsJournal : RiderState → RiderState → Type 0
  CutsJournal old new =
      LeavesUnderLock F domain (no_step old new) (λ before after. (after.journal ≡ [])
      × (after.cut ≡ before.cut + length before.journal) × (after.core ≡ before.core))

  -- the journal was cut if room was made, and else nothing was done
  abbrev pub MakesRoom : Bool → RiderState → RiderState → Type 0
  MakesRoom true old new = CutsJournal old new
  MakesRoom false old new = new ≡ old

  -- the journal was cut at a turn's end as was ordered: where the limits name a number of steps, if it had more when
  -- the rider looked
  abbrev pub EndsTurn : Cuts → RiderState → RiderState → Type 0
  EndsTurn Never old new = new ≡ old
  EndsTurn EachTurn old new = CutsJournal old new
  EndsTurn (Above steps) old new =
      (is_cut : Bool) × (mid : RiderState)
      × LeavesUnderLock F domain (no_step old mid)
      (λ before after. (after ≡ before) × (is_cut ≡ nat_lt steps (length before.journal)))
      × MakesRoom is_cut mid new

  -- something ended so; or it failed since the journal was full, the limits make room, and the journal was cut,
  -- which got somewhere if a step was dropped
  abbrev pub OrCuts : Cuts → Result Bool Over → Result Bool Over → RiderState → RiderState → Type 0
  OrCuts cuts done result old new =
      ((result ≡ done) × (new ≡ old) × (done ≡ Err Full → makes_room cuts ≡ false))
      ⊎ ((done ≡ Err Full) × (makes_room cuts ≡ true)
      × (dropped : ℕ) × (result ≡ Ok (nat_lt 0 dropped)) × Drops F domain dropped old new)
