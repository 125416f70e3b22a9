-- The epoch and the offsets that steps move, of a base and the steps since.
use Rattle.std.proofs.Common.{◌≡◌, cond, List, ◌++◌, sym, arith}
use Rattle.std.proofs.lemmas.List.Sums.{sum_by-append, fold-append}
use Rattle.hl_model.specs.declared.step.Step.{Step}
use Rattle.hl_model.specs.Sizes.{Sizes}
use Rattle.hl_model.specs.Epochs.{is_bump, current_epoch}
use Rattle.hl_model.specs.Offsets.{raised_to, shifted_to, read_only, head, tail_past, tail}
use Rattle.hl_model.specs.Bases.{base_of}
use Rattle.hl_model.specs.AfterEpochs.{epoch_after}
use Rattle.hl_model.specs.AfterOffsets.{read_only_after, head_after, tail_after}
use Rattle.hl_model.proofs.ListLaws.{greatest-append}

-- the current epoch
pub epoch_after-is : (sizes : Sizes) (A L : List Step) → epoch_after (base_of sizes A) L ≡ current_epoch (A ++ L)
unfolding epoch_after base_of current_epoch
epoch_after-is sizes A L = omega (arith, sum_by-append (λ s. cond (is_bump s) 1 0) A L)

-- the read-only offset
pub read_only_after-is : (sizes : Sizes) (A L : List Step) → read_only_after (base_of sizes A) L ≡ read_only (A ++ L)
unfolding read_only_after base_of read_only
read_only_after-is sizes A L = omega (arith, greatest-append raised_to A L)

-- the head
pub head_after-is : (sizes : Sizes) (A L : List Step) → head_after (base_of sizes A) L ≡ head (A ++ L)
unfolding head_after base_of head
head_after-is sizes A L = omega (arith, greatest-append shifted_to A L)

-- the tail
pub tail_after-is : (sizes : Sizes) (A L : List Step) → tail_after (base_of sizes A) L ≡ tail sizes (A ++ L)
unfolding tail_after base_of tail
tail_after-is sizes A L = sym (fold-append (tail_past sizes.page_size) 0 A L)
