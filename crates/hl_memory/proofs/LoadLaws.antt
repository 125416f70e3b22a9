-- What stands before an act of a rider between two of its calls, and what the cell of an open address holds.
use Rattle.std.proofs.Common.{◌≡◌, ℕ, ◌<◌, ◌≤◌, ◌⊎◌, List, [], ◌∷◌, ◌++◌, length, map, ap, sym, ◌∙◌, ⊎_elim, arith, append_assoc}
use Rattle.std.specs.List.{AllByRecursion as Every}
use Rattle.hl_model.specs.declared.step.Step.{Step}
use Rattle.hl_model.specs.Offsets.{tail}
use Rattle.hl_model.specs.Settled.{closed}
use Rattle.hl_model.specs.Sizes.{Sizes}
use Rattle.hl_history.specs.declared.view.Entry.{Entry}
use Rattle.hl_history.specs.Lists.{Begins, left_by}
use Rattle.hl_words.specs.declared.view.Extent.{Extent}
use Rattle.hl_words.specs.declared.view.RiderView.{RiderView}
use Rattle.hl_words.specs.declared.view.Touch.{Touch}
use Rattle.hl_words.specs.declared.view.Touch.TheVariants.{Called}
use Rattle.hl_words.specs.Rule.{TouchBy, by_rider, held, touches_of, HasOneOrder}
use Rattle.hl_words.proofs.Orders.{own_more}
use Rattle.hl_words.proofs.PastProofs.{compared, cut_at, has_more, joined, touches_both}
use Rattle.hl_words.specs.States.{RiderState, AreTied}
use Rattle.hl_keeper.specs.Endings.{EndingState}
use Rattle.hl_keeper.specs.Passes.{cell_at}
use Rattle.hl_domain.specs.Domains.{IsEnding}
use Rattle.hl_memory.specs.Acts.{in_cells, IsZeroAt, IsHistory}
use Rattle.hl_memory.specs.Memory.{HasGrown, HasNoneLeft}
use Rattle.hl_memory.proofs.ActLaws.{cells_both, lower}
use Rattle.hl_memory.proofs.MemoryLaws.{cell_is_memory, none_swept}

-- A place of a history, of which these touches stand before: they have all that made a list in whose log the address is, and
-- none of what was done once the list was longer than another in which the address isn't closed
pub record OpenThere (sizes : Sizes) (whole : List Step) (views : List RiderView) (a : ℕ) (before : List TouchBy) : Type 0 where
  pub list : List Step
  pub later : List Step
  pub begins : Begins list whole
  pub ends : Begins later whole
  pub below : a < tail sizes list
  pub unclosed : closed later ≤ a
  pub grown : HasGrown views (length list) (in_cells sizes before)
  pub none_left : HasNoneLeft views (length later) (in_cells sizes before)

module _ (F : Type 0) (sizes : Sizes) (riders : List RiderState) (ending : EndingState F) (ends : IsEnding sizes riders ending) (page_some : 0 < sizes.page_size) (frames_some : 0 < sizes.frames) (history newer before : List TouchBy)
    (its : IsHistory sizes (ends.steps_cut ++ ending.journal) riders ends.ruled.rule.order.0 history) (parts : history ≡ newer ++ before) (a : ℕ) (o : OpenThere sizes (ends.steps_cut ++ ending.journal) (map (λ (r : RiderState). r.view) riders) a before) where
  -- there the address's cell holds what that memory has
  pub open_cell : held (cell_at sizes a) (in_cells sizes before) ≡ held a before
  open_cell = cell_is_memory sizes _ page_some frames_some ends.accepted riders ends.one_list ends.tied _ _ ends.ruled.rule.order history newer before its parts a o.list o.later o.begins o.ends o.below o.unclosed o.grown o.none_left

  -- and no 0 of a sweep of its page stands before
  pub open_unswept : (front : List TouchBy) (i : ℕ) (act : Touch) (base : List TouchBy) (v : ℕ) (calls : List Entry) → before ≡ front ++ by_rider i act ∷ base → AreTied (touches_of i base) calls → Every (λ (e : Entry). Begins (left_by e) (ends.steps_cut ++ ending.journal)) calls → IsZeroAt sizes a v calls → ⊥
  open_unswept = none_swept sizes _ page_some frames_some ends.accepted riders ends.one_list ends.tied _ _ ends.ruled.rule.order history newer before its parts a o.list o.later o.begins o.ends o.below o.unclosed o.grown o.none_left

module _ (cells : ℕ) (words : List ℕ) (riders : List RiderView) (h : HasOneOrder cells words riders) where
  -- where a call stands, all stands that riders did before calls that entered a step and left no more
  grown_before : (k : ℕ) (first n : Extent) (front before : List TouchBy) → h.0 ≡ front ++ by_rider k (Called first n) ∷ before → HasGrown riders n.steps (by_rider k (Called first n) ∷ before)
  grown_before k first n front before whole j m left q later past at is grew few =
      let its = by_rider k (Called first n) in
      let own_call = by_rider j (Called m left) in
      let c = cut_at j h.0 later (Called m left) past (sym (h.1.each j q at) ∙ is) in
      let own : touches_of j (own_call ∷ c.before) ≡ Called m left ∷ past = own_more j (Called m left) c.before ∙ ap (λ (l : List Touch). Called m left ∷ l) c.own in
      ⊎_elim
      (λ (here : (mid : List TouchBy) × (before ≡ mid ++ own_call ∷ c.before)).
      let all : its ∷ before ≡ (its ∷ here.0) ++ own_call ∷ c.before = ap (λ (l : List TouchBy). its ∷ l) here.1 in
      (touches_of j (its ∷ here.0), ap (touches_of j) all ∙ touches_both j (its ∷ here.0) (own_call ∷ c.before) ∙ ap (λ (l : List Touch). touches_of j (its ∷ here.0) ++ l) own))
      (λ (other : ((its ≡ own_call) × (before ≡ c.before)) ⊎ ((mid : List TouchBy) × (c.before ≡ mid ++ its ∷ before))).
      ⊎_elim
      (λ (same : (its ≡ own_call) × (before ≡ c.before)).
      ([], ap (λ (t : TouchBy). touches_of j (t ∷ before)) same.0 ∙ ap (λ (l : List TouchBy). touches_of j (own_call ∷ l)) same.1 ∙ own))
      (λ (there : (mid : List TouchBy) × (c.before ≡ mid ++ its ∷ before)). absurd (omega (arith, lower h.0 c.front j m left c.before there.0 k first n before h.1.serial c.whole there.1, grew, few)))
      other)
      (compared front its before c.front own_call c.before (sym whole ∙ c.whole))

  -- and nothing stands before a call that riders did after calls which left more than it met
  none_before : (k : ℕ) (n last : Extent) (front rest between before : List TouchBy) → h.0 ≡ front ++ by_rider k (Called n last) ∷ rest → rest ≡ between ++ before → HasNoneLeft riders n.steps before
  none_before k n last front rest between before whole has j m left q later past at is more =
      let its = by_rider k (Called n last) in
      let own_call = by_rider j (Called m left) in
      let c = cut_at j h.0 later (Called m left) past (sym (h.1.each j q at) ∙ is) in
      ⊎_elim
      (λ (here : (mid : List TouchBy) × (rest ≡ mid ++ own_call ∷ c.before)). absurd (omega (arith, lower h.0 front k n last rest here.0 j m left c.before h.1.serial whole here.1, more)))
      (λ (other : ((its ≡ own_call) × (rest ≡ c.before)) ⊎ ((mid : List TouchBy) × (c.before ≡ mid ++ its ∷ rest))).
      ⊎_elim
      (λ (same : (its ≡ own_call) × (rest ≡ c.before)).
      let all : c.before ≡ between ++ before = sym same.1 ∙ has in
      (touches_of j between, sym c.own ∙ ap (touches_of j) all ∙ touches_both j between before))
      (λ (there : (mid : List TouchBy) × (c.before ≡ mid ++ its ∷ rest)).
      let front2 : List TouchBy = there.0 ++ its ∷ between in
      let parts : c.before ≡ front2 ++ before = there.1 ∙ ap (λ (l : List TouchBy). there.0 ++ its ∷ l) has ∙ sym (append_assoc there.0 (its ∷ between) before) in
      (touches_of j front2, sym c.own ∙ ap (touches_of j) parts ∙ touches_both j front2 before))
      other)
      (compared front its rest c.front own_call c.before (sym whole ∙ c.whole))

-- Both hold at an act of a rider between two of its calls
module _ (sizes : Sizes) (cells : ℕ) (words : List ℕ) (riders : List RiderView) (h : HasOneOrder cells words riders) (history newer before : List TouchBy) (in_order : in_cells sizes history ≡ h.0) (i : ℕ) (act : Touch) (parts : history ≡ newer ++ by_rider i act ∷ before)
    (met begun : Extent) (between earlier : List Touch) (ahead : touches_of i before ≡ between ++ Called met begun ∷ earlier) where
  pub grown_here : HasGrown riders begun.steps (in_cells sizes before)
  grown_here j m l q later past at is grew few =
      let cut = cut_at i before between (Called met begun) earlier ahead in
      let call = by_rider i (Called met begun) in
      let down = joined newer cut.front (by_rider i act) call before cut.before history parts cut.whole in
      let front = in_cells sizes (newer ++ by_rider i act ∷ cut.front) in
      let whole : h.0 ≡ front ++ call ∷ in_cells sizes cut.before = sym in_order ∙ ap (in_cells sizes) down ∙ cells_both sizes (newer ++ by_rider i act ∷ cut.front) (call ∷ cut.before) in
      let here : in_cells sizes before ≡ in_cells sizes cut.front ++ call ∷ in_cells sizes cut.before = ap (in_cells sizes) cut.whole ∙ cells_both sizes cut.front (call ∷ cut.before) in
      let all = grown_before cells words riders h i met begun front (in_cells sizes cut.before) whole j m l q later past at is grew few in
      let more = has_more j (Called m l ∷ past) (in_cells sizes cut.front) (call ∷ in_cells sizes cut.before) all in
      (more.0, ap (touches_of j) here ∙ more.1)

module _ (sizes : Sizes) (cells : ℕ) (words : List ℕ) (riders : List RiderView) (h : HasOneOrder cells words riders) (history newer before : List TouchBy) (in_order : in_cells sizes history ≡ h.0) (i : ℕ) (act : Touch) (parts : history ≡ newer ++ by_rider i act ∷ before)
    (done left : Extent) (last middle : List Touch) (behind : touches_of i newer ≡ last ++ Called done left ∷ middle) where
  pub none_here : HasNoneLeft riders done.steps (in_cells sizes before)
  none_here j m l q later past at is more =
      let cut = cut_at i newer last (Called done left) middle behind in
      let call = by_rider i (Called done left) in
      let rest = in_cells sizes (cut.before ++ by_rider i act ∷ before) in
      let all : history ≡ cut.front ++ call ∷ (cut.before ++ by_rider i act ∷ before) = parts ∙ ap (λ (l : List TouchBy). l ++ by_rider i act ∷ before) cut.whole ∙ append_assoc cut.front (call ∷ cut.before) (by_rider i act ∷ before) in
      let whole : h.0 ≡ in_cells sizes cut.front ++ call ∷ rest = sym in_order ∙ ap (in_cells sizes) all ∙ cells_both sizes cut.front (call ∷ (cut.before ++ by_rider i act ∷ before)) in
      let has : rest ≡ in_cells sizes (cut.before ++ by_rider i act ∷ []) ++ in_cells sizes before =
      ap (in_cells sizes) (sym (append_assoc cut.before (by_rider i act ∷ []) before)) ∙ cells_both sizes (cut.before ++ by_rider i act ∷ []) before in
      none_before cells words riders h i done left (in_cells sizes cut.front) rest (in_cells sizes (cut.before ++ by_rider i act ∷ [])) (in_cells sizes before) whole has j m l q later past at is more
