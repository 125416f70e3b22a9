-- What becomes of a page that is swept: it isn't freed, or by a call of the rider that swept it, and later.
use Rattle.std.proofs.Common.{◌≡◌, ℕ, ◌/◌, ◌<◌, ◌≤◌, ◌⊎◌, Bool, true, false, List, [], ◌∷◌, ◌++◌, length, map, Some, refl, ap, sym, ◌∙◌, inl, inr, ⊎_elim, subst, arith, append_assoc, length-append}
use Rattle.std.specs.List.{AllByRecursion as Every}
use Rattle.std.proofs.lemmas.Bool.{cases_lt}
use Rattle.std.proofs.lemmas.List.{append-nil}
use Rattle.hl_model.specs.declared.step.Step.{Step}
use Rattle.hl_model.specs.declared.step.Step.TheVariants.{CleanTake, CleanDone}
use Rattle.hl_model.specs.Pages.{is_freed, next_to_clean}
use Rattle.hl_model.specs.Replies.{IsAccepted}
use Rattle.hl_model.specs.Sizes.{Sizes}
use Rattle.hl_history.specs.declared.view.Entry.{Entry}
use Rattle.hl_history.specs.Lists.{Begins, entry, left_by, IsOneList}
use Rattle.hl_words.specs.declared.view.Extent.{Extent}
use Rattle.hl_words.specs.declared.view.Touch.{Touch}
use Rattle.hl_words.specs.declared.view.Touch.TheVariants.{Stored, Changed, Called}
use Rattle.hl_words.specs.Rule.{TouchBy, by_rider, touches_of, HasOneOrder}
use Rattle.hl_words.specs.States.{RiderState, AreTied}
use Rattle.hl_words.proofs.Orders.{own_more}
use Rattle.hl_words.proofs.PastProofs.{IsCut, compared, cut_at, joined, touches_both}
use Rattle.hl_keeper.specs.Passes.{cell_at}
use Rattle.hl_keeper.specs.Pages.{first_cell}
use Rattle.hl_images.proofs.PlaceLaws.{both, shorter}
use Rattle.hl_images.proofs.StoreLaws.{CallAt, ZeroAt, find_call, find_zero}
use Rattle.hl_images.proofs.WriterLaws.{next_call}
use Rattle.hl_memory.specs.Acts.{in_cell, in_cells, IsPut, IsZeroAt, IsHistory}
use Rattle.hl_memory.proofs.ActLaws.{cells_both, acts_both, acts_long, own_cells, of_one_list, tied_of, lower}
use Rattle.hl_memory.proofs.PageLaws.{Freeing, freeing_call}
use Rattle.hl_memory.proofs.TakeLaws.{one_take}

-- an act that stores isn't a call
pub put_tied : (x v : ℕ) (t : Touch) (ys : List Touch) (calls : List Entry) → IsPut t x v → AreTied (t ∷ ys) calls → AreTied ys calls
put_tied x v t ys calls (inl e) h = subst (λ (u : Touch). AreTied (u ∷ ys) calls) e h
put_tied x v t ys calls (inr c) h = subst (λ (u : Touch). AreTied (u ∷ ys) calls) c.1 h

-- no call stands above the newest one: what follows a touch that is none
still_last : (sizes : Sizes) (t : Touch) (ts rest : List Touch) → ((f : List Touch) (met left : Extent) (r : List Touch) → map (in_cell sizes) ts ≡ f ++ Called met left ∷ r → length r ≤ length rest) → ((met left : Extent) → t ≡ Called met left → ⊥)
    → (f : List Touch) (met left : Extent) (r : List Touch) → t ∷ map (in_cell sizes) ts ≡ f ++ Called met left ∷ r → length r ≤ length rest
still_last sizes t ts rest last none [] met left r is = let head : t ≡ Called met left = cc is in absurd (none met left head)
still_last sizes t ts rest last none (x ∷ f) met left r is = let more : map (in_cell sizes) ts ≡ f ++ Called met left ∷ r = cc is in last f met left r more

-- the newest call among a rider's acts, as `next_call` has it, and none stands above it
newest_call : (sizes : Sizes) (ts : List Touch) (e : Entry) (older : List Entry) → AreTied ts (e ∷ older) → (front : List Touch) × (met left : Extent) × (rest : List Touch) × (ts ≡ front ++ Called met left ∷ rest) × (left.steps ≡ length (left_by e)) × (met.steps ≡ length e.before)
    × ((f : List Touch) (m l : Extent) (r : List Touch) → map (in_cell sizes) ts ≡ f ++ Called m l ∷ r → length r ≤ length rest)
newest_call sizes [] e older h = absurd h
newest_call sizes (Called met left ∷ before) e older h = (
  [],
  met,
  left,
  before,
  refl,
  h.1 ∙ sym (length-append e.before e.steps),
  h.0,
  λ f m l r is. omega (arith, ap length is, length-append f (Called m l ∷ r), acts_long sizes before),
)
newest_call sizes (t ∷ before) e older h = let n = newest_call sizes before e older h in (t ∷ n.0, n.1, n.2, n.3, ap (λ (l : List Touch). t ∷ l) n.4, n.5, n.6, still_last sizes (in_cell sizes t) before n.3 n.7 (λ m l is. cc is))

module _ (sizes : Sizes) (whole : List Step) (page_some : 0 < sizes.page_size) (frames_some : 0 < sizes.frames) (accepted : IsAccepted sizes whole) (riders : List RiderState) (one : IsOneList whole (map (λ (q : RiderState). q.calls) riders))
    (ties : Every (λ (q : RiderState). AreTied q.view.touches q.calls) riders) (cells : ℕ) (words : List ℕ) (h : HasOneOrder cells words (map (λ (q : RiderState). q.view) riders)) (history : List TouchBy) (its : IsHistory sizes whole riders h.0 history) where
  -- a call that freed a page stands above a place in the order
  pub record FreedAbove (q : ℕ) (base : List TouchBy) : Type 0 where
    pub front : List TouchBy
    pub rider : ℕ
    pub met : Extent
    pub left : Extent
    pub mid : List TouchBy
    pub call : Entry
    pub all : h.0 ≡ front ++ by_rider rider (Called met left) ∷ (mid ++ in_cells sizes base)
    pub begins : Begins (left_by call) whole
    pub met_is : met.steps ≡ length call.before
    pub steps : call.steps ≡ CleanDone q ∷ []

  -- the page of a sweep's 0 isn't freed, or by a call above it: whoever freed it swept it, and a page is taken to be
  -- cleaned once
  pub fate : (front : List TouchBy) (i : ℕ) (own : Touch) (base : List TouchBy) (x v : ℕ) (calls : List Entry) → history ≡ front ++ by_rider i own ∷ base → IsPut own x v → AreTied (own ∷ touches_of i base) calls → Every (λ (e : Entry). Begins (left_by e) whole) calls → IsZeroAt sizes x v calls
      → (is_freed sizes (x / sizes.page_size) whole ≡ false) ⊎ FreedAbove (x / sizes.page_size) base
  fate front i own base x v calls is_at puts all_tied begin take = by (is_freed sizes q whole) refl
    where
      q : ℕ
      q = x / sizes.page_size

      list : List Step
      list = take.1

      tied : AreTied (touches_of i base) (entry list (CleanTake ∷ []) ∷ take.2)
      tied = subst (AreTied (touches_of i base)) take.3 (put_tied x v own (touches_of i base) calls puts all_tied)

      n : (front : List Touch) × (met left : Extent) × (rest : List Touch) × (touches_of i base ≡ front ++ Called met left ∷ rest) × (left.steps ≡ length (list ++ CleanTake ∷ [])) × (met.steps ≡ length list)
          × ((f : List Touch) (m l : Extent) (r : List Touch) → map (in_cell sizes) (touches_of i base) ≡ f ++ Called m l ∷ r → length r ≤ length rest)
      n = newest_call sizes (touches_of i base) (entry list (CleanTake ∷ [])) take.2 tied

      begins : Begins (list ++ CleanTake ∷ []) whole
      begins = (subst (Every (λ (e : Entry). Begins (left_by e) whole)) take.3 begin).0

      bx : List TouchBy
      bx = in_cells sizes base

      act : TouchBy
      act = by_rider i (in_cell sizes own)

      at_act : h.0 ≡ in_cells sizes front ++ act ∷ bx
      at_act = sym its.cells ∙ ap (in_cells sizes) is_at ∙ cells_both sizes front (by_rider i own ∷ base)

      -- the take, as it stands in the order
      own_take : touches_of i bx ≡ map (in_cell sizes) n.0 ++ Called n.1 n.2 ∷ map (in_cell sizes) n.3
      own_take = own_cells sizes i base ∙ ap (map (in_cell sizes)) n.4 ∙ acts_both sizes n.0 (Called n.1 n.2 ∷ n.3)

      ct : IsCut bx i (Called n.1 n.2) (map (in_cell sizes) n.3)
      ct = cut_at i bx (map (in_cell sizes) n.0) (Called n.1 n.2) (map (in_cell sizes) n.3) own_take

      at_take : h.0 ≡ (in_cells sizes front ++ act ∷ ct.front) ++ by_rider i (Called n.1 n.2) ∷ ct.before
      at_take = joined (in_cells sizes front) ct.front act (by_rider i (Called n.1 n.2)) bx ct.before h.0 at_act ct.whole

      no_call : (met left : Extent) → in_cell sizes own ≡ Called met left → ⊥
      no_call met left e =
          ⊎_elim
          (λ (s : own ≡ Stored x v). let no : Stored (cell_at sizes x) v ≡ Called met left = sym (ap (in_cell sizes) s) ∙ e in cc no)
          (λ (c : (found : ℕ) × (own ≡ Changed x found v)). let no : Changed (cell_at sizes x) c.0 v ≡ Called met left = sym (ap (in_cell sizes) c.1) ∙ e in cc no)
          puts

      by : (freed : Bool) → is_freed sizes q whole ≡ freed → (is_freed sizes q whole ≡ false) ⊎ FreedAbove q base
      by false is = inl is
      by true is = by_place (compared (in_cells sizes front ++ act ∷ ct.front) (by_rider i (Called n.1 n.2)) ct.before (cs.front ++ free ∷ cz.front) (by_rider f.s (Called m.1 m.2)) cz.before (sym at_take ∙ at_other))
        where
          f : Freeing whole riders q (length whole)
          f = freeing_call sizes whole page_some frames_some accepted riders one (λ l r at. (its.each l r at).calls) q whole ([], sym (append-nil whole)) is

          Q : Entry → Type 0
          Q e = Begins (left_by e) whole

          c : CallAt sizes Q f.r.view.touches f.call
          c = find_call sizes Q f.number f.call f.r.view.touches f.r.calls f.call_at (tied_of riders ties f.s f.r f.at) (its.each f.s f.r f.at).frees (of_one_list whole riders one f.s f.r f.at).begins

          z : ZeroAt sizes Q q (first_cell sizes q) c.before
          z = find_zero sizes Q q (first_cell sizes q) c.before c.earlier (c.swept q f.steps (first_cell sizes q) (omega arith) (omega (arith, page_some))) c.tied c.holds

          other : List Step
          other = z.sweep.0.2

          m : (front : List Touch) × (met left : Extent) × (rest : List Touch) × (z.before ≡ front ++ Called met left ∷ rest) × (left.steps ≡ length (other ++ CleanTake ∷ [])) × (met.steps ≡ length other)
          m = next_call z.before (entry other (CleanTake ∷ [])) z.sweep.0.3 (subst (AreTied z.before) z.sweep.0.4 z.tied)

          free : TouchBy
          free = by_rider f.s (Called c.met c.left)

          cs : IsCut h.0 f.s (Called c.met c.left) c.before
          cs = cut_at f.s h.0 c.late (Called c.met c.left) c.before (ap (touches_of f.s) (sym its.cells) ∙ own_cells sizes f.s history ∙ (its.each f.s f.r f.at).touches ∙ c.all)

          cz : IsCut cs.before f.s (Called m.1 m.2) m.3
          cz = cut_at f.s cs.before (z.late ++ Stored (first_cell sizes q) z.value ∷ m.0) (Called m.1 m.2) m.3
              (cs.own ∙ z.all ∙ ap (λ (l : List Touch). z.late ++ Stored (first_cell sizes q) z.value ∷ l) m.4 ∙ sym (append_assoc z.late (Stored (first_cell sizes q) z.value ∷ m.0) (Called m.1 m.2 ∷ m.3)))

          at_other : h.0 ≡ (cs.front ++ free ∷ cz.front) ++ by_rider f.s (Called m.1 m.2) ∷ cz.before
          at_other = joined cs.front cz.front free (by_rider f.s (Called m.1 m.2)) cs.before cz.before h.0 cs.whole cz.whole

          -- both takes name the page, so they are one
          once : length list ≡ length other
          once =
              ⊎_elim (λ (lt : length list < length other). absurd (earlier list other begins other_begins take.4 other_next lt))
              (λ (ge : length other ≤ length list). ⊎_elim (λ (lt : length other < length list). absurd (earlier other list other_begins begins other_next take.4 lt)) (λ (le : length list ≤ length other). omega (arith, ge, le)) (cases_lt (length other) (length list)))
              (cases_lt (length list) (length other))
            where
              other_next : next_to_clean sizes other ≡ Some q
              other_next = z.sweep.0.5 ∙ ap (λ (y : ℕ). Some y) z.sweep.1

              other_begins : Begins (other ++ CleanTake ∷ []) whole
              other_begins = (subst (Every Q) z.sweep.0.4 z.holds).0

              earlier : (one two : List Step) → Begins (one ++ CleanTake ∷ []) whole → Begins (two ++ CleanTake ∷ []) whole → next_to_clean sizes one ≡ Some q → next_to_clean sizes two ≡ Some q → length one < length two → ⊥
              earlier one two b1 b2 n1 n2 lt =
                  let rest = both sizes whole page_some frames_some accepted (one ++ CleanTake ∷ []) two b1 (shorter sizes whole page_some frames_some accepted two (CleanTake ∷ []) b2) (omega (arith, lt, length-append one (CleanTake ∷ []))) in
                  one_take sizes q one two rest.0 n1 n2 rest.1

          -- a call of the same rider that stands between the act and its take there is none
          no_between : i ≡ f.s → length n.3 ≡ length m.3 → (mid : List TouchBy) → bx ≡ mid ++ free ∷ cs.before → ⊥
          no_between same long mid below_it =
              let own : map (in_cell sizes) (touches_of i base) ≡ touches_of i mid ++ Called c.met c.left ∷ touches_of i cs.before =
              sym (own_cells sizes i base) ∙ ap (touches_of i) below_it ∙ touches_both i mid (free ∷ cs.before)
              ∙ ap (λ (l : List Touch). touches_of i mid ++ l) (ap (λ (k : ℕ). touches_of k (free ∷ cs.before)) same ∙ own_more f.s (Called c.met c.left) cs.before ∙ ap (λ (k : ℕ). Called c.met c.left ∷ touches_of k cs.before) (sym same)) in
              let most = n.7 (touches_of i mid) c.met c.left (touches_of i cs.before) own in
              omega (arith, most, long, ap length (ap (λ (k : ℕ). touches_of k cs.before) same ∙ cs.own), ap length z.all, length-append z.late (Stored (first_cell sizes q) z.value ∷ z.before), ap length m.4, length-append m.0 (Called m.1 m.2 ∷ m.3))

          by_act : i ≡ f.s → length n.3 ≡ length m.3
              → ((mid : List TouchBy) × (bx ≡ mid ++ free ∷ cs.before)) ⊎ (((act ≡ free) × (bx ≡ cs.before)) ⊎ ((mid : List TouchBy) × (cs.before ≡ mid ++ act ∷ bx))) → FreedAbove q base
          by_act same long (inl o) = absurd (no_between same long o.0 o.1)
          by_act same long (inr (inl o)) = absurd (no_call c.met c.left (ap (λ (t : TouchBy). t.touch) o.0))
          by_act same long (inr (inr o)) =
              record {
                front = cs.front;
                rider = f.s;
                met = c.met;
                left = c.left;
                mid = o.0 ++ act ∷ [];
                call = f.call;
                all = cs.whole ∙ ap (λ (l : List TouchBy). cs.front ++ free ∷ l) (o.1 ∙ sym (append_assoc o.0 (act ∷ []) bx));
                begins = f.begins;
                met_is = c.met_is;
                steps = f.steps;
              }

          by_place : ((mid : List TouchBy) × (ct.before ≡ mid ++ by_rider f.s (Called m.1 m.2) ∷ cz.before))
              ⊎ (((by_rider i (Called n.1 n.2) ≡ by_rider f.s (Called m.1 m.2)) × (ct.before ≡ cz.before)) ⊎ ((mid : List TouchBy) × (cz.before ≡ mid ++ by_rider i (Called n.1 n.2) ∷ ct.before))) → (is_freed sizes q whole ≡ false) ⊎ FreedAbove q base
          by_place (inl o) =
              absurd (omega (arith, lower h.0 (in_cells sizes front ++ act ∷ ct.front) i n.1 n.2 ct.before o.0 f.s m.1 m.2 cz.before h.1.serial at_take o.1, n.6, m.5, length-append other (CleanTake ∷ []), once))
          by_place (inr (inr o)) =
              absurd (omega (arith, lower h.0 (cs.front ++ free ∷ cz.front) f.s m.1 m.2 cz.before o.0 i n.1 n.2 ct.before h.1.serial at_other o.1, m.6, n.5, length-append list (CleanTake ∷ []), once))
          by_place (inr (inl o)) =
              let same : i ≡ f.s = ap (λ (t : TouchBy). t.rider) o.0 in
              let long : length n.3 ≡ length m.3 =
              sym (acts_long sizes n.3) ∙ ap length (sym ct.own ∙ ap (touches_of i) o.1 ∙ ap (λ (k : ℕ). touches_of k cz.before) same ∙ cz.own) in
              inr (by_act same long (compared (in_cells sizes front) act bx cs.front free cs.before (sym at_act ∙ cs.whole)))
