-- The cell of an address that is open holds what the newest store at that very address left.
use Rattle.std.proofs.Common.{◌≡◌, ◌≢◌, ℕ, suc, ◌+◌, ◌*◌, ◌/◌, ◌%◌, ◌<◌, ◌≤◌, ◌⊎◌, Bool, true, false, List, [], ◌∷◌, ◌++◌, length, map, Some, None, slice_get, refl, ap, sym, ◌∙◌, inl, inr, ⊎_elim, subst, arith, append_assoc, length-append}
use Rattle.std.specs.Prelude.{if◌then◌else◌}
use Rattle.std.specs.List.{AllByRecursion as Every}
use Rattle.std.proofs.lemmas.Bool.{eq-eqb, both_ways, cases_eq, cases_lt, ne_eqb}
use Rattle.std.proofs.lemmas.List.{length-map}
use Rattle.std.proofs.Math.Nat.{lt-div-mul-add, mod-lt}
use Rattle.hl_model.specs.declared.step.Step.{Step}
use Rattle.hl_model.specs.declared.step.Step.TheVariants.{Write, CleanTake, CleanDone}
use Rattle.hl_model.specs.Offsets.{tail}
use Rattle.hl_model.specs.Pages.{is_freed, next_to_clean}
use Rattle.hl_model.specs.Replies.{IsAccepted}
use Rattle.hl_model.specs.Settled.{closed}
use Rattle.hl_model.specs.Sizes.{Sizes}
use Rattle.hl_history.specs.declared.view.Entry.{Entry}
use Rattle.hl_history.specs.Lists.{Begins, entry, left_by, IsOneList}
use Rattle.hl_words.specs.declared.view.Extent.{Extent}
use Rattle.hl_words.specs.declared.view.RiderView.{RiderView}
use Rattle.hl_words.specs.declared.view.Touch.{Touch}
use Rattle.hl_words.specs.declared.view.Touch.TheVariants.{Stored, Changed, Called}
use Rattle.hl_words.specs.Rule.{last_store, TouchBy, by_rider, held, touches_of, HasOneOrder}
use Rattle.hl_words.specs.States.{RiderState, AreTied}
use Rattle.hl_words.proofs.Cut.{every_weaker}
use Rattle.hl_words.proofs.OneProofs.{none_end}
use Rattle.hl_words.proofs.Orders.{there, own_more}
use Rattle.hl_words.proofs.PastProofs.{after_call, compared, cut_at, joined, touches_both}
use Rattle.hl_laws.proofs.BoundLaws.{closed-le-head}
use Rattle.hl_laws.proofs.LawProofs.{accepted_meets_no_fault}
use Rattle.hl_laws.proofs.PageFacts.{clean_was_out, cleaning_unfreed, freed_closed, head-le-flushed, flushed-le-safe_read_only}
use Rattle.hl_keeper.specs.Passes.{cell_at}
use Rattle.hl_keeper.specs.Pages.{first_cell}
use Rattle.hl_images.proofs.CellLaws.{parts_of, is_address}
use Rattle.hl_images.proofs.PlaceLaws.{every_in, begun, both, freed_more, same_begin}
use Rattle.hl_images.proofs.StoreLaws.{find_call, find_zero}
use Rattle.hl_images.proofs.WordLaws.{view_at}
use Rattle.hl_images.proofs.WriterLaws.{next_call}
use Rattle.hl_memory.specs.Acts.{in_cell, in_cells, IsPut, IsWriteAt, IsZeroAt, IsHistory}
use Rattle.hl_memory.specs.Memory.{HasGrown, HasNoneLeft}
use Rattle.hl_memory.proofs.ActLaws.{cells_both, acts_both, acts_long, own_cells, HasNoneAt, HasAt, has_at, HasPut, newest_put, of_one_list, tied_of, lower}
use Rattle.hl_memory.proofs.FateLaws.{FreedAbove, fate, put_tied}
use Rattle.hl_memory.proofs.FindLaws.{act_is, IsEntering, FoundAct, Waits, Calls, find_at}
use Rattle.hl_memory.proofs.PageLaws.{Freeing, freed_below, low_cleaned, freeing_call, page_later, sweep_later}

some_none : (v : ℕ) → Some v ≡ None → ⊥
some_none v e = absurd (cc e)

-- the value that it stores
put_value : (sizes : Sizes) (x v d w : ℕ) (t : Touch) → IsPut t x v → in_cell sizes t ≡ Stored d w → v ≡ w
put_value sizes x v d w t (inl e) h = let both : Stored (cell_at sizes x) v ≡ Stored d w = sym (ap (in_cell sizes) e) ∙ h in cc both
put_value sizes x v d w t (inr c) h = let both : Changed (cell_at sizes x) c.0 v ≡ Stored d w = sym (ap (in_cell sizes) c.1) ∙ h in absurd (cc both)

-- some touches don't end with more than they are
no_end : (own m rest since past between ys : List Touch) (call : Touch) → length own ≡ length ys → own ≡ m ++ rest → rest ≡ since ++ call ∷ past → length past ≡ length between + suc (length ys) → ⊥
no_end own m rest since past between ys call e is has long = omega (arith, e, ap length is, length-append m rest, ap length has, length-append since (call ∷ past), long)

module _ (sizes : Sizes) (whole : List Step) (page_some : 0 < sizes.page_size) (frames_some : 0 < sizes.frames) (accepted : IsAccepted sizes whole) (riders : List RiderState) (one : IsOneList whole (map (λ (q : RiderState). q.calls) riders))
    (ties : Every (λ (q : RiderState). AreTied q.view.touches q.calls) riders) (cells : ℕ) (words : List ℕ) (h : HasOneOrder cells words (map (λ (q : RiderState). q.view) riders)) (history newer b : List TouchBy) (its : IsHistory sizes whole riders h.0 history)
    (parts : history ≡ newer ++ b) (a : ℕ) (A later : List Step) (bA : Begins A whole) (bl : Begins later whole) (below : a < tail sizes A) (open_there : closed later ≤ a) (grown : HasGrown (map (λ (q : RiderState). q.view) riders) (length A) (in_cells sizes b))
    (none_left : HasNoneLeft (map (λ (q : RiderState). q.view) riders) (length later) (in_cells sizes b)) where
  abbrev p : ℕ
  p = a / sizes.page_size

  abbrev c : ℕ
  c = cell_at sizes a

  abbrev views : List RiderView
  views = map (λ (q : RiderState). q.view) riders

  abbrev Waiting : Step → Type 0
  Waiting w = Waits whole w

  abbrev Never : ℕ → Type 0
  Never q = is_freed sizes q whole ≡ false

  abbrev Own : Entry → Type 0
  Own e = Calls whole e

  order_parts : h.0 ≡ in_cells sizes newer ++ in_cells sizes b
  order_parts = sym its.cells ∙ ap (in_cells sizes) parts ∙ cells_both sizes newer b

  -- a rider's touches, as its acts tell
  acts_of : (i : ℕ) (r : RiderState) → slice_get riders i ≡ Some r → (xs ys : List Touch) → touches_of i history ≡ xs ++ ys → r.view.touches ≡ map (in_cell sizes) xs ++ map (in_cell sizes) ys
  acts_of i r at xs ys is = sym (its.each i r at).touches ∙ ap (λ (l : List Touch). map (in_cell sizes) l) is ∙ acts_both sizes xs ys

  -- An act at its place
  record Placed (i : ℕ) (act : Touch) (base : List TouchBy) : Type 0 where
    r : RiderState
    at : slice_get riders i ≡ Some r
    xs : List Touch
    split : touches_of i history ≡ xs ++ act ∷ touches_of i base
    long : length (touches_of i base) < length (touches_of i (in_cells sizes b))
    found : FoundAct sizes (touches_of i history) act (touches_of i base) Waiting Own

  place : (front : List TouchBy) (i : ℕ) (act : Touch) (base : List TouchBy) → b ≡ front ++ by_rider i act ∷ base → Placed i act base
  place front i act base is =
      let all : history ≡ (newer ++ front) ++ by_rider i act ∷ base = parts ∙ ap (λ (l : List TouchBy). newer ++ l) is ∙ sym (append_assoc newer front (by_rider i act ∷ base)) in
      let cells_all : h.0 ≡ in_cells sizes (newer ++ front) ++ by_rider i (in_cell sizes act) ∷ in_cells sizes base = sym its.cells ∙ ap (in_cells sizes) all ∙ cells_both sizes (newer ++ front) (by_rider i act ∷ base) in
      let less : i < length views = every_in (λ (t : TouchBy). t.rider < length views) (in_cells sizes (newer ++ front)) (by_rider i (in_cell sizes act)) (in_cells sizes base) (subst (Every (λ (t : TouchBy). t.rider < length views)) cells_all h.1.theirs) in
      let r = there riders i (omega (arith, less, length-map riders (λ (q : RiderState). q.view))) in
      let xs = touches_of i (newer ++ front) in
      let split : touches_of i history ≡ xs ++ act ∷ touches_of i base = ap (touches_of i) all ∙ touches_both i (newer ++ front) (by_rider i act ∷ base) ∙ ap (λ (l : List Touch). xs ++ l) (own_more i act base) in
      let in_b : touches_of i b ≡ touches_of i front ++ act ∷ touches_of i base = ap (touches_of i) is ∙ touches_both i front (by_rider i act ∷ base) ∙ ap (λ (l : List Touch). touches_of i front ++ l) (own_more i act base) in
      record {
        r = r.0;
        at = r.1;
        xs = xs;
        split = split;
        long = omega (arith, ap length in_b, length-append (touches_of i front) (act ∷ touches_of i base), ap length (own_cells sizes i b), acts_long sizes (touches_of i b));
        found = find_at sizes whole r.0 (touches_of i history) (its.each i r.0 r.1) (of_one_list whole riders one i r.0 r.1).begins (tied_of riders ties i r.0 r.1) xs act (touches_of i base) split;
      }

  -- an act that stands after a call which left more than the later list isn't there
  not_here : (i : ℕ) (act : Touch) (base : List TouchBy) → (x : Placed i act base) → (front : List Touch) (met left : Extent) (rest : List Touch) → touches_of i base ≡ front ++ Called met left ∷ rest → length later < left.steps → ⊥
  not_here i act base x front met left rest is less =
      let xs = map (in_cell sizes) (x.xs ++ act ∷ front) in
      let split : touches_of i history ≡ (x.xs ++ act ∷ front) ++ Called met left ∷ rest = x.split ∙ ap (λ (l : List Touch). x.xs ++ act ∷ l) is ∙ sym (append_assoc x.xs (act ∷ front) (Called met left ∷ rest)) in
      let only = none_left i met left x.r.view xs (map (in_cell sizes) rest) (view_at riders i x.r x.at) (acts_of i x.r x.at (x.xs ++ act ∷ front) (Called met left ∷ rest) split) less in
      omega (arith, x.long, ap length is, length-append front (Called met left ∷ rest), ap length only.1, length-append only.0 (touches_of i (in_cells sizes b)), acts_long sizes rest)

  -- so no 0 of a sweep of the address's page is there
  pub none_swept : (front : List TouchBy) (i : ℕ) (act : Touch) (base : List TouchBy) (v : ℕ) (calls : List Entry) → b ≡ front ++ by_rider i act ∷ base → AreTied (touches_of i base) calls → Every (λ (e : Entry). Begins (left_by e) whole) calls → IsZeroAt sizes a v calls → ⊥
  none_swept front i act base v calls is tied holds z =
      let list = z.1 in
      let e = entry list (CleanTake ∷ []) in
      let n = next_call (touches_of i base) e z.2 (subst (AreTied (touches_of i base)) z.3 tied) in
      let be : Begins (list ++ CleanTake ∷ []) whole = (subst (Every (λ (e : Entry). Begins (left_by e) whole)) z.3 holds).0 in
      not_here i act base (place front i act base is) n.0 n.1 n.2 n.3 n.4 (omega (arith, sweep_later sizes whole page_some frames_some accepted a later bl open_there list p be z.4 (omega arith), n.5))

  -- A call above a place in the order, which met a list in which the page isn't freed
  record Above (q : ℕ) (base : List TouchBy) : Type 0 where
    front : List TouchBy
    rider : ℕ
    met : Extent
    left : Extent
    mid : List TouchBy
    all : h.0 ≡ front ++ by_rider rider (Called met left) ∷ (mid ++ in_cells sizes base)
    list : List Step
    begins : Begins list whole
    met_is : met.steps ≡ length list
    unfreed : is_freed sizes q list ≡ false

  -- below the 0 of the sweep of an earlier page of the frame nothing was stored at the address
  barrier : (q : ℕ) → q < p → q % sizes.frames ≡ p % sizes.frames → (front base : List TouchBy) → b ≡ front ++ base → Never q ⊎ Above q base → held a base ≡ 0
  barrier q less same front base is swept = by (has_at a base)
    where
      by : HasNoneAt a base ⊎ HasAt a base → held a base ≡ 0
      by (inl none) = none.0
      by (inr y) = absurd (kinds (act_is sizes a y.value y.act (touches_of y.rider y.base) x.found.calls x.found.waiting y.puts x.found.entered))
        where
          x : Placed y.rider y.act y.base
          x = place (front ++ y.front) y.rider y.act y.base (is ∙ ap (λ (l : List TouchBy). front ++ l) y.whole ∙ sym (append_assoc front y.front (by_rider y.rider y.act ∷ y.base)))

          tied : AreTied (touches_of y.rider y.base) x.found.calls
          tied = put_tied a y.value y.act (touches_of y.rider y.base) x.found.calls y.puts x.found.tied

          kinds : ((w : Step) × (older : List Step) × (x.found.waiting ≡ w ∷ older) × IsWriteAt sizes a y.value x.found.calls w) ⊎ IsZeroAt sizes a y.value x.found.calls → ⊥
          kinds (inr z) =
              none_swept (front ++ y.front) y.rider y.act y.base y.value x.found.calls (is ∙ ap (λ (l : List TouchBy). front ++ l) y.whole ∙ sym (append_assoc front y.front (by_rider y.rider y.act ∷ y.base))) tied
              (every_weaker Own (λ (e : Entry). Begins (left_by e) whole) x.found.calls (λ e o. o.0) x.found.holds) z
          kinds (inl w) =
              let d = w.3 in
              let e = d.2 in
              let be : Begins (left_by e) whole = (subst (Every Own) d.4 x.found.holds).0.0 in
              let freed = freed_below sizes whole page_some frames_some accepted a (left_by e) be d.5 q less same in
              let n = next_call (touches_of y.rider y.base) e d.3 (subst (AreTied (touches_of y.rider y.base)) d.4 tied) in
              ⊎_elim
              (λ (never : Never q). both_ways (is_freed sizes q whole) never (subst (λ (l : List Step). is_freed sizes q l ≡ true) (sym be.1) (freed_more sizes q (left_by e) be.0 freed)))
              (λ (k : Above q base).
              let call = by_rider y.rider (Called n.1 n.2) in
              let cut = cut_at y.rider y.base n.0 (Called n.1 n.2) n.3 n.4 in
              let front2 = y.front ++ by_rider y.rider y.act ∷ cut.front in
              let down : base ≡ front2 ++ call ∷ cut.before = joined y.front cut.front (by_rider y.rider y.act) call y.base cut.before base y.whole cut.whole in
              let down_cells : in_cells sizes base ≡ in_cells sizes front2 ++ call ∷ in_cells sizes cut.before = ap (in_cells sizes) down ∙ cells_both sizes front2 (call ∷ cut.before) in
              let at_most = lower h.0 k.front k.rider k.met k.left (k.mid ++ in_cells sizes base) (k.mid ++ in_cells sizes front2) y.rider n.1 n.2 (in_cells sizes cut.before) h.1.serial k.all (ap (λ (l : List TouchBy). k.mid ++ l) down_cells ∙ sym (append_assoc k.mid (in_cells sizes front2) (call ∷ in_cells sizes cut.before))) in
              let more = both sizes whole page_some frames_some accepted (left_by e) k.list be k.begins (omega (arith, at_most, n.5, k.met_is)) in
              both_ways (is_freed sizes q k.list) k.unfreed (subst (λ (l : List Step). is_freed sizes q l ≡ true) (sym more.1) (freed_more sizes q (left_by e) more.0 freed)))
              swept

  -- a call that freed the page, above a place
  mk_above : (q : ℕ) (base front : List TouchBy) (rider : ℕ) (met left : Extent) (mid : List TouchBy) (call : Entry) → h.0 ≡ front ++ by_rider rider (Called met left) ∷ (mid ++ in_cells sizes base) → Begins (left_by call) whole → met.steps ≡ length call.before → call.steps ≡ CleanDone q ∷ []
      → Above q base
  mk_above q base front rider met left mid call all be met_is steps =
      let before = call.before in
      let ends : whole ≡ before ++ CleanDone q ∷ be.0 = be.1 ∙ ap (λ (l : List Step). (before ++ l) ++ be.0) steps ∙ append_assoc before (CleanDone q ∷ []) be.0 in
      let at : Begins before whole = (CleanDone q ∷ be.0, ends) in
      let out = clean_was_out sizes before (CleanDone q) q (accepted_meets_no_fault sizes before (CleanDone q) be.0 (subst (IsAccepted sizes) ends accepted)) refl in
      record {
        front = front;
        rider = rider;
        met = met;
        left = left;
        mid = mid;
        all = all;
        list = before;
        begins = at;
        met_is = met_is;
        unfreed = cleaning_unfreed sizes before q page_some (begun sizes whole page_some frames_some accepted before at) out;
      }

  -- the call that freed an earlier page of the frame
  freed_by : (q : ℕ) → q < p → q % sizes.frames ≡ p % sizes.frames → Freeing whole riders q (length A)
  freed_by q less same = freeing_call sizes whole page_some frames_some accepted riders one (λ l z at. (its.each l z at).calls) q A bA (freed_below sizes whole page_some frames_some accepted a A bA below q less same)

  -- the page of a sweep's 0 isn't freed, or by a call above it
  fated : (x : HasPut sizes a b) (pl : Placed x.rider x.act x.base) → IsZeroAt sizes x.address x.value pl.found.calls → Never (x.address / sizes.page_size) ⊎ Above (x.address / sizes.page_size) x.base
  fated x pl z =
      ⊎_elim (λ (never : Never (x.address / sizes.page_size)). inl never)
      (λ (f : FreedAbove sizes whole page_some frames_some accepted riders one ties cells words h history its (x.address / sizes.page_size) x.base).
      inr (mk_above (x.address / sizes.page_size) x.base f.front f.rider f.met f.left f.mid f.call f.all f.begins f.met_is f.steps))
      (fate sizes whole page_some frames_some accepted riders one ties cells words h history its (newer ++ x.front) x.rider x.act x.base x.address x.value pl.found.calls
      (parts ∙ ap (λ (l : List TouchBy). newer ++ l) x.whole ∙ sym (append_assoc newer x.front (by_rider x.rider x.act ∷ x.base))) x.puts pl.found.tied (every_weaker Own (λ (e : Entry). Begins (left_by e) whole) pl.found.calls (λ e o. o.0) pl.found.holds) z)

  -- a write of an earlier page of the frame was swept away, if it isn't itself a 0 of that sweep
  swept_away : (x : HasPut sizes a b) (pl : Placed x.rider x.act x.base) (q slot : ℕ) → q < p → q % sizes.frames ≡ p % sizes.frames → x.address / sizes.page_size ≡ q
      → IsEntering (touches_of x.rider history) x.act (touches_of x.rider x.base) Own (Write slot x.address x.value) → (x.value ≡ 0) × (held a x.base ≡ 0)
  swept_away x pl q slot less same page g =
      let ys = touches_of x.rider x.base in
      let f = freed_by q less same in
      let view_s = view_at riders f.s f.r f.at in
      let Q = λ (e : Entry). Begins (left_by e) whole in
      let c = find_call sizes Q f.number f.call f.r.view.touches f.r.calls f.call_at (tied_of riders ties f.s f.r f.at) (its.each f.s f.r f.at).frees (of_one_list whole riders one f.s f.r f.at).begins in
      let left_is : c.left.steps ≡ length f.call.before + 1 = c.left_is ∙ length-append f.call.before f.call.steps ∙ ap (λ (l : List Step). length f.call.before + length l) f.steps in
      let has = grown f.s c.met c.left f.r.view c.late c.before view_s c.all (omega (arith, c.met_is, left_is)) (omega (arith, left_is, f.low)) in
      let cell = cell_at sizes a in
      let first_is : first_cell sizes q ≡ first_cell sizes p = ap (λ (z : ℕ). z * sizes.page_size) same in
      let z = find_zero sizes Q q cell c.before c.earlier (c.swept q f.steps cell (omega (arith, first_is)) (omega (arith, first_is, mod-lt a page_some))) c.tied c.holds in
      let s = z.sweep.0 in
      let list = s.2 in
      let n = next_call z.before (entry list (CleanTake ∷ [])) s.3 (subst (AreTied z.before) s.4 z.tied) in
      let next : next_to_clean sizes list ≡ Some q = s.5 ∙ ap (λ (z : ℕ). Some z) z.sweep.1 in
      let free = by_rider f.s (Called c.met c.left) in
      let store = by_rider f.s (Stored cell z.value) in
      let take = by_rider f.s (Called n.1 n.2) in
      let xt = by_rider x.rider (in_cell sizes x.act) in
      let fx = in_cells sizes x.front in
      let bx = in_cells sizes x.base in
      let c3 = cut_at f.s (in_cells sizes b) has.0 (Called c.met c.left) c.before has.1 in
      let c4 = cut_at f.s c3.before z.late (Stored cell z.value) z.before (c3.own ∙ z.all) in
      let ct = cut_at f.s c4.before n.0 (Called n.1 n.2) n.3 (c4.own ∙ n.4) in
      let fz = c3.front ++ free ∷ c4.front in
      let in_z : in_cells sizes b ≡ fz ++ store ∷ c4.before = joined c3.front c4.front free store c3.before c4.before (in_cells sizes b) c3.whole c4.whole in
      let in_x : in_cells sizes b ≡ fx ++ xt ∷ bx = ap (in_cells sizes) x.whole ∙ cells_both sizes x.front (by_rider x.rider x.act ∷ x.base) in
      let whole_z : h.0 ≡ (in_cells sizes newer ++ fz) ++ store ∷ c4.before = order_parts ∙ ap (λ (l : List TouchBy). in_cells sizes newer ++ l) in_z ∙ sym (append_assoc (in_cells sizes newer) fz (store ∷ c4.before)) in
      let whole_t = joined (in_cells sizes newer ++ fz) ct.front store take c4.before ct.before h.0 whole_z ct.whole in
      ⊎_elim
      (λ (o : (mid : List TouchBy) × (bx ≡ mid ++ store ∷ c4.before)).
      let older = after_call cells words views h f.s n.1 n.2 ((in_cells sizes newer ++ fz) ++ store ∷ ct.front) ct.before whole_t in
      let bt : Begins (list ++ CleanTake ∷ []) whole = (subst (Every Q) s.4 z.holds).0 in
      let low = low_cleaned sizes whole page_some frames_some accepted list q next bt g.call slot x.address x.value g.first g.rest page g.holds.0 g.holds.1 g.steps in
      let past = g.between ++ x.act ∷ ys in
      let all = older x.rider g.met g.left pl.r.view (map (in_cell sizes) g.late) (map (in_cell sizes) past) (view_at riders x.rider pl.r pl.at) (acts_of x.rider pl.r pl.at g.late (Called g.met g.left ∷ past) g.all_are)
      (omega (arith, g.left_is, low, n.5, length-append list (CleanTake ∷ []))) in
      let m : List TouchBy = o.0 ++ store ∷ (ct.front ++ take ∷ []) in
      let base : bx ≡ m ++ ct.before =
      o.1 ∙ ap (λ (l : List TouchBy). o.0 ++ store ∷ l) (ct.whole ∙ sym (append_assoc ct.front (take ∷ []) ct.before)) ∙ sym (append_assoc o.0 (store ∷ (ct.front ++ take ∷ [])) ct.before) in
      let own : touches_of x.rider bx ≡ touches_of x.rider m ++ touches_of x.rider ct.before = ap (touches_of x.rider) base ∙ touches_both x.rider m ct.before in
      absurd
      (no_end (touches_of x.rider bx) (touches_of x.rider m) (touches_of x.rider ct.before) all.0 (map (in_cell sizes) past) g.between ys (Called g.met g.left) (ap length (own_cells sizes x.rider x.base) ∙ acts_long sizes ys) own all.1
      (acts_long sizes past ∙ length-append g.between (x.act ∷ ys))))
      (λ (other : ((xt ≡ store) × (bx ≡ c4.before)) ⊎ ((mid : List TouchBy) × (c4.before ≡ mid ++ xt ∷ bx))).
      ⊎_elim
      (λ (here : (xt ≡ store) × (bx ≡ c4.before)).
      let own : in_cell sizes x.act ≡ Stored cell z.value = ap (λ (t : TouchBy). t.touch) here.0 in
      let value : x.value ≡ z.value = put_value sizes x.address x.value cell z.value x.act x.puts own in
      let rest : c3.before ≡ (c4.front ++ store ∷ []) ++ bx = c4.whole ∙ ap (λ (l : List TouchBy). c4.front ++ store ∷ l) (sym here.1) ∙ sym (append_assoc c4.front (store ∷ []) bx) in
      let all : h.0 ≡ (in_cells sizes newer ++ c3.front) ++ free ∷ ((c4.front ++ store ∷ []) ++ bx) =
      order_parts ∙ ap (λ (l : List TouchBy). in_cells sizes newer ++ l) (c3.whole ∙ ap (λ (l : List TouchBy). c3.front ++ free ∷ l) rest) ∙ sym (append_assoc (in_cells sizes newer) c3.front (free ∷ ((c4.front ++ store ∷ []) ++ bx))) in
      let above = mk_above q x.base (in_cells sizes newer ++ c3.front) f.s c.met c.left (c4.front ++ store ∷ []) f.call all f.begins c.met_is f.steps in
      (value ∙ s.0, barrier q less same (x.front ++ by_rider x.rider x.act ∷ []) x.base (x.whole ∙ sym (append_assoc x.front (by_rider x.rider x.act ∷ []) x.base)) (inr above)))
      (λ (after : (mid : List TouchBy) × (c4.before ≡ mid ++ xt ∷ bx)).
      let front : fz ++ store ∷ after.0 ≡ fx = same_begin (fz ++ store ∷ after.0) fx (xt ∷ bx) (append_assoc fz (store ∷ after.0) (xt ∷ bx) ∙ ap (λ (l : List TouchBy). fz ++ store ∷ l) (sym after.1) ∙ sym in_z ∙ in_x) in
      let none : last_store cell (touches_of f.s fz ++ Stored cell z.value ∷ touches_of f.s after.0) ≡ None =
      sym (ap (last_store cell) (touches_both f.s fz (store ∷ after.0) ∙ ap (λ (l : List Touch). touches_of f.s fz ++ l) (own_more f.s (Stored cell z.value) after.0))) ∙ ap (λ (l : List TouchBy). last_store cell (touches_of f.s l)) front ∙ x.none f.s in
      let there_is : Some z.value ≡ None =
      sym (ap (λ (y : Bool). if y then Some z.value else last_store cell (touches_of f.s after.0)) (eq-eqb cell cell refl)) ∙ none_end cell (touches_of f.s fz) (Stored cell z.value ∷ touches_of f.s after.0) none in
      absurd (some_none z.value there_is))
      other)
      (compared fx xt bx fz store c4.before (sym in_x ∙ in_z))

  -- a store into the cell at another address was a 0 of a sweep, and nothing was stored at the address before it
  other_page : (x : HasPut sizes a b) → x.address ≢ a → (x.value ≡ 0) × (held a x.base ≡ 0)
  other_page x apart =
      ⊎_elim
      (λ (same : p ≡ x.address / sizes.page_size). absurd (apart (is_address sizes.page_size p (a % sizes.page_size) x.address (sym same) frame.1 ∙ sym (is_address sizes.page_size p (a % sizes.page_size) a refl refl))))
      (λ (other : p ≢ x.address / sizes.page_size). ⊎_elim (λ (lt : p < x.address / sizes.page_size). absurd (late lt)) (λ (ge : x.address / sizes.page_size ≤ p). early (omega (arith, ge, other))) (cases_lt p (x.address / sizes.page_size)))
      (cases_eq p (x.address / sizes.page_size))
    where
      frame : (x.address / sizes.page_size % sizes.frames ≡ p % sizes.frames) × (x.address % sizes.page_size ≡ a % sizes.page_size)
      frame = parts_of sizes.page_size (p % sizes.frames) (a % sizes.page_size) (x.address / sizes.page_size % sizes.frames) (x.address % sizes.page_size) (mod-lt a page_some) (mod-lt x.address page_some) x.cell_is

      pl : Placed x.rider x.act x.base
      pl = place x.front x.rider x.act x.base x.whole

      tied : AreTied (touches_of x.rider x.base) pl.found.calls
      tied = put_tied x.address x.value x.act (touches_of x.rider x.base) pl.found.calls x.puts pl.found.tied

      kind : ((w : Step) × (older : List Step) × (pl.found.waiting ≡ w ∷ older) × IsWriteAt sizes x.address x.value pl.found.calls w) ⊎ IsZeroAt sizes x.address x.value pl.found.calls
      kind = act_is sizes x.address x.value x.act (touches_of x.rider x.base) pl.found.calls pl.found.waiting x.puts pl.found.entered

      late : p < x.address / sizes.page_size → ⊥
      late lt = by kind
        where
          by : ((w : Step) × (older : List Step) × (pl.found.waiting ≡ w ∷ older) × IsWriteAt sizes x.address x.value pl.found.calls w) ⊎ IsZeroAt sizes x.address x.value pl.found.calls → ⊥
          by (inl w) =
              let d = w.3 in
              let e = d.2 in
              let be : Begins (left_by e) whole = (subst (Every Own) d.4 pl.found.holds).0.0 in
              let n = next_call (touches_of x.rider x.base) e d.3 (subst (AreTied (touches_of x.rider x.base)) d.4 tied) in
              not_here x.rider x.act x.base pl n.0 n.1 n.2 n.3 n.4 (omega (arith, page_later sizes whole page_some frames_some accepted a later bl open_there (left_by e) x.address be d.5 lt (sym frame.0), n.5))
          by (inr z) =
              let list = z.1 in
              let e = entry list (CleanTake ∷ []) in
              let n = next_call (touches_of x.rider x.base) e z.2 (subst (AreTied (touches_of x.rider x.base)) z.3 tied) in
              let be : Begins (list ++ CleanTake ∷ []) whole = (subst (Every Own) z.3 pl.found.holds).0.0 in
              not_here x.rider x.act x.base pl n.0 n.1 n.2 n.3 n.4 (omega (arith, sweep_later sizes whole page_some frames_some accepted a later bl open_there list (x.address / sizes.page_size) be z.4 (omega (arith, lt)), n.5))

      early : x.address / sizes.page_size < p → (x.value ≡ 0) × (held a x.base ≡ 0)
      early less = by kind
        where
          by : ((w : Step) × (older : List Step) × (pl.found.waiting ≡ w ∷ older) × IsWriteAt sizes x.address x.value pl.found.calls w) ⊎ IsZeroAt sizes x.address x.value pl.found.calls → (x.value ≡ 0) × (held a x.base ≡ 0)
          by (inr z) =
              (z.0, barrier (x.address / sizes.page_size) less frame.0 (x.front ++ by_rider x.rider x.act ∷ []) x.base (x.whole ∙ sym (append_assoc x.front (by_rider x.rider x.act ∷ []) x.base)) (fated x pl z))
          by (inl w) =
              ⊎_elim
              (λ (waits : Waiting w.0).
              let freed = freed_below sizes whole page_some frames_some accepted a A bA below (x.address / sizes.page_size) less frame.0 in
              let there_too : is_freed sizes (x.address / sizes.page_size) whole ≡ true = subst (λ (l : List Step). is_freed sizes (x.address / sizes.page_size) l ≡ true) (sym bA.1) (freed_more sizes (x.address / sizes.page_size) A bA.0 freed) in
              let gone = freed_closed sizes whole (x.address / sizes.page_size) page_some accepted there_too in
              absurd (omega (arith, gone, waits w.3.0 x.address x.value w.3.1, lt-div-mul-add {a = x.address} page_some, closed-le-head sizes whole accepted, head-le-flushed sizes whole accepted, flushed-le-safe_read_only sizes whole page_some accepted)))
              (λ (g : IsEntering (touches_of x.rider history) x.act (touches_of x.rider x.base) Own w.0).
              swept_away x pl (x.address / sizes.page_size) w.3.0 less frame.0 refl (subst (IsEntering (touches_of x.rider history) x.act (touches_of x.rider x.base) Own) w.3.1 g))
              (subst (Every (λ (u : Step). Waiting u ⊎ IsEntering (touches_of x.rider history) x.act (touches_of x.rider x.base) Own u)) w.2 pl.found.origins).0

  -- what the cell of the address holds is in that memory
  pub cell_is_memory : held c (in_cells sizes b) ≡ held a b
  cell_is_memory = by (newest_put sizes a b)
    where
      by : ((held (cell_at sizes a) (in_cells sizes b) ≡ 0) × (held a b ≡ 0)) ⊎ HasPut sizes a b → held (cell_at sizes a) (in_cells sizes b) ≡ held a b
      by (inl none) = none.0 ∙ sym none.1
      by (inr x) =
          ⊎_elim
          (λ (same : x.address ≡ a). x.cell_holds ∙ sym (x.memory ∙ ap (λ (y : Bool). if y then x.value else held a x.base) (eq-eqb x.address a same)))
          (λ (apart : x.address ≢ a).
          let o = other_page x apart in
          x.cell_holds ∙ o.0 ∙ sym (x.memory ∙ ap (λ (y : Bool). if y then x.value else held a x.base) (ne_eqb x.address a apart) ∙ o.1))
          (cases_eq x.address a)
