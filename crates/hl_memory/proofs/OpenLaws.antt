-- Loads at open addresses find one memory, and the acts of riders have one order.
use Rattle.std.proofs.Common.{◌≡◌, ◌≢◌, ℕ, ◌<◌, ◌≤◌, ◌==◌, ◌⊎◌, Bool, List, [], ◌∷◌, ◌++◌, length, map, Some, slice_get, refl, ap, sym, ◌∙◌, inl, inr, ⊎_elim, subst, arith, append_assoc, length-append}
use Rattle.std.specs.Prelude.{if◌then◌else◌}
use Rattle.std.specs.List.{AllByRecursion as Every}
use Rattle.std.proofs.lemmas.Bool.{eq-eqb, ne_eqb, cases_eq, cases_lt}
use Rattle.std.proofs.lemmas.List.{append-nil, length-map}
use Rattle.hl_model.specs.declared.step.Step.{Step}
use Rattle.hl_model.specs.declared.step.Step.TheVariants.{Write}
use Rattle.hl_model.specs.Replies.{IsAccepted}
use Rattle.hl_model.specs.Settled.{closed}
use Rattle.hl_model.specs.Sizes.{Sizes}
use Rattle.hl_history.specs.declared.view.Entry.{Entry}
use Rattle.hl_history.specs.Lists.{Begins, left_by, IsOf}
use Rattle.hl_words.specs.declared.view.Extent.{Extent}
use Rattle.hl_words.specs.declared.view.RiderView.{RiderView}
use Rattle.hl_words.specs.declared.view.Touch.{Touch}
use Rattle.hl_words.specs.declared.view.Touch.TheVariants.{Stored, Loaded, Changed, Called, Looked, Met}
use Rattle.hl_words.specs.Rule.{TouchBy, by_rider, held, touches_of, Finds, IsSerial}
use Rattle.hl_words.specs.States.{RiderState, AreTied}
use Rattle.hl_words.proofs.Orders.{there, own_more, other_more}
use Rattle.hl_words.proofs.PastProofs.{serial_end, touches_both}
use Rattle.hl_keeper.specs.Endings.{EndingState}
use Rattle.hl_keeper.specs.Passes.{cell_at}
use Rattle.hl_domain.specs.Domains.{IsEnding}
use Rattle.hl_laws.proofs.BoundLaws.{closed-le-head}
use Rattle.hl_laws.proofs.PageFacts.{head-le-flushed, flushed-le-safe_read_only}
use Rattle.hl_images.proofs.PlaceLaws.{begun, every_in, same_begin, shorter}
use Rattle.hl_images.proofs.SealedLaws.{later_stays_above}
use Rattle.hl_images.proofs.WordLaws.{view_at, whose_view}
use Rattle.hl_images.proofs.WriterLaws.{next_call}
use Rattle.hl_memory.specs.Acts.{in_cell, in_cells, AreActsOf, IsHistory}
use Rattle.hl_memory.specs.Memory.{HasGrown, HasNoneLeft, IsOpen, AreOpen, FindsMemory, FindMemory, ChangesFindMemory, OpenFindMemory, HistoriesStand, OneMemory}
use Rattle.hl_memory.proofs.ActLaws.{cells_both, call_at, of_one_list, tied_of}
use Rattle.hl_memory.proofs.FindLaws.{IsEntering, Waits, Calls, find_at, ties, all_calls}
use Rattle.hl_memory.proofs.LoadLaws.{OpenThere, open_cell, grown_here, none_here}

-- A load or a change among the acts of a rider, with what stands before it: its address is open. Either a call stands
-- behind it that met a list in which so much is closed, or none does
pub record OpenAt (sizes : Sizes) (Q : Entry → Type 0) (end : ℕ) (xs ys : List Touch) (a : ℕ) : Type 0 where
  calls : List Entry
  low : ℕ
  is_open : IsOpen sizes a calls low
  tied : AreTied ys calls
  holds : Every Q calls
  behind : (low ≡ end)
      ⊎ ((last : List Touch) × (met left : Extent) × (middle : List Touch) × (call : Entry) × (xs ≡ last ++ Called met left ∷ middle) × (met.steps ≡ length call.before) × (low ≡ closed call.before) × Q call)

-- the number is the end's, or of a call among these
abbrev Behind : (Entry → Type 0) → ℕ → List Touch → ℕ → Type 0
Behind Q end pre low = (low ≡ end)
    ⊎ ((last : List Touch) × (met left : Extent) × (middle : List Touch) × (call : Entry) × (pre ≡ last ++ Called met left ∷ middle) × (met.steps ≡ length call.before) × (low ≡ closed call.before) × Q call)

behind_more : (Q : Entry → Type 0) (end : ℕ) (pre : List Touch) (t : Touch) (low : ℕ) → Behind Q end pre low → Behind Q end (pre ++ t ∷ []) low
behind_more Q end pre t low (inl e) = inl e
behind_more Q end pre t low (inr h) = inr (h.0, h.1, h.2, h.3 ++ t ∷ [], h.4, ap (λ (l : List Touch). l ++ t ∷ []) h.5 ∙ append_assoc h.0 (Called h.1 h.2 ∷ h.3) (t ∷ []), h.6, h.7, h.8)

module _ (sizes : Sizes) (Q : Entry → Type 0) (end a v : ℕ) (ys : List Touch) where
  abbrev load : Touch
  load = Loaded a v

  moved : (pre xs : List Touch) (s : Touch) → OpenAt sizes Q end ((pre ++ s ∷ []) ++ xs) ys a → OpenAt sizes Q end (pre ++ s ∷ xs) ys a
  moved pre xs s h = subst (λ (l : List Touch). OpenAt sizes Q end l ys a) (append_assoc pre (s ∷ []) xs) h

  find_open : (pre xs : List Touch) (calls : List Entry) (low : ℕ) → AreOpen sizes (xs ++ load ∷ ys) calls low → AreTied (xs ++ load ∷ ys) calls → Every Q calls → Behind Q end pre low → OpenAt sizes Q end (pre ++ xs) ys a
  find_open pre [] calls low h tied holds behind =
      subst (λ (l : List Touch). OpenAt sizes Q end l ys a) (sym (append-nil pre)) (record { calls = calls; low = low; is_open = h.0; tied = tied; holds = holds; behind = behind })
  find_open pre (Loaded x w ∷ xs) calls low h tied holds behind = moved pre xs (Loaded x w) (find_open (pre ++ Loaded x w ∷ []) xs calls low h.1 tied holds (behind_more Q end pre (Loaded x w) low behind))
  find_open pre (Called met left ∷ xs) [] low h tied holds behind = absurd tied
  find_open pre (Called met left ∷ xs) (call ∷ calls) low (inl h) tied holds behind =
      moved pre xs (Called met left) (find_open (pre ++ Called met left ∷ []) xs calls low h tied.2 holds.1 (behind_more Q end pre (Called met left) low behind))
  find_open pre (Called met left ∷ xs) (call ∷ calls) low (inr h) tied holds behind =
      moved pre xs (Called met left) (find_open (pre ++ Called met left ∷ []) xs calls (closed call.before) h tied.2 holds.1 (inr (pre, met, left, [], call, refl, tied.0, refl, holds.0)))
  find_open pre (t ∷ xs) calls low h tied holds behind = moved pre xs t (find_open (pre ++ t ∷ []) xs calls low h tied holds (behind_more Q end pre t low behind))

-- at the end no call left more than all
pub none_at_end : (F : Type 0) (sizes : Sizes) (riders : List RiderState) (ending : EndingState F) (ends : IsEnding sizes riders ending) (before : List TouchBy) → HasNoneLeft (map (λ (q : RiderState). q.view) riders) (length (ends.steps_cut ++ ending.journal)) before
none_at_end F sizes riders ending ends before j met left q later past here is more =
    let whole = ends.steps_cut ++ ending.journal in
    let w = whose_view riders j q here in
    let of : IsOf whole w.0.calls = of_one_list whole riders ends.one_list j w.0 w.1 in
    let tied : AreTied (later ++ Called met left ∷ past) w.0.calls = subst (λ (l : List Touch). AreTied l w.0.calls) (ap (λ (z : RiderView). z.touches) w.2 ∙ is) (tied_of riders ends.tied j w.0 w.1) in
    let c = call_at (λ (e : Entry). Begins (left_by e) whole) later met left past w.0.calls tied of.begins in
    absurd (omega (arith, more, c.2, ap length c.3.1, length-append (left_by c.0) c.3.0))

-- the address of a write that the one list has behind this one was not closed in this one
write_open : (sizes : Sizes) (whole : List Step) → 0 < sizes.page_size → 0 < sizes.frames → IsAccepted sizes whole → (e : Entry) → Begins (left_by e) whole → (first rest : List Step) (slot a v : ℕ) → e.steps ≡ first ++ Write slot a v ∷ rest → closed e.before ≤ a
write_open sizes whole page_some frames_some accepted e b first rest slot a v is =
    let bb = shorter sizes whole page_some frames_some accepted e.before e.steps b in
    let ok = begun sizes whole page_some frames_some accepted e.before bb in
    let parts : left_by e ≡ e.before ++ (first ++ Write slot a v ∷ rest) = ap (λ (l : List Step). e.before ++ l) is in
    let all : whole ≡ e.before ++ (first ++ Write slot a v ∷ (rest ++ b.0)) = b.1 ∙ ap (λ (l : List Step). l ++ b.0) parts ∙ append_assoc e.before (first ++ Write slot a v ∷ rest) b.0 ∙ ap (λ (l : List Step). e.before ++ l) (append_assoc first (Write slot a v ∷ rest) b.0) in
    let above = later_stays_above sizes e.before first (rest ++ b.0) slot a v page_some (subst (IsAccepted sizes) all accepted) in
    omega (arith, above, closed-le-head sizes e.before ok, head-le-flushed sizes e.before ok, flushed-le-safe_read_only sizes e.before page_some ok)

module _ (F : Type 0) (sizes : Sizes) (riders : List RiderState) (ending : EndingState F) (ends : IsEnding sizes riders ending) (page_some : 0 < sizes.page_size) (frames_some : 0 < sizes.frames) (history : List TouchBy)
    (its : IsHistory sizes (ends.steps_cut ++ ending.journal) riders ends.ruled.rule.order.0 history) where
  abbrev whole : List Step
  whole = ends.steps_cut ++ ending.journal

  -- where the address of a rider's act is open, it is so at the act's place
  pub open_there : (i : ℕ) (newer before : List TouchBy) (t : Touch) (a : ℕ) → history ≡ newer ++ by_rider i t ∷ before → OpenAt sizes (Calls (ends.steps_cut ++ ending.journal)) (closed (ends.steps_cut ++ ending.journal)) (touches_of i newer) (touches_of i before) a
      → OpenThere sizes (ends.steps_cut ++ ending.journal) (map (λ (q : RiderState). q.view) riders) a before
  open_there i newer before t a parts o =
      let views = map (λ (q : RiderState). q.view) riders in
      let order = ends.ruled.rule.order in
      let ys = touches_of i before in
      let e = o.is_open.0 in
      let n = next_call ys e o.is_open.1 (subst (AreTied ys) o.is_open.2 o.tied) in
      let bA : Begins (left_by e) whole = (subst (Every (Calls whole)) o.is_open.2 o.holds).0.0 in
      let grown = subst (λ (m : ℕ). HasGrown views m (in_cells sizes before)) n.5 (grown_here sizes _ _ views order history newer before its.cells i t parts n.1 n.2 n.0 n.3 n.4) in
      ⊎_elim
      (λ (at_end : o.low ≡ closed whole).
      record {
        list = left_by e;
        later = whole;
        begins = bA;
        ends = ([], sym (append-nil whole));
        below = o.is_open.3;
        unclosed = omega (arith, at_end, o.is_open.4);
        grown = grown;
        none_left = none_at_end F sizes riders ending ends (in_cells sizes before);
      })
      (λ (c : (last : List Touch) × (met left : Extent) × (middle : List Touch) × (call : Entry) × (touches_of i newer ≡ last ++ Called met left ∷ middle) × (met.steps ≡ length call.before) × (o.low ≡ closed call.before) × Calls whole call).
      let call = c.4 in
      record {
        list = left_by e;
        later = call.before;
        begins = bA;
        ends = shorter sizes whole page_some frames_some ends.accepted call.before call.steps c.8.0;
        below = o.is_open.3;
        unclosed = omega (arith, c.7, o.is_open.4);
        grown = grown;
        none_left = subst (λ (m : ℕ). HasNoneLeft views m (in_cells sizes before)) c.6 (none_here sizes _ _ views order history newer before its.cells i t parts c.1 c.2 c.0 c.3 c.5);
      })
      o.behind

  -- and its cell holds what that memory has
  cell_open : (i : ℕ) (newer before : List TouchBy) (t : Touch) (a : ℕ) → history ≡ newer ++ by_rider i t ∷ before → OpenAt sizes (Calls (ends.steps_cut ++ ending.journal)) (closed (ends.steps_cut ++ ending.journal)) (touches_of i newer) (touches_of i before) a
      → held (cell_at sizes a) (in_cells sizes before) ≡ held a before
  cell_open i newer before t a parts o =
      open_cell F sizes riders ending ends page_some frames_some history (newer ++ by_rider i t ∷ []) before its (parts ∙ sym (append_assoc newer (by_rider i t ∷ []) before)) a (open_there i newer before t a parts o)

  -- what stands in the order at an act's place found its cell
  cell_finds : (i : ℕ) (newer before : List TouchBy) (t : Touch) → history ≡ newer ++ by_rider i t ∷ before → Finds (in_cells sizes before) (in_cell sizes t)
  cell_finds i newer before t is =
      let parts = sym its.cells ∙ ap (in_cells sizes) is ∙ cells_both sizes newer (by_rider i t ∷ before) in
      (serial_end (in_cells sizes newer) (by_rider i (in_cell sizes t) ∷ in_cells sizes before) (subst IsSerial parts ends.ruled.rule.order.1.serial)).0

  own_at : (i : ℕ) (newer before : List TouchBy) (t : Touch) → history ≡ newer ++ by_rider i t ∷ before → touches_of i history ≡ touches_of i newer ++ t ∷ touches_of i before
  own_at i newer before t is = ap (touches_of i) is ∙ touches_both i newer (by_rider i t ∷ before) ∙ ap (λ (l : List Touch). touches_of i newer ++ l) (own_more i t before)

  -- the rider whose an act is
  pub whose_act : (i : ℕ) (newer before : List TouchBy) (t : Touch) → history ≡ newer ++ by_rider i t ∷ before → (r : RiderState) × (slice_get riders i ≡ Some r)
  whose_act i newer before t is =
      let views = map (λ (q : RiderState). q.view) riders in
      let parts = sym its.cells ∙ ap (in_cells sizes) is ∙ cells_both sizes newer (by_rider i t ∷ before) in
      let less : i < length views = every_in (λ (x : TouchBy). x.rider < length views) (in_cells sizes newer) (by_rider i (in_cell sizes t)) (in_cells sizes before) (subst (Every (λ (x : TouchBy). x.rider < length views)) parts ends.ruled.rule.order.1.theirs) in
      there riders i (omega (arith, less, length-map riders (λ (q : RiderState). q.view)))

  -- a change's address is open
  pub change_open : (i : ℕ) (newer before : List TouchBy) (a found v : ℕ) → history ≡ newer ++ by_rider i (Changed a found v) ∷ before → OpenAt sizes (Calls (ends.steps_cut ++ ending.journal)) (closed (ends.steps_cut ++ ending.journal)) (touches_of i newer) (touches_of i before) a
  change_open i newer before a found v is =
      let r = whose_act i newer before (Changed a found v) is in
      let acts = touches_of i history in
      let ys = touches_of i before in
      let f = find_at sizes whole r.0 acts (its.each i r.0 r.1) (of_one_list whole riders ends.one_list i r.0 r.1).begins (tied_of riders ends.tied i r.0 r.1) (touches_of i newer) (Changed a found v) ys (own_at i newer before (Changed a found v) is) in
      let w = f.entered in
      let d = w.3 in
      let opens : (low : ℕ) → low ≤ a → IsOpen sizes a f.calls low = λ low le. (d.2, d.3, d.4, d.5, le) in
      ⊎_elim
      (λ (waits : Waits whole w.0).
      let low : closed whole ≤ a = omega (arith, waits d.0 a v d.1, closed-le-head sizes whole ends.accepted, head-le-flushed sizes whole ends.accepted, flushed-le-safe_read_only sizes whole page_some ends.accepted) in
      record { calls = f.calls; low = closed whole; is_open = opens (closed whole) low; tied = f.tied; holds = f.holds; behind = inl refl })
      (λ (g : IsEntering acts (Changed a found v) ys (Calls whole) w.0).
      let low = write_open sizes whole page_some frames_some ends.accepted g.call g.holds.0 g.first g.rest d.0 a v (g.steps ∙ ap (λ (x : Step). g.first ++ x ∷ g.rest) d.1) in
      let all : touches_of i newer ++ Changed a found v ∷ ys ≡ (g.late ++ Called g.met g.left ∷ g.between) ++ Changed a found v ∷ ys =
      sym (own_at i newer before (Changed a found v) is) ∙ g.all_are ∙ sym (append_assoc g.late (Called g.met g.left ∷ g.between) (Changed a found v ∷ ys)) in
      let own = same_begin (touches_of i newer) (g.late ++ Called g.met g.left ∷ g.between) (Changed a found v ∷ ys) all in
      record { calls = f.calls; low = closed g.call.before; is_open = opens (closed g.call.before) low; tied = f.tied; holds = f.holds; behind = inr (g.late, g.met, g.left, g.between, g.call, own, g.met_is, refl, g.holds) })
      (subst (Every (λ (u : Step). Waits whole u ⊎ IsEntering acts (Changed a found v) ys (Calls whole) u)) w.2 f.origins).0

  change_finds : (i : ℕ) (newer before : List TouchBy) (a found v : ℕ) → history ≡ newer ++ by_rider i (Changed a found v) ∷ before → found ≡ held a before
  change_finds i newer before a found v is = cell_finds i newer before (Changed a found v) is ∙ cell_open i newer before (Changed a found v) a is (change_open i newer before a found v is)

  -- a load's address is open, where its rider's loads are
  pub load_open : (i : ℕ) (r : RiderState) → slice_get riders i ≡ Some r → AreOpen sizes (touches_of i history) r.calls (closed (ends.steps_cut ++ ending.journal)) → (newer before : List TouchBy) (a v : ℕ) → history ≡ newer ++ by_rider i (Loaded a v) ∷ before
      → OpenAt sizes (Calls (ends.steps_cut ++ ending.journal)) (closed (ends.steps_cut ++ ending.journal)) (touches_of i newer) (touches_of i before) a
  load_open i r at opens newer before a v parts =
      let are = its.each i r at in
      let begins = (of_one_list whole riders ends.one_list i r at).begins in
      let own = own_at i newer before (Loaded a v) parts in
      let tied = ties sizes whole r (touches_of i history) are begins (tied_of riders ends.tied i r at) in
      find_open sizes (Calls whole) (closed whole) a v (touches_of i before) [] (touches_of i newer) r.calls (closed whole) (subst (λ (l : List Touch). AreOpen sizes l r.calls (closed whole)) own opens) (subst (λ (l : List Touch). AreTied l r.calls) own tied)
      (all_calls sizes whole r (touches_of i history) are begins (tied_of riders ends.tied i r at)) (inl refl)

  open_finds : (i : ℕ) (r : RiderState) → slice_get riders i ≡ Some r → AreOpen sizes (touches_of i history) r.calls (closed (ends.steps_cut ++ ending.journal)) → FindMemory i history
  open_finds i r at opens newer before act is = by act is
    where
      by : (t : Touch) → history ≡ newer ++ by_rider i t ∷ before → FindsMemory before t
      by (Loaded a v) parts = cell_finds i newer before (Loaded a v) parts ∙ cell_open i newer before (Loaded a v) a parts (load_open i r at opens newer before a v parts)
      by (Changed a f v) parts = change_finds i newer before a f v parts
      by (Stored a v) parts = tt
      by (Called m n) parts = tt
      by (Looked w x) parts = tt
      by (Met m x) parts = tt

pub changes_find_memory : (F : Type 0) → ChangesFindMemory F
changes_find_memory F sizes riders ending ends page_some frames_some history newer before its i a found v is = change_finds F sizes riders ending ends page_some frames_some history its i newer before a found v is

pub open_find_memory : (F : Type 0) → OpenFindMemory F
open_find_memory F sizes riders ending ends page_some frames_some history its i r at opens = open_finds F sizes riders ending ends page_some frames_some history its i r at opens

-- the acts without the newest of one rider
abbrev without : (ℕ → List Touch) → ℕ → List Touch → ℕ → List Touch
without acts j xs i = if i == j then xs else acts i

no_acts : (sizes : Sizes) (xs : List Touch) → map (in_cell sizes) xs ≡ [] → xs ≡ []
no_acts sizes [] e = refl
no_acts sizes (x ∷ xs) e = absurd (cc e)

-- acts that are those of an order make one
make : (sizes : Sizes) (order : List TouchBy) (acts : ℕ → List Touch) → ((i : ℕ) → map (in_cell sizes) (acts i) ≡ touches_of i order) → (history : List TouchBy) × (in_cells sizes history ≡ order) × ((i : ℕ) → touches_of i history ≡ acts i)
make sizes [] acts e = ([], refl, λ i. sym (no_acts sizes (acts i) (e i)))
make sizes (t ∷ order) acts e = by (acts t.rider) refl (λ next f. make sizes order next f)
  where
    by : (own : List Touch) → acts t.rider ≡ own → ((next : ℕ → List Touch) → ((i : ℕ) → map (in_cell sizes) (next i) ≡ touches_of i order) → (history : List TouchBy) × (in_cells sizes history ≡ order) × ((i : ℕ) → touches_of i history ≡ next i))
        → (history : List TouchBy) × (in_cells sizes history ≡ t ∷ order) × ((i : ℕ) → touches_of i history ≡ acts i)
    by [] is more = let no : [] ≡ t.touch ∷ touches_of t.rider order = ap (λ (l : List Touch). map (in_cell sizes) l) (sym is) ∙ e t.rider ∙ own_more t.rider t.touch order in absurd (cc no)
    by (x ∷ xs) is more =
        let both : in_cell sizes x ∷ map (in_cell sizes) xs ≡ t.touch ∷ touches_of t.rider order = ap (λ (l : List Touch). map (in_cell sizes) l) (sym is) ∙ e t.rider ∙ own_more t.rider t.touch order in
        let head : in_cell sizes x ≡ t.touch = cc both in
        let rest : map (in_cell sizes) xs ≡ touches_of t.rider order = cc both in
        let next = without acts t.rider xs in
        let same : (i : ℕ) → i ≡ t.rider → next i ≡ xs = λ i eq. ap (λ (b : Bool). if b then xs else acts i) (eq-eqb i t.rider eq) in
        let other : (i : ℕ) → i ≢ t.rider → next i ≡ acts i = λ i apart. ap (λ (b : Bool). if b then xs else acts i) (ne_eqb i t.rider apart) in
        let h = more next
        (λ i.
        ⊎_elim
        (λ (eq : i ≡ t.rider). ap (λ (l : List Touch). map (in_cell sizes) l) (same i eq) ∙ rest ∙ ap (λ (k : ℕ). touches_of k order) (sym eq))
        (λ (apart : i ≢ t.rider). ap (λ (l : List Touch). map (in_cell sizes) l) (other i apart) ∙ e i ∙ other_more i t.rider t.touch order (λ eq. apart (sym eq)))
        (cases_eq i t.rider)) in (
          by_rider t.rider x ∷ h.0,
          ap (λ (u : Touch). by_rider t.rider u ∷ in_cells sizes h.0) head ∙ ap (λ (l : List TouchBy). t ∷ l) h.1,
          λ i.
              ⊎_elim
              (λ (eq : i ≡ t.rider).
              ap (λ (k : ℕ). touches_of k (by_rider t.rider x ∷ h.0)) eq ∙ own_more t.rider x h.0 ∙ ap (λ (l : List Touch). x ∷ l) (h.2 t.rider ∙ same t.rider refl) ∙ sym is ∙ ap acts (sym eq))
              (λ (apart : i ≢ t.rider). other_more i t.rider x h.0 (λ eq. apart (sym eq)) ∙ h.2 i ∙ other i apart)
              (cases_eq i t.rider),
        )

-- a rider beyond them all did nothing
none_beyond : (n k : ℕ) (order : List TouchBy) → n ≤ k → Every (λ (t : TouchBy). t.rider < n) order → touches_of k order ≡ []
none_beyond n k [] far h = refl
none_beyond n k (t ∷ order) far h = other_more k t.rider t.touch order (λ eq. omega (arith, eq, h.0, far)) ∙ none_beyond n k order far h.1

pub histories_stand : (F : Type 0) → HistoriesStand F
histories_stand F sizes riders ending ends acts are none =
    let order = ends.ruled.rule.order in
    let views = map (λ (q : RiderState). q.view) riders in
    let all : (i : ℕ) → map (in_cell sizes) (acts i) ≡ touches_of i order.0 =
    λ i.
    ⊎_elim
    (λ (less : i < length riders). let r = there riders i less in (are i r.0 r.1).touches ∙ order.1.each i r.0.view (view_at riders i r.0 r.1))
    (λ (far : length riders ≤ i).
    ap (λ (l : List Touch). map (in_cell sizes) l) (none i far) ∙ sym (none_beyond (length views) i order.0 (omega (arith, far, length-map riders (λ (q : RiderState). q.view))) order.1.theirs))
    (cases_lt i (length riders)) in
    let h = make sizes order.0 acts all in (
      h.0,
      record { cells = h.1; each = λ i r at. subst (AreActsOf sizes (ends.steps_cut ++ ending.journal) r) (sym (h.2 i)) (are i r at) },
      h.2,
    )

pub one_memory : (F : Type 0) → OneMemory F
one_memory F sizes riders ending ends acts page_some frames_some are none =
    let h = histories_stand F sizes riders ending ends acts are none in
    let whole = ends.steps_cut ++ ending.journal in (
      h.0,
      h.1.cells,
      h.2,
      λ i r at opens. open_find_memory F sizes riders ending ends page_some frames_some h.0 h.1 i r at (subst (λ (l : List Touch). AreOpen sizes l r.calls (closed whole)) (sym (h.2 i)) opens),
    )
