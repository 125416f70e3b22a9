-- The acts of those riders of an order that are threads, put into one trace.
use Rattle.std.proofs.Common.{◌≡◌, ◌≢◌, ℕ, ◌+◌, ◌<◌, ◌≤◌, ◌==◌, ◌⊎◌, Bool, true, false, List, [], ◌∷◌, ◌++◌, length, refl, ap, sym, ◌∙◌, inl, inr, ⊎_elim, subst, arith, append_assoc, length-append}
use Rattle.std.specs.Prelude.{if◌then◌else◌}
use Rattle.std.specs.List.{AllByRecursion as Every}
use Rattle.std.proofs.lemmas.Bool.{cases_eq, eq-eqb, ne_eqb}
use Rattle.std.proofs.lemmas.List.{append-nil}
use Rattle.hl_model.specs.declared.step.Step.{Step}
use Rattle.hl_model.specs.declared.step.Step.TheVariants.{Allocate}
use Rattle.hl_model.specs.Offsets.{place_of, tail}
use Rattle.hl_model.specs.Sizes.{Sizes}
use Rattle.hl_laws.proofs.OffsetLaws.{place_of-le, tail-grows, tail-push}
use Rattle.hl_history.specs.declared.view.Entry.{Entry}
use Rattle.hl_history.specs.Lists.{Begins, left_by}
use Rattle.hl_words.specs.declared.view.Extent.{Extent}
use Rattle.hl_words.specs.declared.view.Touch.{Touch}
use Rattle.hl_words.specs.declared.view.Touch.TheVariants.{Stored as StoredIn, Loaded as LoadedFrom, Changed as ChangedIn, Called}
use Rattle.hl_words.specs.Rule.{left_by as leaves_by, TouchBy, by_rider, called_by, held, last_called, touches_of, Finds}
use Rattle.hl_words.specs.States.{AreTied}
use Rattle.hl_words.proofs.Cut.{every_append, every_weaker}
use Rattle.hl_words.proofs.Lawful.{Puts, Passes, puts_or_passes}
use Rattle.hl_images.proofs.PlaceLaws.{begins_both}
use Rattle.hl_traces.specs.declared.act.Act.{Act}
use Rattle.hl_traces.specs.declared.act.Act.TheVariants.{Placed, Met}
use Rattle.hl_memory.specs.Acts.{in_cell, IsPut}
use Rattle.hl_traces.specs.OneTrace.{ActBy, by_thread, acts_by, left_at, placed_end, EndsBelow, LeftUpTo, AreInRow, AreOne}
use Rattle.hl_traces.specs.Traces.{placed_by, places, calls_before, told_as, acts_of}
use Rattle.hl_memory.proofs.ActLaws.{put_is}

-- acts of one thread
abbrev pub tagged : ℕ → List Act → List ActBy
tagged i [] = []
tagged i (x ∷ xs) = by_thread i x ∷ tagged i xs

tagged_both : (i : ℕ) (xs ys : List Act) (rest : List ActBy) → tagged i (xs ++ ys) ++ rest ≡ tagged i xs ++ (tagged i ys ++ rest)
tagged_both i [] ys rest = refl
tagged_both i (x ∷ xs) ys rest = ap (λ (l : List ActBy). by_thread i x ∷ l) (tagged_both i xs ys rest)

own_tagged : (i : ℕ) (xs : List Act) (rest : List ActBy) → acts_by i (tagged i xs ++ rest) ≡ xs ++ acts_by i rest
own_tagged i [] rest = refl
own_tagged i (x ∷ xs) rest =
    ap (λ (b : Bool). if b then x ∷ acts_by i (tagged i xs ++ rest) else acts_by i (tagged i xs ++ rest)) (eq-eqb i i refl) ∙ ap (λ (l : List Act). x ∷ l) (own_tagged i xs rest)

other_tagged : (i j : ℕ) (xs : List Act) (rest : List ActBy) → j ≢ i → acts_by i (tagged j xs ++ rest) ≡ acts_by i rest
other_tagged i j [] rest apart = refl
other_tagged i j (x ∷ xs) rest apart =
    ap (λ (b : Bool). if b then x ∷ acts_by i (tagged j xs ++ rest) else acts_by i (tagged j xs ++ rest)) (ne_eqb j i apart) ∙ other_tagged i j xs rest apart

theirs_tagged : (is_thread : ℕ → Bool) (i : ℕ) (xs : List Act) → is_thread i ≡ true → Every (λ (t : ActBy). is_thread t.thread ≡ true) (tagged i xs)
theirs_tagged is_thread i [] own = tt
theirs_tagged is_thread i (x ∷ xs) own = (own, theirs_tagged is_thread i xs own)

-- it is one of the two, and not both
pub either : (b : Bool) → (b ≡ true) ⊎ (b ≡ false)
either true = inl refl
either false = inr refl

pub not_both : {b : Bool} → b ≡ true → b ≡ false → ⊥
not_both is is_not = absurd (let contrary : true ≡ false = sym is ∙ is_not in cc)

-- the calls that each rider made before a touch, of these
abbrev pub dropped : TouchBy → (ℕ → List Entry) → ℕ → List Entry
dropped t calls i = if i == t.rider then calls_before t.touch (calls i) else calls i

own_dropped : (t : TouchBy) (calls : ℕ → List Entry) (i : ℕ) → i ≡ t.rider → dropped t calls i ≡ calls_before t.touch (calls i)
own_dropped t calls i same = ap (λ (b : Bool). if b then calls_before t.touch (calls i) else calls i) (eq-eqb i t.rider same)

other_dropped : (t : TouchBy) (calls : ℕ → List Entry) (i : ℕ) → i ≢ t.rider → dropped t calls i ≡ calls i
other_dropped t calls i apart = ap (λ (b : Bool). if b then calls_before t.touch (calls i) else calls i) (ne_eqb i t.rider apart)

pub own_touch : (t : TouchBy) (b : List TouchBy) (i : ℕ) → i ≡ t.rider → touches_of i (t ∷ b) ≡ t.touch ∷ touches_of i b
own_touch t b i same = ap (λ (x : Bool). if x then t.touch ∷ touches_of i b else touches_of i b) (eq-eqb t.rider i (sym same))

other_touch : (t : TouchBy) (b : List TouchBy) (i : ℕ) → i ≢ t.rider → touches_of i (t ∷ b) ≡ touches_of i b
other_touch t b i apart = ap (λ (x : Bool). if x then t.touch ∷ touches_of i b else touches_of i b) (ne_eqb t.rider i (λ e. apart (sym e)))

-- what an act leaves of a bound stays below a greater one
higher : (m n : ℕ) → m ≤ n → (x : Act) → EndsBelow m x → EndsBelow n x
higher m n le (Placed a k) h = omega (arith, le, h)
higher m n le _ h = tt

pub all_higher : (m n : ℕ) → m ≤ n → (X : List ActBy) → Every (λ (t : ActBy). EndsBelow m t.act) X → Every (λ (t : ActBy). EndsBelow n t.act) X
all_higher m n le X below = every_weaker (λ (x : ActBy). EndsBelow m x.act) (λ (x : ActBy). EndsBelow n x.act) X (λ x e. higher m n le x.act e) below

-- the tail is never lower behind more steps
pub tail_more : (sizes : Sizes) → 0 < sizes.page_size → (A steps : List Step) → tail sizes A ≤ tail sizes (A ++ steps)
tail_more sizes page_some A [] = omega (arith, ap (tail sizes) (append-nil A))
tail_more sizes page_some A (s ∷ steps) = omega (arith, tail-grows sizes A s page_some, tail_more sizes page_some (A ++ s ∷ []) steps, ap (tail sizes) (append_assoc A (s ∷ []) steps))

module _ (sizes : Sizes) (is_thread : ℕ → Bool) where
  -- the acts of one touch, if its rider is a thread
  abbrev pub shown : TouchBy → (ℕ → List Entry) → List ActBy
  shown t calls = if is_thread t.rider then tagged t.rider (told_as sizes t.touch (calls t.rider)) else []

  -- those of an order of touches by address
  abbrev pub joined : List TouchBy → (ℕ → List Entry) → List ActBy
  joined [] calls = []
  joined (t ∷ b) calls = shown t calls ++ joined b (dropped t calls)

  -- what holds of them on top of others, if the rider is a thread, and of those others, if it is none
  pub shown_by : (P : List ActBy → Type 0) (t : TouchBy) (calls : ℕ → List Entry) (rest : List ActBy) → (is_thread t.rider ≡ true → P (tagged t.rider (told_as sizes t.touch (calls t.rider)) ++ rest)) → (is_thread t.rider ≡ false → P rest) → P (shown t calls ++ rest)
  shown_by P t calls rest own other = by (is_thread t.rider) own other
    where
      by : (b : Bool) → (b ≡ true → P (tagged t.rider (told_as sizes t.touch (calls t.rider)) ++ rest)) → (b ≡ false → P rest) → P ((if b then tagged t.rider (told_as sizes t.touch (calls t.rider)) else []) ++ rest)
      by true own other = own refl
      by false own other = other refl

  -- by whom they are
  pub joined_theirs : (b : List TouchBy) (calls : ℕ → List Entry) → Every (λ (t : ActBy). is_thread t.thread ≡ true) (joined b calls)
  joined_theirs [] calls = tt
  joined_theirs (t ∷ b) calls =
      let P = λ (x : ActBy). is_thread x.thread ≡ true in
      let rest = joined_theirs b (dropped t calls) in
      shown_by (Every P) t calls (joined b (dropped t calls))
      (λ low. every_append P (tagged t.rider (told_as sizes t.touch (calls t.rider))) (joined b (dropped t calls)) (theirs_tagged is_thread t.rider (told_as sizes t.touch (calls t.rider)) low) rest) (λ far. rest)

  -- the acts of each thread
  pub joined_each : (i : ℕ) → is_thread i ≡ true → (b : List TouchBy) (calls : ℕ → List Entry) → acts_by i (joined b calls) ≡ acts_of sizes (touches_of i b) (calls i)
  joined_each i less [] calls = refl
  joined_each i less (t ∷ b) calls = let before = joined_each i less b (dropped t calls) in ⊎_elim (own before) (other before) (cases_eq i t.rider)
    where
      rest : List ActBy
      rest = joined b (dropped t calls)

      own : acts_by i (joined b (dropped t calls)) ≡ acts_of sizes (touches_of i b) (dropped t calls i) → i ≡ t.rider → acts_by i (joined (t ∷ b) calls) ≡ acts_of sizes (touches_of i (t ∷ b)) (calls i)
      own before same =
          shown_by (λ (l : List ActBy). acts_by i l ≡ told_as sizes t.touch (calls i) ++ acts_by i rest) t calls rest
          (λ low. ap (λ (k : ℕ). acts_by i (tagged k (told_as sizes t.touch (calls k)) ++ rest)) (sym same) ∙ own_tagged i (told_as sizes t.touch (calls i)) rest)
          (λ far. absurd (not_both less (ap is_thread same ∙ far)))
          ∙ ap (λ (l : List Act). told_as sizes t.touch (calls i) ++ l) (before ∙ ap (acts_of sizes (touches_of i b)) (own_dropped t calls i same))
          ∙ sym (ap (λ (l : List Touch). acts_of sizes l (calls i)) (own_touch t b i same))

      skipped : i ≢ t.rider → acts_by i (shown t calls ++ rest) ≡ acts_by i rest
      skipped apart = shown_by (λ (l : List ActBy). acts_by i l ≡ acts_by i rest) t calls rest (λ low. other_tagged i t.rider (told_as sizes t.touch (calls t.rider)) rest (λ e. apart (sym e))) (λ far. refl)

      other : acts_by i (joined b (dropped t calls)) ≡ acts_of sizes (touches_of i b) (dropped t calls i) → i ≢ t.rider → acts_by i (joined (t ∷ b) calls) ≡ acts_of sizes (touches_of i (t ∷ b)) (calls i)
      other before apart = skipped apart ∙ before ∙ ap (acts_of sizes (touches_of i b)) (other_dropped t calls i apart) ∙ sym (ap (λ (l : List Touch). acts_of sizes l (calls i)) (other_touch t b i apart))

  -- what one touch leaves at an address
  module _ (a : ℕ) where
    quiet_places : (i : ℕ) (A : List Step) (s : Step) (rest : List ActBy) → left_at a (tagged i (placed_by sizes A s) ++ rest) ≡ left_at a rest
    quiet_places i A (Allocate t n) rest = refl
    quiet_places i A _ rest = refl

    still_placed : (i : ℕ) (A steps : List Step) (rest : List ActBy) → left_at a (tagged i (places sizes A steps) ++ rest) ≡ left_at a rest
    still_placed i A [] rest = refl
    still_placed i A (s ∷ steps) rest =
        ap (left_at a) (tagged_both i (places sizes (A ++ s ∷ []) steps) (placed_by sizes A s) rest)
        ∙ still_placed i (A ++ s ∷ []) steps (tagged i (placed_by sizes A s) ++ rest)
        ∙ quiet_places i A s rest

    shown_leaves : (i : ℕ) (t : Touch) (calls : List Entry) (rest : List ActBy) (w : ℕ) → left_at a rest ≡ w → left_at a (tagged i (told_as sizes t calls) ++ rest) ≡ leaves_by a t w
    shown_leaves i (StoredIn d v) calls rest w e = ap (λ (x : ℕ). if d == a then v else x) e
    shown_leaves i (ChangedIn d f v) calls rest w e = ap (λ (x : ℕ). if d == a then v else x) e
    shown_leaves i (Called met left) [] rest w e = e
    shown_leaves i (Called met left) (call ∷ calls) rest w e =
        ap (left_at a) (tagged_both i (places sizes call.before call.steps) (Met left.steps ∷ []) rest) ∙ still_placed i call.before call.steps (by_thread i (Met left.steps) ∷ rest) ∙ e
    shown_leaves i _ calls rest w e = e

    -- nobody but threads stores at the address
    abbrev pub OnlyThreads : List TouchBy → Type 0
    OnlyThreads b = (front : List TouchBy) (i : ℕ) (act : Touch) (base : List TouchBy) (v : ℕ) → b ≡ front ++ by_rider i act ∷ base → IsPut act a v → is_thread i ≡ true

    fewer : (t : TouchBy) (b : List TouchBy) → OnlyThreads (t ∷ b) → OnlyThreads b
    fewer t b only front i act base v is puts = only (t ∷ front) i act base v (ap (λ (l : List TouchBy). t ∷ l) is) puts

    -- then their acts leave there what all do
    pub joined_leaves : (b : List TouchBy) (calls : ℕ → List Entry) → OnlyThreads b → left_at a (joined b calls) ≡ held a b
    joined_leaves [] calls only = refl
    joined_leaves (t ∷ b) calls only =
        let rest = joined b (dropped t calls) in
        let before = joined_leaves b (dropped t calls) (fewer t b only) in
        shown_by (λ (l : List ActBy). left_at a l ≡ held a (t ∷ b)) t calls rest (λ low. shown_leaves t.rider t.touch (calls t.rider) rest (held a b) before)
        (λ far.
        before
        ∙ ⊎_elim
        (λ (p : Puts a t.touch). let is = put_is a t.touch p in absurd (not_both (only [] t.rider t.touch b is.0 refl is.1) far))
        (λ (p : Passes a t.touch). sym (p.leaves (held a b)))
        (puts_or_passes a t.touch))

    -- what stands in front, where no thread stores there
    abbrev pub NoneByThreads : List TouchBy → Type 0
    NoneByThreads b = (front : List TouchBy) (i : ℕ) (act : Touch) (base : List TouchBy) (v : ℕ) → b ≡ front ++ by_rider i act ∷ base → IsPut act a v → is_thread i ≡ false

    abbrev pub all_dropped : List TouchBy → (ℕ → List Entry) → ℕ → List Entry
    all_dropped [] calls = calls
    all_dropped (t ∷ front) calls = all_dropped front (dropped t calls)

    pub joined_behind : (newer before : List TouchBy) (calls : ℕ → List Entry) → NoneByThreads newer → left_at a (joined (newer ++ before) calls) ≡ left_at a (joined before (all_dropped newer calls))
    joined_behind [] before calls none = refl
    joined_behind (t ∷ newer) before calls none =
        let rest = joined (newer ++ before) (dropped t calls) in
        let sooner = joined_behind newer before (dropped t calls) (λ front i act base v is puts. none (t ∷ front) i act base v (ap (λ (l : List TouchBy). t ∷ l) is) puts) in
        shown_by (λ (l : List ActBy). left_at a l ≡ left_at a (joined before (all_dropped (t ∷ newer) calls))) t calls rest
        (λ low.
        shown_leaves t.rider t.touch (calls t.rider) rest (left_at a rest) refl
        ∙ ⊎_elim
        (λ (p : Puts a t.touch). let is = put_is a t.touch p in absurd (not_both low (none [] t.rider t.touch newer is.0 refl is.1)))
        (λ (p : Passes a t.touch). p.leaves (left_at a rest))
        (puts_or_passes a t.touch)
        ∙ sooner)
        (λ far. sooner)

  -- the calls of each rider before a place of the order, each of which is so
  abbrev pub Ties : (ℕ → Entry → Type 0) → List TouchBy → (ℕ → List Entry) → Type 0
  Ties Fits b calls = (i : ℕ) → AreTied (touches_of i b) (calls i) × Every (Fits i) (calls i)

  -- they stay so below
  lower : (P : Entry → Type 0) (t : Touch) (ts : List Touch) (calls : List Entry) → AreTied (t ∷ ts) calls × Every P calls → AreTied ts (calls_before t calls) × Every P (calls_before t calls)
  lower P (Called met left) ts [] h = absurd h.0
  lower P (Called met left) ts (call ∷ calls) h = (h.0.2, h.1.1)
  lower P _ ts calls h = h

  pub own_ties : (Fits : ℕ → Entry → Type 0) (t : TouchBy) (b : List TouchBy) (calls : ℕ → List Entry) (i : ℕ) → i ≡ t.rider → Ties Fits (t ∷ b) calls → AreTied (t.touch ∷ touches_of i b) (calls i) × Every (Fits i) (calls i)
  own_ties Fits t b calls i same ties = subst (λ (ts : List Touch). AreTied ts (calls i) × Every (Fits i) (calls i)) (own_touch t b i same) (ties i)

  pub lower_ties : (Fits : ℕ → Entry → Type 0) (t : TouchBy) (b : List TouchBy) (calls : ℕ → List Entry) → Ties Fits (t ∷ b) calls → Ties Fits b (dropped t calls)
  lower_ties Fits t b calls ties i =
      ⊎_elim
      (λ (same : i ≡ t.rider).
      subst (λ (cs : List Entry). AreTied (touches_of i b) cs × Every (Fits i) cs) (sym (own_dropped t calls i same)) (lower (Fits i) t.touch (touches_of i b) (calls i) (own_ties Fits t b calls i same ties)))
      (λ (apart : i ≢ t.rider).
      subst (λ (cs : List Entry). AreTied (touches_of i b) cs × Every (Fits i) cs) (sym (other_dropped t calls i apart)) (subst (λ (ts : List Touch). AreTied ts (calls i) × Every (Fits i) (calls i)) (other_touch t b i apart) (ties i)))
      (cases_eq i t.rider)

  -- Where the newest call left this list, of so many steps, the acts of threads so far are one trace: no call left more, and no
  -- record ends above the tail. If no others place records, they lie in a row up to it
  module _ (page_some : 0 < sizes.page_size) (NoOthers : Type 0) where
    pub record Stands (n : ℕ) (A : List Step) (X : List ActBy) : Type 0 where
      pub one : AreOne X
      pub left : Every (λ (t : ActBy). LeftUpTo n t.act) X
      pub below : Every (λ (t : ActBy). EndsBelow (tail sizes A) t.act) X
      pub placed : NoOthers → (tail sizes A ≡ placed_end X) × AreInRow sizes.page_size X

    -- before the first
    pub stands_none : Stands 0 [] []
    unfolding tail
    stands_none = record { one = tt; left = tt; below = tt; placed = λ only. (refl, tt) }

    -- behind one step
    stands_one : (i n : ℕ) (A : List Step) (s : Step) (X : List ActBy) → Stands n A X → Stands n (A ++ s ∷ []) (tagged i (placed_by sizes A s) ++ X)
    stands_one i n A (Allocate t k) X h =
        let place = place_of sizes.page_size (tail sizes A) k in
        let least = place_of-le sizes.page_size (tail sizes A) k page_some in
        let ends : tail sizes (A ++ Allocate t k ∷ []) ≡ place + k = tail-push sizes A (Allocate t k) in
        record {
          one = (all_higher (tail sizes A) place least X h.below, h.one);
          left = (tt, h.left);
          below = (omega (arith, ends), all_higher (tail sizes A) (tail sizes (A ++ Allocate t k ∷ [])) (omega (arith, ends, least)) X h.below);
          placed = λ only. (ends, (ap (λ (e : ℕ). place_of sizes.page_size e k) (h.placed only).0, (h.placed only).1));
        }
    stands_one i n A s X h =
        let same : tail sizes (A ++ s ∷ []) ≡ tail sizes A = tail-push sizes A s in
        record {
          one = h.one;
          left = h.left;
          below = all_higher (tail sizes A) (tail sizes (A ++ s ∷ [])) (omega (arith, same)) X h.below;
          placed = λ only. (same ∙ (h.placed only).0, (h.placed only).1);
        }

    -- behind all steps of a call
    stands_all : (i n : ℕ) (A steps : List Step) (X : List ActBy) → Stands n A X → Stands n (A ++ steps) (tagged i (places sizes A steps) ++ X)
    stands_all i n A [] X h = subst (λ (l : List Step). Stands n l X) (sym (append-nil A)) h
    stands_all i n A (s ∷ steps) X h =
        subst (λ (l : List Step). Stands n l (tagged i (places sizes A (s ∷ steps)) ++ X)) (append_assoc A (s ∷ []) steps)
        (subst (Stands n ((A ++ s ∷ []) ++ steps)) (sym (tagged_both i (places sizes (A ++ s ∷ []) steps) (placed_by sizes A s) X))
        (stands_all i n (A ++ s ∷ []) steps (tagged i (placed_by sizes A s) ++ X) (stands_one i n A s X h)))

    -- behind those of another's call
    stands_past : (n : ℕ) (A steps : List Step) (X : List ActBy) → (NoOthers → places sizes A steps ≡ []) → Stands n A X → Stands n (A ++ steps) X
    stands_past n A steps X none h = record {
      one = h.one;
      left = h.left;
      below = all_higher (tail sizes A) (tail sizes (A ++ steps)) (tail_more sizes page_some A steps) X h.below;
      placed = λ only.
          subst (λ (l : List Act). (tail sizes (A ++ steps) ≡ placed_end (tagged 0 l ++ X)) × AreInRow sizes.page_size (tagged 0 l ++ X)) (none only) ((stands_all 0 n A steps X h).placed only);
    }

    up_more : (m n : ℕ) → m ≤ n → (x : Act) → LeftUpTo m x → LeftUpTo n x
    up_more m n le (Met k) h = omega (arith, le, h)
    up_more m n le _ h = tt

    stands_more : (m n : ℕ) (A : List Step) (X : List ActBy) → m ≤ n → Stands m A X → Stands n A X
    stands_more m n A X le h = record {
      one = h.one;
      left = every_weaker (λ (x : ActBy). LeftUpTo m x.act) (λ (x : ActBy). LeftUpTo n x.act) X (λ x e. up_more m n le x.act e) h.left;
      below = h.below;
      placed = h.placed;
    }

    -- so it is with each list that begins the whole one and is so long
    abbrev pub Standing : List Step → Extent → List ActBy → Type 0
    Standing whole e X = (A : List Step) → Begins A whole → length A ≡ e.steps → Stands e.steps A X

    -- two such are the same
    same_list : (whole A B : List Step) → Begins A whole → Begins B whole → length A ≡ length B → B ≡ A
    same_list whole A B a b long = let m = begins_both A B a.0 b.0 (sym a.1 ∙ b.1) (omega (arith, long)) in m.1 ∙ by m.0 m.1
      where
        by : (rest : List Step) → B ≡ A ++ rest → A ++ rest ≡ A
        by [] is = append-nil A
        by (s ∷ rest) is = absurd (omega (arith, ap length is, long, length-append A (s ∷ rest)))

    -- behind a call, of a thread or of another
    call_stands : (whole : List Step) (met left : Extent) (call : Entry) (X Y : List ActBy) → Begins (left_by call) whole → met.steps ≡ length call.before → left.steps ≡ length call.before + length call.steps → Standing whole met X
        → (Stands left.steps call.before X → Stands left.steps (left_by call) Y) → Standing whole left Y
    call_stands whole met left call X Y b long more sooner on A a is =
        let before : Begins call.before whole = (call.steps ++ b.0, b.1 ∙ append_assoc call.before call.steps b.0) in
        let same = same_list whole (left_by call) A b a (omega (arith, is, more, length-append call.before call.steps)) in
        subst (λ (l : List Step). Stands left.steps l Y) (sym same) (on (stands_more met.steps left.steps call.before X (omega (arith, long, more)) (sooner call.before before (sym long))))

    module _ (whole : List Step) (P : Entry → Type 0) (begins : (e : Entry) → P e → Begins (left_by e) whole) (before : List TouchBy) (X : List ActBy) (sooner : Standing whole (last_called before) X) where
      -- behind a touch of another
      pub past_other : (none : (e : Entry) → P e → NoOthers → places sizes e.before e.steps ≡ []) (t : Touch) (ts : List Touch) (calls : List Entry) → AreTied (t ∷ ts) calls × Every P calls → Finds before (in_cell sizes t)
          → Standing whole (called_by (in_cell sizes t) (last_called before)) X
      past_other none (Called met left) ts [] tie finds = absurd tie.0
      past_other none (Called met left) ts (call ∷ calls) tie finds =
          call_stands whole met left call X X (begins call tie.1.0) tie.0.0 tie.0.1 (subst (λ (e : Extent). Standing whole e X) (sym finds.0) sooner)
          (λ h. stands_past left.steps call.before call.steps X (none call tie.1.0) h)
      past_other none _ ts calls tie finds = sooner

      -- behind a thread's, where what a load or a change found is what the trace has
      pub past_own : (i : ℕ) (t : Touch) (ts : List Touch) (calls : List Entry) → AreTied (t ∷ ts) calls × Every P calls → Finds before (in_cell sizes t)
          → ((a v : ℕ) → t ≡ LoadedFrom a v → v ≡ left_at a X) → ((a f v : ℕ) → t ≡ ChangedIn a f v → f ≡ left_at a X)
          → Standing whole (called_by (in_cell sizes t) (last_called before)) (tagged i (told_as sizes t calls) ++ X)
      past_own i (StoredIn a v) ts calls tie finds loads changes = λ A b long.
          let h = sooner A b long in record { one = (tt, h.one); left = (tt, h.left); below = (tt, h.below); placed = λ only. ((h.placed only).0, (tt, (h.placed only).1)) }
      past_own i (LoadedFrom a v) ts calls tie finds loads changes = λ A b long.
          let h = sooner A b long in record { one = (loads a v refl, h.one); left = (tt, h.left); below = (tt, h.below); placed = λ only. ((h.placed only).0, (tt, (h.placed only).1)) }
      past_own i (ChangedIn a f v) ts calls tie finds loads changes = λ A b long.
          let h = sooner A b long in record { one = (changes a f v refl, h.one); left = (tt, h.left); below = (tt, h.below); placed = λ only. ((h.placed only).0, (tt, (h.placed only).1)) }
      past_own i (Called met left) ts [] tie finds loads changes = absurd tie.0
      past_own i (Called met left) ts (call ∷ calls) tie finds loads changes =
          call_stands whole met left call X (tagged i (told_as sizes (Called met left) (call ∷ calls)) ++ X) (begins call tie.1.0) tie.0.0 tie.0.1 (subst (λ (e : Extent). Standing whole e X) (sym finds.0) sooner)
          (λ h.
          subst (Stands left.steps (left_by call)) (sym (tagged_both i (places sizes call.before call.steps) (Met left.steps ∷ []) X))
          (stands_all i left.steps call.before call.steps (by_thread i (Met left.steps) ∷ X)
          (record { one = (h.left, h.one); left = (omega arith, h.left); below = (tt, h.below); placed = λ only. ((h.placed only).0, (tt, (h.placed only).1)) })))
      past_own i _ ts calls tie finds loads changes = sooner
