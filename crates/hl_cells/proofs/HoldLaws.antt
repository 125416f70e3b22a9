-- A row holds the actions that are taken and not done, with one step more.
use Rattle.std.proofs.Common.{◌≡◌, ℕ, ◌+◌, ◌<◌, ◌≤◌, Bool, true, false, cond, not, eqb, List, [], ◌∷◌, ◌++◌, length, map, remove, refl, sym, ap, ap₂, ◌∙◌, subst, arith, eq-eqb, ne_eqb, one-add}
use Rattle.std.specs.Prelude.{◌==◌, Option, Some, option_map}
use Rattle.std.specs.List.{find, filter, position_or_len}
use Rattle.std.proofs.lemmas.Bool.{eqb-true, eqb-false}
use Rattle.std.proofs.lemmas.List.{map-append, length-map}
use Rattle.std.proofs.lemmas.Simd.{map-map}
use Rattle.hl_model.specs.declared.action.Waiting.{Waiting}
use Rattle.hl_model.specs.declared.step.Step.{Step}
use Rattle.hl_model.specs.declared.step.Step.TheVariants.{Take, Done}
use Rattle.hl_model.specs.Sizes.{Sizes}
use Rattle.hl_model.specs.Epochs.{safe_epoch}
use Rattle.hl_model.specs.Actions.{front, taken, pending, is_take, is_taken, is_finished, finishes, action_at}
use Rattle.hl_model.specs.Replies.{IsAccepted}
use Rattle.hl_laws.proofs.ActionLaws.{taken-done, taken-stores, taken-nil}
use Rattle.hl_laws.proofs.DrainLaws.{taken-next, takes-le-actions, is_taken-parts, Rising-taken, length-both, actions-dones}
use Rattle.hl_laws.proofs.SettledLaws.{action_at-taken}
use Rattle.hl_laws.proofs.TicketLaws.{Rising, tickets-rising}
use Rattle.hl_action.specs.Firings.{FiringRecord}
use Rattle.hl_action.specs.Jobs.{ReadyRecord}
use Rattle.hl_drain.specs.Taken.{Rises}
use Rattle.hl_cells.specs.TakenActions.{Row, Holds, firings, undone_firings, firing_at, is_of, fires, tickets_held, tag_held, tag_of}
use Rattle.hl_cells.proofs.FiringLaws.{undone-nil, undone-stay, undone-take, undone-done, tickets-undone}
use Rattle.hl_cells.proofs.TakenRows.{map_remove}

-- numbers that rise from above one
abbrev Ascends : ℕ → List ℕ → Type 0
Ascends a [] = Unit {0}
Ascends a (x ∷ xs) = (a < x) × Ascends x xs

ascends_tickets : (a : ℕ) (ws : List Waiting) → Rising a ws → Ascends a (map (λ w. w.ticket) ws)
ascends_tickets a [] r = tt
ascends_tickets a (w ∷ ws) r = (r.0, ascends_tickets w.ticket ws r.1)

-- where all keys are above one, none is it
none_is : {X : Type 0} (key : X → ℕ) (c a : ℕ) (xs : List X) → c ≤ a → Ascends a (map key xs) → filter (λ x. not (c == key x)) xs ≡ xs
none_is key c a [] le r = refl
none_is key c a (x ∷ xs) le r =
    let rest = none_is key c (key x) xs (omega (arith, le, r.0)) r.1 in
    rw (ne_eqb c (key x) (λ e. omega (arith, le, r.0, e))) (ap (λ ys. x ∷ ys) rest)

-- where keys rise, those of other keys are all but the first of the key
others_are : {X : Type 0} (key : X → ℕ) (c a : ℕ) (xs : List X) → Ascends a (map key xs) → filter (λ x. not (c == key x)) xs ≡ remove xs (position_or_len (λ x. key x == c) xs)
others_are key c a [] r = refl
others_are {X = X} key c a (x ∷ xs) r = by_test (others_are key c (key x) xs r.1) (eqb (key x) c) refl
  where
    by_test : filter (λ x. not (c == key x)) xs ≡ remove xs (position_or_len (λ x. key x == c) xs) → (b : Bool) → eqb (key x) c ≡ b → filter (λ x. not (c == key x)) (x ∷ xs) ≡ remove (x ∷ xs) (position_or_len (λ x. key x == c) (x ∷ xs))
    by_test rest true e =
        let same : key x ≡ c = eqb-true (key x) c e in
        rw (e, eq-eqb c (key x) (sym same)) (none_is key c (key x) xs (omega (arith, same)) r.1)
    by_test rest false e = rw (e, ne_eqb c (key x) (λ h. eqb-false (key x) c e (sym h)), one-add) (ap (λ ys. x ∷ ys) rest)

-- the first place in a mapped row
pub place_mapped : {X Y : Type 0} (f : X → Y) (p : Y → Bool) (xs : List X) → position_or_len (λ x. p (f x)) xs ≡ position_or_len p (map f xs)
place_mapped f p [] = refl
place_mapped f p (x ∷ xs) = ap (λ n. cond (not (p (f x))) (1 + n) 0) (place_mapped f p xs)

-- the place of a key is that in the row of keys
place_by_keys : {X : Type 0} (key : X → ℕ) (c : ℕ) (xs : List X) → position_or_len (λ x. key x == c) xs ≡ position_or_len (λ n. n == c) (map key xs)
place_by_keys key c xs = place_mapped key (λ n. n == c) xs

pub map_twice : {X Y Z : Type 0} (f : X → Y) (g : Y → Z) (xs : List X) → map g (map f xs) ≡ map (λ x. g (f x)) xs
map_twice f g [] = refl
map_twice f g (x ∷ xs) = ap (λ ys. g (f x) ∷ ys) (map_twice f g xs)

-- what is found in a mapped row
pub find_mapped : {X Y : Type 0} (f : X → Y) (p : Y → Bool) (xs : List X) → find p (map f xs) ≡ option_map f (find (λ x. p (f x)) xs)
find_mapped f p [] = refl
find_mapped {Y = Y} f p (x ∷ xs) = by_test (find_mapped f p xs) (p (f x)) refl
  where
    by_test : find p (map f xs) ≡ option_map f (find (λ x. p (f x)) xs) → (b : Bool) → p (f x) ≡ b → find p (map f (x ∷ xs)) ≡ option_map f (find (λ x. p (f x)) (x ∷ xs))
    by_test rest true e = rw e refl
    by_test rest false e = rw e rest

-- what is found stays found where all that pass stay
find_filtered : {X : Type 0} (p q : X → Bool) (xs : List X) → ((x : X) → p x ≡ true → q x ≡ true) → find p (filter q xs) ≡ find p xs
find_filtered p q [] h = refl
find_filtered {X = X} p q (x ∷ xs) h = by_tests (find_filtered p q xs h) (p x) (q x) refl refl
  where
    by_tests : find p (filter q xs) ≡ find p xs → (b d : Bool) → p x ≡ b → q x ≡ d → find p (filter q (x ∷ xs)) ≡ find p (x ∷ xs)
    by_tests rest true true e k = rw (k, e) refl
    by_tests rest true false e k = let no : true ≡ false = sym (h x e) ∙ k in cc
    by_tests rest false true e k = rw (k, e) rest
    by_tests rest false false e k = rw (k, e) rest

-- an empty row holds what nothing took
pub holds-nil : {F : Type 0} (sizes : Sizes) (held : Row F) → held ≡ record { room = sizes.drain; actions = [] } → Holds sizes [] held
holds-nil {F = F} sizes held e = record {
  firings_is = ap (λ (z : Row F). map (λ ready. ready.firing) z.actions) e ∙ sym (undone-nil sizes);
  jobs_is = ap (λ (z : Row F). map tag_held z.actions) e ∙ sym (ap (map (λ (w : Waiting). tag_of w.kind)) taken-nil);
  room = omega (arith, ap (λ (z : Row F). z.room) e);
}

-- a step that takes and ends none
pub holds-quiet : {F : Type 0} (sizes : Sizes) (A : List Step) (s : Step) (held : Row F) → IsAccepted sizes A → is_take s ≡ false → ((c : ℕ) → finishes c s ≡ false) → Holds sizes A held → Holds sizes (A ++ s ∷ []) held
holds-quiet sizes A s held acc e h holds = record {
  firings_is = holds.firings_is ∙ sym (undone-stay sizes A s e h);
  jobs_is = holds.jobs_is ∙ sym (ap (map (λ (w : Waiting). tag_of w.kind)) (taken-stores A s (takes-le-actions sizes A acc) e h));
  room = holds.room;
}

-- a take: the action is held with its firing
pub holds-take : {F : Type 0} (sizes : Sizes) (A : List Step) (w : Waiting) (ws : List Waiting) (ready : ReadyRecord F) (held held_new : Row F) → IsAccepted sizes A → pending A ≡ w ∷ ws → ready.firing ≡ record { ticket = front A; safe = safe_epoch sizes.slots A } → tag_held ready ≡ tag_of w.kind → held_new ≡ record { room = held.room; actions = held.actions ++ ready ∷ [] } → Holds sizes A held → Holds sizes (A ++ Take ∷ []) held_new
holds-take {F = F} sizes A w ws ready held held_new acc first fires_is tag_is e holds = record {
  firings_is = ap (λ (z : Row F). map (λ (r : ReadyRecord F). r.firing) z.actions) e
      ∙ map-append (λ (r : ReadyRecord F). r.firing) held.actions (ready ∷ [])
      ∙ ap₂ (λ fs f. fs ++ f ∷ []) holds.firings_is fires_is
      ∙ sym (undone-take sizes A w ws acc first);
  jobs_is = ap (λ (z : Row F). map tag_held z.actions) e
      ∙ map-append tag_held held.actions (ready ∷ [])
      ∙ ap₂ (λ ts t. ts ++ t ∷ []) holds.jobs_is tag_is
      ∙ sym (map-append (λ (w : Waiting). tag_of w.kind) (taken A) (w ∷ []))
      ∙ sym (ap (map (λ (w : Waiting). tag_of w.kind)) (taken-next sizes A w ws acc first));
  room = omega (arith, holds.room, ap (λ (z : Row F). z.room) e);
}

-- there is a place for an action that may be taken
pub holds-fits : {F : Type 0} (sizes : Sizes) (A : List Step) (w : Waiting) (ws : List Waiting) (held : Row F) → IsAccepted sizes A → pending A ≡ w ∷ ws → Holds sizes A held → length held.actions < held.room
holds-fits {F = F} sizes A w ws held acc first holds =
    let same : length held.actions ≡ length (taken A) = sym (length-map held.actions tag_held) ∙ ap length holds.jobs_is ∙ length-map (taken A) (λ (w : Waiting). tag_of w.kind) in
    omega (arith, same, ap length first, length-both sizes A acc, actions-dones sizes A acc, holds.room)

-- what is held of a ticket that is taken and not done: its firing, and its job as the drain list knows it
pub record Found {F : Type 0} (sizes : Sizes) (A : List Step) (c : ℕ) (held : Row F) : Type 0 where
  pub ready : ReadyRecord F
  pub waiting : Waiting
  pub held_as : find (fires c) held.actions ≡ Some ready
  pub fired_as : firing_at sizes c A ≡ Some ready.firing
  pub listed_as : action_at c A ≡ Some waiting
  pub tag_is : tag_held ready ≡ tag_of waiting.kind

-- rows of equal keys find the same
found_pair : {X Y : Type 0} (p : X → Bool) (q : Y → Bool) (key : X → ℕ) (key2 : Y → ℕ) (tag : X → Option ℕ) (tag2 : Y → Option ℕ) (c : ℕ) (xs : List X) (ys : List Y) (y : Y) → ((x : X) → p x ≡ (key x == c)) → ((y : Y) → q y ≡ (key2 y == c)) → map key xs ≡ map key2 ys → map tag xs ≡ map tag2 ys → find q ys ≡ Some y → (x : X) × (find p xs ≡ Some x) × (tag x ≡ tag2 y)
found_pair p q key key2 tag tag2 c [] [] y hp hq keys tags found = cc
found_pair p q key key2 tag tag2 c [] (z ∷ ys) y hp hq keys tags found = cc
found_pair p q key key2 tag tag2 c (x ∷ xs) [] y hp hq keys tags found = cc
found_pair {X = X} {Y = Y} p q key key2 tag tag2 c (x ∷ xs) (z ∷ ys) y hp hq keys tags found =
    let rest_keys : map key xs ≡ map key2 ys = cc in
    let rest_tags : map tag xs ≡ map tag2 ys = cc in
    by_test (λ k. found_pair p q key key2 tag tag2 c xs ys y hp hq rest_keys rest_tags k) (q z) refl
  where
    first_key : key x ≡ key2 z
    first_key = cc

    first_tag : tag x ≡ tag2 z
    first_tag = cc

    same : p x ≡ q z
    same = hp x ∙ ap (λ n. n == c) first_key ∙ sym (hq z)

    by_test : (find q ys ≡ Some y → (x : X) × (find p xs ≡ Some x) × (tag x ≡ tag2 y)) → (b : Bool) → q z ≡ b → (x2 : X) × (find p (x ∷ xs) ≡ Some x2) × (tag x2 ≡ tag2 y)
    by_test later true e =
        let one : Some z ≡ Some y = sym (ap (λ b. cond b (Some z) (find q ys)) e) ∙ found in
        let is : z ≡ y = cc in
        (x, ap (λ b. cond b (Some x) (find p xs)) (same ∙ e), first_tag ∙ ap tag2 is)
    by_test later false e =
        let more = later (sym (ap (λ b. cond b (Some z) (find q ys)) e) ∙ found) in
        (more.0, ap (λ b. cond b (Some x) (find p xs)) (same ∙ e) ∙ more.1, more.2)

-- the tickets that are held are those that the drain list knows
pub held_tickets : {F : Type 0} (sizes : Sizes) (A : List Step) (held : Row F) → IsAccepted sizes A → Holds sizes A held → map (λ r. r.firing.ticket) held.actions ≡ map (λ w. w.ticket) (taken A)
held_tickets {F = F} sizes A held acc holds =
    sym (map_twice (λ (r : ReadyRecord F). r.firing) (λ (f : FiringRecord). f.ticket) held.actions)
    ∙ ap (map (λ (f : FiringRecord). f.ticket)) holds.firings_is
    ∙ tickets-undone sizes A acc

-- so it is
pub holds-found : {F : Type 0} (sizes : Sizes) (A : List Step) (c : ℕ) (held : Row F) → IsAccepted sizes A → is_taken c A ≡ true → Holds sizes A held → Found sizes A c held
unfolding firing_at undone_firings
holds-found {F = F} sizes A c held acc is holds =
    let w = action_at-taken A c is in
    let r = found_pair (fires {F = F} c) (λ (w : Waiting). w.ticket == c) (λ (r : ReadyRecord F). r.firing.ticket) (λ (w : Waiting). w.ticket) tag_held (λ (w : Waiting). tag_of w.kind) c held.actions (taken A) w.0 (λ r. refl) (λ w. refl) (held_tickets sizes A held acc holds) holds.jobs_is w.3 in
    record {
      ready = r.0;
      waiting = w.0;
      held_as = r.1;
      fired_as = sym (find_filtered (is_of c) (λ (f : FiringRecord). not (is_finished f.ticket A)) (firings sizes A) unfinished)
          ∙ sym (ap (find (is_of c)) holds.firings_is)
          ∙ find_mapped (λ (r : ReadyRecord F). r.firing) (is_of c) held.actions
          ∙ ap (option_map (λ (r : ReadyRecord F). r.firing)) r.1;
      listed_as = w.1;
      tag_is = r.2;
    }
  where
    unfinished : (f : FiringRecord) → is_of c f ≡ true → not (is_finished f.ticket A) ≡ true
    unfinished f e = ap (λ n. not (is_finished n A)) (eqb-true f.ticket c e) ∙ ap not (is_taken-parts c A is).1

-- a done: its action is held no longer
pub holds-done : {F : Type 0} (sizes : Sizes) (A : List Step) (c : ℕ) (held held_new : Row F) → IsAccepted sizes A → held_new ≡ record { room = held.room; actions = remove held.actions (position_or_len (fires c) held.actions) } → Holds sizes A held → Holds sizes (A ++ Done c ∷ []) held_new
holds-done {F = F} sizes A c held held_new acc e holds = record {
  firings_is = ap (λ (z : Row F). map (λ (r : ReadyRecord F). r.firing) z.actions) e
      ∙ map_remove (λ (r : ReadyRecord F). r.firing) held.actions place
      ∙ ap₂ remove holds.firings_is (place_is ∙ sym undone_place)
      ∙ sym (others_are (λ (f : FiringRecord). f.ticket) c 0 (undone_firings sizes A) (subst (Ascends 0) (sym (tickets-undone sizes A acc)) rising))
      ∙ sym (undone-done sizes A c);
  jobs_is = ap (λ (z : Row F). map tag_held z.actions) e
      ∙ map_remove tag_held held.actions place
      ∙ ap₂ remove holds.jobs_is (place_is ∙ sym (place_by_keys (λ (w : Waiting). w.ticket) c (taken A)))
      ∙ sym (map_remove (λ (w : Waiting). tag_of w.kind) (taken A) (position_or_len (λ (w : Waiting). w.ticket == c) (taken A)))
      ∙ ap (map (λ (w : Waiting). tag_of w.kind)) (sym (others_are (λ (w : Waiting). w.ticket) c 0 (taken A) rising))
      ∙ sym (ap (map (λ (w : Waiting). tag_of w.kind)) (taken-done A c));
  room = omega (arith, holds.room, ap (λ (z : Row F). z.room) e);
}
  where
    place : ℕ
    place = position_or_len (fires c) held.actions

    keys : List ℕ
    keys = map (λ (w : Waiting). w.ticket) (taken A)

    rising : Ascends 0 keys
    rising = ascends_tickets 0 (taken A) (Rising-taken A)

    place_is : place ≡ position_or_len (λ n. n == c) keys
    place_is = place_by_keys (λ (r : ReadyRecord F). r.firing.ticket) c held.actions ∙ ap (position_or_len (λ n. n == c)) (held_tickets sizes A held acc holds)

    undone_place : position_or_len (λ (f : FiringRecord). f.ticket == c) (undone_firings sizes A) ≡ position_or_len (λ n. n == c) keys
    undone_place = place_by_keys (λ (f : FiringRecord). f.ticket) c (undone_firings sizes A) ∙ ap (position_or_len (λ n. n == c)) (tickets-undone sizes A acc)

-- the tickets of the actions that it holds rise
pub holds-rising : {F : Type 0} (sizes : Sizes) (A : List Step) (held : Row F) → IsAccepted sizes A → Holds sizes A held → Rises (tickets_held held.actions)
holds-rising sizes A held acc holds =
    let same : tickets_held held.actions ≡ map (λ w. w.ticket) (taken A) = sym (map-map (λ f. f.ticket) (λ ready. ready.firing) held.actions) ∙ ap (map (λ f. f.ticket)) holds.firings_is ∙ tickets-undone sizes A acc in
    subst Rises (sym same) (tickets-rising 0 (taken A) (Rising-taken A))
